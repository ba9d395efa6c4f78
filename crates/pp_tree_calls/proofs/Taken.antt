-- The turn in which an insert gets its two records and publishes them, or doesn't get them and is answered.
use Rattle.std.proofs.Common.{◌≡◌, ℕ, zero, suc, ◌+◌, ◌*◌, ◌<◌, ◌≤◌, min, Bool, true, false, List, [], ◌∷◌, ◌++◌}
use Rattle.std.proofs.Common.{length, take, refl, sym, ap, ◌∙◌}
use Rattle.std.proofs.Common.{subst, None, arith, length-append}
use Rattle.std.specs.Prelude.{◌||◌, nat_eq}
use Rattle.std.proofs.Math.Bool.{false≢true}
use Rattle.pp_link.specs.declared.layout.Sizes.{Sizes}
use Rattle.pp_pool.specs.declared.fresh.Fresh.{Fresh}
use Rattle.pp_model.specs.declared.Answer.TheVariants.{Full}
use Rattle.pp_model.specs.declared.Call.{Call}
use Rattle.pp_model.specs.declared.Turned.{Turned}
use Rattle.pp_model.specs.declared.Turned.TheVariants.{Done}
use Rattle.pp_model.specs.declared.steps.Step.{Step}
use Rattle.pp_model.specs.Lists.{IsPrefix}
use Rattle.pp_model.specs.MapCalls.{Answered, LeavesPurse, WentOn}
use Rattle.pp_model.specs.Pass.{GoingView}
use Rattle.pp_rule.specs.Causes.{owned_after}
use Rattle.pp_rule.specs.declared.views.WalkSlot.{WalkSlot}
use Rattle.pp_rule.specs.Lists.{BeginsWith}
use Rattle.pp_rule.specs.Orders.{log_of, clear_step, write_step}
use Rattle.pp_rule.proofs.Histories.{log_begins}
use Rattle.pp_base.specs.declared.purse.Purse.{Purse}
use Rattle.pp_base.specs.Named.{NamedStep}
use Rattle.pp_base.specs.Passes.{IsAtRest}
use Rattle.pp_calls.specs.PoolViews.{pool_view}
use Rattle.pp_calls.specs.Steps.{StandsThen}
use Rattle.pp_calls.proofs.Growing.{stepped_both, went_on}
use Rattle.pp_shelf.specs.Runs.{map_sizes, steps_made}
use Rattle.pp_purse.specs.Purses.{TidiesPurse}
use Rattle.pp_purse.specs.Steps.{PurseSteps, is_purse_step}
use Rattle.pp_base.proofs.Named.{made_append}
use Rattle.pp_seek.specs.declared.seek.Sought.{Sought}
use Rattle.pp_seek.specs.Seeking.{IsSought}
use Rattle.pp_trees.specs.declared.own.TreeOwn.{TreeOwn}
use Rattle.pp_trees.specs.Searches.{TreePass}
use Rattle.pp_trees.specs.Edges.{TreeView}
use Rattle.pp_turns.specs.Tallies.{losing, lost_of, memory_of}
use Rattle.pp_turns.specs.Turns.{Since, WasAbsent}
use Rattle.pp_turns.specs.Causes.{Aside, is_aside}
use Rattle.pp_turns.proofs.Answering.{told_as, says_full}
use Rattle.pp_turns.proofs.Aside.{aside_at_purse, aside_both, counts_losing}
use Rattle.pp_turns.proofs.Placing.{absent_on, struck_on, unplaced_on}
use Rattle.pp_turns.proofs.Purses.{found_none, full_purse, tidied}
use Rattle.pp_turns.proofs.Turning.{on_by, done_by}
use Rattle.pp_turns.proofs.Stretches.{own_before, saw_last, since_on, stretch_both}
use Rattle.pp_tree_turns.specs.Walked.{tree_reader, TreeTally}
use Rattle.pp_tree_turns.specs.Causes.{tree_words, tree_causes, tree_meaning, HoldsPairs}
use Rattle.pp_tree_turns.specs.Filling.{PublishesNext}
use Rattle.pp_tree_turns.specs.Turning.{Walks}
use Rattle.pp_tree_turns.proofs.Counting.{none_walks, aside_counted}
use Rattle.pp_tree_turns.proofs.Exchanges.{made_names}
use Rattle.pp_tree_turns.proofs.Reading.{tree_over}
use Rattle.pp_tree_calls.specs.declared.going.TreeGoing.{TreeGoing}
use Rattle.pp_tree_calls.specs.declared.going.Next.{Next}
use Rattle.pp_tree_calls.specs.declared.going.Next.TheVariants.{Publishes, Over}
use Rattle.pp_tree_calls.specs.Purses.{TakesTwo, TakesNone, PutsAway}
use Rattle.pp_turns.specs.Answers.{is_look}
use Rattle.pp_tree_calls.specs.Going.{going_of, Stands, IsUnder}
use Rattle.pp_tree_calls.specs.Turned.{TreeTurned}
use Rattle.pp_tree_calls.proofs.Lasting.{tries_on}
use Rattle.pp_tree_calls.proofs.Losing.{ends_high}
use Rattle.pp_tree_calls.proofs.Publishing.{MayPublish, may_publish, insert_changes, with_records}
use Rattle.pp_tree_calls.proofs.Resting.{aside_clears}

-- the same seek has ended, by what the call remembers and the walk words
sought_by : (o : TreeOwn) (ws : List WalkSlot) (q r : TreePass) (k : ℕ) (s : Sought) → IsSought (record q { own = o; walk = ws }) k s
    → IsSought (record r { own = o; walk = ws }) k s
sought_by o ws q r k s i = record {
  ancestor = i.ancestor;
  ancestor_is = i.ancestor_is;
  ancestor_held = i.ancestor_held;
  ancestor_side_is = i.ancestor_side_is;
  plain = i.plain;
  some = i.some;
  top = i.top;
  top_held = i.top_held;
  leads = i.leads;
  last = i.last;
  joined = i.joined;
  ends = i.ends;
  parent = i.parent;
  parent_is = i.parent_is;
  parent_held = i.parent_held;
  side_is = i.side_is;
  edge = i.edge;
  small = i.small;
  leaf = i.leaf;
  leaf_is = i.leaf_is;
  equal = i.equal;
  flag = i.flag;
  beside = i.beside;
  tag = i.tag;
}

next_by : (o : TreeOwn) (ws : List WalkSlot) (q r : TreePass) (s : Sought) (k x : ℕ) → PublishesNext (record q { own = o; walk = ws }) s k x
    → PublishesNext (record r { own = o; walk = ws }) s k x
next_by o ws q r s k x n = record {
  call = n.call;
  sought = sought_by o ws q r k s n.sought;
  going = n.going;
  plain = n.plain;
  other = n.other;
}

next_as : (q r : TreePass) (s : Sought) (k x : ℕ) → r.own ≡ q.own → r.walk ≡ q.walk → PublishesNext q s k x → PublishesNext r s k x
next_as q r s k x own walk n = subst (λ (o : TreeOwn). PublishesNext (record r { own = o }) s k x) (sym own)
    (subst (λ (ws : List WalkSlot). PublishesNext (record r { own = q.own; walk = ws }) s k x) (sym walk)
    (next_by q.own q.walk q r s k x n))

-- steps at the purse lose no turn
purse_walks : (z : Sizes) (call : Call) (t : TreeTally) (names : List NamedStep) (v w : TreeView) → PurseSteps z names v w
    → (memory_of t).coming ≡ false → Walks (map_sizes z) call t 0 v w
purse_walks z call t names v w steps calm = none_walks z call t names v w (made_names names v w steps.made) calm
    (aside_counted z call (memory_of t) names record { each = λ s i. purse_aside s (steps.each s i) })
  where
    purse_aside : (s : NamedStep) → is_purse_step z s ≡ true → is_aside z s ≡ true
    purse_aside s is = ap (λ (b : Bool). b || (nat_eq s.kind clear_step || nat_eq s.kind write_step)) is

-- what was known before the publish is known after steps at the purse
publish_later : (z : Sizes) (g : TreeGoing) (s : Sought) (names : List NamedStep) (from v w : TreeView) → PurseSteps z names v w
    → MayPublish z g s from v → MayPublish z g s from w
publish_later z g s names from v w steps m = let a = aside_at_purse z names v w steps in
    let same = ap (λ o. o.start) steps.own in record {
      tries = tries_on (map_sizes z) g g.lost g.lost 0 from v w m.tries
          (purse_walks z g.call m.tries.counts.tally names v w steps m.tries.counts.calm) (omega arith) a.unplaced same;
      goes = record { call = ap (λ o. o.call) steps.own ∙ m.goes.call; going = ap (λ o. o.going) steps.own ∙ m.goes.going };
      off = m.off;
      key = m.key;
      value = m.value;
      call = m.call;
      next = next_as v.known w.known s m.key m.value steps.own steps.walk m.next;
      absent = subst (λ (n : ℕ). WasAbsent n m.key (log_of w.order)) (sym same)
          (absent_on v.known.own.start m.key (log_of w.order) (log_of v.order) (log_begins w.order v.order a.stepped.order) m.absent);
    }

publish_stands : (z : Sizes) (g : TreeGoing) (s : Sought) (from now : TreeView) → g.next ≡ Publishes s → MayPublish z g s from now
    → Stands z g g.next from now
publish_stands z g s from now at m = subst (λ (n : Next). Stands z g n from now) (sym at)
    (m.tries, (m.goes, (m.off, (m.key, (m.value, (m.call, (m.next, m.absent)))))))

-- It got its records.
module _ (z : Sizes) (share : ℕ) (g : TreeGoing) (s : Sought) (f : Fresh × Fresh) (v u : TreeView) (p q : Purse) (at : g.next ≡ Publishes s)
    (sizes : u.known.sizes ≡ v.known.sizes) (t : TakesTwo z g.records f v u p q) where
  aside : Aside z v u
  aside = aside_at_purse z t.names v u t.steps

  pub has_records : IsAtRest u.known q → (from : TreeView) (free : List ℕ) → IsUnder z share g v p from free
      → IsUnder z share (with_records g f) u q from free
  has_records rest from free x = let m = may_publish z g s from v at x.stands in
      let changes : is_look g.call ≡ false = insert_changes z g s from v m in
      let n = publish_later z g s t.names from v u t.steps m in record {
        pair = x.pair;
        below = x.below;
        rest = rest;
        looks = x.looks;
        carries = record {
          sizes = sizes ∙ x.carries.sizes;
          out = t.out;
          kept = let had = x.carries.kept in let now = t.kept in omega arith;
          same = λ none. absurd cc;
          none = λ looks. absurd (false≢true (sym changes ∙ looks));
          alone = λ looks. absurd (false≢true (sym changes ∙ looks));
        };
        stands = publish_stands z (with_records g f) s from u at record {
          tries = record { counts = n.tries.counts; untaken = n.tries.untaken; taken = n.tries.taken };
          goes = record { call = n.goes.call; going = n.goes.going };
          off = n.off;
          key = n.key;
          value = n.value;
          call = n.call;
          next = n.next;
          absent = n.absent;
        };
      }

  -- and tried to publish them
  pub put_turned : IsAtRest u.known q → (g' : TreeGoing) (w : TreeView) (p' : Purse) (result : Turned)
      → TreeTurned z share (with_records g f) g' u w q p' result → TreeTurned z share g g' v w p p' result
  put_turned rest g' w p' result a = record {
    stepped = stepped_both v u w aside.stepped a.stepped;
    some_made = let e = ap (λ (l : List Step). length l) (stretch_both v u w aside.stepped a.stepped)
        ∙ length-append (steps_made v u) (steps_made u w) in let made = a.some_made in omega arith;
    stands = λ own st. a.stands own (aside.stands (own_before u w a.stepped own) st);
    same = record { call = a.same.call; races = a.same.races; high = a.same.high };
    stays = a.stays;
    strikes = λ off on. let r = a.strikes off on in
        (r.0, struck_on g.call r.0 v u w aside.stepped.number aside.stepped.order aside.unplaced r.1);
    struck = a.struck;
    went = on_by result _ (WentOn (going_of v.known g) (going_of w.known g'))
        (λ y. subst (λ (y : GoingView). WentOn y (going_of w.known g')) (sym seen) y) a.went;
    goes_on = on_by result _ ((from : TreeView) (free : List ℕ) → IsUnder z share g v p from free → IsUnder z share g' w p' from free)
        (λ each from free x. each from free (has_records rest from free x)) a.goes_on;
    answered = done_by result _ (λ answer. (from : TreeView) (free : List ℕ) → IsUnder z share g v p from free → StandsThen w
        → Answered tree_meaning (map_sizes z) g.call g.races (pool_view from free share) (pool_view w p'.free.items share) answer g'.lost)
        (λ answer each from free x st. each from free (has_records rest from free x) st) a.answered;
  }
    where
      seen : going_of v.known g ≡ going_of u.known (with_records g f)
      seen = ap (λ (n : ℕ). with_start n) (sym (ap (λ o. o.start) t.steps.own))
        where
          with_start : ℕ → GoingView
          with_start n = record (going_of u.known (with_records g f)) { start = n }

-- of a list that has fewer than two numbers, and is cut to at most so many, so much is left in each of its beginnings
few_left : (share : ℕ) (free middle last : List ℕ) → length middle < 2 → BeginsWith middle free → BeginsWith middle last
    → min share (length middle) ≤ length last → IsPrefix (take (min (length free) share) free) last
few_left share [] middle last few a b kept = (last, first_none (min 0 share))
  where
    first_none : (n : ℕ) → last ≡ take n [] ++ last
    first_none zero = refl
    first_none (suc n) = refl
few_left zero (x ∷ []) middle last few a b kept = (last, refl)
few_left (suc share) (x ∷ []) middle last few a b kept = let one : min 1 (suc share) ≡ 1 = omega arith in
    subst (λ (n : ℕ). IsPrefix (take n (x ∷ [])) last) (sym one) (by last b kept)
  where
    long : 1 ≤ length middle
    long = let e = ap (λ (l : List ℕ). length l) a.1 in let b = length-append (x ∷ []) a.0 in omega arith

    by : (last : List ℕ) → BeginsWith middle last → min (suc share) (length middle) ≤ length last → IsPrefix (x ∷ []) last
    by [] b kept = absurd (omega (arith, long, kept))
    by (y ∷ last) b kept = let same : (y ∷ last) ++ b.0 ≡ (x ∷ []) ++ a.0 = sym b.1 ∙ a.1 in (last, cc)
few_left share (x ∷ (y ∷ free)) middle last few a b kept = absurd (let e = ap (λ (l : List ℕ). length l) a.1 in omega arith)

scan_long : (scan : List Step) → owned_after 2 scan < 2 → 0 < length scan
scan_long [] few = absurd (omega arith)
scan_long (s ∷ scan) few = omega arith

-- a pass that has no record out owns as many as are free
pub full_owned : (z : Sizes) (share : ℕ) (u w : TreeView) (q p' : Purse) → PutsAway z share u w q p' → length q.free.items < 2
    → length w.known.owned ≤ length p'.free.items + p'.taken → p'.taken ≡ 0 → length w.known.owned < 2
full_owned z share u w q p' l few counted none = let e = ap (λ (y : List ℕ). length y) l.begins.1 in
    let b = length-append p'.free.items l.begins.0 in omega arith

-- It found too few, and was answered.
module _ (z : Sizes) (share : ℕ) (g : TreeGoing) (s : Sought) (v u w : TreeView) (p q p' : Purse) (at : g.next ≡ Publishes s)
    (sizes : w.known.sizes ≡ v.known.sizes) (t : TakesNone z g.records v u p q) (l : PutsAway z share u w q p')
    (owned : length w.known.owned < 2)
    (four : length w.known.chains ≤ 4) where
  at_purse : Aside z v u
  at_purse = aside_at_purse z t.names v u t.steps

  cleared : Aside z u l.between
  cleared = aside_clears z u l.between l.clears

  put_away : Aside z l.between w
  put_away = aside_at_purse z l.names l.between w l.steps

  until : Aside z v l.between
  until = aside_both z v u l.between at_purse cleared

  all : Aside z v w
  all = aside_both z v l.between w until put_away

  few_retired : length w.known.retired ≤ 9 * z.passes
  few_retired = let r = t.ran_out.retired in let e = ap (λ (r : List ℕ). length r) l.retired_are in omega arith

  short : length p'.free.items < 2
  short = let n = t.ran_out.still_short in let e = ap (λ (y : List ℕ). length y) l.begins.1 in
      let b = length-append p'.free.items l.begins.0 in omega arith

  long : 0 < length (steps_made v w)
  long = let o = t.ran_out in let scan = scan_long o.scan o.few in
      let e = ap (λ (l : List Step). length l) (stretch_both v l.between w until.stepped put_away.stepped)
      ∙ length-append (steps_made v l.between) (steps_made l.between w) in
      let d = ap (λ (l : List Step). length l) (stretch_both v u l.between at_purse.stepped cleared.stepped)
      ∙ length-append (steps_made v u) (steps_made u l.between) in let i = ap (λ (l : List Step). length l) o.is in
      let x = length-append o.earlier (o.scan ++ o.later) in let y = length-append o.scan o.later in omega arith

  -- its purse is tidied
  tidies : TidiesPurse z share l.between w q (record p' { taken = q.taken; going = q.going })
  tidies = record {
    names = l.names;
    steps = l.steps;
    retired = let few = few_retired in omega arith;
    shared = l.shared;
    kept = l.kept;
    lists = record { taken = refl; going = refl };
  }

  full_answers : (from : TreeView) (free : List ℕ) → IsUnder z share g v p from free → StandsThen w
      → Answered tree_meaning (map_sizes z) g.call g.races (pool_view from free share) (pool_view w p'.free.items share) Full g.lost
  full_answers from free x stands = let m = may_publish z g s from v at x.stands in let c = m.tries.counts in
      let low = (m.tries.untaken m.off).0 in
      let lost = sym (ap (λ (y : TreeTally). lost_of y) low.is) ∙ c.lost_is in
      let same : p.free.items ≡ free = x.carries.same t.none in
      let since : Since tree_reader (map_sizes z) g.call v.known.own.start (losing low.memory low.lost) from v =
      subst (λ (y : TreeTally). Since tree_reader (map_sizes z) g.call v.known.own.start y from v) low.is c.since in
      let on = since_on tree_reader (map_sizes z) g.call v.known.own.start (losing low.memory low.lost) _ from v w since
      (counts_losing tree_reader z (tree_over z) g.call v w all low.memory low.lost) in
      let begins : BeginsWith q.free.items free = subst (BeginsWith q.free.items) same t.begins in
      let few : length free < 2 = subst (λ (f : List ℕ). length f < 2) same t.ran_out.short in
      told_as tree_meaning (map_sizes z) g.call g.races (pool_view from free share) (pool_view w p'.free.items share) Full low.lost g.lost
      lost (says_full tree_words tree_causes HoldsPairs (map_sizes z) g.call g.races from w free p'.free.items share v.known.own.start _ on
      (saw_last from v w since.went all.stepped long) (sizes ∙ x.carries.sizes) stands m.key m.value m.call
      (unplaced_on from v w since.went.number (m.tries.untaken m.off).1 all.unplaced) few
      (absent_on v.known.own.start m.key (log_of w.order) (log_of v.order) (log_begins w.order v.order all.stepped.order) m.absent)
      (let below = x.below in omega (arith, below, lost))
      (found_none z 2 from v u w free p q t.names (l.clears.trail.steps ++ l.names) since.went t.steps.made
      (made_append l.clears.trail.steps l.names u l.between w l.clears.trail.did l.steps.made) t.ran_out same owned)
      (subst (λ (y : Call). LeavesPurse tree_meaning (map_sizes z) y (pool_view from free share)
      (pool_view w p'.free.items share)) (sym m.call)
      (tidied tree_meaning z refl from l.between w free share 2 q (record p' { taken = q.taken; going = q.going }) (λ steps f. f)
      (went_on from v l.between since.went until.stepped) put_away.stepped tidies (omega (arith, few)) four))
      (full_purse tree_meaning z refl from v w free share p'.free.items few_retired short
      (few_left share free q.free.items p'.free.items t.ran_out.still_short begins l.begins l.kept)))

  pub full_turned : (g' : TreeGoing) → g' ≡ record g { next = Over; records = None } → (from : TreeView) (free : List ℕ)
      → IsUnder z share g v p from free → TreeTurned z share g g' v w p p' (Done Full)
  full_turned g' over from0 free0 x0 = let m = may_publish z g s from0 v at x0.stands in
      let now : g'.struck ≡ false = ap (λ y. y.struck) over ∙ m.off in record {
        stepped = all.stepped;
        some_made = long;
        stands = all.stands;
        same = record {
          call = ap (λ y. y.call) over;
          races = ap (λ y. y.races) over;
          high = ends_high g' (ap (λ y. y.next) over);
        };
        stays = λ was. absurd (false≢true (sym m.off ∙ was));
        strikes = λ was yes. absurd (false≢true (sym now ∙ yes));
        struck = now;
        went = tt;
        goes_on = tt;
        answered = λ from free x stands. told_as tree_meaning (map_sizes z) g.call g.races (pool_view from free share)
            (pool_view w p'.free.items share)
            Full g.lost g'.lost (sym (ap (λ y. y.lost) over)) (full_answers from free x stands);
      }
