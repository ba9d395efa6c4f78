-- The turn in which an insert publishes its record.
use Rattle.std.proofs.Common.{◌≡◌, ℕ, ◌+◌, ◌<◌, ◌≤◌, get_or, Bool, true, false, cond, nat_eq, List}
use Rattle.std.proofs.Common.{[], ◌∷◌, map, length, refl, sym, ap, ◌∙◌}
use Rattle.std.proofs.Common.{subst, Option, Some, None, arith, length-append}
use Rattle.std.specs.Prelude.{◌||◌, ◌&&◌, not}
use Rattle.std.proofs.Math.Bool.{false≢true}
use Rattle.pp_link.specs.declared.layout.Sizes.{Sizes}
use Rattle.pp_link.specs.declared.link.Link.{Link}
use Rattle.pp_link.specs.Links.{word_of}
use Rattle.pp_pool.specs.declared.fresh.Fresh.{Fresh}
use Rattle.pp_pool.specs.Taken.{IsPrivate, IsPublished, one_fewer_out}
use Rattle.pp_model.specs.declared.Answer.TheVariants.{Said}
use Rattle.pp_model.specs.declared.Call.{Call}
use Rattle.pp_model.specs.declared.Call.TheVariants.{Insert}
use Rattle.pp_model.specs.declared.Reply.TheVariants.{Added}
use Rattle.pp_model.specs.declared.Turned.{Turned}
use Rattle.pp_model.specs.declared.Turned.TheVariants.{Done}
use Rattle.pp_model.specs.declared.steps.Step.{Step}
use Rattle.pp_model.specs.Pass.{MapSizes}
use Rattle.pp_rule.specs.declared.views.Chain.{Chain}
use Rattle.pp_rule.specs.Lists.{OnceBy, times, remove_at}
use Rattle.pp_rule.specs.Rule.{number_of}
use Rattle.pp_rule.specs.Orders.{log_of}
use Rattle.pp_rule.specs.Steps.{MadeStep, IsUnused}
use Rattle.pp_rule.proofs.Counting.{times_here}
use Rattle.pp_rule.proofs.Made.{known_after}
use Rattle.pp_rule.proofs.Times.{one_fewer, times_removed, times_once}
use Rattle.atomic_table.specs.declared.shared.Seat.{Seat}
use Rattle.pp_base.specs.declared.purse.Purse.{Purse}
use Rattle.pp_base.specs.Named.{NamedStep, name_of}
use Rattle.pp_base.specs.Passes.{IsAtRest, IsSame, owned_numbers}
use Rattle.pp_calls.specs.PoolViews.{pool_view}
use Rattle.pp_calls.specs.Steps.{Stepped}
use Rattle.pp_calls.proofs.Growing.{stepped_made, stepped_both, stepped_one}
use Rattle.pp_calls.proofs.Remaining.{stands_made}
use Rattle.pp_shelf.specs.Runs.{map_sizes, steps_made}
use Rattle.pp_lists.specs.Lists.{ListPass}
use Rattle.pp_lists.specs.Turns.{ListView, publish_step, change_at, placed_at, published}
use Rattle.pp_lists.specs.Losses.{list_reader, is_effect, is_find, has_flag}
use Rattle.pp_turns.proofs.Answering.{told_as}
use Rattle.pp_turns.specs.Answers.{spends_of}
use Rattle.pp_turns.specs.Tallies.{losing, effected, counting, lost_at}
use Rattle.pp_turns.specs.Turns.{Ran, Struck}
use Rattle.pp_turns.proofs.Placing.{struck_at, struck_on, struck_later, unplaced_made, unplaced_on}
use Rattle.pp_turns.proofs.Stretches.{ran_one, since_on, saw_last, stretch_both, stepped_steps, own_before}
use Rattle.pp_walk.specs.Effects.{Tried, FillsAt, PublishesSo}
use Rattle.pp_walk.specs.Parts.{plain_link}
use Rattle.pp_list.specs.declared.going.ListGoing.{ListGoing}
use Rattle.pp_list.specs.Purses.{WritesAside}
use Rattle.pp_list.specs.Meant.{list_meaning}
use Rattle.pp_list.specs.Answers.{Calm, MayEnd, Ends}
use Rattle.pp_list.specs.Turned.{SameGoing, Part, HasLost, HasRecord}
use Rattle.pp_list.proofs.Again.{part_before, tries_later}
use Rattle.pp_list.proofs.Calm.{calm_aside}
use Rattle.pp_list.proofs.Trying.{tried_on, tried_long, insert_changes}

-- the same part of a turn, whatever record the call had
pub part_fresh : (z : Sizes) (share : ℕ) (Known : ListView → List ℕ → Type 0) (g g' : ListGoing) (h : Option Fresh) (v w : ListView)
    (p' : Purse)
    (result : Turned) → Part z share Known (record g { fresh = h }) g' v w p' result → Part z share Known g g' v w p' result
part_fresh z share Known g g' h v w p' result part = record {
  stepped = part.stepped;
  stands = part.stands;
  same = record { head = part.same.head; call = part.same.call; races = part.same.races };
  strikes = part.strikes;
  struck = part.struck;
  advances = part.advances;
  goes_on = part.goes_on;
  answered = part.answered;
}

pub call_by_pair : (call : Call) (k v a b : ℕ) → call ≡ Insert k v → a ≡ k → b ≡ v → call ≡ Insert a b
call_by_pair call k v a b is key value = is ∙ (ap (λ (n : ℕ). Insert n v) (sym key) ∙ ap (λ (n : ℕ). Insert a n) (sym value))

pub sames : {s s' s'' : Seat Unit ListView} → IsSame s s' → IsSame s' s'' → IsSame s s''
sames a b = record { table_is = b.table_is ∙ a.table_is; number = b.number ∙ a.number; sizes = b.sizes ∙ a.sizes }

-- the same exchange, by equal numbers and answers
pub publish_as : (place n n' k v end : ℕ) (u x : ListView) (b b' : Bool) → n ≡ n' → b ≡ b' → PublishesSo place n k v end u x b
    → PublishesSo place n' k v end u x b'
publish_as place n n' k v end u x b b' number answer d = subst (λ (m : ℕ). PublishesSo place m k v end u x b') number
    (subst (λ (c : Bool). PublishesSo place n k v end u x c) answer d)

-- stores in private records leave a pass at rest
pub rest_aside : (z : Sizes) (v u : ListView) (p p' : Purse) → WritesAside z v u → p' ≡ p → IsAtRest v.known p → IsAtRest u.known p'
rest_aside z v u p p' w same r = record {
  scan = ap (λ s. s.read) w.scan ∙ r.scan;
  spent = ap (λ (q : Purse). q.spent) same ∙ r.spent;
  frontier = λ j lt unused. ap (λ (f : List ℕ). get_or f j 0) w.frontier
      ∙ r.frontier j lt (subst (λ (cs : List Chain). IsUnused j (record v.known { chains = cs })) w.chains unused);
}

-- A record was filled, and then the exchange to publish it failed.
module _ (z : Sizes) (share : ℕ) (g : ListGoing) (f : Fresh) (key value : ℕ) (end : Link) (place : ℕ) (v u x : ListView) (p : Purse)
    (z_is : z ≡ v.known.sizes) (writes : WritesAside z v u) (fills : FillsAt u.known p f.number key value end)
    (d : PublishesSo place f.number key value (word_of end) u x false) where
  missed : Tried 1 u x
  missed = (d.missed refl).1

  known_x : x.known ≡ u.known
  known_x = (d.missed refl).2

  calm : Calm z g.call v u
  calm = calm_aside z g.call v u writes.aside

  passes : z.passes ≡ u.known.sizes.passes
  passes = ap (λ (s : Sizes). s.passes) (z_is ∙ sym writes.sizes)

  pub put_lost : (from : ListView) (free : List ℕ) → HasRecord z share g f v p from free
      → HasLost z share (record g { fresh = Some f }) x p from free
  put_lost from free k = let t = tries_later z g g.lost from v u calm (ap (λ o. o.start) writes.own) k.tries in record {
    tries = tried_on z g 1 g.lost from u x missed passes (ap (λ (q : ListPass). q.own.start) known_x) t;
    last = saw_last from u x t.since.went (stepped_made missed.steps u x missed.did) (tried_long z u x missed passes);
    carries = record {
      sizes = ap (λ (q : ListPass). q.sizes) known_x ∙ (writes.sizes ∙ k.carries.sizes);
      out = (subst (λ (q : ListPass). IsPrivate q p f.number) (sym known_x) fills.taken, k.carries.out.1);
      kept = k.carries.kept;
      same = λ none. absurd cc;
      none = λ looks. absurd (false≢true (sym (insert_changes g.call v k.inserts) ∙ looks));
      alone = λ looks. absurd (false≢true (sym (insert_changes g.call v k.inserts) ∙ looks));
    };
  }

  first : Stepped v x
  first = stepped_both v u x writes.aside.stepped (stepped_made missed.steps u x missed.did)

  -- the part of the turn that begins the walk again
  pub put_again : (g' : ListGoing) (w : ListView) (p' : Purse) (result : Turned)
      → Part z share (HasLost z share (record g { fresh = Some f }) x p) (record g { fresh = Some f }) g' x w p' result
      → Part z share (HasRecord z share g f v p) g g' v w p' result
  put_again g' w p' result part = part_fresh z share (HasRecord z share g f v p) g g' (Some f) v w p' result
      (part_before z share (HasRecord z share g f v p) (HasLost z share (record g { fresh = Some f }) x p) (record g { fresh = Some f }) g'
      v x w
      p' result first (λ own s. stands_made missed.steps u x missed.did own (writes.aside.stands (own_before u x
      (stepped_made missed.steps u x missed.did) own) s))
      (unplaced_on v u x writes.aside.stepped.number writes.aside.unplaced (unplaced_made missed.steps u x missed.did)) put_lost part)

  pub put_long : (w : ListView) → Stepped x w → 0 < length (steps_made v w)
  put_long w s = let a = ap (λ (l : List Step). length l) (stretch_both v x w first s) ∙ length-append (steps_made v x) (steps_made x w) in
      let b = ap (λ (l : List Step). length l) (stretch_both v u x writes.aside.stepped (stepped_made missed.steps u x missed.did))
      ∙ length-append (steps_made v u) (steps_made u x) in let long = tried_long z u x missed passes in omega arith

-- an exchange that publishes is one by which the call takes effect
publish_counts : (z : MapSizes) (call : Call) (m : List NamedStep) (n : ℕ) (s : Step) → s.kind ≡ publish_step
    → counting list_reader z call (losing m n) s ≡ effected (name_of s ∷ m) n n []
publish_counts z call m n s kind = ap (λ (b : Bool). cond b (effected (name_of s ∷ m) (lost_at list_reader z call m s n) n [])
    (losing (name_of s ∷ m) (lost_at list_reader z call m s n))) effect ∙ ap (λ (k : ℕ). effected (name_of s ∷ m) k n []) same
  where
    one : Bool → ℕ
    one b = cond b 1 0

    effect : is_effect (name_of s) ≡ true
    effect = ap (λ (k : ℕ). nat_eq k 17 || (nat_eq k 18 && not (has_flag s.word))) kind

    find_none : is_find z m (name_of s) ≡ false
    find_none = subst (λ (k : ℕ). is_find z m (record { kind = k; place = s.place; word = s.word }) ≡ false) (sym kind) refl

    same : n + cond (is_find z m (name_of s)) 1 0 ≡ n
    same = let zero_lost : one (is_find z m (name_of s)) ≡ 0 = ap one find_none in omega (arith, zero_lost)

-- It was published.
module _ (z : Sizes) (share : ℕ) (g : ListGoing) (f : Fresh) (key value : ℕ) (end : Link) (place : ℕ) (v u x : ListView) (p : Purse)
    (writes : WritesAside z v u) (call_is : g.call ≡ Insert key value)
    (d : PublishesSo place f.number key value (word_of end) u x true) where
  made : MadeStep publish_step place d.found (word_of (plain_link f.number)) (change_at (Insert key value) x ∷ [])
      (placed_at (Insert key value) Added x ∷ []) (published d.published.index d.published.was.number u.known) u x
  made = d.published.made.same (d.hit refl)

  known_now : x.known ≡ published d.published.index d.published.was.number u.known
  known_now = known_after publish_step place d.found (word_of (plain_link f.number)) (change_at (Insert key value) x ∷ [])
      (placed_at (Insert key value) Added x ∷ []) (published d.published.index d.published.was.number u.known) u x made

  abbrev step : Step
  step = record {
    kind = publish_step;
    place = place;
    word = d.found;
    seen = length (log_of x.order);
    owned = length (published d.published.index d.published.was.number u.known).owned;
  }

  pub is_published : OnceBy number_of u.known.owned → length u.known.owned ≤ length p.free.items + p.taken → IsPublished x.known p f.number
  is_published once counted = let i : ℕ = d.published.index in let n : ℕ = f.number in
      let all = times_once n u.known.owned once in let removed = times_removed n u.known.owned i d.published.was d.published.at in
      let one = times_here n d.published.was.number (map number_of (remove_at i u.known.owned)) d.published.number_is in
      let now : times n (owned_numbers x.known) ≡ times n (map number_of (remove_at i u.known.owned)) =
      ap (λ (q : ListPass). times n (map number_of q.owned)) known_now in
      let fewer = one_fewer u.known.owned i d.published.was d.published.at in
      let long = ap (λ (q : ListPass). length q.owned) known_now in record {
        gone = omega arith;
        untold = omega arith;
      }

  pub rests_now : IsAtRest u.known p → IsAtRest x.known (one_fewer_out p)
  rests_now r = subst (λ (q : ListPass). IsAtRest q (one_fewer_out p)) (sym known_now) record {
    scan = r.scan;
    spent = r.spent;
    frontier = r.frontier;
  }

  here : Stepped u x
  here = stepped_one u x made refl

  calm_first : Calm z g.call v u
  calm_first = calm_aside z g.call v u writes.aside

  struck : Struck g.call Added u x
  struck = subst (λ (c : Call). Struck c Added u x) (sym call_is)
      (struck_at (Insert key value) Added (change_at (Insert key value) x) u x refl refl made)

  one_made : steps_made u x ≡ step ∷ []
  unfolding stepped_one
  one_made = stepped_steps u x (stepped_one u x made refl)

  may_end : g.lost < g.races → (from : ListView) (free : List ℕ) → HasRecord z share g f v p from free
      → MayEnd z share g.races g.call None (Said Added) g.lost from x free (one_fewer_out p)
  may_end below from free k = let t = tries_later z g g.lost from v u calm_first (ap (λ o. o.start) writes.own) k.tries in
      let ran : Ran list_reader (map_sizes z) g.call (losing t.memory g.lost) (effected (name_of step ∷ t.memory) g.lost g.lost []) u x =
      ran_one list_reader (map_sizes z) g.call (losing t.memory g.lost) (effected (name_of step ∷ t.memory) g.lost g.lost []) u x made refl
      (publish_counts (map_sizes z) g.call t.memory g.lost step refl) (λ own s. d.published.made.stands (d.hit refl)) in record {
        by = record {
          start = u.known.own.start;
          memory = name_of step ∷ t.memory;
          early = g.lost;
          later = [];
          since = since_on list_reader (map_sizes z) g.call u.known.own.start (losing t.memory g.lost)
              (effected (name_of step ∷ t.memory) g.lost g.lost []) from u x t.since ran;
          few = below;
          struck = struck_on g.call Added from u x t.since.went.number t.since.went.order t.unplaced struck;
          took = λ y is. absurd cc;
        };
        last = saw_last from u x t.since.went here (let one = ap (λ (l : List Step). length l) one_made in omega arith);
        sizes = ap (λ (q : ListPass). q.sizes) known_now ∙ (writes.sizes ∙ k.carries.sizes);
        kept = let kept = k.carries.kept in let spends = ap (spends_of 1) call_is in omega arith;
        alone = λ looks. absurd (false≢true (sym (insert_changes g.call v k.inserts) ∙ looks));
      }

  -- and is answered
  pub put_ends : (g' : ListGoing) (w : ListView) (p' : Purse) (result : Turned) → SameGoing g g' → g'.lost ≡ g.lost → g'.struck ≡ true
      → g.lost < g.races
      → result ≡ Done (Said Added) → Ends z share g.races g.call None (Said Added) x w (one_fewer_out p) p'
      → Part z share (HasRecord z share g f v p) g g' v w p' result
  put_ends g' w p' result same lost_still now below is e =
      subst (λ (r : Turned). Part z share (HasRecord z share g f v p) g g' v w p' r) (sym is) record {
        stepped = stepped_both v x w (stepped_both v u x writes.aside.stepped here) e.calm.stepped;
        stands = λ own s. e.calm.stands own (d.published.made.stands (d.hit refl));
        same = same;
        strikes = λ _. (
          Added,
          struck_later g.call Added v x w (here.number ∙ writes.aside.stepped.number) e.calm.stepped.order
              (struck_on g.call Added v u x writes.aside.stepped.number writes.aside.stepped.order writes.aside.unplaced
              struck)
              e.calm.unplaced,
        );
        struck = now;
        advances = tt;
        goes_on = tt;
        answered = λ from free k stands. told_as list_meaning (map_sizes z) g.call g.races (pool_view from free share)
            (pool_view w p'.free.items share) (Said Added) g.lost g'.lost (sym lost_still)
            (e.answered from free g.lost (may_end below from free k) stands);
      }

  pub put_made : (w : ListView) → Stepped x w → 0 < length (steps_made v w)
  put_made w s = let a = ap (λ (l : List Step). length l) (stretch_both v x w (stepped_both v u x writes.aside.stepped here) s)
      ∙ length-append (steps_made v x) (steps_made x w) in
      let b = ap (λ (l : List Step). length l) (stretch_both v u x writes.aside.stepped here)
      ∙ length-append (steps_made v u) (steps_made u x) in let one = ap (λ (l : List Step). length l) one_made in omega arith
