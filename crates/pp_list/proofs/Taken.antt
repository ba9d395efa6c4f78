-- The turn in which an insert gets its record and publishes it, or gets none and is answered.
use Rattle.std.proofs.Common.{◌≡◌, ℕ, zero, suc, ◌*◌, ◌<◌, ◌≤◌, min, true, false, List, [], ◌∷◌, ◌++◌, length}
use Rattle.std.proofs.Common.{take, refl, sym, ap, ◌∙◌}
use Rattle.std.proofs.Common.{subst, None, arith, length-append, get_or, ◌⊎◌}
use Rattle.std.proofs.Math.Bool.{false≢true}
use Rattle.pp_link.specs.declared.layout.Sizes.{Sizes}
use Rattle.pp_pool.specs.declared.fresh.Fresh.{Fresh}
use Rattle.pp_model.specs.declared.Answer.TheVariants.{Full}
use Rattle.pp_model.specs.declared.Call.{Call}
use Rattle.pp_model.specs.declared.Turned.{Turned}
use Rattle.pp_model.specs.declared.Turned.TheVariants.{Done}
use Rattle.pp_model.specs.declared.steps.Step.{Step}
use Rattle.pp_model.specs.Calls.{key_of}
use Rattle.pp_model.specs.Lists.{IsPrefix}
use Rattle.pp_model.specs.MapCalls.{Answered, LeavesPurse}
use Rattle.pp_rule.specs.Causes.{owned_after}
use Rattle.pp_rule.specs.Orders.{log_of}
use Rattle.pp_rule.proofs.Histories.{log_begins}
use Rattle.pp_rule.specs.declared.views.WalkSlot.{WalkSlot}
use Rattle.pp_rule.specs.Views.{blank}
use Rattle.pp_lists.specs.declared.own.ListOwn.{ListOwn}
use Rattle.pp_walk.specs.Parts.{GathersNone}
use Rattle.pp_walk.specs.Roles.{is_look}
use Rattle.pp_base.specs.declared.purse.Purse.{Purse}
use Rattle.pp_calls.specs.PoolViews.{pool_view}
use Rattle.pp_calls.specs.Steps.{StandsThen}
use Rattle.pp_calls.proofs.Growing.{stepped_both, stepped_made}
use Rattle.pp_shelf.specs.Runs.{map_sizes, steps_made}
use Rattle.pp_lists.specs.Lists.{ListPass}
use Rattle.pp_lists.specs.Turns.{ListView}
use Rattle.pp_lists.specs.Losses.{list_reader}
use Rattle.pp_turns.specs.Tallies.{losing}
use Rattle.pp_turns.specs.Turns.{Kept}
use Rattle.pp_turns.specs.Causes.{Aside}
use Rattle.pp_turns.proofs.Answering.{says_full, told_as}
use Rattle.pp_turns.proofs.Aside.{aside_at_purse}
use Rattle.pp_turns.proofs.Placing.{absent_on, struck_on, unplaced_on}
use Rattle.pp_turns.proofs.Purses.{found_none, full_purse, tidy_already}
use Rattle.pp_turns.proofs.Stretches.{own_before, saw_last, since_on, stretch_both}
use Rattle.pp_walk.specs.declared.walk.Found.{Found}
use Rattle.pp_walk.specs.Effects.{MayFill}
use Rattle.pp_list.specs.declared.going.ListGoing.{ListGoing}
use Rattle.pp_list.specs.declared.going.Next.{Next}
use Rattle.pp_list.specs.declared.going.Next.TheVariants.{Publishes, Over}
use Rattle.pp_list.specs.Meant.{list_words, list_meaning, HoldsPairs}
use Rattle.pp_list.specs.Causes.{list_causes}
use Rattle.pp_list.specs.Purses.{TakesOne, TakesNone, LooksAway}
use Rattle.pp_list.specs.Going.{Tries, Inserts, HoldsFirst, Stands, IsUnder, is_after}
use Rattle.pp_list.specs.Answers.{Calm}
use Rattle.pp_list.specs.Turned.{Part, HasRecord, ListTurned}
use Rattle.pp_list.proofs.Again.{tries_later}
use Rattle.pp_list.proofs.Calm.{calm_aside, calm_quiet, calm_both}
use Rattle.pp_turns.proofs.Turning.{on_by, done_by}
use Rattle.pp_list.proofs.Treading.{went_by}
use Rattle.pp_list.proofs.Trying.{inserts_later, insert_changes, fill_walk}

-- the call, without its record
abbrev pub bare : ListGoing → ListGoing
bare g = record g { fresh = None }

module _ (z : Sizes) (share : ℕ) (g : ListGoing) (f : Found) (v : ListView) (p : Purse) (at : g.next ≡ Publishes f) (from : ListView)
    (free : List ℕ) (x : IsUnder z share g v p from free) where
  pub at_publish : Tries z g.call g.lost from v × (Inserts g.call v
      × (MayFill z v.known f.anchor f.end (key_of g.call) × HoldsFirst v.known))
  at_publish = subst (λ (n : Next). Stands z g.call g.races g.lost n from v) at x.stands

  pub not_struck : g.struck ≡ false
  not_struck = x.struck ∙ ap is_after at

-- what was gathered is held still while the walk words stand
pub holds_walk : (q r : ListPass) → r.own ≡ q.own → r.walk ≡ q.walk → HoldsFirst q → HoldsFirst r
holds_walk q r own walk h = subst (λ (o : ListOwn). GathersNone o ⊎ ((o.first < 5) × ((get_or r.walk o.first blank).held ≡ true))) (sym own)
    (subst (λ (ws : List WalkSlot). GathersNone q.own ⊎ ((q.own.first < 5) × ((get_or ws q.own.first blank).held ≡ true))) (sym walk) h)

-- It got a record.
module _ (z : Sizes) (share : ℕ) (g : ListGoing) (f : Found) (v u : ListView) (p q : Purse) (at : g.next ≡ Publishes f) (fresh : Fresh)
    (sizes : u.known.sizes ≡ v.known.sizes) (t : TakesOne z g.fresh fresh v u p q) where
  aside : Aside z v u
  aside = aside_at_purse z t.names v u t.steps

  pub may_put : (from : ListView) (free : List ℕ) → IsUnder z share g v p from free
      → MayFill z u.known f.anchor f.end (key_of g.call) × HoldsFirst u.known
  may_put from free x = let k = (at_publish z share g f v p at from free x).1.1 in (
    fill_walk z v.known u.known (key_of g.call) f.anchor f.end t.steps.walk k.0,
    holds_walk v.known u.known t.steps.own t.steps.walk k.1,
  )

  pub inserts_now : (from : ListView) (free : List ℕ) → IsUnder z share g v p from free → Inserts g.call u
  inserts_now from free x = inserts_later g.call v u aside.stepped t.steps.own (at_publish z share g f v p at from free x).1.0

  pub has_record : (from : ListView) (free : List ℕ) → IsUnder z share g v p from free → HasRecord z share (bare g) fresh u q from free
  has_record from free x = let k = at_publish z share g f v p at from free x in
      let changes : is_look g.call ≡ false = insert_changes g.call v k.1.0 in record {
        tries = tries_later z g g.lost from v u (calm_aside z g.call v u aside) (ap (λ o. o.start) t.steps.own) k.0;
        inserts = inserts_now from free x;
        carries = record {
          sizes = sizes ∙ x.carries.sizes;
          out = t.out;
          kept = let had = x.carries.kept in let now = t.kept in omega arith;
          same = λ none. absurd cc;
          none = λ looks. absurd (false≢true (sym changes ∙ looks));
          alone = λ looks. absurd (false≢true (sym changes ∙ looks));
        };
      }

  -- and tried to publish it
  pub put_turned : (g' : ListGoing) (w : ListView) (p' : Purse) (result : Turned) → g.struck ≡ false
      → Part z share (HasRecord z share (bare g) fresh u q) (bare g) g' u w p' result → 0 < length (steps_made u w)
      → ListTurned z share g g' v w p p' result
  put_turned g' w p' result unstruck part long = record {
    stepped = stepped_both v u w aside.stepped part.stepped;
    some_made = let e = ap (λ (l : List Step). length l) (stretch_both v u w aside.stepped part.stepped)
        ∙ length-append (steps_made v u) (steps_made u w) in omega arith;
    stands = λ own s. part.stands own (aside.stands (own_before u w part.stepped own) s);
    same = record { head = part.same.head; call = part.same.call; races = part.same.races };
    stays = λ was. absurd (false≢true (sym unstruck ∙ was));
    strikes = λ was now. let s = part.strikes now in (
      s.0,
      struck_on g.call s.0 v u w aside.stepped.number aside.stepped.order
          aside.unplaced s.1,
    );
    struck = part.struck;
    went = went_by v w g g' result part.advances;
    goes_on = on_by result ((from : ListView) (free : List ℕ) → HasRecord z share (bare g) fresh u q from free → IsUnder z share g' w p'
        from free)
        ((from : ListView) (free : List ℕ) → IsUnder z share g v p from free → IsUnder z share g' w p' from free)
        (λ h from free x. h from free (has_record from free x)) part.goes_on;
    answered = done_by result (λ answer. (from : ListView) (free : List ℕ) → HasRecord z share (bare g) fresh u q from free → StandsThen w
        → Answered list_meaning (map_sizes z) g.call g.races (pool_view from free share) (pool_view w p'.free.items share) answer
        g'.lost) (λ answer. (from : ListView) (free : List ℕ) → IsUnder z share g v p from free → StandsThen w
        → Answered list_meaning (map_sizes z) g.call g.races (pool_view from free share) (pool_view w p'.free.items share) answer
        g'.lost) (λ a h from free x s. h from free (has_record from free x) s) part.answered;
  }

none_free : (xs : List ℕ) → length xs < 1 → xs ≡ []
none_free [] few = refl
none_free (x ∷ xs) few = absurd (omega arith)

first_none : (n : ℕ) (ys : List ℕ) → IsPrefix (take n []) ys
first_none zero ys = (ys, refl)
first_none (suc n) ys = (ys, refl)

scan_long : (scan : List Step) → owned_after 1 scan < 1 → 0 < length scan
scan_long [] few = absurd (omega arith)
scan_long (s ∷ scan) few = omega arith

-- It got none, and was answered.
module _ (z : Sizes) (share : ℕ) (g : ListGoing) (f : Found) (v u w : ListView) (p q p' : Purse) (at : g.next ≡ Publishes f)
    (sizes : w.known.sizes ≡ v.known.sizes) (t : TakesNone z g.fresh v u p q) (l : LooksAway u w q p') (owned : length w.known.owned < 1)
    (four : length w.known.chains ≤ 4) where
  at_purse : Aside z v u
  at_purse = aside_at_purse z t.names v u t.steps

  calm : Calm z g.call v w
  calm = calm_both z g.call v u w (calm_aside z g.call v u at_purse) (calm_quiet z g.call u w l.clears)

  short : length p'.free.items < 1
  short = let s = t.ran_out.still_short in let e = ap (λ y. length y.items) l.free in omega arith

  few_retired : length w.known.retired ≤ 9 * z.passes
  few_retired = let s = t.ran_out.retired in let e = ap (λ (r : List ℕ). length r) l.purse.retired in omega arith

  long : 0 < length (steps_made v w)
  long = let o = t.ran_out in let scan = scan_long o.scan o.few in
      let e = ap (λ (l : List Step). length l) (stretch_both v u w at_purse.stepped (stepped_made l.clears.steps u w l.clears.did))
      ∙ length-append (steps_made v u) (steps_made u w) in let i = ap (λ (l : List Step). length l) o.is in
      let x = length-append o.earlier (o.scan ++ o.later) in let y = length-append o.scan o.later in omega arith

  full_answers : (from : ListView) (free : List ℕ) → IsUnder z share g v p from free → StandsThen w
      → Answered list_meaning (map_sizes z) g.call g.races (pool_view from free share) (pool_view w p'.free.items share) Full g.lost
  full_answers from free x stands = let k = at_publish z share g f v p at from free x in let i = k.1.0 in let r = calm.losing_so k.0.memory
      g.lost in
      let same : p.free.items ≡ free = x.carries.same t.none in
      let none : free ≡ [] = none_free free (subst (λ (l : List ℕ). length l < 1) same t.ran_out.short) in
      let zero : length free ≡ 0 = ap (λ (l : List ℕ). length l) none in
      let kept : Kept free share p'.free.items 1 = omega (arith) in
      let on = since_on list_reader (map_sizes z) g.call v.known.own.start (losing k.0.memory g.lost) (losing r.0 g.lost) from v w k.0.since
      r.1 in
      says_full list_words list_causes HoldsPairs (map_sizes z) g.call g.races from w free p'.free.items share v.known.own.start
      (losing r.0 g.lost) on (saw_last from v w k.0.since.went calm.stepped long) (sizes ∙ x.carries.sizes) stands i.key i.value i.call_is
      (unplaced_on from v w k.0.since.went.number k.0.unplaced calm.unplaced) (omega (arith, zero))
      (absent_on v.known.own.start i.key (log_of w.order) (log_of v.order) (log_begins w.order v.order calm.stepped.order) i.absent) x.below
      (found_none z 1 from v u w free p q t.names l.clears.steps k.0.since.went t.steps.made l.clears.did t.ran_out same owned)
      (subst (λ (c : Call). LeavesPurse list_meaning (map_sizes z) c (pool_view from free share) (pool_view w p'.free.items share))
      (sym i.call_is)
      (tidy_already list_meaning z refl from v w free share 1 p'.free.items (omega (arith, few_retired)) four (omega (arith, short)) kept))
      (full_purse list_meaning z refl from v w free share p'.free.items few_retired short
      (subst (λ (l : List ℕ). IsPrefix (take (min (length l) share) l) p'.free.items) (sym none) (first_none (min 0 share) p'.free.items)))

  pub full_turned : (g' : ListGoing) → g' ≡ record g { next = Over; fresh = None } → (from : ListView) (free : List ℕ)
      → IsUnder z share g v p from free
      → ListTurned z share g g' v w p p' (Done Full)
  full_turned g' over from0 free0 x0 = let unstruck = not_struck z share g f v p at from0 free0 x0 in
      let now : g'.struck ≡ false = ap (λ y. y.struck) over ∙ unstruck in record {
        stepped = calm.stepped;
        some_made = long;
        stands = calm.stands;
        same = record { head = ap (λ y. y.head) over; call = ap (λ y. y.call) over; races = ap (λ y. y.races) over };
        stays = λ was. absurd (false≢true (sym unstruck ∙ was));
        strikes = λ was yes. absurd (false≢true (sym now ∙ yes));
        struck = now;
        went = tt;
        goes_on = tt;
        answered = λ from free x stands. told_as list_meaning (map_sizes z) g.call g.races (pool_view from free share)
            (pool_view w p'.free.items share)
            Full g.lost g'.lost (sym (ap (λ y. y.lost) over)) (full_answers from free x stands);
      }
