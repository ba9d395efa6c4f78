-- A part of a turn before its last part.
use Rattle.std.proofs.Common.{◌≡◌, ℕ, ◌+◌, Bool, false, List, sym, ap, ◌∙◌, subst, ⊎_elim, arith}
use Rattle.std.proofs.Common.{◌≢◌, nat_eq, ne_eqb}
use Rattle.std.specs.Prelude.{◌||◌}
use Rattle.pp_link.specs.declared.layout.Sizes.{Sizes}
use Rattle.pp_model.specs.declared.Turned.{Turned}
use Rattle.pp_model.specs.MapCalls.{Answered}
use Rattle.pp_base.specs.declared.purse.Purse.{Purse}
use Rattle.pp_calls.specs.PoolViews.{pool_view}
use Rattle.pp_calls.specs.Steps.{Stepped, HasOwn, StandsThen}
use Rattle.pp_calls.proofs.Growing.{stepped_both}
use Rattle.pp_shelf.specs.Runs.{map_sizes}
use Rattle.pp_lists.specs.Lists.{ListPass}
use Rattle.pp_lists.specs.Turns.{ListView}
use Rattle.pp_lists.specs.Losses.{list_reader}
use Rattle.pp_turns.specs.Tallies.{losing}
use Rattle.pp_turns.specs.Turns.{Since, Unplaced}
use Rattle.pp_turns.proofs.Placing.{struck_on, unplaced_on}
use Rattle.pp_turns.proofs.Stretches.{since_on, saw_on, own_before}
use Rattle.pp_walk.specs.Parts.{GathersNone}
use Rattle.pp_walk.specs.Trod.{Idles}
use Rattle.pp_walk.specs.Words.{SameRest, Cleared, is_kept}
use Rattle.pp_list.specs.declared.going.ListGoing.{ListGoing}
use Rattle.pp_list.specs.Meant.{list_meaning}
use Rattle.pp_list.specs.Going.{IsUnder, Tries, HoldsFirst}
use Rattle.pp_list.specs.Answers.{Calm}
use Rattle.pp_list.specs.Turned.{Part, HasLost}
use Rattle.pp_list.proofs.Arriving.{idles_quiet}
use Rattle.pp_list.proofs.Calm.{calm_quiet}
use Rattle.pp_turns.proofs.Turning.{on_by, done_by}
use Rattle.pp_list.proofs.Treading.{carries_rest}

-- A last part, with the quiet steps before it.
pub part_before : (z : Sizes) (share : ℕ) (Known Known' : ListView → List ℕ → Type 0) (g g' : ListGoing) (v u w : ListView) (p' : Purse)
    (result : Turned) → Stepped v u → (HasOwn u.order → StandsThen v → StandsThen u) → Unplaced v u
    → ((from : ListView) (free : List ℕ) → Known from free → Known' from free) → Part z share Known' g g' u w p' result
    → Part z share Known g g' v w p' result
part_before z share Known Known' g g' v u w p' result first stands quiet each part = record {
  stepped = stepped_both v u w first part.stepped;
  stands = λ own s. part.stands own (stands (own_before u w part.stepped own) s);
  same = part.same;
  strikes = λ now. let s = part.strikes now in (s.0, struck_on g.call s.0 v u w first.number first.order quiet s.1);
  struck = part.struck;
  advances = part.advances;
  goes_on = on_by result _ ((from : ListView) (free : List ℕ) → Known from free → IsUnder z share g' w p' from free)
      (λ f from free k. f from free (each from free k)) part.goes_on;
  answered = done_by result _ (λ answer. (from : ListView) (free : List ℕ) → Known from free → StandsThen w
      → Answered list_meaning (map_sizes z) g.call g.races (pool_view from free share) (pool_view w p'.free.items share) answer
      g'.lost) (λ a f from free k stands. f from free (each from free k) stands) part.answered;
}

-- what a call tried, with steps that find nothing
pub tries_later : (z : Sizes) (g : ListGoing) (n : ℕ) (from v u : ListView) → Calm z g.call v u → u.known.own.start ≡ v.known.own.start
    → Tries z g.call n from v → Tries z g.call n from u
tries_later z g n from v u calm start t = let r = calm.losing_so t.memory n in record {
  memory = r.0;
  since = subst (λ (s : ℕ). Since list_reader (map_sizes z) g.call s (losing r.0 n) from u) (sym start)
      (since_on list_reader (map_sizes z) g.call v.known.own.start (losing t.memory n) (losing r.0 n) from v u t.since r.1);
  unplaced = unplaced_on from v u t.since.went.number t.unplaced calm.unplaced;
}

pub lost_later : (z : Sizes) (share : ℕ) (g : ListGoing) (v u : ListView) (p : Purse) → Idles v u → SameRest v.known u.known
    → u.known.own.start ≡ v.known.own.start → (from : ListView) (free : List ℕ) → HasLost z share g v p from free
    → HasLost z share g u p from free
lost_later z share g v u p idle rest start from free k = let calm = calm_quiet z g.call v u idle in record {
  tries = tries_later z g (g.lost + 1) from v u calm start k.tries;
  last = saw_on from v u k.tries.since.went k.last calm.stepped;
  carries = carries_rest share g.call g.fresh from v u free p calm.stepped (idles_quiet v u idle) rest k.carries;
}

-- nothing is gathered once all walk words are cleared
pub gathers_none : (q r : ListPass) → HoldsFirst q → Cleared 5 5 5 q r → GathersNone r.own
gathers_none q r h c = ⊎_elim (λ (n : GathersNone q.own). let e = c.none n.first n.chain in record { first = e.0; chain = e.1 })
    (λ x. let e = c.lost x.0 (not_kept q.own.first (λ five. let low = x.0 in omega arith)) x.1 in record { first = e.0; chain = e.1 }) h
  where
    not_kept : (n : ℕ) → n ≢ 5 → is_kept 5 5 5 n ≡ false
    not_kept n other = let none : nat_eq n 5 ≡ false = ne_eqb n 5 other in
        ap (λ (b : Bool). b || (nat_eq n 5 || nat_eq n 5)) none ∙ (ap (λ (b : Bool). b || nat_eq n 5) none ∙ none)
