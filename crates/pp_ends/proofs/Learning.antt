-- What a pass of a pool notes and learns is what a pass of a map does.
use Rattle.std.proofs.Common.{◌≡◌, ℕ, ◌-◌, ◌^◌, ◌≤◌, List, [], ◌++◌, length, refl, sym, ap, ◌∙◌, subst, length-append, arith}
use Rattle.std.proofs.lemmas.List.{nil_from_length}
use Rattle.atomic_table.specs.declared.shared.Seat.{Seat}
use Rattle.pp_model.specs.declared.Change.{Change}
use Rattle.pp_model.specs.declared.Placed.{Placed}
use Rattle.pp_model.specs.History.{Stands as StandsLog}
use Rattle.pp_model.specs.MapCalls.{Notes, Learns, seeing}
use Rattle.pp_model.specs.Pass.{PassView}
use Rattle.pp_model.proofs.Histories.{stands_grown}
use Rattle.pp_rule.specs.Lists.{BeginsWith, IsIn}
use Rattle.pp_rule.specs.Orders.{entries_of, log_of, made_by, placed_by}
use Rattle.pp_rule.specs.declared.views.LoggedStep.{LoggedStep}
use Rattle.pp_rule.specs.declared.views.PassState.{PassState}
use Rattle.pp_rule.specs.declared.views.SeatView.{SeatView}
use Rattle.pp_rule.proofs.Histories.{entries_append, log_append, made_append}
use Rattle.pp_rule.proofs.Put.{in_right}
use Rattle.pp_base.specs.Passes.{known, view}
use Rattle.pp_calls.specs.PoolViews.{pool_view, link_writes}
use Rattle.pp_calls.specs.Steps.{HasOwn, StandsThen}
use Rattle.pp_calls.proofs.Remaining.{others_changed}
use Rattle.pp_pool.specs.Noted.{HasLearnt}
use Rattle.pp_ends.specs.Ends.{note_in}

no_longer : {A : Type 0} (xs first : List A) → BeginsWith xs first → length first ≤ length xs
no_longer xs first b = let long = ap (λ l. length l) b.1 in let sum = length-append first b.0 in omega arith

entries_begin : (xs first : List (LoggedStep Change Placed)) → BeginsWith xs first → BeginsWith (entries_of xs) (entries_of first)
entries_begin xs first b = (entries_of b.0, ap entries_of b.1 ∙ entries_append first b.0)

module _ {W : Type 0} where
  -- what callers see of a pass by what is known of it and the order that it has seen
  abbrev known_view : PassState W → List (LoggedStep Change Placed) → List ℕ → ℕ → PassView
  known_view q order free share = record {
    caller = q.number;
    seen = log_of order;
    mine = placed_by q.number order;
    steps = made_by q.number order;
    order = entries_of order;
    wrote = link_writes q.sizes (made_by q.number order);
    room = 2 ^ 32 - 1;
    free = free;
    retired = q.retired;
    chains = length q.chains;
    share = share;
  }

  -- a longer order in which the pass made no further step changes what it has seen alone
  seeing_more : (q : PassState W) (order longer : List (LoggedStep Change Placed)) (free : List ℕ) (share : ℕ)
      → made_by q.number longer ≡ made_by q.number order → placed_by q.number longer ≡ placed_by q.number order
      → known_view q longer free share ≡ seeing (log_of longer) (entries_of longer) (known_view q order free share)
  seeing_more q order longer free share steps placed = let wrote = ap (link_writes q.sizes) steps in cc

  -- a note of a pass says how much it has seen
  pub notes : (v n : SeatView Change Placed W) (free : List ℕ) (share : ℕ) → n.order ≡ v.order → Notes (pool_view v free share) (note_in n)
  notes v n free share same = record {
    seen = ap (λ (o : List (LoggedStep Change Placed)). length (log_of o)) same;
    order = ap (λ (o : List (LoggedStep Change Placed)). length (entries_of o)) same;
  }

  -- a pass that learnt a note has seen what it says, and keeps its free numbers
  pub learns : (note s s' : Seat Unit (SeatView Change Placed W)) (free : List ℕ) (share : ℕ) → HasLearnt note s s'
      → Learns (note_in (view note)) (pool_view (view s) free share) (pool_view (view s') free share)
  unfolding made_by
  learns note s s' free share h = record {
    same = subst (λ (q : PassState W). known_view q (view s').order free share
        ≡ seeing (log_of (view s').order) (entries_of (view s').order) (pool_view (view s) free share)) (sym h.known_is)
        (seeing_more (known s) (view s).order (view s').order free share h.steps h.placed);
    seen = h.seen;
    order = entries_begin (view s').order (view s).order h.order;
    noted_seen = no_longer (log_of (view s').order) (log_of (view note).order) h.noted_seen;
    noted_order = no_longer (entries_of (view s').order) (entries_of (view note).order)
        (entries_begin (view s').order (view note).order h.noted_order);
    own_steps = refl;
  }

  -- The placed calls of a pass stand in what it has seen then.
  pub calls_learnt : (v w : SeatView Change Placed W) → w.known ≡ v.known → BeginsWith w.order v.order
      → made_by v.known.number w.order ≡ made_by v.known.number v.order
      → placed_by v.known.number w.order ≡ placed_by v.known.number v.order → HasOwn w.order → StandsThen v → StandsThen w
  calls_learnt v w same order made placed own stands =
      let p : ℕ = v.known.number in let rest : List (LoggedStep Change Placed) = order.0 in
      let all = ap (λ o. length (made_by p o)) order.1 ∙ (ap (λ l. length l) (made_append p v.order rest)
      ∙ length-append (made_by p v.order) (made_by p rest)) in
      let kept = ap (λ l. length l) made in
      let none : made_by p rest ≡ [] = nil_from_length (made_by p rest) (omega arith) in
      let owned : HasOwn rest = λ s i. own s (subst (λ (o : List (LoggedStep Change Placed)). IsIn s o) (sym order.1)
      (in_right s v.order rest i)) in
      let log : log_of w.order ≡ log_of v.order ++ log_of rest = ap log_of order.1 ∙ log_append v.order rest in
      let grown : StandsLog (log_of v.order ++ log_of rest) p (placed_by p v.order) =
      stands_grown (log_of v.order) (log_of rest) p (placed_by p v.order) (others_changed p rest none owned) stands in
      subst (λ (q : PassState W). StandsLog (log_of w.order) q.number (placed_by q.number w.order)) (sym same)
      (subst (λ (l : List Change). StandsLog l p (placed_by p w.order)) (sym log)
      (subst (λ (l : List Placed). StandsLog (log_of v.order ++ log_of rest) p l) (sym placed) grown))
