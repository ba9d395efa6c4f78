-- A record was detached after the call took effect that took its pair.
use Rattle.std.proofs.Common.{◌≡◌, ℕ, ◌+◌, ◌-◌, List, ◌++◌, length, ap, ◌∙◌, length-append, arith}
use Rattle.pp_model.specs.declared.Change.{Change}
use Rattle.pp_model.specs.declared.Placed.{Placed}
use Rattle.pp_model.specs.declared.steps.Step.{Step}
use Rattle.pp_model.specs.Pass.{replayed}
use Rattle.pp_rule.specs.declared.views.SeatView.{SeatView}
use Rattle.pp_rule.specs.Causes.{WasDetached}
use Rattle.pp_rule.specs.Orders.{made_by, entries_of}
use Rattle.pp_rule.proofs.Histories.{entries_append}
use Rattle.pp_calls.specs.Steps.{Stepped}
use Rattle.pp_shelf.specs.Runs.{steps_made}
use Rattle.pp_turns.proofs.Stretches.{stepped_steps}

-- At the view u the words showed the record no longer attached. The call had taken effect before, and made these steps since, of
-- which the last ones are those after u.
pub was_detached : {W : Type 0} (IsAttached : List ℕ → ℕ → Type 0) (opens : List ℕ) (n : ℕ) (u now : SeatView Change Placed W)
    (before later : List Step) → Stepped u now → later ≡ before ++ steps_made u now
    → (IsAttached (replayed opens (entries_of u.order)) n → ⊥)
    → WasDetached IsAttached opens n (length (made_by now.known.number now.order) - length later) now.known.number (entries_of now.order)
unfolding made_by
was_detached IsAttached opens n u now before later s is gone = record {
  so_far = entries_of u.order;
  begins = (entries_of s.order.0, ap entries_of s.order.1 ∙ entries_append u.order s.order.0);
  since = let p : ℕ = u.known.number in
      let all : length (made_by now.known.number now.order) ≡ length (made_by p u.order) + length s.steps =
      ap (λ (q : ℕ). length (made_by q now.order)) s.number ∙ (ap (λ (l : List Step). length l) s.made
      ∙ length-append (made_by p u.order) s.steps) in
      let later_long : length later ≡ length before + length s.steps = ap (λ (l : List Step). length l) is
      ∙ (length-append before (steps_made u now) ∙ ap (λ (l : List Step). length before + length l) (stepped_steps u now s)) in
      let own : length (made_by now.known.number u.order) ≡ length (made_by p u.order) =
      ap (λ (q : ℕ). length (made_by q u.order)) s.number in omega arith;
  gone = gone;
}
