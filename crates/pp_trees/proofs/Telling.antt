-- What a step of a tree's own tells of the order.
use Rattle.std.proofs.Common.{◌≡◌, ℕ, ◌+◌, List, [], ◌∷◌, ◌++◌}
use Rattle.std.proofs.Common.{length, ap, ◌∙◌, length-append}
use Rattle.pp_model.specs.declared.Call.{Call}
use Rattle.pp_model.specs.declared.Reply.{Reply}
use Rattle.pp_model.specs.declared.Change.{Change}
use Rattle.pp_model.specs.declared.Placed.{Placed}
use Rattle.pp_model.specs.History.{change_of}
use Rattle.pp_model.specs.MapCalls.{placed}
use Rattle.pp_rule.specs.declared.views.LoggedStep.{LoggedStep}
use Rattle.pp_rule.specs.Orders.{log_of, placed_by}
use Rattle.pp_rule.specs.Steps.{alone}
use Rattle.pp_rule.proofs.OwnSteps.{log_told, placed_told}
use Rattle.pp_trees.specs.Searches.{TreePass}
use Rattle.pp_trees.specs.Edges.{TreeView, change_at, placed_at}

-- the view of a pass after the step e, which is known as `known`
module _ (order : List (LoggedStep Change Placed)) (known : TreePass) (e : LoggedStep Change Placed) (w : TreeView)
    (at : w ≡ alone (order ++ e ∷ []) known)
    (pass : e.entry.pass ≡ known.number) where
  -- the change and the call that were placed there
  pub change_told : (call : Call) (s : Placed) → e.placed ≡ s ∷ []
      → change_at call w ≡ change_of known.number (length (placed_by known.number order) + 1) call
  change_told call s one = ap (λ (n : ℕ). change_of n (length (placed_by w.known.number w.order)) call) (ap (λ
      (v : TreeView). v.known.number) at)
      ∙ ap (λ (n : ℕ). change_of known.number n call) (ap (λ (l : List Placed). length l)
      (placed_told order known e w at pass ∙ ap (λ (l : List Placed). placed_by known.number order ++ l) one)
      ∙ length-append (placed_by known.number order) (s ∷ []))

  pub place_told : (call : Call) (r : Reply) (c : Change) → e.entry.changes ≡ c ∷ []
      → placed_at call r w ≡ placed call r (length (log_of order) + 1)
  place_told call r c one = ap (λ (n : ℕ). placed call r n) (ap (λ (l : List Change). length l)
      (log_told order known e w at pass ∙ ap (λ (l : List Change). log_of order ++ l) one) ∙ length-append (log_of order) (c ∷ []))
