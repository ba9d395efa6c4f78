-- What a step of a queue's own tells of the order.
use Rattle.std.proofs.Common.{◌≡◌, ℕ, ◌+◌, List, [], ◌∷◌, ◌++◌, length, ap, ◌∙◌, length-append}
use Rattle.pp_rule.specs.Orders.{log_of, placed_by}
use Rattle.pp_rule.specs.Steps.{alone}
use Rattle.pp_rule.proofs.OwnSteps.{log_told, placed_told}
use Rattle.pp_queues.specs.declared.calls.QueueCall.{QueueCall}
use Rattle.pp_queues.specs.declared.calls.QueueReply.{QueueReply}
use Rattle.pp_queues.specs.declared.calls.QueueChange.{QueueChange}
use Rattle.pp_queues.specs.declared.calls.QueuePlaced.{QueuePlaced}
use Rattle.pp_queues.specs.Queue.{change_of, placed}
use Rattle.pp_queues.specs.Queues.{QueuePass, QueueStep, QueueView}
use Rattle.pp_queues.specs.Turns.{change_at, placed_at}

-- the view of a pass after the step e, which is known as `known`
module _ (order : List QueueStep) (known : QueuePass) (e : QueueStep) (w : QueueView) (at : w ≡ alone (order ++ e ∷ []) known)
    (pass : e.entry.pass ≡ known.number) where
  -- the change and the call that were placed there
  pub change_told : (call : QueueCall) (s : QueuePlaced) → e.placed ≡ s ∷ []
      → change_at call w ≡ change_of known.number (length (placed_by known.number order) + 1) call
  change_told call s one = ap (λ (n : ℕ). change_of n (length (placed_by w.known.number w.order)) call) (ap
      (λ (v : QueueView). v.known.number) at)
      ∙ ap (λ (n : ℕ). change_of known.number n call) (ap (λ (l : List QueuePlaced). length l)
      (placed_told order known e w at pass ∙ ap (λ (l : List QueuePlaced). placed_by known.number order ++ l) one)
      ∙ length-append (placed_by known.number order) (s ∷ []))

  pub place_told : (call : QueueCall) (r : QueueReply) (c : QueueChange) → e.entry.changes ≡ c ∷ []
      → placed_at call r w ≡ placed call r (length (log_of order) + 1)
  place_told call r c one = ap (λ (n : ℕ). placed call r n) (ap (λ (l : List QueueChange). length l)
      (log_told order known e w at pass ∙ ap (λ (l : List QueueChange). log_of order ++ l) one) ∙ length-append (log_of order) (c ∷ []))
