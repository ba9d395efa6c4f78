-- The end of a call on a queue.
use Rattle.std.proofs.Common.{◌≡◌, ⊎_elim, ◌⊎◌, inl, inr, ℕ, ◌*◌, ◌≤◌, min, List, ◌++◌, length, length-append}
use Rattle.std.proofs.Common.{sym, ap, ◌∙◌, subst, arith}
use Rattle.pp_link.specs.declared.layout.Sizes.{Sizes}
use Rattle.pp_model.specs.declared.steps.Step.{Step}
use Rattle.pp_model.specs.Pass.{MapSizes}
use Rattle.pp_rule.specs.Causes.{FoundTaken}
use Rattle.pp_rule.specs.Lists.{BeginsWith}
use Rattle.pp_rule.proofs.Put.{in_right}
use Rattle.pp_base.specs.declared.purse.Purse.{Purse}
use Rattle.pp_calls.specs.Steps.{Stepped}
use Rattle.pp_calls.proofs.Growing.{stepped_both}
use Rattle.pp_shelf.specs.Shelves.{MovesFree}
use Rattle.pp_shelf.specs.Runs.{steps_made}
use Rattle.pp_queues.specs.Queues.{QueuePass, QueueView}
use Rattle.pp_queues.specs.Losses.{losing}
use Rattle.pp_queues.specs.Calls.{map_sizes}
use Rattle.pp_queue.specs.Answers.{Idles, SameCounts, Tidies}
use Rattle.pp_queue.proofs.Reclaiming.{since_made}

-- what steps found stands with further ones before them
pub taken_later : (z : MapSizes) (xs ys : List Step) → FoundTaken z ys → FoundTaken z (xs ++ ys)
taken_later z xs ys f = record { each = λ j lt. let y = f.each j lt in (y.0, (in_right y.0 xs ys y.1.0, y.1.1, y.1.2, y.1.3)) }

-- the steps from one view to another, and those up to a third
pub steps_both : (u v w : QueueView) → Stepped u v → Stepped v w → steps_made u w ≡ steps_made u v ++ steps_made v w
unfolding stepped_both
steps_both u v w a b = since_made u w (stepped_both u v w a b)
    ∙ sym (ap (λ (l : List Step). l ++ steps_made v w) (since_made u v a)
    ∙ ap (λ (l : List Step). a.steps ++ l) (since_made v w b))

-- a reclaim pass perhaps, and then the shelves
pub tidied : (z : Sizes) (share : ℕ) (u v w : QueueView) (p q r : Purse) → Idles z.passes u v → Idles z.passes v w
    → length v.known.retired ≤ 2 * (9 * z.passes) → BeginsWith q.free.items p.free.items → SameCounts p q
    → (length r.free.items ≤ share) ⊎ FoundTaken (map_sizes z) (steps_made v w)
    → min share (length q.free.items) ≤ length r.free.items → MovesFree v.known w.known q r → Tidies z share u w p r
tidied z share u v w p q r a b few grown counts shared kept only = record {
  few = subst (λ (l : List ℕ). length l ≤ 2 * (9 * z.passes)) (sym (ap (λ (q : QueuePass). q.retired) only.known)) few;
  shared = ⊎_elim (λ (le : length r.free.items ≤ share). inl le)
      (λ (f : FoundTaken (map_sizes z) (steps_made v w)). inr (subst (FoundTaken (map_sizes z))
      (sym (steps_both u v w (a.ran (losing 0 0)).stepped (b.ran (losing 0 0)).stepped))
      (taken_later (map_sizes z) (steps_made u v) (steps_made v w) f))) shared;
  kept = let long = ap (λ (l : List ℕ). length l) grown.1 ∙ length-append p.free.items grown.0 in omega arith;
  counts = record {
    taken = ap (λ (x : Purse). x.taken) only.lists ∙ counts.taken;
    going = ap (λ (x : Purse). x.going) only.lists ∙ counts.going;
  };
}
