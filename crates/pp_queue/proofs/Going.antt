-- The parts of a call go on, one after another.
use Rattle.std.proofs.Common.{◌≡◌, ◌≢◌, length, arith, ℕ, ◌<◌, List, [], refl}
use Rattle.std.proofs.Common.{sym, ap, ◌∙◌, subst, append-nil}
use Rattle.pp_rule.specs.declared.views.WalkSlot.{WalkSlot}
use Rattle.pp_rule.specs.Orders.{placed_by}
use Rattle.std.proofs.Math.Decide.{ℕ_discrete}
use mathlib.Core.Logic.{dite}
use Rattle.pp_rule.specs.Views.{slot, naming}
use Rattle.pp_rule.proofs.Slots.{slot_here, slot_else}
use Rattle.pp_rule.specs.Steps.{MadeStep, with_walk, clearing}
use Rattle.pp_rule.proofs.Histories.{begins_self, begins_through}
use Rattle.pp_rule.proofs.Made.{known_after, order_begins, placed_after}
use Rattle.pp_queues.specs.declared.calls.QueueChange.{QueueChange}
use Rattle.pp_queues.specs.Queues.{QueuePass, QueueView, queue_forget}
use Rattle.pp_queue.specs.Calling.{SameRest, GoesOn, IsEmpty}

pub rest_self : (q : QueuePass) → SameRest q q
rest_self q = record {
  number = refl;
  sizes = refl;
  owned = refl;
  retired_are = refl;
  frontier = refl;
  chains = refl;
  scan = refl;
  going = refl;
  start = refl;
}

pub rest_walk : (q : QueuePass) (i : ℕ) (w : WalkSlot) → SameRest q (with_walk i w q)
rest_walk q i w = record {
  number = refl;
  sizes = refl;
  owned = refl;
  retired_are = refl;
  frontier = refl;
  chains = refl;
  scan = refl;
  going = refl;
  start = refl;
}

pub rest_cleared : (q : QueuePass) (i : ℕ) → SameRest q (clearing queue_forget i q)
rest_cleared q i = record {
  number = refl;
  sizes = refl;
  owned = refl;
  retired_are = refl;
  frontier = refl;
  chains = refl;
  scan = refl;
  going = refl;
  start = refl;
}

rest_trans : (p q r : QueuePass) → SameRest p q → SameRest q r → SameRest p r
rest_trans p q r a b = record {
  number = b.number ∙ a.number;
  sizes = b.sizes ∙ a.sizes;
  owned = b.owned ∙ a.owned;
  retired_are = b.retired_are ∙ a.retired_are;
  frontier = b.frontier ∙ a.frontier;
  chains = b.chains ∙ a.chains;
  scan = b.scan ∙ a.scan;
  going = b.going ∙ a.going;
  start = b.start ∙ a.start;
}

pub goes_self : (v : QueueView) → GoesOn v v
goes_self v = record { order = begins_self v.order; mine = refl; rest = rest_self v.known }

pub goes_made : {kind place word left : ℕ} {cs : List QueueChange} {q : QueuePass} (v w : QueueView)
    → MadeStep kind place word left cs [] q v w
    → SameRest v.known q → GoesOn v w
goes_made v w made rest = record {
  order = order_begins _ _ _ _ _ _ _ v w made;
  mine = placed_after _ _ _ _ _ _ _ v w made rest.number ∙ append-nil (placed_by v.known.number v.order);
  rest = subst (SameRest v.known) (sym (known_after _ _ _ _ _ _ _ v w made)) rest;
}

pub goes_on : (u v w : QueueView) → GoesOn u v → GoesOn v w → GoesOn u w
goes_on u v w a b = record {
  order = begins_through w.order v.order u.order b.order a.order;
  mine = subst (λ (n : ℕ). placed_by n w.order ≡ placed_by n v.order) a.rest.number b.mine ∙ a.mine;
  rest = rest_trans u.known v.known w.known a.rest b.rest;
}

-- a walk word that was cleared is empty, and the others are as they were
pub cleared_empty : (q q' : QueuePass) (i j : ℕ) → length q.walk ≡ 5 → q' ≡ clearing queue_forget i q → j < 5
    → (j ≢ i → IsEmpty (slot q j))
    → IsEmpty (slot q' j)
cleared_empty q q' i j five is lt other = dite (ℕ_discrete j i)
    (λ e. subst IsEmpty (sym (ap (slot q') e ∙ slot_here q q' i (naming 0) (ap (λ (q : QueuePass). q.walk) is)
    (subst (λ (k : ℕ). k < length q.walk) e (omega arith)))) (refl, refl))
    (λ ne. subst IsEmpty (sym (slot_else q q' i (naming 0) (ap (λ (q : QueuePass). q.walk) is) j ne)) (other ne))
