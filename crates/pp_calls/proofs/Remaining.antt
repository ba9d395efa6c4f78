-- Where none of its calls is placed, a pass's placed calls stand in what it has seen as they stood.
use Rattle.std.proofs.Common.{◌≡◌, ℕ, List, [], ◌∷◌, sym}
use Rattle.std.proofs.Common.{subst}
use Rattle.pp_model.specs.declared.Change.{Change}
use Rattle.pp_model.specs.declared.Placed.{Placed}
use Rattle.pp_model.specs.Lists.{AtEach}
use Rattle.pp_model.specs.History.{finite_map, Stands}
use Rattle.pp_rule.specs.declared.views.LoggedStep.{LoggedStep}
use Rattle.pp_rule.specs.declared.views.PassState.{PassState}
use Rattle.pp_rule.specs.declared.views.SeatView.{SeatView}
use Rattle.pp_rule.specs.Lists.{IsIn}
use Rattle.pp_rule.specs.Orders.{log_of, made_by, placed_by}
use Rattle.pp_rule.specs.Steps.{MadeQuietStep}
use Rattle.pp_rule.proofs.Put.{in_left}
use Rattle.pp_base.specs.Named.{NamedStep, Made}
use Rattle.pp_calls.specs.Steps.{HasOwn, Stepped}
use Rattle.pp_calls.proofs.Growing.{stepped_made}
use Rattle.pp_calls.proofs.AnyObject as any

-- what took effect where the pass made no step was others'
pub others_changed : (p : ℕ) (steps : List (LoggedStep Change Placed)) → made_by p steps ≡ [] → HasOwn steps
    → AtEach (log_of steps) (λ k c. c.caller ≡ p → ⊥)
others_changed = any.others_changed finite_map

-- One step at which no change took effect and no call was placed.
pub stands_one : {kind place word left : ℕ} {W : Type 0} {known : PassState W} (v w : SeatView Change Placed W)
    → MadeQuietStep kind place word left known v w → known.number ≡ v.known.number → HasOwn w.order
    → Stands (log_of v.order) v.known.number (placed_by v.known.number v.order)
    → Stands (log_of w.order) w.known.number (placed_by w.known.number w.order)
stands_one v w m number own stands = any.stands_one finite_map v w m number own stands

-- Any number of them.
pub stands_made : {W : Type 0} (steps : List NamedStep) (v w : SeatView Change Placed W) → Made steps v w → HasOwn w.order
    → Stands (log_of v.order) v.known.number (placed_by v.known.number v.order)
    → Stands (log_of w.order) w.known.number (placed_by w.known.number w.order)
stands_made [] v w is own stands =
    subst (λ (u : SeatView _ _ _). Stands (log_of u.order) u.known.number (placed_by u.known.number u.order))
    (sym is) stands
stands_made (s ∷ steps) v w m own stands = let u = m.0 in
    let later : Stepped u w = stepped_made steps u w m.1.1 in
    let owned : HasOwn u.order = λ x i. own x (subst (λ (o : List (LoggedStep Change Placed)). IsIn x o) (sym later.order.1)
    (in_left x u.order later.order.0 i)) in
    stands_made steps u w m.1.1 own (stands_one v u m.1.0.made m.1.0.number owned stands)
