-- A reclaim pass leaves no call under way on its pass, where none was.
use Rattle.std.proofs.Common.{◌≡◌, ℕ, ◌<◌, sym, ap, ◌∙◌, subst}
use Rattle.atomic_table.specs.declared.shared.Seat.{Seat}
use Rattle.pp_link.specs.declared.layout.Sizes.{Sizes}
use Rattle.pp_rule.specs.declared.views.PassState.{PassState}
use Rattle.pp_rule.specs.declared.views.SeatView.{SeatView}
use Rattle.pp_rule.specs.Views.{guarding}
use Rattle.pp_rule.specs.Steps.{IsUnused}
use Rattle.pp_base.specs.declared.purse.Purse.{Purse}
use Rattle.pp_base.specs.Passes.{known, IsAtRest}
use Rattle.pp_reclaim.specs.Sweeps.{Swept}

pub rest_after : {E A W : Type 0} (z : Sizes) (many : ℕ) (s s' : Seat Unit (SeatView E A W)) (p p' : Purse) → Swept z many s s' p p'
    → IsAtRest (known s) p → IsAtRest (known s') p'
rest_after {E} {A} {W} z many s s' p p' w rest = record {
  scan = ap (λ (q : PassState W). q.scan.read) w.known_is;
  spent = w.purse.spent ∙ rest.spent;
  frontier = subst (λ (q : PassState W). (j : ℕ) → j < 4 → IsUnused j q → guarding q j ≡ 0) (sym w.known_is) rest.frontier;
}
