-- The loads of a held record's value.
use Rattle.std.specs.Prelude.{◌≡◌, ℕ, ◌+◌, ◌*◌, ◌^◌}
use Rattle.atomic_table.specs.declared.shared.Seat.{Seat}
use Rattle.pp_link.specs.declared.layout.Sizes.{Sizes}
use Rattle.pp_link.specs.declared.layout.Field.TheVariants.{Value, High}
use Rattle.pp_rule.specs.declared.views.SeatView.{SeatView}
use Rattle.pp_base.specs.Made.{ReadHeld}

-- both halves of the value of the record that is held in the walk word i are loaded, the low one first
pub record ReadValue {E A W : Type 0} (z : Sizes) (i value : ℕ) (s s' : Seat Unit (SeatView E A W)) : Type 0 where
  pub low : ℕ
  pub high : ℕ
  pub is : value ≡ low + 2 ^ 64 * high
  pub middle : Seat Unit (SeatView E A W)
  pub first : ReadHeld z i Value low s middle
  pub second : ReadHeld z i High high middle s'
