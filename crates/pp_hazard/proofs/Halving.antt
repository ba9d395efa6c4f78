-- A value is loaded in two halves, and the pass knows the same after each.
use Rattle.std.proofs.Common.{◌≡◌, ℕ, ◌+◌, ◌*◌, ap, ◌∙◌, refl}
use Rattle.atomic_table.specs.declared.shared.Seat.{Seat}
use Rattle.pp_link.specs.declared.layout.Sizes.{Sizes}
use Rattle.pp_link.specs.declared.layout.Field.{Field}
use Rattle.pp_link.specs.declared.layout.Field.TheVariants.{Value, High}
use Rattle.pp_rule.specs.declared.views.PassState.{PassState}
use Rattle.pp_rule.specs.declared.views.SeatView.{SeatView}
use Rattle.pp_rule.specs.Views.{slot, value_of}
use Rattle.pp_rule.proofs.Made.{known_after}
use Rattle.pp_base.specs.Passes.{known, view}
use Rattle.pp_base.specs.Made.{ReadHeld}

module _ {E A W : Type 0} (z : Sizes) (i : ℕ) where
  pub known_read : (f : Field) (n : ℕ) (s s' : Seat Unit (SeatView E A W)) → ReadHeld z i f n s s' → known s' ≡ known s
  known_read f n s s' r = known_after _ _ _ _ _ _ (known s) (view s) (view s') r.made

  -- the halves make the value that the record was published with
  pub value_read : (low high : ℕ) (s t s' : Seat Unit (SeatView E A W)) → ReadHeld z i Value low s t → ReadHeld z i High high t s'
      → low + 18446744073709551616 * high ≡ value_of (slot (known s) i).value
  value_read low high s t s' first second =
      let same : known t ≡ known s = known_read Value low s t first in
      let a : low ≡ (slot (known s) i).value.low = first.low refl in
      let b : high ≡ (slot (known s) i).value.high = second.high refl ∙ ap (λ (q : PassState W). (slot q i).value.high) same in
      ap (λ (n : ℕ). n + 18446744073709551616 * high) a ∙ ap
      (λ (n : ℕ). (slot (known s) i).value.low + 18446744073709551616 * n) b
