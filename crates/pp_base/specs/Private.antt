-- A store to a private record.
use Rattle.std.specs.Prelude.{◌≡◌, ℕ, ◌≤◌}
use lib.ListN.{get_elem?}
use mathlib.Core.Option.{some}
use Rattle.pp_rule.specs.Lists.{times}
use Rattle.pp_rule.specs.Orders.{write_step}
use Rattle.pp_rule.specs.declared.views.PrivateRecord.{PrivateRecord}
use Rattle.pp_rule.specs.declared.views.PassState.{PassState}
use Rattle.pp_rule.specs.declared.views.SeatView.{SeatView}
use Rattle.pp_rule.specs.Steps.{MadeQuietStep, with_private, wrote}
use Rattle.pp_base.specs.Passes.{owned_numbers}

-- a record with this number is free with the pass, or private to it
abbrev pub IsOwned : {W : Type 0} → PassState W → ℕ → Type 0
IsOwned q n = 1 ≤ times n (owned_numbers q)

-- The word is stored in this field of the record with this number, which the pass owns.
pub record WroteField {E A W : Type 0} (number field word place : ℕ) (before after : SeatView E A W) : Type 0 where
  pub index : ℕ
  pub was : PrivateRecord
  pub at : get_elem? before.known.owned index ≡ some was
  pub number_is : was.number ≡ number
  pub made : MadeQuietStep write_step place word word (with_private index (wrote field word was) before.known) before after
