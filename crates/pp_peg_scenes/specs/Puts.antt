-- A peg that was pulled out and is free again is put back.
use Rattle.std.specs.Prelude.{◌≡◌, ◌≢◌, ℕ, ◌*◌}
use lib.ListN.{get_elem?}
use mathlib.Core.Option.{some}
use Rattle.pp_rule.specs.Lists.{remove_at}
use Rattle.pp_rule.specs.Orders.{missed_step}
use Rattle.pp_rule.specs.declared.views.PrivateRecord.{PrivateRecord}
use Rattle.pp_rule.specs.declared.views.PassState.{PassState}
use Rattle.pp_rule.specs.declared.views.SeatView.{SeatView}
use Rattle.pp_rule.specs.Steps.{MadeQuietStep}
use Rattle.pp_peg_scenes.specs.Pegs.{next_peg, peg_link}

-- an exchange that publishes a peg
abbrev pub put_step : ℕ
put_step = 17

-- the pass owns the record n, whose link is that of the peg n
pub record HasPeg {W : Type 0} (n : ℕ) (q : PassState W) : Type 0 where
  pub index : ℕ
  pub was : PrivateRecord
  pub at : get_elem? q.owned index ≡ some was
  pub number_is : was.number ≡ n
  pub left : was.left ≡ peg_link n

-- The head led to the peg behind the peg n, and leads to the peg n now, which the pass owns no more. Or it led elsewhere.
pub record PutBack {E A W : Type 0} (n place found : ℕ) (before after : SeatView E A W) : Type 0 where
  pub index : ℕ
  pub was : PrivateRecord
  pub at : get_elem? before.known.owned index ≡ some was
  pub number_is : was.number ≡ n
  pub same : found ≡ 16 * next_peg n
      → MadeQuietStep put_step place found (16 * n)
      (record before.known { owned = remove_at index before.known.owned }) before after
  pub other : found ≢ 16 * next_peg n → MadeQuietStep missed_step place found found before.known before after
