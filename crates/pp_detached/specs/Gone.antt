-- The records that a pass detached can't be reached.
use Rattle.std.specs.Prelude.{ℕ, List}
use Rattle.pp_link.specs.declared.layout.Sizes.{Sizes}
use Rattle.pp_rule.specs.Lists.{IsIn}
use Rattle.pp_rule.specs.Orders.{replayed, entries_of}
use Rattle.pp_rule.specs.Reached.{Reached}
use Rattle.pp_rule.specs.declared.views.Chain.{Chain}
use Rattle.pp_rule.specs.declared.views.SeatView.{SeatView}

-- In the words that stand after the steps that the pass has seen, no record of its chains in hand can be reached.
pub record AreGone {E A W : Type 0} (sides : ℕ) (z : Sizes) (opens : List ℕ) (v : SeatView E A W) : Type 0 where
  pub gone : (c : Chain) (n : ℕ) → IsIn c v.known.chains → IsIn n c.records
      → Reached sides z (replayed opens (entries_of v.order)) n → ⊥
