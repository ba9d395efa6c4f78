-- Words on what a seat knows.
use Rattle.std.specs.Prelude.{ℕ, ◌+◌, ◌*◌, ◌^◌, false, cond, List, [], ◌∷◌, slice_index_or}
pub use Rattle.pp_rule.specs.declared.views.WalkSlot.{WalkSlot}
pub use Rattle.pp_rule.specs.declared.views.Halves.{Halves}
pub use Rattle.pp_rule.specs.declared.views.ChainLink.{ChainLink}
pub use Rattle.pp_rule.specs.declared.views.Chain.{Chain}
pub use Rattle.pp_rule.specs.declared.views.PrivateRecord.{PrivateRecord}
pub use Rattle.pp_rule.specs.declared.views.Scan.{Scan}
pub use Rattle.pp_rule.specs.declared.views.PassState.{PassState}
pub use Rattle.pp_rule.specs.declared.views.JoinedOrder.{JoinedOrder}
pub use Rattle.pp_rule.specs.declared.views.SeatView.{SeatView}

-- the value of these two words
abbrev pub halves : ℕ → ℕ → Halves
halves low high = record { low = low; high = high }

-- a value as one number
abbrev pub value_of : Halves → ℕ
value_of v = v.low + 2 ^ 64 * v.high

-- the walk word names n, and nothing is held in it
abbrev pub naming : ℕ → WalkSlot
naming n = record { named = n; held = false; key = 0; value = halves 0 0; learnt = [] }

-- a walk word as it opens
abbrev pub blank : WalkSlot
blank = naming 0

module _ {W : Type 0} where
  abbrev pub slot : PassState W → ℕ → WalkSlot
  slot q i = slice_index_or q.walk i blank

  abbrev pub guarding : PassState W → ℕ → ℕ
  guarding q j = slice_index_or q.frontier j 0

module _ {E A W : Type 0} where
  -- the passes that the seat stands for
  abbrev pub all_of : SeatView E A W → List (PassState W)
  all_of v = cond v.standing (v.known ∷ v.taken) []
