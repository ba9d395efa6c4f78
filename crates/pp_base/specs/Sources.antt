-- The places of the links that a pass may load.
use Rattle.std.specs.Prelude.{◌≡◌, ℕ, ◌+◌, ◌<◌, Bool, true}
use Rattle.pp_link.specs.declared.layout.Sizes.{Sizes}
use Rattle.pp_link.specs.Places.{head_place, cell_place}
use Rattle.pp_rule.specs.declared.views.PassState.{PassState}
use Rattle.pp_rule.specs.Views.{slot}
use Rattle.pp_rule.specs.Steps.{learning}
use Rattle.pp_base.specs.declared.source.Side.{Side}
use Rattle.pp_base.specs.declared.source.Side.TheVariants.{Left, Right}
use Rattle.pp_base.specs.declared.source.Place.{Place}
use Rattle.pp_base.specs.declared.source.Place.TheVariants.{Head, Walk}

abbrev pub side_number : Side → ℕ
side_number Left = 0
side_number Right = 1

module _ {W : Type 0} where
  -- where that link stands
  abbrev pub source_place : Sizes → PassState W → Place → Side → ℕ
  source_place z q (Head h) side = head_place z h
  source_place z q (Walk i) side = cell_place z (slot q i).named (2 + side_number side)

  -- The pool has this head, or the pass holds a record in this walk word, and the structure uses this link of it.
  abbrev pub IsReadable : ℕ → Sizes → PassState W → Place → Side → Type 0
  IsReadable sides z q (Head h) side = h < z.heads
  IsReadable sides z q (Walk i) side = (i < 5) × (side_number side < sides) × ((slot q i).held ≡ true)

  -- where a frozen link was loaded that a held record has, it is learnt
  abbrev pub learning_at : (ℕ → Bool) → Place → Side → ℕ → PassState W → PassState W
  learning_at frozen (Head h) side word q = q
  learning_at frozen (Walk i) side word q = learning frozen i (side_number side) word q
