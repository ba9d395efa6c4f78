-- The steps of a pass, said of its seat before and after them.
use Rattle.std.specs.Prelude.{◌≡◌, ℕ, Bool, true, List}
use Rattle.atomic_table.specs.Table.{Me, Allows}
use Rattle.atomic_table.specs.declared.shared.Seat.{Seat}
use Rattle.pp_link.specs.declared.layout.Sizes.{Sizes}
use Rattle.pp_link.specs.declared.layout.Field.{Field}
use Rattle.pp_link.specs.Places.{walk_place, cell_place, field_number}
use Rattle.pp_rule.specs.declared.views.SeatView.{SeatView}
use Rattle.pp_rule.specs.Orders.{announce_step, clear_step}
use Rattle.pp_rule.specs.Views.{naming, slot}
use Rattle.pp_rule.specs.States.{PoolState}
use Rattle.pp_rule.specs.Ties.{Holds}
use Rattle.pp_rule.specs.Steps.{MadeQuietStep, with_walk, clearing, LoadedLink, ReadField, Confirmed}
use Rattle.pp_rule.specs.Opening.{opening_words}
use Rattle.pp_rule.specs.Alone.{HasSeen}
use Rattle.pp_base.specs.declared.source.Side.{Side}
use Rattle.pp_base.specs.declared.source.Place.{Place}
use Rattle.pp_base.specs.Passes.{known, view}
use Rattle.pp_base.specs.Sources.{source_place, learning_at}
use Rattle.pp_base.specs.Private.{WroteField}

module _ {E A W : Type 0} where
  -- The rule of a shape allows the seat to change the word at a place so, and after it `then` holds.
  abbrev pub MayStep : ℕ → ℕ → (ℕ → ℕ) → (ℕ → ℕ → ℕ) → (Sizes → List ℕ → PoolState E A W → Type 0) → Sizes → Seat Unit (SeatView E A W) → ℕ
      → (ℕ → ℕ)
      → (ℕ → Me Unit (SeatView E A W) → Type 0) → Type 0
  MayStep sides sentinels head field addition z s place change then =
      Allows (Holds sides (opening_words sentinels head field) addition z) 0 s.id s.me place change then

  -- Where the seat stands for a pass, the order that it has seen is a run of its pool from its opening words, and in a pool of one
  -- pass the rule of the present words is known of it.
  abbrev pub HasRun : ℕ → ℕ → (ℕ → ℕ) → (ℕ → ℕ → ℕ) → (Sizes → List ℕ → PoolState E A W → Type 0) → (E → ℕ) → SeatView E A W → Type 0
  HasRun sides sentinels head field addition caller v = v.standing ≡ true
      → HasSeen sides (opening_words sentinels head field) addition caller v

  -- the number n is stored in the walk word i
  abbrev pub Announced : Sizes → ℕ → ℕ → Seat Unit (SeatView E A W) → Seat Unit (SeatView E A W) → Type 0
  Announced z i n s s' = MadeQuietStep announce_step (walk_place z (known s).number i) n n (with_walk i (naming n) (known s)) (view s)
      (view s')

  -- the walk word i is cleared
  abbrev pub ClearedWord : Sizes → (ℕ → W → W) → ℕ → Seat Unit (SeatView E A W) → Seat Unit (SeatView E A W) → Type 0
  ClearedWord z forget i s s' = MadeQuietStep clear_step (walk_place z (known s).number i) 0 0 (clearing forget i (known s)) (view s)
      (view s')

  -- a field of the record that is held in the walk word i is loaded
  abbrev pub ReadHeld : Sizes → ℕ → Field → ℕ → Seat Unit (SeatView E A W) → Seat Unit (SeatView E A W) → Type 0
  ReadHeld z i field found s s' = ReadField i (field_number field) found (cell_place z (slot (known s) i).named (field_number field))
      (view s) (view s')

  -- the link at a source is loaded
  abbrev pub LoadedAt : Sizes → (ℕ → Bool) → Place → Side → ℕ → Seat Unit (SeatView E A W) → Seat Unit (SeatView E A W) → Type 0
  LoadedAt z frozen at side found s s' = LoadedLink (learning_at frozen at side found (known s)) found (source_place z (known s) at side)
      (view s) (view s')

  -- it is loaded again, for the walk word i and the first word
  abbrev pub ConfirmedAt : Sizes → (ℕ → Bool) → Place → Side → ℕ → ℕ → ℕ → Seat Unit (SeatView E A W)
      → Seat Unit (SeatView E A W) → Type 0
  ConfirmedAt z frozen at side i first found s s' = Confirmed i first found (source_place z (known s) at side)
      (learning_at frozen at side found (known s)) (view s) (view s')

  -- a word is stored in a field of the record with the number n, which the pass owns
  abbrev pub WroteOwned : Sizes → ℕ → Field → ℕ → Seat Unit (SeatView E A W) → Seat Unit (SeatView E A W) → Type 0
  WroteOwned z n field word s s' = WroteField n (field_number field) word (cell_place z n (field_number field)) (view s) (view s')
