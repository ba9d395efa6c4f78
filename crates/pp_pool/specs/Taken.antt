-- The records that a pass took from its free list, and what becomes of its purse as they are taken and spent.
use Rattle.std.specs.Prelude.{◌≡◌, ℕ, ◌+◌, ◌-◌, ◌/◌, ◌%◌, ◌^◌, ◌<◌, ◌≤◌, min, [], ◌∷◌, ◌++◌, length, vec_capacity}
use Rattle.atomic_table.specs.declared.shared.Seat.{Seat}
use Rattle.pp_link.specs.declared.layout.Sizes.{Sizes}
use Rattle.pp_link.specs.declared.layout.Field.{Field}
use Rattle.pp_link.specs.declared.layout.Field.TheVariants as fields
use Rattle.pp_rule.specs.Lists.{times}
use Rattle.pp_rule.specs.declared.views.PassState.{PassState}
use Rattle.pp_rule.specs.declared.views.SeatView.{SeatView}
use Rattle.pp_base.specs.Made.{WroteOwned}
use Rattle.pp_base.specs.declared.purse.Purse.{Purse}
use Rattle.pp_base.specs.declared.source.Side.{Side}
use Rattle.pp_base.specs.declared.source.Side.TheVariants.{Left, Right}
use Rattle.pp_base.specs.Passes.{owned_numbers}

module _ {W : Type 0} where
  -- the pass owns the record n, and it isn't on the free list: it was taken
  abbrev pub IsPrivate : PassState W → Purse → ℕ → Type 0
  IsPrivate q p n = times n p.free.items < times n (owned_numbers q)

  -- A step of the pass has published the record n since it was taken, so it isn't private any more, and more records count as
  -- taken than are private.
  pub record IsPublished (q : PassState W) (p : Purse) (n : ℕ) : Type 0 where
    pub gone : times n (owned_numbers q) ≤ times n p.free.items
    pub untold : length q.owned < length p.free.items + p.taken

-- the last number of the free list was taken; the count of those that are out stands still at its type's end
pub record Took (n : ℕ) (p p' : Purse) : Type 0 where
  pub free : p.free.items ≡ p'.free.items ++ n ∷ []
  pub room : vec_capacity p'.free ≡ vec_capacity p.free
  pub retired_are : p'.retired ≡ p.retired
  pub spent : p'.spent ≡ p.spent
  pub chains : p'.chains ≡ p.chains
  pub frontier : p'.frontier ≡ p.frontier
  pub taken : p'.taken ≡ min (p.taken + 1) (2 ^ 32 - 1)
  pub going : p'.going ≡ p.going

-- the number is free again, the last one of the list, and one fewer is out
pub record GaveBack (n : ℕ) (p p' : Purse) : Type 0 where
  pub free : p'.free.items ≡ p.free.items ++ n ∷ []
  pub room : vec_capacity p.free ≤ vec_capacity p'.free
  pub retired_are : p'.retired ≡ p.retired
  pub spent : p'.spent ≡ p.spent
  pub chains : p'.chains ≡ p.chains
  pub frontier : p'.frontier ≡ p.frontier
  pub taken : p'.taken + 1 ≡ p.taken
  pub going : p'.going ≡ p.going

-- one record fewer is out
abbrev pub one_fewer_out : Purse → Purse
one_fewer_out p = record p { taken = p.taken - 1 }

-- the field that is this link of a record
abbrev pub link_field : Side → Field
link_field Left = fields.Left
link_field Right = fields.Right

-- The two halves of a value are stored in a record that the pass owns, the low one first.
pub record WroteValue {E A W : Type 0} (z : Sizes) (n value : ℕ) (s s' : Seat Unit (SeatView E A W)) : Type 0 where
  pub middle : Seat Unit (SeatView E A W)
  pub low : WroteOwned z n fields.Value (value % 2 ^ 64) s middle
  pub high : WroteOwned z n fields.High (value / 2 ^ 64) middle s'
