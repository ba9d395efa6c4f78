-- What a call on a list has of its purse, and what its parts make of it.
use Rattle.std.specs.Prelude.{◌≡◌, ℕ, Bool, Option, Some, None}
use Rattle.pp_link.specs.declared.layout.Sizes.{Sizes}
use Rattle.pp_pool.specs.declared.fresh.Fresh.{Fresh}
use Rattle.pp_pool.specs.Taken.{IsPrivate}
use Rattle.pp_base.specs.declared.purse.Purse.{Purse}
use Rattle.pp_lists.specs.Lists.{ListPass}
use Rattle.pp_lists.specs.Turns.{ListView}
use Rattle.pp_turns.specs.Causes.{Aside}
use Rattle.pp_turns.specs.Purses as purses
use Rattle.pp_walk.specs.Trod.{Idles}

-- how many records are out
abbrev pub out_of : Option Fresh → ℕ
out_of fresh = purses.out_of 1 fresh

-- no record is out, or this one, which is private
abbrev pub HasOut : ListPass → Purse → Option Fresh → Type 0
HasOut q p None = p.taken ≡ 0
HasOut q p (Some f) = IsPrivate q p f.number × (p.taken ≡ 1)

-- A call that only looked cleared its walk words.
abbrev pub LooksAway : ListView → ListView → Purse → Purse → Type 0
LooksAway v w p p' = purses.LooksAway Idles v w p p'

-- A call cleared its walk words, gave its record back and tidied.
abbrev pub TidiesUp : Sizes → ℕ → Option Fresh → ListView → ListView → Purse → Purse → Type 0
TidiesUp z share fresh v w p p' = purses.TidiesUp Idles z share (out_of fresh) v w p p'

-- what ends a call, by whether it only looked
abbrev pub Leaves : Bool → Sizes → ℕ → Option Fresh → ListView → ListView → Purse → Purse → Type 0
Leaves looks z share fresh v w p p' = purses.Leaves Idles looks z share (out_of fresh) v w p p'

-- A call that had one of its records out already, or none, has this one out. Of the free ones but for it none is gone.
abbrev pub TakesOne : Sizes → Option Fresh → Fresh → ListView → ListView → Purse → Purse → Type 0
TakesOne z had f v w p p' = purses.Takes HasOut 1 z had f v w p p'

-- It had none out, and found none.
abbrev pub TakesNone : Sizes → Option Fresh → ListView → ListView → Purse → Purse → Type 0
TakesNone z had v w p p' = purses.TakesNone 1 z had v w p p'

-- The pass made stores in its private records, and nothing else of it changed.
pub record WritesAside (z : Sizes) (v w : ListView) : Type 0 where
  pub aside : Aside z v w
  pub own : w.known.own ≡ v.known.own
  pub walk : w.known.walk ≡ v.known.walk
  pub number : w.known.number ≡ v.known.number
  pub sizes : w.known.sizes ≡ v.known.sizes
  pub retired_are : w.known.retired ≡ v.known.retired
  pub frontier : w.known.frontier ≡ v.known.frontier
  pub chains : w.known.chains ≡ v.known.chains
  pub scan : w.known.scan ≡ v.known.scan
