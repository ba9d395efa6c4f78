-- What one try to put a free record on a shelf, and one to take one from there, make of a pass.
use Rattle.std.specs.Prelude.{◌≡◌, ◌≢◌, ◌⊎◌, ℕ, ◌*◌, ◌<◌, ◌≤◌, List, length, replicate}
use Rattle.pp_link.specs.declared.layout.Sizes.{Sizes}
use Rattle.pp_link.specs.Places.{shelf_place}
use Rattle.pp_rule.specs.Lists.{IsIn}
use Rattle.pp_rule.specs.declared.views.PassState.{PassState}
use Rattle.pp_rule.specs.declared.views.SeatView.{SeatView}
use Rattle.pp_rule.specs.Shelves.{PutOnShelf, TookFromShelf}
use Rattle.pp_base.specs.declared.purse.Purse.{Purse}
use Rattle.pp_base.specs.Passes.{IsAtRest}
use Rattle.pp_base.specs.Named.{misses, unshelves, in_turn, Made}
use Rattle.pp_base.specs.Shelves.{FreeWithoutLast, FreeWithLast}

-- Nothing of the pass changed but the records that it owns, and of its lists nothing but the free one.
pub record MovesFree {W : Type 0} (q q' : PassState W) (p p' : Purse) : Type 0 where
  pub known : q' ≡ record q { owned = q'.owned }
  pub lists : p' ≡ record p { free = p'.free }
  pub rest : IsAtRest q p → IsAtRest q' p'

module _ {E A W : Type 0} where
  -- The exchanges at so many shelf words, from the first on, found these words, none of which is 0. The pass is known as before.
  pub record MissesShelves (z : Sizes) (count : ℕ) (v w : SeatView E A W) : Type 0 where
    pub words : List ℕ
    pub count_is : length words ≡ count
    pub taken : (word : ℕ) → IsIn word words → word ≢ 0
    pub steps : Made (in_turn misses (shelf_place z 0) words) v w
    pub known_is : w.known ≡ v.known

  -- The last free number went to the first shelf word that an exchange found to be 0.
  pub record PutsLast (z : Sizes) (v w : SeatView E A W) (p p' : Purse) : Type 0 where
    pub shelf : ℕ
    pub low : shelf < 8 * z.passes
    pub between : SeatView E A W
    pub missed : MissesShelves z shelf v between
    pub number : ℕ
    pub put : PutOnShelf number (shelf_place z shelf) between w
    pub free : FreeWithoutLast number p p'

  -- No number went to a shelf: no more are free than the pass was dealt, and it made no step; or each exchange found a word other
  -- than 0.
  pub record PutsNone (z : Sizes) (share : ℕ) (v w : SeatView E A W) (p p' : Purse) : Type 0 where
    pub why : ((length p.free.items ≤ share) × (w ≡ v)) ⊎ ((share < length p.free.items) × MissesShelves z (8 * z.passes) v w)
    pub lists : p' ≡ p

  -- The swaps of 0 at so many shelf words, from the first on, found 0. The pass is known as before.
  pub record EmptiesNone (z : Sizes) (count : ℕ) (v w : SeatView E A W) : Type 0 where
    pub steps : Made (in_turn unshelves (shelf_place z 0) (replicate count 0)) v w
    pub known_is : w.known ≡ v.known

  -- The number n came from the first shelf word that a swap found to be other than 0, and is the last free one.
  pub record TakesFirst (z : Sizes) (n : ℕ) (v w : SeatView E A W) (p p' : Purse) : Type 0 where
    pub shelf : ℕ
    pub low : shelf < 8 * z.passes
    pub between : SeatView E A W
    pub empty : EmptiesNone z shelf v between
    pub took : TookFromShelf n (shelf_place z shelf) between w
    pub free : FreeWithLast n p p'

  -- No shelf word had a number.
  pub record TakesNone (z : Sizes) (v w : SeatView E A W) (p p' : Purse) : Type 0 where
    pub empty : EmptiesNone z (8 * z.passes) v w
    pub lists : p' ≡ p
