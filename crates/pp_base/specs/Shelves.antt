-- The steps of a pass at shelf words, said of its seat and of its purse.
use Rattle.std.specs.Prelude.{◌≡◌, ◌≢◌, ℕ, ◌≤◌, [], ◌∷◌, ◌++◌, vec_capacity}
use Rattle.atomic_table.specs.declared.shared.Seat.{Seat}
use Rattle.pp_link.specs.declared.layout.Sizes.{Sizes}
use Rattle.pp_link.specs.Places.{shelf_place}
use Rattle.pp_rule.specs.declared.views.SeatView.{SeatView}
use Rattle.pp_rule.specs.Orders.{missed_step, unshelve_step}
use Rattle.pp_rule.specs.Steps.{MadeQuietStep}
use Rattle.pp_rule.specs.Shelves.{PutOnShelf, TookFromShelf}
use Rattle.pp_base.specs.declared.purse.Purse.{Purse}
use Rattle.pp_base.specs.Passes.{known, view}

-- the number n, the last one of the free list, has left it, and nothing else changed
pub record FreeWithoutLast (n : ℕ) (p p' : Purse) : Type 0 where
  pub rest : p' ≡ record p { free = p'.free }
  pub free : p.free.items ≡ p'.free.items ++ n ∷ []
  pub room : vec_capacity p'.free ≡ vec_capacity p.free

-- the number n came behind the free ones, and nothing else changed
pub record FreeWithLast (n : ℕ) (p p' : Purse) : Type 0 where
  pub rest : p' ≡ record p { free = p'.free }
  pub free : p'.free.items ≡ p.free.items ++ n ∷ []
  pub room : vec_capacity p.free ≤ vec_capacity p'.free

module _ {E A W : Type 0} where
  -- An exchange of 0 for the last free number at the shelf word j. Where the word was 0, that number went to the shelf, and it is
  -- no longer free with the pass. Else nothing changed.
  pub record TriesShelf (z : Sizes) (j found : ℕ) (s s' : Seat Unit (SeatView E A W)) (p p' : Purse) : Type 0 where
    pub put : found ≡ 0 → (n : ℕ) × (PutOnShelf n (shelf_place z j) (view s) (view s') × FreeWithoutLast n p p')
    pub taken : found ≢ 0 → MadeQuietStep missed_step (shelf_place z j) found found (known s) (view s) (view s') × (p' ≡ p)

  -- The number n came from the shelf word j to the pass, and is free with it.
  pub record GetsFromShelf (z : Sizes) (j n : ℕ) (s s' : Seat Unit (SeatView E A W)) (p p' : Purse) : Type 0 where
    pub took : TookFromShelf n (shelf_place z j) (view s) (view s')
    pub purse : FreeWithLast n p p'

  -- The shelf word j was 0, and nothing changed.
  pub record FindsNoneOn (z : Sizes) (j : ℕ) (s s' : Seat Unit (SeatView E A W)) (p p' : Purse) : Type 0 where
    pub made : MadeQuietStep unshelve_step (shelf_place z j) 0 0 (known s) (view s) (view s')
    pub purse : p' ≡ p
