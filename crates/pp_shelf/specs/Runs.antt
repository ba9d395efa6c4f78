-- What runs of such tries make of a pass, and what the steps of tries show.
use Rattle.std.specs.Prelude.{◌≡◌, ◌⊎◌, ℕ, zero, suc, ◌*◌, ◌<◌, ◌≤◌, List, length, drop}
use Rattle.pp_link.specs.declared.layout.Sizes.{Sizes}
use Rattle.pp_link.specs.Places.{shelf_place}
use Rattle.pp_model.specs.declared.steps.Step.{Step}
use Rattle.pp_model.specs.Pass.{MapSizes}
use Rattle.pp_rule.specs.Lists.{IsIn, BeginsWith}
use Rattle.pp_rule.specs.declared.views.SeatView.{SeatView}
use Rattle.pp_rule.specs.Orders.{made_by, placed_by, missed_step, shelve_step, unshelve_step}
use Rattle.pp_rule.specs.Causes.{pool_sizes}
use Rattle.pp_base.specs.declared.purse.Purse.{Purse}
use Rattle.pp_base.specs.Named.{NamedStep, Made}
use Rattle.pp_shelf.specs.Shelves.{PutsLast, PutsNone, TakesFirst, TakesNone}

-- the step is one at a shelf word
pub record IsShelfStep (z : Sizes) (s : NamedStep) : Type 0 where
  pub shelf : ℕ
  pub low : shelf < 8 * z.passes
  pub place : s.place ≡ shelf_place z shelf
  pub kind : (s.kind ≡ missed_step) ⊎ ((s.kind ≡ shelve_step) ⊎ (s.kind ≡ unshelve_step))

module _ {E A W : Type 0} where
  -- The pass made steps at shelf words, and no others. The order that it has seen grew, and no call of it was placed.
  pub record MadeAtShelves (z : Sizes) (v w : SeatView E A W) : Type 0 where
    pub steps : List NamedStep
    pub made : Made steps v w
    pub each : (s : NamedStep) → IsIn s steps → IsShelfStep z s
    pub order : BeginsWith w.order v.order
    pub placed : placed_by v.known.number w.order ≡ placed_by v.known.number v.order

  -- so many numbers went to shelves, one after another, each as long as more were free than the share has
  abbrev pub PutsMany : Sizes → ℕ → ℕ → SeatView E A W → Purse → SeatView E A W → Purse → Type 0
  PutsMany z share zero v p w p' = (w ≡ v) × (p' ≡ p)
  PutsMany z share (suc count) v p w p' = (u : SeatView E A W) × ((r : Purse)
      × ((share < length p.free.items) × PutsLast z v u p r × PutsMany z share count u r w p'))

  -- Numbers went to shelves, as many as could, and then none did.
  pub record Tidies (z : Sizes) (share : ℕ) (v w : SeatView E A W) (p p' : Purse) : Type 0 where
    pub count : ℕ
    pub between : SeatView E A W
    pub lists : Purse
    pub puts : PutsMany z share count v p between lists
    pub last : PutsNone z share between w lists p'

  -- so many numbers came from shelves, one after another, each as long as fewer were free than are enough
  abbrev pub TakesMany : Sizes → ℕ → ℕ → SeatView E A W → Purse → SeatView E A W → Purse → Type 0
  TakesMany z enough zero v p w p' = (w ≡ v) × (p' ≡ p)
  TakesMany z enough (suc count) v p w p' = (u : SeatView E A W) × ((r : Purse) × ((n : ℕ)
      × ((length p.free.items < enough) × TakesFirst z n v u p r × TakesMany z enough count u r w p')))

  -- Numbers came from shelves until enough were free, or no shelf word had one.
  pub record Collects (z : Sizes) (enough : ℕ) (v w : SeatView E A W) (p p' : Purse) : Type 0 where
    pub count : ℕ
    pub between : SeatView E A W
    pub lists : Purse
    pub takes : TakesMany z enough count v p between lists
    pub last : ((enough ≤ length lists.free.items) × (w ≡ between) × (p' ≡ lists))
        ⊎ ((length lists.free.items < enough) × TakesNone z between w lists p')

  -- the steps that the pass of a seat has made since it had this view
  abbrev pub steps_made : SeatView E A W → SeatView E A W → List Step
  steps_made v w = drop (length (made_by v.known.number v.order)) (made_by v.known.number w.order)

-- the sizes of a pool as those of a map over it
abbrev pub map_sizes : Sizes → MapSizes
map_sizes z = record { passes = z.passes; records = z.records; heads = z.heads }

-- these steps found each shelf word empty: a swap of 0 found 0 there
pub record FoundEmpty (z : MapSizes) (steps : List Step) : Type 0 where
  pub each : (j : ℕ) → j < 8 * z.passes
      → (s : Step) × (IsIn s steps × (s.kind ≡ unshelve_step) × (s.place ≡ shelf_place (pool_sizes z) j) × (s.word ≡ 0))
