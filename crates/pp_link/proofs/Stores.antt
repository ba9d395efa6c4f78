-- A store to one word of a table leaves every other reading as it was.
use Rattle.std.proofs.Common.{◌≡◌, ◌≢◌, ℕ, ◌*◌, ◌<◌, List, length, arith}
use Rattle.std.proofs.Math.ListN.{set, get_or}
use Rattle.std.proofs.lemmas.List.{get_or-set_same, get_or-set_other}
use Rattle.pp_link.specs.declared.layout.Sizes.{Sizes}
use Rattle.pp_link.specs.Places.{IsNumber, total, walk_place, frontier_place, shelf_place, head_place, cell_place}
use Rattle.pp_link.specs.Words.{walk_word, frontier_word, shelf_word, head_word, cell_word, WalkStored, FrontierStored}
use Rattle.pp_link.specs.Words.{ShelfStored, HeadStored, CellStored}

module _ (z : Sizes) (words : List ℕ) (value : ℕ) (size : length words ≡ total z) where
  -- a reading at another place
  other : (place at : ℕ) → at ≢ place → get_or (set words place value) at 0 ≡ get_or words at 0
  other place at differ = get_or-set_other words place at value 0 differ

  here : (place : ℕ) → place < total z → get_or (set words place value) place 0 ≡ value
  here place low = get_or-set_same words place value 0 (omega arith)

  pub walk_stored : (p i : ℕ) → p < z.passes → i < 5 → WalkStored z words (set words (walk_place z p i) value) p i value
  unfolding walk_word frontier_word shelf_word head_word cell_word
  walk_stored p i pass word = record {
    here = here (walk_place z p i) (omega arith);
    walks = λ q j lt five differ. other (walk_place z p i) (walk_place z q j) (λ e. differ (omega arith, omega arith));
    frontiers = λ q j lt four. other (walk_place z p i) (frontier_place z q j) (omega arith);
    shelves = λ j lt. other (walk_place z p i) (shelf_place z j) (omega arith);
    heads = λ h lt. other (walk_place z p i) (head_place z h) (omega arith);
    cells = λ n f number field. other (walk_place z p i) (cell_place z n f) (omega arith);
  }

  pub frontier_stored : (p i : ℕ) → p < z.passes → i < 4 → FrontierStored z words (set words (frontier_place z p i) value) p i value
  unfolding walk_word frontier_word shelf_word head_word cell_word
  frontier_stored p i pass word = record {
    here = here (frontier_place z p i) (omega arith);
    frontiers = λ q j lt four differ. other (frontier_place z p i) (frontier_place z q j) (λ e. differ (omega arith, omega arith));
    walks = λ q j lt five. other (frontier_place z p i) (walk_place z q j) (omega arith);
    shelves = λ j lt. other (frontier_place z p i) (shelf_place z j) (omega arith);
    heads = λ h lt. other (frontier_place z p i) (head_place z h) (omega arith);
    cells = λ n f number field. other (frontier_place z p i) (cell_place z n f) (omega arith);
  }

  pub shelf_stored : (shelf : ℕ) → shelf < 8 * z.passes → ShelfStored z words (set words (shelf_place z shelf) value) shelf value
  unfolding walk_word frontier_word shelf_word head_word cell_word
  shelf_stored shelf low = record {
    here = here (shelf_place z shelf) (omega arith);
    shelves = λ j lt differ. other (shelf_place z shelf) (shelf_place z j) (λ e. differ (omega arith));
    walks = λ q j lt five. other (shelf_place z shelf) (walk_place z q j) (omega arith);
    frontiers = λ q j lt four. other (shelf_place z shelf) (frontier_place z q j) (omega arith);
    heads = λ h lt. other (shelf_place z shelf) (head_place z h) (omega arith);
    cells = λ n f number field. other (shelf_place z shelf) (cell_place z n f) (omega arith);
  }

  pub head_stored : (head : ℕ) → head < z.heads → HeadStored z words (set words (head_place z head) value) head value
  unfolding walk_word frontier_word shelf_word head_word cell_word
  head_stored head low = record {
    here = here (head_place z head) (omega arith);
    heads = λ h lt differ. other (head_place z head) (head_place z h) (λ e. differ (omega arith));
    walks = λ q j lt five. other (head_place z head) (walk_place z q j) (omega arith);
    frontiers = λ q j lt four. other (head_place z head) (frontier_place z q j) (omega arith);
    shelves = λ j lt. other (head_place z head) (shelf_place z j) (omega arith);
    cells = λ n f number field. other (head_place z head) (cell_place z n f) (omega arith);
  }

  pub cell_stored : (n f : ℕ) → IsNumber z n → f < 5 → CellStored z words (set words (cell_place z n f) value) n f value
  unfolding walk_word frontier_word shelf_word head_word cell_word
  cell_stored n f number field = record {
    here = here (cell_place z n f) (omega arith);
    cells = λ m g other_number other_field differ. other (cell_place z n f) (cell_place z m g) (λ e. differ (omega arith, omega arith));
    walks = λ q j lt five. other (cell_place z n f) (walk_place z q j) (omega arith);
    frontiers = λ q j lt four. other (cell_place z n f) (frontier_place z q j) (omega arith);
    shelves = λ j lt. other (cell_place z n f) (shelf_place z j) (omega arith);
    heads = λ h lt. other (cell_place z n f) (head_place z h) (omega arith);
  }
