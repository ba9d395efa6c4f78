-- The words of a table, read by what they are.
use Rattle.std.specs.Prelude.{◌≡◌, ℕ, ◌*◌, ◌<◌, ◌≢◌, List, slice_index}
use Rattle.pp_link.specs.declared.layout.Sizes.{Sizes}
use Rattle.pp_link.specs.Places.{IsNumber, walk_place, frontier_place, shelf_place, head_place, cell_place}

unfoldable pub walk_word : List ℕ → Sizes → ℕ → ℕ → ℕ
walk_word words z pass word = slice_index words (walk_place z pass word)

unfoldable pub frontier_word : List ℕ → Sizes → ℕ → ℕ → ℕ
frontier_word words z pass word = slice_index words (frontier_place z pass word)

unfoldable pub shelf_word : List ℕ → Sizes → ℕ → ℕ
shelf_word words z shelf = slice_index words (shelf_place z shelf)

unfoldable pub head_word : List ℕ → Sizes → ℕ → ℕ
head_word words z head = slice_index words (head_place z head)

unfoldable pub cell_word : List ℕ → Sizes → ℕ → ℕ → ℕ
cell_word words z number field = slice_index words (cell_place z number field)

-- the words of a region are as they were
abbrev pub SameWalks : Sizes → List ℕ → List ℕ → Type 0
SameWalks z old new = (p i : ℕ) → p < z.passes → i < 5 → walk_word new z p i ≡ walk_word old z p i

abbrev pub SameFrontiers : Sizes → List ℕ → List ℕ → Type 0
SameFrontiers z old new = (p j : ℕ) → p < z.passes → j < 4 → frontier_word new z p j ≡ frontier_word old z p j

abbrev pub SameShelves : Sizes → List ℕ → List ℕ → Type 0
SameShelves z old new = (j : ℕ) → j < 8 * z.passes → shelf_word new z j ≡ shelf_word old z j

abbrev pub SameHeads : Sizes → List ℕ → List ℕ → Type 0
SameHeads z old new = (h : ℕ) → h < z.heads → head_word new z h ≡ head_word old z h

abbrev pub SameCells : Sizes → List ℕ → List ℕ → Type 0
SameCells z old new = (n f : ℕ) → IsNumber z n → f < 5 → cell_word new z n f ≡ cell_word old z n f

-- a walk word has a new value, and every other word the one that it had
pub record WalkStored (z : Sizes) (old new : List ℕ) (pass word value : ℕ) : Type 0 where
  pub here : walk_word new z pass word ≡ value
  pub walks : (p i : ℕ) → p < z.passes → i < 5 → ((p ≡ pass) × (i ≡ word) → ⊥) → walk_word new z p i ≡ walk_word old z p i
  pub frontiers : SameFrontiers z old new
  pub shelves : SameShelves z old new
  pub heads : SameHeads z old new
  pub cells : SameCells z old new

-- the same of a frontier word
pub record FrontierStored (z : Sizes) (old new : List ℕ) (pass word value : ℕ) : Type 0 where
  pub here : frontier_word new z pass word ≡ value
  pub frontiers : (p j : ℕ) → p < z.passes → j < 4 → ((p ≡ pass) × (j ≡ word) → ⊥) → frontier_word new z p j ≡ frontier_word old z p j
  pub walks : SameWalks z old new
  pub shelves : SameShelves z old new
  pub heads : SameHeads z old new
  pub cells : SameCells z old new

-- of a shelf word
pub record ShelfStored (z : Sizes) (old new : List ℕ) (shelf value : ℕ) : Type 0 where
  pub here : shelf_word new z shelf ≡ value
  pub shelves : (j : ℕ) → j < 8 * z.passes → j ≢ shelf → shelf_word new z j ≡ shelf_word old z j
  pub walks : SameWalks z old new
  pub frontiers : SameFrontiers z old new
  pub heads : SameHeads z old new
  pub cells : SameCells z old new

-- of a head
pub record HeadStored (z : Sizes) (old new : List ℕ) (head value : ℕ) : Type 0 where
  pub here : head_word new z head ≡ value
  pub heads : (h : ℕ) → h < z.heads → h ≢ head → head_word new z h ≡ head_word old z h
  pub walks : SameWalks z old new
  pub frontiers : SameFrontiers z old new
  pub shelves : SameShelves z old new
  pub cells : SameCells z old new

-- of a field of a record
pub record CellStored (z : Sizes) (old new : List ℕ) (number field value : ℕ) : Type 0 where
  pub here : cell_word new z number field ≡ value
  pub cells : (n f : ℕ) → IsNumber z n → f < 5 → ((n ≡ number) × (f ≡ field) → ⊥) → cell_word new z n f ≡ cell_word old z n f
  pub walks : SameWalks z old new
  pub frontiers : SameFrontiers z old new
  pub shelves : SameShelves z old new
  pub heads : SameHeads z old new
