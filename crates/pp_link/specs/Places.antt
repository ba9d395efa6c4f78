-- The places of the words of a pool's table.
use Rattle.std.specs.Prelude.{◌≡◌, ℕ, ◌+◌, ◌*◌, ◌-◌, ◌<◌, ◌≤◌}
use Rattle.pp_link.specs.declared.layout.Sizes.{Sizes}
use Rattle.pp_link.specs.declared.layout.Field.{Field}
use Rattle.pp_link.specs.declared.layout.Field.TheVariants.{Key, Value, Left, Right, High}

-- the sizes are within the limits
pub record IsWithin (z : Sizes) : Type 0 where
  pub some_passes : 1 ≤ z.passes
  pub passes : z.passes ≤ 64
  pub some_records : 8 ≤ z.records
  pub records : z.records ≤ 262144
  pub some_heads : 1 ≤ z.heads
  pub heads : z.heads ≤ 4096

-- a record's number
abbrev pub IsNumber : Sizes → ℕ → Type 0
IsNumber z n = (1 ≤ n) × (n ≤ z.records)

-- the words of a table: the seat word, five walk words and four frontier words a pass, eight shelf words a
-- pass, the heads, and five fields a record
abbrev pub seat_place : ℕ
seat_place = 0

abbrev pub walk_place : Sizes → ℕ → ℕ → ℕ
walk_place z pass word = 1 + 5 * pass + word

abbrev pub frontier_place : Sizes → ℕ → ℕ → ℕ
frontier_place z pass word = 1 + 5 * z.passes + 4 * pass + word

abbrev pub shelf_place : Sizes → ℕ → ℕ
shelf_place z shelf = 1 + 9 * z.passes + shelf

abbrev pub head_place : Sizes → ℕ → ℕ
head_place z head = 1 + 17 * z.passes + head

abbrev pub cell_place : Sizes → ℕ → ℕ → ℕ
cell_place z number field = 1 + 17 * z.passes + z.heads + 5 * (number - 1) + field

-- the number of words
abbrev pub total : Sizes → ℕ
total z = 1 + 17 * z.passes + z.heads + 5 * z.records

-- the number of a record's field
abbrev pub field_number : Field → ℕ
field_number Key = 0
field_number Value = 1
field_number Left = 2
field_number Right = 3
field_number High = 4

-- a word of a table
pub data Word : Type 0 where
  seat : Word
  walk : ℕ → ℕ → Word
  frontier : ℕ → ℕ → Word
  shelf : ℕ → Word
  head : ℕ → Word
  cell : ℕ → ℕ → Word

-- a table of these sizes has this word
abbrev pub IsWordOf : Sizes → Word → Type 0
IsWordOf z seat = Unit {0}
IsWordOf z (walk pass word) = (pass < z.passes) × (word < 5)
IsWordOf z (frontier pass word) = (pass < z.passes) × (word < 4)
IsWordOf z (shelf number) = number < 8 * z.passes
IsWordOf z (head number) = number < z.heads
IsWordOf z (cell number field) = IsNumber z number × (field < 5)

-- where a word stands
abbrev pub place_of : Sizes → Word → ℕ
place_of z seat = seat_place
place_of z (walk pass word) = walk_place z pass word
place_of z (frontier pass word) = frontier_place z pass word
place_of z (shelf number) = shelf_place z number
place_of z (head number) = head_place z number
place_of z (cell number field) = cell_place z number field

-- each word stands below the total, different words stand at different places, and each place is a word's
pub record IsLayout (z : Sizes) : Type 0 where
  pub below : (w : Word) → IsWordOf z w → place_of z w < total z
  pub distinct : (v w : Word) → IsWordOf z v → IsWordOf z w → place_of z v ≡ place_of z w → v ≡ w
  pub each : (place : ℕ) → place < total z → (w : Word) × IsWordOf z w × (place_of z w ≡ place)
