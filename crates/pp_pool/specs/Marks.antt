-- Marks of the numbers that a list doesn't have.
use Rattle.std.specs.Prelude.{◌≡◌, ℕ, zero, suc, ◌+◌, ◌<◌, Bool, false, cond, nat_eq, List, [], ◌∷◌, length, slice_index_or}
use Rattle.pp_rule.specs.Lists.{times}

-- each number below the length of the marks is marked exactly where the list doesn't have it
abbrev pub MarksSpare : List ℕ → List Bool → Type 0
MarksSpare live marks = (n : ℕ) → n < length marks → slice_index_or marks n false ≡ nat_eq (times n live) 0

-- of the first n numbers from low on, those that are marked
unfoldable pub marked : List Bool → ℕ → ℕ → List ℕ
marked marks low zero = []
marked marks low (suc n) = cond (slice_index_or marks low false) (low ∷ marked marks (low + 1) n) (marked marks (low + 1) n)
