-- Words on lists that the definitions share.
use Rattle.std.specs.Prelude.{◌≡◌, ℕ, zero, suc, ◌+◌, ◌≤◌, cond, nat_eq, List, [], ◌∷◌, ◌++◌, Some, slice_get}

-- count numbers from low on
abbrev pub upto : ℕ → ℕ → List ℕ
upto low zero = []
upto low (suc count) = low ∷ upto (low + 1) count

-- each element of a list is so, at its position
abbrev pub AtEach : {A : Type 0} → List A → (ℕ → A → Type 0) → Type 0
AtEach {A} xs P = (k : ℕ) (x : A) → slice_get xs k ≡ Some x → P k x

-- xs is the beginning of ys
abbrev pub IsPrefix : {A : Type 0} → List A → List A → Type 0
IsPrefix {A} xs ys = (more : List A) × (ys ≡ xs ++ more)

-- the numbers rise strictly, the first from low on
abbrev pub RisesFrom : ℕ → List ℕ → Type 0
RisesFrom low [] = Unit {0}
RisesFrom low (n ∷ ns) = (low ≤ n) × RisesFrom (n + 1) ns

-- how often a number stands in a list
abbrev pub times : ℕ → List ℕ → ℕ
times n [] = 0
times n (x ∷ xs) = cond (nat_eq x n) (times n xs + 1) (times n xs)
