-- Words on lists.
use Rattle.std.specs.Prelude.{◌≡◌, ℕ, cond, nat_eq, nat_le, List, [], ◌∷◌, ◌++◌, length, zero, suc}
use lib.ListN.{get_elem?}
use mathlib.Core.Option.{some}

-- x stands somewhere in the list
abbrev pub IsIn : {A : Type 0} → A → List A → Type 0
IsIn x xs = (k : ℕ) × (get_elem? xs k ≡ some x)

-- no two places of the list have the same number
abbrev pub OnceBy : {A : Type 0} → (A → ℕ) → List A → Type 0
OnceBy {A} number xs = (k l : ℕ) (x y : A) → get_elem? xs k ≡ some x → get_elem? xs l ≡ some y → number x ≡ number y → k ≡ l

-- the list has each number once
abbrev pub Once : List ℕ → Type 0
Once xs = OnceBy (λ n. n) xs

-- the list begins with the first one
abbrev pub BeginsWith : {A : Type 0} → List A → List A → Type 0
BeginsWith {A} xs first = (rest : List A) × (xs ≡ first ++ rest)

-- the numbers of the list that aren't n
abbrev pub without : ℕ → List ℕ → List ℕ
without n [] = []
without n (x ∷ xs) = cond (nat_eq x n) (without n xs) (x ∷ without n xs)

-- the numbers of the list that don't stand in the other
abbrev pub without_all : List ℕ → List ℕ → List ℕ
without_all [] xs = xs
without_all (n ∷ ns) xs = without_all ns (without n xs)

-- the list without the entry at this index
abbrev pub remove_at : {A : Type 0} → ℕ → List A → List A
remove_at i [] = []
remove_at zero (x ∷ xs) = xs
remove_at (suc i) (x ∷ xs) = x ∷ remove_at i xs

abbrev pub first_of : {A : Type 0} → A → List A → A
first_of d [] = d
first_of d (x ∷ xs) = x

abbrev pub rest_of : {A : Type 0} → List A → List A
rest_of [] = []
rest_of (x ∷ xs) = xs

abbrev pub longer : {A : Type 0} → List A → List A → List A
longer xs ys = cond (nat_le (length xs) (length ys)) ys xs

-- how often the number stands in the list
unfoldable pub times : ℕ → List ℕ → ℕ
times n [] = 0
times n (x ∷ xs) = cond (nat_eq x n) (suc (times n xs)) (times n xs)
