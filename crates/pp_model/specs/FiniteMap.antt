-- A finite map, as the list of its pairs by rising keys.
use Rattle.std.specs.Prelude.{◌≡◌, ℕ, ◌<◌, ◌≤◌, cond, nat_eq, nat_lt, List, [], ◌∷◌, length, insert, remove, Option, Some, None}
use Rattle.std.specs.Prelude.{slice_get}
use Rattle.pp_model.specs.declared.Pair.{Pair}
use Rattle.pp_model.specs.Lists.{RisesFrom}

abbrev pub pair : ℕ → ℕ → Pair
pair k v = record { key = k; value = v }

-- the value of a key
abbrev pub find : List Pair → ℕ → Option ℕ
find [] k = None
find (p ∷ m) k = cond (nat_eq p.key k) (Some p.value) (find m k)

-- the map with one more pair, at its place
abbrev pub put : List Pair → ℕ → ℕ → List Pair
put [] k v = pair k v ∷ []
put (p ∷ m) k v = cond (nat_lt k p.key) (pair k v ∷ p ∷ m) (p ∷ put m k v)

-- the map without a key
abbrev pub drop_key : List Pair → ℕ → List Pair
drop_key [] k = []
drop_key (p ∷ m) k = cond (nat_eq p.key k) m (p ∷ drop_key m k)

abbrev pub keys_of : List Pair → List ℕ
keys_of [] = []
keys_of (p ∷ m) = p.key ∷ keys_of m

-- the keys rise
abbrev pub KeysRise : List Pair → Type 0
KeysRise m = RisesFrom 0 (keys_of m)

-- the key k stands at position i of the pairs m
pub record HasKeyAt (m : List Pair) (k i : ℕ) : Type 0 where
  pub within : i < length m
  pub found : (p : Pair) → slice_get m i ≡ Some p → find m k ≡ Some p.value
  pub rest : remove m i ≡ drop_key m k

-- the key k stands nowhere in the pairs m, and its place would be position i
pub record LacksKeyAt (m : List Pair) (k i : ℕ) : Type 0 where
  pub within : i ≤ length m
  pub absent : find m k ≡ None
  pub with_key : (v : ℕ) → insert m i (pair k v) ≡ put m k v
