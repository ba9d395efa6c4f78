-- Where the first byte stands that passes a test.
use Rattle.std.proofs.Common.{◌≡◌, ℕ, ◌≤◌, Bool, cond, ltb, not, false, List, length, Option, Some, None, refl, ⊎_elim, arith}
use Rattle.std.specs.List.{position_or_len, All}
use Rattle.std.specs.Option.{unwrap_or}
use Rattle.std.proofs.lemmas.Bool.{cases_lt, lt-ltb, le-ltb}
use Rattle.std.proofs.lemmas.List.Elements.{All-from_get_or}
use Rattle.std.proofs.lemmas.List.Sums.{prefix_len-le-length, fails_before_first}

pub position_or_len-le : {X : Type 0} (p : X → Bool) (xs : List X) → position_or_len p xs ≤ length xs
position_or_len-le p xs = prefix_len-le-length (λ x. not (p x)) xs

unwrap_or-found : (n m : ℕ) (r : Option ℕ) → n ≤ m → r ≡ cond (ltb n m) (Some n) None → unwrap_or r m ≡ n
unwrap_or-found n m r within e =
    ⊎_elim (λ low. let t = lt-ltb n m low in rw (e, t) refl) (λ high. let t = le-ltb n m high in rw (e, t) (omega arith)) (cases_lt n m)

pub unwrap_or-position : {X : Type 0} (p : X → Bool) (xs : List X) (r : Option ℕ)
    → r ≡ cond (ltb (position_or_len p xs) (length xs)) (Some (position_or_len p xs)) None → unwrap_or r (length xs) ≡ position_or_len p xs
unwrap_or-position p xs r e = unwrap_or-found _ _ r (position_or_len-le p xs) e

-- where the first place is the length, no element passes
pub none-passes : (p : ℕ → Bool) (xs : List ℕ) → length xs ≤ position_or_len p xs → All (λ x. p x ≡ false) xs
none-passes p xs far = All-from_get_or (λ x. p x ≡ false) xs 0 (λ i within. fails_before_first p xs i 0 (omega arith))
