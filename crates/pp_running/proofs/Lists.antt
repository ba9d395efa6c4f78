-- Lemmas on lists.
use Rattle.std.proofs.Common.{◌≡◌, ℕ, zero, suc, List, [], ◌∷◌, map, refl, ap}
use Rattle.std.specs.Prelude.{Some, slice_get}

pub pairs_again : {A B : Type 0} (xs : List (A × B)) → map (λ p. (p.0, p.1)) xs ≡ xs
pairs_again [] = refl
pairs_again (x ∷ xs) = ap (λ l. x ∷ l) (pairs_again xs)

-- an element of a mapped list comes from one of the list
pub mapped_at : {A B : Type 0} (f : A → B) (xs : List A) (k : ℕ) (y : B) → slice_get (map f xs) k ≡ Some y
    → (x : A) × (slice_get xs k ≡ Some x) × (f x ≡ y)
mapped_at f [] k y e = absurd (cc)
mapped_at f (x ∷ xs) zero y e = (x, refl, (cc))
mapped_at f (x ∷ xs) (suc k) y e = mapped_at f xs k y e

pub at_mapped : {A B : Type 0} (f : A → B) (xs : List A) (k : ℕ) (x : A) → slice_get xs k ≡ Some x → slice_get (map f xs) k ≡ Some (f x)
at_mapped f [] k x e = absurd (cc)
at_mapped f (y ∷ xs) zero x e = let same : y ≡ x = (cc) in ap (λ z. Some (f z)) same
at_mapped f (y ∷ xs) (suc k) x e = at_mapped f xs k x e
