-- A function with another value at one number, and lists that are looked up by index.
use Rattle.std.proofs.Common.{◌≡◌, ◌≢◌, ◌⊎◌, ℕ, zero, suc, ◌<◌, cond, eqb, List, [], ◌∷◌, ◌++◌, map, length}
use Rattle.std.proofs.Common.{get_or, refl, sym, ap, ◌∙◌, subst, inl, inr, ⊎_elim, arith, eq-eqb, ne_eqb}
use Rattle.std.proofs.Math.Decide.{ℕ_discrete}
use mathlib.Core.Logic.{dite}
use mathlib.Core.Option.{some, some-ne-none, some-injective}
use lib.ListN.{get_elem?}
use Rattle.pp_rule.specs.Lists.{IsIn, OnceBy}

module _ {A : Type 0} where
  unfoldable pub put : (ℕ → A) → ℕ → A → ℕ → A
  put f i a n = cond (eqb n i) a (f n)

  pub put_here : (f : ℕ → A) (i : ℕ) (a : A) → put f i a i ≡ a
  unfolding put
  put_here f i a = ap (λ b. cond b a (f i)) (eq-eqb i i refl)

  pub put_else : (f : ℕ → A) (i : ℕ) (a : A) (n : ℕ) → n ≢ i → put f i a n ≡ f n
  unfolding put
  put_else f i a n ne = ap (λ b. cond b a (f n)) (ne_eqb n i ne)

  -- what is true of the new value and of the others is true of each
  pub put_each : (P : ℕ → A → Type 0) (f : ℕ → A) (i : ℕ) (a : A) → P i a → ((n : ℕ) → n ≢ i → P n (f n)) → (n : ℕ) → P n (put f i a n)
  put_each P f i a here others n = dite (ℕ_discrete n i)
      (λ e. subst (λ k. P k (put f i a k)) (sym e) (subst (P i) (sym (put_here f i a)) here))
      (λ ne. subst (P n) (sym (put_else f i a n ne)) (others n ne))

  pub in_nil : (x : A) → IsIn x [] → ⊥
  in_nil x i = some-ne-none x (sym i.1)

  pub in_first : (x : A) (xs : List A) → IsIn x (x ∷ xs)
  in_first x xs = (0, refl)

  pub in_later : (x y : A) (ys : List A) → IsIn x ys → IsIn x (y ∷ ys)
  in_later x y ys i = (suc i.0, i.1)

  -- what stands in a list is its first entry or stands in the rest
  pub in_cases : (x y : A) (ys : List A) → IsIn x (y ∷ ys) → (x ≡ y) ⊎ IsIn x ys
  in_cases x y ys (zero, e) = inl (sym (some-injective y x e))
  in_cases x y ys (suc k, e) = inr (k, e)

  pub in_left : (x : A) (xs ys : List A) → IsIn x xs → IsIn x (xs ++ ys)
  in_left x [] ys i = absurd (in_nil x i)
  in_left x (y ∷ xs) ys (zero, e) = (0, e)
  in_left x (y ∷ xs) ys (suc k, e) = let later = in_left x xs ys (k, e) in (suc later.0, later.1)

  pub in_right : (x : A) (xs ys : List A) → IsIn x ys → IsIn x (xs ++ ys)
  in_right x [] ys i = i
  in_right x (y ∷ xs) ys i = let later = in_right x xs ys i in (suc later.0, later.1)

  -- what stands in two lists put together stands in one of them
  pub in_either : (x : A) (xs ys : List A) → IsIn x (xs ++ ys) → IsIn x xs ⊎ IsIn x ys
  in_either x [] ys i = inr i
  in_either x (y ∷ xs) ys (zero, e) = inl (0, e)
  in_either x (y ∷ xs) ys (suc k, e) = ⊎_elim (λ (i : IsIn x xs). inl (suc i.0, i.1)) inr (in_either x xs ys (k, e))

  pub in_last : (x : A) (xs : List A) → IsIn x (xs ++ x ∷ [])
  in_last x xs = in_right x xs (x ∷ []) (in_first x [])

  -- the only entry of a list of one
  pub in_one : (x y : A) → IsIn x (y ∷ []) → y ≡ x
  in_one x y i = ⊎_elim sym (λ later. absurd (in_nil x later)) (in_cases x y [] i)

  pub only : (x y : A) (k : ℕ) → get_elem? (y ∷ []) k ≡ some x → k ≡ 0
  only x y zero e = refl
  only x y (suc k) e = absurd (some-ne-none x (sym e))

  pub at_below : (xs : List A) (k : ℕ) (x : A) → get_elem? xs k ≡ some x → k < length xs
  at_below [] k x e = absurd (some-ne-none x (sym e))
  at_below (y ∷ xs) zero x e = omega arith
  at_below (y ∷ xs) (suc k) x e = let below = at_below xs k x e in omega arith

  pub at_get : (xs : List A) (k : ℕ) (x d : A) → get_elem? xs k ≡ some x → get_or xs k d ≡ x
  at_get [] k x d e = absurd (some-ne-none x (sym e))
  at_get (y ∷ xs) zero x d e = some-injective y x e
  at_get (y ∷ xs) (suc k) x d e = at_get xs k x d e

  pub get_at : (xs : List A) (k : ℕ) (d : A) → k < length xs → get_elem? xs k ≡ some (get_or xs k d)
  get_at [] k d lt = absurd (omega arith)
  get_at (y ∷ xs) zero d lt = refl
  get_at (y ∷ xs) (suc k) d lt = get_at xs k d (omega arith)

  module _ {B : Type 0} (f : A → B) where
    -- where two lists have the same images, each entry of one has its like in the other, at the same index
    pub image_at : (xs ys : List A) → map f ys ≡ map f xs → (k : ℕ) (y : A) → get_elem? ys k ≡ some y
        → (x : A) × ((get_elem? xs k ≡ some x) × (f x ≡ f y))
    image_at xs ys same k y e = from_map xs k (f y) (ap (λ (l : List B). get_elem? l k) (sym same) ∙ map_at ys k y e)
      where
        map_at : (ys : List A) (k : ℕ) (y : A) → get_elem? ys k ≡ some y → get_elem? (map f ys) k ≡ some (f y)
        map_at [] k y e = absurd (some-ne-none y (sym e))
        map_at (z ∷ ys) zero y e = ap (λ a. some (f a)) (some-injective z y e)
        map_at (z ∷ ys) (suc k) y e = map_at ys k y e

        from_map : (xs : List A) (k : ℕ) (b : B) → get_elem? (map f xs) k ≡ some b → (x : A) × ((get_elem? xs k ≡ some x) × (f x ≡ b))
        from_map [] k b e = absurd (some-ne-none b (sym e))
        from_map (x ∷ xs) zero b e = (x, (refl, some-injective (f x) b e))
        from_map (x ∷ xs) (suc k) b e = from_map xs k b e

  pub once_same : (number : A → ℕ) (xs ys : List A) → map number ys ≡ map number xs → OnceBy number xs → OnceBy number ys
  once_same number xs ys same once k l x y at_k at_l e =
      let a = image_at number xs ys same k x at_k in let b = image_at number xs ys same l y at_l in
      once k l a.0 b.0 a.1.0 b.1.0 (a.1.1 ∙ (e ∙ sym b.1.1))
