-- Lemmas on positions in lists, and on lists that begin others.
use Rattle.std.proofs.Common.{◌≡◌, ℕ, zero, suc, ◌+◌, ◌<◌, ◌≤◌, List, [], ◌∷◌, ◌++◌, length, drop}
use Rattle.std.proofs.Common.{Some, ⊎_elim, ◌⊎◌, inl, inr, refl, sym, ap, ◌∙◌, subst, arith, length-append}
use Rattle.std.proofs.Common.{append-nil, append_assoc}
use Rattle.std.proofs.Math.Seq.{drop-append_seam}
use Rattle.std.specs.Prelude.{slice_get}
use Rattle.pp_model.specs.Lists.{AtEach, IsPrefix}

-- an element of the front of a longer list
pub slice_get-append_left : {A : Type 0} → (xs ys : List A) (k : ℕ) → k < length xs → slice_get (xs ++ ys) k ≡ slice_get xs k
slice_get-append_left [] ys k l = absurd (omega arith)
slice_get-append_left (x ∷ xs) ys zero l = refl
slice_get-append_left (x ∷ xs) ys (suc k) l = slice_get-append_left xs ys k (omega arith)

pub slice_get-append_right : {A : Type 0} → (xs ys : List A) (k : ℕ) → slice_get (xs ++ ys) (length xs + k) ≡ slice_get ys k
slice_get-append_right [] ys k = ap (slice_get ys) (omega arith)
slice_get-append_right {A} (x ∷ xs) ys k =
    let e : suc (length xs) + k ≡ suc (length xs + k) = omega arith in
    ap (slice_get (x ∷ xs ++ ys)) e ∙ slice_get-append_right xs ys k

-- an element of a list with one more stands in the list, or is the new one
pub slice_get_push : {A : Type 0} → (xs : List A) (y : A) (k : ℕ) (x : A) → slice_get (xs ++ y ∷ []) k ≡ Some x
    → (slice_get xs k ≡ Some x) ⊎ ((k ≡ length xs) × (x ≡ y))
slice_get_push [] y zero x e = inr (refl, cc)
slice_get_push [] y (suc k) x e = absurd cc
slice_get_push (z ∷ xs) y zero x e = inl e
slice_get_push (z ∷ xs) y (suc k) x e = ⊎_elim inl (λ h. inr (ap suc h.0, h.1)) (slice_get_push xs y k x e)

pub slice_get_new : {A : Type 0} → (xs : List A) (y : A) → slice_get (xs ++ y ∷ []) (length xs) ≡ Some y
slice_get_new [] y = refl
slice_get_new (x ∷ xs) y = slice_get_new xs y

-- what holds of each element of two lists holds of each of both
pub each_append : {A : Type 0} (P : A → Type 0) (xs ys : List A) → AtEach xs (λ _ x. P x) → AtEach ys (λ _ x. P x)
    → AtEach (xs ++ ys) (λ _ x. P x)
each_append P [] ys front back i x e = back i x e
each_append P (y ∷ xs) ys front back zero x e = front 0 x e
each_append P (y ∷ xs) ys front back (suc i) x e = each_append P xs ys (λ k z at. front (suc k) z at) back i x e

pub each_cons : {A : Type 0} (P : A → Type 0) (y : A) (ys : List A) → P y → AtEach ys (λ _ x. P x) → AtEach (y ∷ ys) (λ _ x. P x)
each_cons P y ys here rest zero x e = let is : y ≡ x = cc in subst P is here
each_cons P y ys here rest (suc i) x e = rest i x e

pub IsPrefix-refl : {A : Type 0} → (xs : List A) → IsPrefix xs xs
IsPrefix-refl xs = ([], sym (append-nil xs))

pub IsPrefix-trans : {A : Type 0} → (xs ys zs : List A) → IsPrefix xs ys → IsPrefix ys zs → IsPrefix xs zs
IsPrefix-trans xs ys zs p q = (p.0 ++ q.0, q.1 ∙ (ap (λ ws. ws ++ q.0) p.1 ∙ append_assoc xs p.0 q.0))

pub IsPrefix-length : {A : Type 0} → (xs ys : List A) → IsPrefix xs ys → length xs ≤ length ys
IsPrefix-length xs ys p = omega (arith, ap length p.1, length-append xs p.0)

-- what a list of three has behind its first part
pub drop_over : {A : Type 0} → (xs ys zs : List A) → IsPrefix xs ys → IsPrefix ys zs
    → drop (length xs) zs ≡ drop (length xs) ys ++ drop (length ys) zs
unfolding IsPrefix-trans
drop_over {A} xs ys zs p q =
    let front : drop (length xs) ys ≡ p.0 = ap (drop (length xs)) p.1 ∙ drop-append_seam xs p.0 in
    let back : drop (length ys) zs ≡ q.0 = ap (drop (length ys)) q.1 ∙ drop-append_seam ys q.0 in
    let all : zs ≡ xs ++ (p.0 ++ q.0) = (IsPrefix-trans xs ys zs p q).1 in
    ap (drop (length xs)) all
    ∙ (drop-append_seam xs (p.0 ++ q.0)
    ∙ (ap (λ (ws : List A). ws ++ q.0) (sym front) ∙ ap (λ (ws : List A). drop (length xs) ys ++ ws) (sym back)))
