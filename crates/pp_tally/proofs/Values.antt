-- The lines of byte values, one after another.
use Rattle.std.proofs.Common.{◌≡◌, ℕ, zero, suc, ◌+◌, ◌<◌, List, ◌∷◌, ◌++◌, refl, sym, ap, ap₂, ◌∙◌, arith, append-nil}
use Rattle.std.specs.List.{flat_map}
use Rattle.std.proofs.lemmas.List.Concat.{flat_map-append}
use Rattle.pp_model.specs.Lists.{upto}
use Rattle.pp_tally.specs.Text.{value_line, values_text}

upto-split : (low n k : ℕ) → upto low (n + k) ≡ upto low n ++ upto (low + n) k
upto-split low zero k = let a : 0 + k ≡ k = omega arith in let b : low ≡ low + 0 = omega arith in
    ap (upto low) a ∙ ap (λ (m : ℕ). upto m k) b
upto-split low (suc n) k =
    let a : suc n + k ≡ suc (n + k) = omega arith in let b : low + 1 + n ≡ low + suc n = omega arith in
    ap (upto low) a ∙ ap (λ (l : List ℕ). low ∷ l) (upto-split (low + 1) n k
    ∙ ap (λ (m : ℕ). upto (low + 1) n ++ upto m k) b)

-- the lines of the first n values, and those after them
pub values_whole : (f : ℕ → ℕ) (n k whole : ℕ) → whole ≡ n + k
    → values_text f whole ≡ values_text f n ++ flat_map (λ value. value_line value (f value)) (upto n k)
values_whole f n k whole is =
    ap (values_text f) is
    ∙ (ap (flat_map (λ value. value_line value (f value))) (upto-split 0 n k ∙ ap (λ (m : ℕ). upto 0 n ++ upto m k) (none n))
    ∙ flat_map-append (λ value. value_line value (f value)) (upto 0 n) (upto n k))
  where
    none : (n : ℕ) → 0 + n ≡ n
    none n = omega arith

-- one more value
pub values_more : (f : ℕ → ℕ) (n count : ℕ) → count ≡ f n → values_text f (n + 1) ≡ values_text f n ++ value_line n count
values_more f n count is =
    values_whole f n 1 (n + 1) refl
    ∙ ap (λ (l : List ℕ). values_text f n ++ l) (append-nil (value_line n (f n)) ∙ ap (value_line n) (sym is))

-- equal counts have the same lines
pub values_same : (f g : ℕ → ℕ) (n : ℕ) → ((value : ℕ) → value < n → f value ≡ g value) → values_text f n ≡ values_text g n
values_same f g n each = by 0 n (λ value low. each value (omega (arith, low)))
  where
    by : (low k : ℕ) → ((value : ℕ) → value < low + k → f value ≡ g value)
        → flat_map (λ value. value_line value (f value)) (upto low k) ≡ flat_map (λ value. value_line value (g value)) (upto low k)
    by low zero each = refl
    by low (suc k) each = ap₂ (λ (a b : List ℕ). a ++ b) (ap (value_line low) (each low (omega arith)))
        (by (low + 1) k (λ value lt. each value (omega (arith, lt))))
