-- A closed map has no more live records than records.
use Rattle.std.proofs.Common.{◌≡◌, ◌≢◌, ◌⊎◌, inl, inr, ℕ, zero, suc, ◌+◌, ◌<◌, ◌≤◌, false, cond, eqb, List, [], ◌∷◌, length}
use Rattle.std.proofs.Common.{refl, sym, ap, ◌∙◌, subst, arith, ⊎_elim, eq-eqb, ne_eqb}
use Rattle.std.proofs.lemmas.Bool.{cases_eq, cases_lt}
use Rattle.pp_model.specs.Lists.{times}
use Rattle.pp_model.specs.MapCalls.{AreNumbers}

abbrev without : ℕ → List ℕ → List ℕ
without n [] = []
without n (x ∷ xs) = cond (eqb x n) (without n xs) (x ∷ without n xs)

length-without : (n : ℕ) (xs : List ℕ) → length xs ≡ length (without n xs) + times n xs
length-without n [] = omega arith
length-without n (x ∷ xs) =
    let rest = length-without n xs in
    ⊎_elim
    (λ (same : x ≡ n). let test = eq-eqb x n same in rw test (omega (arith, rest)))
    (λ other. let test = ne_eqb x n other in rw test (omega (arith, rest)))
    (cases_eq x n)

times-without : (n : ℕ) (xs : List ℕ) → times n (without n xs) ≡ 0
times-without n [] = refl
times-without n (x ∷ xs) =
    ⊎_elim
    (λ (same : x ≡ n). let test = eq-eqb x n same in rw test (times-without n xs))
    (λ other. let test = ne_eqb x n other in rw (test, test) (times-without n xs))
    (cases_eq x n)

times-else : (n m : ℕ) (xs : List ℕ) → m ≢ n → times m (without n xs) ≡ times m xs
times-else n m [] apart = refl
times-else n m (x ∷ xs) apart =
    let rest = times-else n m xs apart in
    ⊎_elim
    (λ (same : x ≡ n). let test = eq-eqb x n same in let far : eqb x m ≡ false = ne_eqb x m (λ e. apart (sym e ∙ same)) in
    rw (test, far) rest)
    (λ other. let test = ne_eqb x n other in rw test (ap (λ (k : ℕ). cond (eqb x m) (k + 1) k) rest))
    (cases_eq x n)

times-first : (x : ℕ) (xs : List ℕ) → 1 ≤ times x (x ∷ xs)
times-first x xs = let test = eq-eqb x x refl in rw test (omega arith)

-- there are at most n numbers from 1 to n
bounded : (n : ℕ) (xs : List ℕ) → ((m : ℕ) → times m xs ≤ 1) → ((m : ℕ) → (m ≡ 0) ⊎ (n < m) → times m xs ≡ 0) → length xs ≤ n
bounded zero [] once range = omega arith
bounded zero (x ∷ xs) once range = absurd (omega (arith, times-first x xs, range x (at x)))
  where
    at : (y : ℕ) → (y ≡ 0) ⊎ (0 < y)
    at zero = inl refl
    at (suc y) = inr (omega arith)
bounded (suc n) xs once range =
    let less = length-without (suc n) xs in
    let one = once (suc n) in
    let rest = bounded n (without (suc n) xs) each_once within in
    omega (arith, less, one, rest)
  where
    each_once : (m : ℕ) → times m (without (suc n) xs) ≤ 1
    each_once m = ⊎_elim
        (λ (same : m ≡ suc n). let none = times-without (suc n) xs in
        subst (λ (k : ℕ). times k (without (suc n) xs) ≤ 1) (sym same) (omega (arith, none)))
        (λ other. let e = times-else (suc n) m xs other in omega (arith, e, once m))
        (cases_eq m (suc n))

    within : (m : ℕ) → (m ≡ 0) ⊎ (n < m) → times m (without (suc n) xs) ≡ 0
    within m out = ⊎_elim
        (λ (same : m ≡ suc n). subst (λ (k : ℕ). times k (without (suc n) xs) ≡ 0) (sym same) (times-without (suc n) xs))
        (λ other. times-else (suc n) m xs other ∙ range m (beyond other out))
        (cases_eq m (suc n))
      where
        beyond : (m ≡ suc n → ⊥) → (m ≡ 0) ⊎ (n < m) → (m ≡ 0) ⊎ (suc n < m)
        beyond other (inl low) = inl low
        beyond other (inr high) = inr (omega arith)

pub few_live : (records : ℕ) (live free : List ℕ) → AreNumbers records live free → length live ≤ records
few_live records live free are = bounded records live once (λ m out. let e = are.no_other m out in omega arith)
  where
    once : (m : ℕ) → times m live ≤ 1
    once m = ⊎_elim
        (λ (out : (m ≡ 0) ⊎ (records < m)). let e = are.no_other m out in omega arith)
        (λ (range : (1 ≤ m) × (m ≤ records)). let e = are.each_once m range.0 range.1 in omega arith)
        (place m)
      where
        place : (m : ℕ) → ((m ≡ 0) ⊎ (records < m)) ⊎ ((1 ≤ m) × (m ≤ records))
        place zero = inl (inl refl)
        place (suc m) = ⊎_elim
            (λ (high : records < suc m). inl (inr high))
            (λ (low : suc m ≤ records). inr (omega arith, low))
            (cases_lt records (suc m))
