-- Pieces that stand apart: none of them twice. They and those left over are all pieces.
use Rattle.std.proofs.Common.{◌≡◌, ◌⊎◌, inl, inr, ℕ, zero, suc, ◌+◌, ◌<◌, ◌≤◌, Bool, true, false, cond, List, [], ◌∷◌, ◌++◌, eq-eqb, ne_eqb}
use Rattle.std.proofs.Common.{refl, sym, ap, ◌∙◌, ⊎_elim, arith}
use Rattle.std.specs.Prelude.{nat_eq, ◌||◌}
use Rattle.std.proofs.lemmas.Bool.{cases_eq, cases_Bool, true≢false}
use Rattle.pp_model.specs.Lists.{times, upto}
use Rattle.pp_pieces.specs.Counts.{times_in}
use Rattle.pp_pieces.specs.Pieces.{piece}
use Rattle.pp_pieces.specs.Left.{has}
use Rattle.pp_claims.specs.Rest.{left_over}

-- each of these is one of the pieces, and none stands twice
abbrev pub Apart : ℕ → List ℕ → Type 0
Apart pieces [] = Unit {0}
Apart pieces (n ∷ ns) = (n < pieces) × (has n ns ≡ false) × Apart pieces ns

or_split : (a b : Bool) → (a || b) ≡ true → (a ≡ true) ⊎ (b ≡ true)
or_split true b is = inl refl
or_split false b is = inr is

-- one of two lists
pub has_either : (n : ℕ) (ms ns : List ℕ) → has n (ms ++ ns) ≡ true → (has n ms ≡ true) ⊎ (has n ns ≡ true)
has_either n [] ns is = inr is
has_either n (m ∷ ms) ns is = by (nat_eq m n) (λ one. has_either n ms ns one) is
  where
    by : (b : Bool) → (has n (ms ++ ns) ≡ true → (has n ms ≡ true) ⊎ (has n ns ≡ true)) → (b || has n (ms ++ ns)) ≡ true
        → ((b || has n ms) ≡ true) ⊎ (has n ns ≡ true)
    by true rest is = inl refl
    by false rest is = rest is

pub has_first : (n : ℕ) (ms ns : List ℕ) → has n ms ≡ true → has n (ms ++ ns) ≡ true
has_first n [] ns is = absurd (true≢false (sym is))
has_first n (m ∷ ms) ns is = by (nat_eq m n) (λ one. has_first n ms ns one) is
  where
    by : (b : Bool) → (has n ms ≡ true → has n (ms ++ ns) ≡ true) → (b || has n ms) ≡ true → (b || has n (ms ++ ns)) ≡ true
    by true rest is = refl
    by false rest is = rest is

pub has_second : (n : ℕ) (ms ns : List ℕ) → has n ns ≡ true → has n (ms ++ ns) ≡ true
has_second n [] ns is = is
has_second n (m ∷ ms) ns is = by (nat_eq m n) (has_second n ms ns is)
  where
    by : (b : Bool) → has n (ms ++ ns) ≡ true → (b || has n (ms ++ ns)) ≡ true
    by true rest = refl
    by false rest = rest

pub has_neither : (n : ℕ) (ms ns : List ℕ) → has n ms ≡ false → has n ns ≡ false → has n (ms ++ ns) ≡ false
has_neither n ms ns a b = ⊎_elim
    (λ (yes : has n (ms ++ ns) ≡ true). absurd (⊎_elim (λ (x : has n ms ≡ true). true≢false (sym x ∙ a))
    (λ (y : has n ns ≡ true). true≢false (sym y ∙ b)) (has_either n ms ns yes)))
    (λ no. no) (cases_Bool (has n (ms ++ ns)))

-- lists that stand apart and share nothing stand apart together
pub apart_both : (pieces : ℕ) (ms ns : List ℕ) → Apart pieces ms → Apart pieces ns → ((n : ℕ) → has n ms ≡ true → has n ns ≡ false)
    → Apart pieces (ms ++ ns)
apart_both pieces [] ns a b none = b
apart_both pieces (m ∷ ms) ns a b none = (
  a.0,
  has_neither m ms ns a.1 (none m (ap (λ (x : Bool). x || has m ms) (eq-eqb m m refl))),
  apart_both pieces ms ns a.2 b (λ n one. none n (later n one)),
)
  where
    later : (n : ℕ) → has n ms ≡ true → has n (m ∷ ms) ≡ true
    later n one = by (nat_eq m n)
      where
        by : (b : Bool) → (b || has n ms) ≡ true
        by true = refl
        by false = one

times_none : (n : ℕ) (ns : List ℕ) → has n ns ≡ false → times n ns ≡ 0
times_none n [] none = refl
times_none n (m ∷ ns) none = by (nat_eq m n) (λ rest. times_none n ns rest) none
  where
    by : (b : Bool) → (has n ns ≡ false → times n ns ≡ 0) → (b || has n ns) ≡ false → cond b (times n ns + 1) (times n ns) ≡ 0
    by true rest none = absurd (true≢false none)
    by false rest none = rest none

pub times_once : (pieces n : ℕ) (ns : List ℕ) → Apart pieces ns → times n ns ≤ 1
times_once pieces n [] apart = omega arith
times_once pieces n (m ∷ ns) apart =
    ⊎_elim
    (λ (same : m ≡ n). let none = times_none n ns (ap (λ (k : ℕ). has k ns) (sym same) ∙ apart.1) in
    let test = eq-eqb m n same in rw test (omega (arith, none)))
    (λ other. let test = ne_eqb m n other in rw test (times_once pieces n ns apart.2))
    (cases_eq m n)

-- ---- those left over

module _ (b : ℕ) (bytes : List ℕ) where
  abbrev weight : List ℕ → ℕ
  weight ns = times_in b bytes ns

  choice : (c : Bool) (n : ℕ) (ns : List ℕ) → weight (cond c ns (n ∷ ns)) ≡ cond c 0 (times b (piece bytes n)) + weight ns
  choice true n ns = omega arith
  choice false n ns = omega arith

  -- a piece out of the range changes nothing
  beyond : (low count n : ℕ) (ns : List ℕ) → (n < low) ⊎ (low + count ≤ n) → left_over low count (n ∷ ns) ≡ left_over low count ns
  beyond low zero n ns out = refl
  beyond low (suc count) n ns out =
      let other : n ≡ low → ⊥ = λ e. ⊎_elim (λ (below : n < low). omega arith) (λ (above : low + suc count ≤ n). omega arith) out in
      let test : (nat_eq n low || has low ns) ≡ has low ns = ap (λ (c : Bool). c || has low ns) (ne_eqb n low other) in
      let further : (n < low + 1) ⊎ (low + 1 + count ≤ n) =
      ⊎_elim (λ (below : n < low). inl (omega arith)) (λ (above : low + suc count ≤ n). inr (omega arith)) out in
      let rest = beyond (low + 1) count n ns further in
      ap (λ (c : Bool). cond c (left_over (low + 1) count (n ∷ ns)) (low ∷ left_over (low + 1) count (n ∷ ns))) test
      ∙ ap (λ (l : List ℕ). cond (has low ns) l (low ∷ l)) rest

  -- one more piece that is owned is one fewer that is left over
  one_fewer : (low count n : ℕ) (ns : List ℕ) → low ≤ n → n < low + count → has n ns ≡ false
      → weight (left_over low count ns) ≡ weight (left_over low count (n ∷ ns)) + times b (piece bytes n)
  one_fewer low zero n ns above below none = absurd (omega arith)
  one_fewer low (suc count) n ns above below none =
      ⊎_elim
      (λ (same : n ≡ low).
      let test : (nat_eq n low || has low ns) ≡ true = ap (λ (c : Bool). c || has low ns) (eq-eqb n low same) in
      let free : has low ns ≡ false = ap (λ (k : ℕ). has k ns) (sym same) ∙ none in
      let rest = beyond (low + 1) count n ns (inl (omega arith)) in
      let one = ap (λ (k : ℕ). times b (piece bytes k)) same in
      let was = choice (has low ns) low (left_over (low + 1) count ns) in
      let now = choice (nat_eq n low || has low ns) low (left_over (low + 1) count (n ∷ ns)) in
      let was_is = was ∙ ap (λ (c : Bool). cond c 0 (times b (piece bytes low)) + weight (left_over (low + 1) count ns)) free in
      let now_is = now ∙ ap (λ (c : Bool). cond c 0 (times b (piece bytes low)) + weight (left_over (low + 1) count (n ∷ ns))) test in
      let same_rest = ap weight rest in
      omega (arith, was_is, now_is, same_rest, one))
      (λ (other : n ≡ low → ⊥).
      let test : (nat_eq n low || has low ns) ≡ has low ns = ap (λ (c : Bool). c || has low ns) (ne_eqb n low other) in
      let rest = one_fewer (low + 1) count n ns (omega arith) (omega arith) none in
      let was = choice (has low ns) low (left_over (low + 1) count ns) in
      let now = choice (nat_eq n low || has low ns) low (left_over (low + 1) count (n ∷ ns)) in
      let now_is = now ∙ ap (λ (c : Bool). cond c 0 (times b (piece bytes low)) + weight (left_over (low + 1) count (n ∷ ns))) test in
      omega (arith, was, now_is, rest))
      (cases_eq n low)

  none_owned : (low count : ℕ) → left_over low count [] ≡ upto low count
  none_owned low zero = refl
  none_owned low (suc count) = ap (λ (l : List ℕ). low ∷ l) (none_owned (low + 1) count)

  -- the owned pieces and those left over are all pieces
  pub all_shared : (pieces : ℕ) (ns : List ℕ) → Apart pieces ns
      → times_in b bytes ns + times_in b bytes (left_over 0 pieces ns) ≡ times_in b bytes (upto 0 pieces)
  all_shared pieces [] apart = let same = ap weight (none_owned 0 pieces) in omega (arith, same)
  all_shared pieces (n ∷ ns) apart =
      let rest = all_shared pieces ns apart.2 in
      let fewer = one_fewer 0 pieces n ns (omega arith) (omega (arith, apart.0)) apart.1 in
      omega (arith, rest, fewer)
