-- How often numbers stand in lists.
use Rattle.std.proofs.Common.{◌≡◌, ℕ, zero, suc, ◌+◌, ◌<◌, ◌≤◌, Bool, true, false, cond, eqb, List, [], ◌∷◌, ◌++◌, map}
use Rattle.std.proofs.Common.{length}
use Rattle.std.proofs.Common.{refl, sym, ap, ◌∙◌, subst, arith, eq-eqb, ne_eqb}
use Rattle.std.proofs.Math.Decide.{ℕ_discrete}
use mathlib.Core.Logic.{dite}
use mathlib.Core.Option.{some, some-injective}
use lib.ListN.{get_elem?}
use Rattle.pp_rule.specs.Lists.{IsIn, OnceBy, times, remove_at}
use Rattle.pp_rule.specs.declared.views.PrivateRecord.{PrivateRecord}
use Rattle.pp_rule.specs.Rule.{number_of}
use Rattle.pp_rule.proofs.Put.{in_nil, in_first, in_later}
use Rattle.pp_rule.proofs.Without.{once_tail, once_head}
use Rattle.pp_rule.proofs.Counting.{times_here, times_else, times_nil}

-- how often a number stands in two lists
pub times_append : (n : ℕ) (xs ys : List ℕ) → times n (xs ++ ys) ≡ times n xs + times n ys
unfolding times
times_append n [] ys = omega arith
times_append n (x ∷ xs) ys = by (times_append n xs ys) (eqb x n)
  where
    by : times n (xs ++ ys) ≡ times n xs + times n ys → (b : Bool)
        → cond b (suc (times n (xs ++ ys))) (times n (xs ++ ys)) ≡ cond b (suc (times n xs)) (times n xs) + times n ys
    by rest true = omega (arith, rest)
    by rest false = rest

-- the list without the first x in it
abbrev drop_one : ℕ → List ℕ → List ℕ
drop_one x [] = []
drop_one x (y ∷ ys) = cond (eqb y x) ys (y ∷ drop_one x ys)

drop_length : (x : ℕ) (ys : List ℕ) → 1 ≤ times x ys → length ys ≡ suc (length (drop_one x ys))
unfolding times
drop_length x [] present = absurd (omega arith)
drop_length x (y ∷ ys) present = by (drop_length x ys) (eqb y x) present
  where
    by : (1 ≤ times x ys → length ys ≡ suc (length (drop_one x ys))) → (b : Bool) → 1 ≤ cond b (suc (times x ys)) (times x ys)
        → suc (length ys) ≡ suc (length (cond b ys (y ∷ drop_one x ys)))
    by rest true present = refl
    by rest false present = ap suc (rest present)

-- any other number stands in it as often as before
drop_times : (x n : ℕ) (ys : List ℕ) → 1 ≤ times x ys → times n ys ≡ times n (drop_one x ys) + cond (eqb x n) 1 0
unfolding times
drop_times x n [] present = absurd (omega arith)
drop_times x n (y ∷ ys) present = dite (ℕ_discrete y x)
    (λ same. subst (λ (b : Bool). cond (eqb y n) (suc (times n ys)) (times n ys) ≡ times n (cond b ys (y ∷ drop_one x ys)) + cond (eqb x n)
    1 0)
    (sym (eq-eqb y x same)) (subst (λ (k : ℕ). cond (eqb k n) (suc (times n ys)) (times n ys) ≡ times n ys + cond (eqb x n) 1 0) (sym same)
    (here (eqb x n))))
    (λ other. subst (λ (b : Bool). cond (eqb y n) (suc (times n ys)) (times n ys) ≡ times n (cond b ys (y ∷ drop_one x ys)) + cond (eqb x n)
    1 0)
    (sym (ne_eqb y x other)) (later
    (drop_times x n ys (subst (λ (b : Bool). 1 ≤ cond b (suc (times x ys)) (times x ys)) (ne_eqb y x other) present))
    (eqb y n)))
  where
    here : (b : Bool) → cond b (suc (times n ys)) (times n ys) ≡ times n ys + cond b 1 0
    here true = omega arith
    here false = omega arith

    later : times n ys ≡ times n (drop_one x ys) + cond (eqb x n) 1 0 → (b : Bool)
        → cond b (suc (times n ys)) (times n ys) ≡ cond b (suc (times n (drop_one x ys))) (times n (drop_one x ys)) + cond (eqb x n) 1 0
    later rest true = omega (arith, rest)
    later rest false = rest

-- a list that has no number more often than another one isn't longer
pub times_length : (xs ys : List ℕ) → ((n : ℕ) → times n xs ≤ times n ys) → length xs ≤ length ys
unfolding times
times_length [] ys less = omega arith
times_length (x ∷ xs) ys less =
    let present : 1 ≤ times x ys = let here = less x in let one : times x (x ∷ xs) ≡ suc (times x xs) =
    ap (λ (b : Bool). cond b (suc (times x xs)) (times x xs)) (eq-eqb x x refl) in omega (arith, here, one) in
    let rest = times_length xs (drop_one x ys) (λ n. let a = less n in let b = drop_times x n ys present in by n (eqb x n) a b) in
    let whole = drop_length x ys present in omega (arith, rest, whole)
  where
    by : (n : ℕ) (b : Bool) → cond b (suc (times n xs)) (times n xs) ≤ times n ys → times n ys ≡ times n (drop_one x ys) + cond b 1 0
        → times n xs ≤ times n (drop_one x ys)
    by n true a e = omega (arith, a, e)
    by n false a e = omega (arith, a, e)

-- The records without the one at this index.
pub one_fewer : (ds : List PrivateRecord) (i : ℕ) (d : PrivateRecord) → get_elem? ds i ≡ some d
    → suc (length (remove_at i ds)) ≡ length ds
one_fewer [] i d at = absurd (in_nil d (i, at))
one_fewer (e ∷ ds) zero d at = refl
one_fewer (e ∷ ds) (suc i) d at = ap suc (one_fewer ds i d at)

pub times_removed : (n : ℕ) (ds : List PrivateRecord) (i : ℕ) (d : PrivateRecord) → get_elem? ds i ≡ some d
    → times n (map number_of ds) ≡ times n (d.number ∷ map number_of (remove_at i ds))
times_removed n [] i d at = absurd (in_nil d (i, at))
times_removed n (e ∷ ds) zero d at = ap (λ (x : PrivateRecord). times n (x.number ∷ map number_of ds)) (some-injective e d at)
times_removed n (e ∷ ds) (suc i) d at =
    let here = times_append n (e.number ∷ []) (map number_of ds) in
    let there = times_append n (e.number ∷ []) (map number_of (remove_at i ds)) in
    let rest = times_removed n ds i d at in
    let one = times_append n (d.number ∷ []) (map number_of (remove_at i ds)) in
    let two = times_append n (d.number ∷ []) (e.number ∷ map number_of (remove_at i ds)) in
    omega (arith, here, there, rest, one, two)

-- a list that had a number less often than another one still has no number more often after that one lost it
pub times_fewer : (free : List ℕ) (ds : List PrivateRecord) (i : ℕ) (d : PrivateRecord) → get_elem? ds i ≡ some d
    → ((n : ℕ) → times n free ≤ times n (map number_of ds)) → times d.number free < times d.number (map number_of ds)
    → (n : ℕ) → times n free ≤ times n (map number_of (remove_at i ds))
times_fewer free ds i d at all less n = let removed = times_removed n ds i d at in let was = all n in dite (ℕ_discrete d.number n)
    (λ hit. let one = times_here n d.number (map number_of (remove_at i ds)) hit in
    let under : times n free < times n (map number_of ds) =
    subst (λ (x : ℕ). times x free < times x (map number_of ds)) hit less in omega (arith, removed, one, under))
    (λ other. let same = times_else n d.number (map number_of (remove_at i ds)) other in omega (arith, removed, was, same))

-- where no two records have the same number, none stands there twice
no_number : (n : ℕ) (ds : List PrivateRecord) → ((d : PrivateRecord) → IsIn d ds → d.number ≡ n → ⊥)
    → times n (map number_of ds) ≡ 0
no_number n [] none = times_nil n
no_number n (d ∷ ds) none = times_else n d.number (map number_of ds) (none d (in_first d ds))
    ∙ no_number n ds (λ e i. none e (in_later e d ds i))

pub times_once : (n : ℕ) (ds : List PrivateRecord) → OnceBy number_of ds → times n (map number_of ds) ≤ 1
times_once n [] o = let none = times_nil n in omega arith
times_once n (d ∷ ds) o = dite (ℕ_discrete d.number n)
    (λ e. let here = times_here n d.number (map number_of ds) e in
    let rest = no_number n ds (λ x i same. once_head number_of d ds o x i (same ∙ sym e)) in omega (arith, here, rest))
    (λ ne. let else_is = times_else n d.number (map number_of ds) ne in
    let rest = times_once n ds (once_tail number_of d ds o) in omega (arith, else_is, rest))
