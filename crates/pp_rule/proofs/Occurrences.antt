-- How often a number stands in a list, and whether it stands there.
use Rattle.std.proofs.Common.{◌≡◌, ◌≢◌, ◌⊎◌, inl, inr, ⊎_elim, ℕ, ◌≤◌, List, [], ◌∷◌, length}
use Rattle.std.proofs.Common.{sym, ◌∙◌, subst, arith}
use Rattle.std.proofs.Math.Decide.{ℕ_discrete}
use mathlib.Core.Logic.{dite}
use Rattle.pp_rule.specs.Lists.{IsIn, Once, times}
use Rattle.pp_rule.proofs.Put.{in_nil, in_first, in_later, in_cases}
use Rattle.pp_rule.proofs.Without.{once_tail, once_head, once_cons}
use Rattle.pp_rule.proofs.Counting.{times_here, times_else, times_nil}
use Rattle.pp_rule.proofs.Times.{times_length}

-- what stands in no place is counted 0 times, and what is counted stands somewhere
pub not_counted : (x : ℕ) (ns : List ℕ) → (IsIn x ns → ⊥) → times x ns ≡ 0
not_counted x [] out = times_nil x
not_counted x (n ∷ ns) out = times_else x n ns (λ e. out (subst (λ (m : ℕ). IsIn m (n ∷ ns)) e (in_first n ns)))
    ∙ not_counted x ns (λ i. out (in_later x n ns i))

pub counted : (x : ℕ) (ns : List ℕ) → IsIn x ns → 1 ≤ times x ns
counted x [] i = absurd (in_nil x i)
counted x (n ∷ ns) i = dite (ℕ_discrete n x)
    (λ e. let one = times_here x n ns e in omega arith)
    (λ ne. let same = times_else x n ns ne in ⊎_elim (λ (e : x ≡ n). absurd (ne (sym e)))
    (λ (j : IsIn x ns). let more = counted x ns j in omega arith) (in_cases x n ns i))

pub in_times : (n : ℕ) (ys : List ℕ) → 1 ≤ times n ys → IsIn n ys
in_times n [] has = let none = times_nil n in absurd (omega arith)
in_times n (y ∷ ys) has = dite (ℕ_discrete y n) (λ same. subst (λ (k : ℕ). IsIn k (y ∷ ys)) same (in_first y ys))
    (λ other. in_later n y ys (in_times n ys (subst (λ (k : ℕ). 1 ≤ k) (times_else n y ys other) has)))

-- each number stands once in a list exactly where none is counted more often
pub once_times : (n : ℕ) (xs : List ℕ) → Once xs → times n xs ≤ 1
once_times n [] o = let none = times_nil n in omega arith
once_times n (x ∷ xs) o = dite (ℕ_discrete x n)
    (λ same. let here = times_here n x xs same in
    let none = not_counted n xs (λ i. once_head (λ k. k) x xs o n i (sym same)) in omega arith)
    (λ other. let there = times_else n x xs other in let rest = once_times n xs (once_tail (λ k. k) x xs o) in omega arith)

pub once_counted : (ys : List ℕ) → ((n : ℕ) → times n ys ≤ 1) → Once ys
once_counted [] few = λ k l x y at_k at_l e. absurd (in_nil x (k, at_k))
once_counted (y ∷ ys) few = once_cons (λ k. k) y ys
    (λ x i e. let one = counted x ys i in let here = times_here x y ys (sym e) in let most = few x in omega arith)
    (once_counted ys (λ n. by n (same_or_not y n)))
  where
    same_or_not : (y n : ℕ) → (y ≡ n) ⊎ (y ≢ n)
    same_or_not y n = dite (ℕ_discrete y n) inl inr

    by : (n : ℕ) → (y ≡ n) ⊎ (y ≢ n) → times n ys ≤ 1
    by n (inl e) = let here = times_here n y ys e in let most = few n in omega arith
    by n (inr ne) = let else_one = times_else n y ys ne in let most = few n in omega arith

-- distinct numbers of a list are no more than it has
pub fits_in : (xs ys : List ℕ) → Once xs → ((n : ℕ) → IsIn n xs → IsIn n ys) → length xs ≤ length ys
fits_in xs ys once inside = times_length xs ys (λ n. let one = once_times n xs once in dite (ℕ_discrete (times n xs) 0)
    (λ none. omega (arith, none))
    (λ has. let there = counted n ys (inside n (in_times n xs (omega (arith, has)))) in omega (arith, one, there)))
