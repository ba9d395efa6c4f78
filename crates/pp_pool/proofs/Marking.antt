-- The numbers that are left marked where those of a list are unmarked.
use Rattle.std.proofs.Common.{◌≡◌, ◌≢◌, ℕ, zero, suc, ◌+◌, ◌<◌, ◌≤◌, Bool, true, false, cond, eqb, List, [], ◌∷◌, ◌++◌, length}
use Rattle.std.proofs.Common.{get_or, set, take, replicate, refl, sym, ap, ◌∙◌, arith, eq-eqb, ne_eqb, append_assoc, append-nil}
use Rattle.std.proofs.Common.{⊎_elim, length-set, get_or-set_other}
use Rattle.std.proofs.lemmas.Bool.{cases_lt}
use Rattle.std.proofs.lemmas.List.{length-replicate, get_or-replicate}
use Rattle.std.proofs.lemmas.Grind.{get_or-set_at}
use Rattle.std.proofs.Math.Decide.{ℕ_discrete}
use mathlib.Core.Logic.{dite}
use mathlib.Core.Option.{some, some-ne-none, some-injective}
use lib.ListN.{get_elem?}
use Rattle.pp_rule.specs.Lists.{times}
use Rattle.pp_rule.specs.Closing.{spare}
use Rattle.pp_rule.proofs.Counting.{times_here, times_else, times_nil}
use Rattle.pp_rule.proofs.Times.{times_append}
use Rattle.pp_pool.specs.Marks.{MarksSpare, marked}

module _ {A : Type 0} where
  take_suc : (xs : List A) (i : ℕ) (x : A) → get_elem? xs i ≡ some x → take (suc i) xs ≡ take i xs ++ x ∷ []
  take_suc [] i x e = absurd (some-ne-none x (sym e))
  take_suc (y ∷ xs) zero x e = ap (λ (a : A). a ∷ []) (some-injective y x e)
  take_suc (y ∷ xs) (suc i) x e = ap (λ (l : List A). y ∷ l) (take_suc xs i x e)

  pub take_at : (xs : List A) (i : ℕ) (x : A) → get_elem? xs i ≡ some x → take (i + 1) xs ≡ take i xs ++ x ∷ []
  take_at xs i x e = let one : i + 1 ≡ suc i = omega arith in ap (λ (n : ℕ). take n xs) one ∙ take_suc xs i x e

-- what a list has at an index is below each bound from which on it has nothing
pub at_under : (xs : List ℕ) (i bound : ℕ) → i < length xs → ((n : ℕ) → bound ≤ n → times n xs ≡ 0) → get_or xs i 0 < bound
at_under xs i bound lt none = ⊎_elim (λ (under : get_or xs i 0 < bound). under)
    (λ (over : bound ≤ get_or xs i 0). absurd (times_at xs i lt (none (get_or xs i 0) over)))
    (cases_lt (get_or xs i 0) bound)
  where
    times_at : (xs : List ℕ) (i : ℕ) → i < length xs → times (get_or xs i 0) xs ≢ 0
    times_at [] i lt = absurd (omega arith)
    times_at (x ∷ xs) zero lt = λ none. let one = times_here x x xs refl in absurd (omega arith)
    times_at (x ∷ xs) (suc i) lt = dite (ℕ_discrete x (get_or xs i 0))
        (λ e none. let one = times_here (get_or xs i 0) x xs e in absurd (omega arith))
        (λ ne none. times_at xs i (omega arith) (sym (times_else (get_or xs i 0) x xs ne) ∙ none))

-- all numbers are marked, and the list has none
pub marks_none : (k : ℕ) (marks : List Bool) → marks ≡ replicate k true → MarksSpare [] marks
marks_none k marks is n lt =
    let long : length marks ≡ k = ap (λ (l : List Bool). length l) is ∙ length-replicate k true in
    ap (λ (l : List Bool). get_or l n false) is ∙ (get_or-replicate k n true false (omega arith)
    ∙ sym (eq-eqb (times n []) 0 (times_nil n)))

-- One more number stands in the list, and is no longer marked.
pub marks_more : (live : List ℕ) (marks : List Bool) (x : ℕ) → MarksSpare live marks → MarksSpare (live ++ x ∷ []) (set marks x false)
marks_more live marks x m n lt =
    let long = length-set marks x false in
    let sum = times_append n live (x ∷ []) in
    dite (ℕ_discrete x n)
    (λ here. let one = times_here n x [] here in
    get_or-set_at marks x n false false (sym here) (omega arith)
    ∙ sym (ne_eqb (times n (live ++ x ∷ [])) 0 (λ none. absurd (omega arith))))
    (λ other. let nil = times_nil n in let none = times_else n x [] other in
    let same : times n live ≡ times n (live ++ x ∷ []) = omega arith in
    get_or-set_other marks x n false false (λ e. other (sym e)) ∙ (m n (omega arith) ∙ ap (λ (k : ℕ). eqb k 0) same))

-- where the marks are of the numbers that the list doesn't have, those that are marked are spare
pub marked_spare : (live : List ℕ) (marks : List Bool) (low n : ℕ) → MarksSpare live marks → low + n ≤ length marks
    → marked marks low n ≡ spare live low n
unfolding marked spare
marked_spare live marks low zero m within = refl
marked_spare live marks low (suc n) m within =
    ap (λ (l : List ℕ). cond (get_or marks low false) (low ∷ l) l) (marked_spare live marks (low + 1) n m (omega arith))
    ∙ ap (λ (b : Bool). cond b (low ∷ spare live (low + 1) n) (spare live (low + 1) n)) (m low (omega arith))

module _ (marks : List Bool) (free all : List ℕ) (low n m : ℕ) where
  pub enter_yes : n ≡ suc m → get_or marks low false ≡ true → free ++ marked marks low n ≡ all
      → (free ++ low ∷ []) ++ marked marks (low + 1) m ≡ all
  unfolding marked
  enter_yes is held e = append_assoc free (low ∷ []) (marked marks (low + 1) m)
      ∙ (sym (ap (λ (k : ℕ). free ++ marked marks low k) is
      ∙ ap (λ (b : Bool). free ++ cond b (low ∷ marked marks (low + 1) m) (marked marks (low + 1) m)) held) ∙ e)

  pub enter_no : n ≡ suc m → get_or marks low false ≡ false → free ++ marked marks low n ≡ all → free ++ marked marks (low + 1) m ≡ all
  unfolding marked
  enter_no is gone e = sym (ap (λ (k : ℕ). free ++ marked marks low k) is
      ∙ ap (λ (b : Bool). free ++ cond b (low ∷ marked marks (low + 1) m) (marked marks (low + 1) m)) gone) ∙ e

pub entered_all : (marks : List Bool) (free all : List ℕ) (low n : ℕ) → n ≡ 0 → free ++ marked marks low n ≡ all → free ≡ all
unfolding marked
entered_all marks free all low n none e = sym (append-nil free) ∙ (ap (λ (k : ℕ). free ++ marked marks low k) (sym none) ∙ e)
