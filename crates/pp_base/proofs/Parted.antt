-- A list is parted in place: the numbers for which a test holds move to its front, and the others go to another list.
use Rattle.std.proofs.Common.{◌≡◌, ℕ, ◌+◌, ◌-◌, ◌<◌, ◌≤◌, Bool, true, false, cond, eqb, ◌||◌, List, [], ◌∷◌, ◌++◌}
use Rattle.std.proofs.Common.{length, get_or, set, take, drop}
use Rattle.std.proofs.Common.{refl, sym, ap, ◌∙◌, eq-eqb, ne_eqb, arith}
use Rattle.std.proofs.Math.Bool.{false≢true}
use Rattle.std.proofs.Math.Decide.{ℕ_discrete}
use mathlib.Core.Logic.{dite}
use Rattle.std.specs.List.{list_any}
use Rattle.std.specs.List.Sorted.{IsPermutation, IsNonDecreasing, IsBinarySearchResult}
use Rattle.std.specs.Ordering.{nat_cmp}
use Rattle.std.proofs.Common.{Result, Ok, Err, is_ok, length-set}
use Rattle.std.proofs.lemmas.List.{take_more_set, take_all, drop-set-lt, drop_more, drop_all, append_assoc, append-nil}
use Rattle.std.proofs.lemmas.List.Sorted.{list_any-IsPermutation, searched}
use Rattle.std.proofs.lemmas.List.Folds.{list_any_at, list_any_none}
use Rattle.std.proofs.lemmas.List.Elements.{All-from_get_or}
use Rattle.pp_rule.specs.Lists.{without, without_all}
use Rattle.pp_base.specs.Scans.{is_named, chosen, rejected}

module _ (test : ℕ → Bool) where
  chosen_yes : (n : ℕ) (ns : List ℕ) → test n ≡ true → chosen test (n ∷ ns) ≡ n ∷ chosen test ns
  unfolding chosen
  chosen_yes n ns e = ap (λ (b : Bool). cond b (n ∷ chosen test ns) (chosen test ns)) e

  chosen_no : (n : ℕ) (ns : List ℕ) → test n ≡ false → chosen test (n ∷ ns) ≡ chosen test ns
  unfolding chosen
  chosen_no n ns e = ap (λ (b : Bool). cond b (n ∷ chosen test ns) (chosen test ns)) e

  rejected_yes : (n : ℕ) (ns : List ℕ) → test n ≡ true → rejected test (n ∷ ns) ≡ rejected test ns
  unfolding rejected
  rejected_yes n ns e = ap (λ (b : Bool). cond b (rejected test ns) (n ∷ rejected test ns)) e

  rejected_no : (n : ℕ) (ns : List ℕ) → test n ≡ false → rejected test (n ∷ ns) ≡ n ∷ rejected test ns
  unfolding rejected
  rejected_no n ns e = ap (λ (b : Bool). cond b (rejected test ns) (n ∷ rejected test ns)) e

  next : (xs : List ℕ) (i n : ℕ) → i < length xs → n ≡ get_or xs i n → drop i xs ≡ n ∷ drop (i + 1) xs
  next xs i n lt is = drop_more xs i n lt ∙ ap (λ (m : ℕ). m ∷ drop (i + 1) xs) (sym is)

  pub stays_kept : (xs all : List ℕ) (kept i n : ℕ) → kept ≤ i → i < length xs → n ≡ get_or xs i n → test n ≡ true
      → take kept xs ++ chosen test (drop i xs) ≡ all → take (kept + 1) (set xs kept n) ++ chosen test (drop (i + 1) (set xs kept n)) ≡ all
  stays_kept xs all kept i n le lt is held e =
      ap (λ (l : List ℕ). l ++ chosen test (drop (i + 1) (set xs kept n))) (take_more_set xs kept n (omega arith))
      ∙ (ap (λ (l : List ℕ). (take kept xs ++ n ∷ []) ++ chosen test l) (drop-set-lt (i + 1) xs kept n (omega arith))
      ∙ (append_assoc (take kept xs) (n ∷ []) (chosen test (drop (i + 1) xs))
      ∙ (ap (λ (l : List ℕ). take kept xs ++ l) (sym (ap (chosen test) (next xs i n lt is) ∙ chosen_yes n (drop (i + 1) xs) held)) ∙ e)))

  pub stays_gone : (xs all : List ℕ) (kept i n : ℕ) → i < length xs → n ≡ get_or xs i n → test n ≡ false
      → take kept xs ++ chosen test (drop i xs) ≡ all → take kept xs ++ chosen test (drop (i + 1) xs) ≡ all
  stays_gone xs all kept i n lt is out e =
      ap (λ (l : List ℕ). take kept xs ++ l) (sym (ap (chosen test) (next xs i n lt is) ∙ chosen_no n (drop (i + 1) xs) out)) ∙ e

  pub freed_kept : (xs free all : List ℕ) (kept i n : ℕ) → kept ≤ i → i < length xs → n ≡ get_or xs i n → test n ≡ true
      → free ++ rejected test (drop i xs) ≡ all → free ++ rejected test (drop (i + 1) (set xs kept n)) ≡ all
  freed_kept xs free all kept i n le lt is held e =
      ap (λ (l : List ℕ). free ++ rejected test l) (drop-set-lt (i + 1) xs kept n (omega arith))
      ∙ (ap (λ (l : List ℕ). free ++ l) (sym (ap (rejected test) (next xs i n lt is) ∙ rejected_yes n (drop (i + 1) xs) held)) ∙ e)

  pub freed_gone : (xs free all : List ℕ) (i n : ℕ) → i < length xs → n ≡ get_or xs i n → test n ≡ false
      → free ++ rejected test (drop i xs) ≡ all → (free ++ n ∷ []) ++ rejected test (drop (i + 1) xs) ≡ all
  freed_gone xs free all i n lt is out e = append_assoc free (n ∷ []) (rejected test (drop (i + 1) xs))
      ∙ (ap (λ (l : List ℕ). free ++ l) (sym (ap (rejected test) (next xs i n lt is) ∙ rejected_no n (drop (i + 1) xs) out)) ∙ e)

  pub stays_all : (xs all : List ℕ) (kept i : ℕ) → length xs ≤ i → take kept xs ++ chosen test (drop i xs) ≡ all → take kept xs ≡ all
  unfolding chosen
  stays_all xs all kept i le e = sym (append-nil (take kept xs))
      ∙ (ap (λ (l : List ℕ). take kept xs ++ chosen test l) (sym (drop_all i xs le)) ∙ e)

  pub freed_all : (xs free all : List ℕ) (i : ℕ) → length xs ≤ i → free ++ rejected test (drop i xs) ≡ all → free ≡ all
  unfolding rejected
  freed_all xs free all i le e = sym (append-nil free) ∙ (ap (λ (l : List ℕ). free ++ rejected test l) (sym (drop_all i xs le)) ∙ e)

-- a number that isn't left out of the list by the first test is left out by the second or stays
rejected_twice : (first second : ℕ → Bool) (ns : List ℕ) → rejected second (rejected first ns) ≡ rejected (λ n. first n || second n) ns
unfolding rejected
rejected_twice first second [] = refl
rejected_twice first second (n ∷ ns) = by (rejected_twice first second ns) (first n) refl
  where
    by : rejected second (rejected first ns) ≡ rejected (λ m. first m || second m) ns → (b : Bool) → first n ≡ b
        → rejected second (rejected first (n ∷ ns)) ≡ rejected (λ m. first m || second m) (n ∷ ns)
    by rest true e = ap (rejected second) (rejected_yes first n ns e) ∙ (rest
        ∙ sym (rejected_yes (λ m. first m || second m) n ns (ap (λ (b : Bool). b || second n) e)))
    by rest false e = ap (rejected second) (rejected_no first n ns e)
        ∙ (ap (λ (l : List ℕ). cond (second n) l (n ∷ l)) rest
        ∙ sym (ap (λ (b : Bool). cond (b || second n) (rejected (λ m. first m || second m) ns)
        (n ∷ rejected (λ m. first m || second m) ns)) e))

pub without_rejects : (n : ℕ) (ns : List ℕ) → without n ns ≡ rejected (λ m. eqb m n) ns
unfolding rejected
without_rejects n [] = refl
without_rejects n (m ∷ ns) = ap (λ (l : List ℕ). cond (eqb m n) l (m ∷ l)) (without_rejects n ns)

pub all_kept : (ns : List ℕ) → rejected (λ n. false) ns ≡ ns
unfolding rejected
all_kept [] = refl
all_kept (n ∷ ns) = ap (λ (l : List ℕ). n ∷ l) (all_kept ns)

-- two tests that agree leave out the same numbers
pub rejected_same : (first second : ℕ → Bool) → ((n : ℕ) → first n ≡ second n) → (ns : List ℕ) → rejected first ns ≡ rejected second ns
unfolding rejected
rejected_same first second same [] = refl
rejected_same first second same (n ∷ ns) = ap (λ (b : Bool). cond b (rejected first ns) (n ∷ rejected first ns)) (same n)
    ∙ ap (λ (l : List ℕ). cond (second n) l (n ∷ l)) (rejected_same first second same ns)

eqb_swap : (n m : ℕ) → eqb n m ≡ eqb m n
eqb_swap n m = dite (ℕ_discrete n m) (λ e. eq-eqb n m e ∙ sym (eq-eqb m n (sym e)))
    (λ ne. ne_eqb n m ne ∙ sym (ne_eqb m n (λ e. ne (sym e))))

-- what is left of the list without the words' numbers was named by none of them
pub without_words : (words ns : List ℕ) → without_all words ns ≡ rejected (λ n. list_any (λ w. eqb w n) words) ns
unfolding rejected
without_words [] ns = sym (all_kept ns)
without_words (w ∷ words) ns = without_words words (without w ns)
    ∙ (ap (rejected (λ n. list_any (λ v. eqb v n) words)) (without_rejects w ns)
    ∙ (rejected_twice (λ n. eqb n w) (λ n. list_any (λ v. eqb v n) words) ns
    ∙ rejected_same (λ n. eqb n w || list_any (λ v. eqb v n) words) (λ n. eqb w n || list_any (λ v. eqb v n) words)
    (λ n. ap (λ (b : Bool). b || list_any (λ v. eqb v n) words) (eqb_swap n w)) ns))

or_swap : (a b : Bool) → (a || b) ≡ (b || a)
or_swap true true = refl
or_swap true false = refl
or_swap false true = refl
or_swap false false = refl

-- what one more word leaves
pub without_last : (words ns : List ℕ) (last : ℕ) → without last (without_all words ns) ≡ without_all (words ++ last ∷ []) ns
without_last [] ns last = refl
without_last (w ∷ words) ns last = without_last words (without w ns) last

-- what none of the words names, the last one among them, in whatever order they stand
pub rejected_words : (words all ns : List ℕ) (last : ℕ) → IsPermutation (words ++ last ∷ []) all
    → rejected (is_named all) ns ≡ without last (without_all words ns)
rejected_words words all ns last moved = sym (without_last words ns last ∙ (without_words (words ++ last ∷ []) ns
    ∙ rejected_same (is_named (words ++ last ∷ [])) (is_named all)
    (λ n. list_any-IsPermutation (λ w. eqb w n) (words ++ last ∷ []) all moved) ns))

-- a word in the last place
pub placed_last : (words : List ℕ) (last : ℕ) → 1 ≤ length words
    → set words (length words - 1) last ≡ take (length words - 1) words ++ last ∷ []
placed_last words last some = sym (take_all (length words - 1 + 1) (set words (length words - 1) last)
    (omega (arith, length-set words (length words - 1) last))) ∙ take_more_set words (length words - 1) last (omega arith)

-- a search in words that rise finds a number that stands among them
pub is_found : (words : List ℕ) (n : ℕ) (found : Result ℕ ℕ) → IsNonDecreasing words → IsBinarySearchResult (λ w. nat_cmp w n) words found
    → is_ok found ≡ is_named words n
is_found words n (Ok i) rise at = let hit = searched words n (Ok i) at (λ k l. rise k l 0) in
    sym (list_any_at (λ w. eqb w n) words i 0 hit.0 (eq-eqb (get_or words i 0) n hit.1))
is_found words n (Err i) rise at = let miss = searched words n (Err i) at (λ k l. rise k l 0) in
    sym (list_any_none (λ w. eqb w n) words (All-from_get_or (λ w. eqb w n ≡ false) words 0
    (λ k lt. ne_eqb (get_or words k 0) n (λ e. grind (arith, miss.1 k, miss.2 k, lt, e)))))

module _ (test : ℕ → Bool) where
  -- no number for which the test holds is among the others
  chosen_out : (n : ℕ) (ns : List ℕ) → test n ≡ true → list_any (λ w. eqb w n) (rejected test ns) ≡ false
  unfolding rejected
  chosen_out n [] held = refl
  chosen_out n (m ∷ ns) held = by (chosen_out n ns held) (test m) refl
    where
      by : list_any (λ w. eqb w n) (rejected test ns) ≡ false → (b : Bool) → test m ≡ b
          → list_any (λ w. eqb w n) (cond b (rejected test ns) (m ∷ rejected test ns)) ≡ false
      by rest true e = rest
      by rest false e = ap (λ (b : Bool). b || list_any (λ w. eqb w n) (rejected test ns))
          (ne_eqb m n (λ same. false≢true (sym e ∙ (ap test same ∙ held)))) ∙ rest

  -- What is left without all of `others` are the chosen numbers, where these are the numbers for which the test doesn't hold.
  chosen_left : (others ns : List ℕ) → ((n : ℕ) → test n ≡ true → list_any (λ w. eqb w n) others ≡ false)
      → ((n : ℕ) → list_any (λ w. eqb w n) (rejected test ns) ≡ true → list_any (λ w. eqb w n) others ≡ true)
      → rejected (λ n. list_any (λ w. eqb w n) others) ns ≡ chosen test ns
  unfolding rejected chosen
  chosen_left others [] apart within = refl
  chosen_left others (n ∷ ns) apart within = by (chosen_left others ns apart) (test n) refl within
    where
      by : (((m : ℕ) → list_any (λ w. eqb w m) (rejected test ns) ≡ true → list_any (λ w. eqb w m) others ≡ true)
          → rejected (λ m. list_any (λ w. eqb w m) others) ns ≡ chosen test ns) → (b : Bool) → test n ≡ b
          → ((m : ℕ) → list_any (λ w. eqb w m) (cond b (rejected test ns) (n ∷ rejected test ns)) ≡ true
          → list_any (λ w. eqb w m) others ≡ true)
          → rejected (λ m. list_any (λ w. eqb w m) others) (n ∷ ns) ≡ cond b (n ∷ chosen test ns) (chosen test ns)
      by rest true e within = rejected_no (λ m. list_any (λ w. eqb w m) others) n ns (apart n e) ∙ ap (λ (l : List ℕ). n ∷ l) (rest within)
      by rest false e within = rejected_yes (λ m. list_any (λ w. eqb w m) others) n ns
          (within n (ap (λ (b : Bool). b || list_any (λ w. eqb w n) (rejected test ns)) (eq-eqb n n refl)))
          ∙ rest (λ m i. within m (ap (λ (b : Bool). eqb n m || b) i ∙ or_swap (eqb n m) true))

  pub chosen_without : (ns : List ℕ) → without_all (rejected test ns) ns ≡ chosen test ns
  chosen_without ns = without_words (rejected test ns) ns ∙ chosen_left (rejected test ns) ns (λ n held. chosen_out n ns held) (λ n i. i)
