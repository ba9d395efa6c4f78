-- Fewer chains than words leave a word that guards none of them.
use Rattle.std.proofs.Common.{◌≡◌, ℕ, zero, suc, ◌<◌, ◌≤◌, Bool, true, false, cond, eqb, ◌||◌, List, [], ◌∷◌, map, length}
use Rattle.std.proofs.Common.{refl, sym, ap, ◌∙◌, subst, ⊎_elim, eq-eqb, ne_eqb, arith}
use Rattle.std.specs.List.{list_any}
use Rattle.std.proofs.lemmas.Bool.{cases_lt}
use Rattle.std.proofs.lemmas.List.{length-map}
use Rattle.std.proofs.Math.Bool.{false≢true}
use Rattle.std.proofs.Math.Decide.{ℕ_discrete}
use mathlib.Core.Logic.{dite}
use Rattle.pp_rule.specs.Lists.{IsIn, times}
use Rattle.pp_rule.proofs.Put.{in_nil, in_first, in_later, in_cases}
use Rattle.pp_base.specs.declared.purse.InHand.{InHand}
use Rattle.pp_rule.proofs.Times.{times_length}
use Rattle.pp_unlink.specs.Unlinking.{GuardsNone}

-- whether the word j guards one of these chains
abbrev pub is_guard : ℕ → List InHand → Bool
is_guard j hs = list_any (λ (h : InHand). eqb h.guard j) hs

-- a word that isn't found to guard one of them guards none
pub guards_none : (j : ℕ) (hs : List InHand) → is_guard j hs ≡ false → GuardsNone j hs
guards_none j [] e h i same = in_nil h i
guards_none j (g ∷ hs) e h i same = by (λ later none. guards_none j hs none h later same) (eqb g.guard j) refl e
  where
    by : (IsIn h hs → is_guard j hs ≡ false → ⊥) → (b : Bool) → eqb g.guard j ≡ b → (b || is_guard j hs) ≡ false → ⊥
    by rest true is bad = false≢true (sym bad)
    by rest false is none = ⊎_elim
        (λ (here : h ≡ g). false≢true (sym is ∙ eq-eqb g.guard j (ap (λ (x : InHand). x.guard) (sym here) ∙ same)))
        (λ (later : IsIn h hs). rest later none) (in_cases h g hs i)

-- a word that is found to guard one of them does
pub guards_one : (j : ℕ) (hs : List InHand) → is_guard j hs ≡ true → GuardsNone j hs → ⊥
guards_one j [] e none = false≢true e
guards_one j (g ∷ hs) e none = guards_one j hs
    (subst (λ (b : Bool). (b || is_guard j hs) ≡ true) (ne_eqb g.guard j (none g (in_first g hs))) e)
    (λ h i. none h (in_later h g hs i))

-- the numbers below n
abbrev below : ℕ → List ℕ
below zero = []
below (suc n) = n ∷ below n

length_below : (n : ℕ) → length (below n) ≡ n
length_below zero = refl
length_below (suc n) = ap suc (length_below n)

times_past : (k n : ℕ) → n ≤ k → times k (below n) ≡ 0
unfolding times
times_past k zero past = refl
times_past k (suc n) past = ap (λ (b : Bool). cond b (suc (times k (below n))) (times k (below n))) (ne_eqb n k (omega arith))
    ∙ times_past k n (omega arith)

times_once : (k n : ℕ) → times k (below n) ≤ 1
unfolding times
times_once k zero = omega arith
times_once k (suc n) = dite (ℕ_discrete n k)
    (λ same. let none = times_past k n (omega arith) in
    subst (λ (b : Bool). cond b (suc (times k (below n))) (times k (below n)) ≤ 1) (sym (eq-eqb n k same)) (omega (arith, none)))
    (λ other. subst (λ (b : Bool). cond b (suc (times k (below n))) (times k (below n)) ≤ 1) (sym (ne_eqb n k other)) (times_once k n))

-- the words that guard these chains
abbrev words_of : List InHand → List ℕ
words_of hs = map (λ (h : InHand). h.guard) hs

times_guard : (j : ℕ) (hs : List InHand) → is_guard j hs ≡ true → 1 ≤ times j (words_of hs)
unfolding times
times_guard j [] e = absurd (false≢true e)
times_guard j (g ∷ hs) e = by (times_guard j hs) (eqb g.guard j) e
  where
    by : (is_guard j hs ≡ true → 1 ≤ times j (words_of hs)) → (b : Bool) → (b || is_guard j hs) ≡ true
        → 1 ≤ cond b (suc (times j (words_of hs))) (times j (words_of hs))
    by rest true is = omega arith
    by rest false is = rest is

-- where each word below n guards one of them, there are n of them
pub as_many : (n : ℕ) (hs : List InHand) → ((j : ℕ) → j < n → is_guard j hs ≡ true) → n ≤ length hs
as_many n hs all = let words = length_below n in let chains = length-map hs (λ (h : InHand). h.guard) in
    let less = times_length (below n) (words_of hs) (λ k. ⊎_elim
    (λ (low : k < n). let one = times_once k n in let some = times_guard k hs (all k low) in omega (arith, one, some))
    (λ (high : n ≤ k). let none = times_past k n high in omega (arith, none))
    (cases_lt k n)) in omega (arith, words, chains, less)
