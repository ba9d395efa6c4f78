-- The list of the pegs that stand.
use Rattle.std.proofs.Common.{◌≡◌, ◌≢◌, ◌⊎◌, inl, inr, ⊎_elim, ℕ, zero, suc, ◌+◌, ◌-◌, ◌<◌, ◌≤◌, Bool, cond, List, [], ◌∷◌, ◌++◌}
use Rattle.std.proofs.Common.{map, length, get_or}
use Rattle.std.proofs.Common.{refl, ap, ◌∙◌, arith, ne_eqb, eq-eqb, add-one}
use Rattle.std.proofs.lemmas.Bool.{cases_lt}
use Rattle.std.proofs.Math.Decide.{ℕ_discrete}
use mathlib.Core.Logic.{dite}
use Rattle.pp_link.specs.declared.layout.Sizes.{Sizes}
use Rattle.pp_link.specs.Places.{head_place}
use Rattle.pp_link.specs.Words.{head_word}
use Rattle.pp_model.specs.declared.Pair.{Pair}
use Rattle.pp_rule.specs.Lists.{times}
use Rattle.pp_rule.specs.Opening.{numbers_from}
use Rattle.pp_rule.proofs.Counting.{times_here, times_else, times_nil}
use Rattle.pp_peg_scenes.specs.Pegs.{pegs_from, pair_of}

-- one number more stands behind the others
from_next : (low n : ℕ) → numbers_from low (suc n) ≡ numbers_from low n ++ (low + n) ∷ []
unfolding numbers_from
from_next low zero = let same : low ≡ low + 0 = omega arith in ap (λ (k : ℕ). k ∷ []) same
from_next low (suc n) = let same : low + 1 + n ≡ low + suc n = omega arith in
    ap (λ (l : List ℕ). low ∷ l) (from_next (low + 1) n) ∙ ap (λ (k : ℕ). low ∷ numbers_from (low + 1) n ++ k ∷ []) same

pub from_more : (low n : ℕ) → numbers_from low (n + 1) ≡ numbers_from low n ++ (low + n) ∷ []
from_more low n = ap (numbers_from low) (add-one n) ∙ from_next low n

pub from_none : (low : ℕ) → numbers_from low 0 ≡ []
unfolding numbers_from
from_none low = refl

pub from_length : (low n : ℕ) → length (numbers_from low n) ≡ n
unfolding numbers_from
from_length low zero = refl
from_length low (suc n) = ap suc (from_length (low + 1) n)

pub pairs_more : (ns : List ℕ) (n : ℕ) → map pair_of (ns ++ n ∷ []) ≡ map pair_of ns ++ pair_of n ∷ []
pairs_more [] n = refl
pairs_more (m ∷ ns) n = ap (λ (ps : List Pair). pair_of m ∷ ps) (pairs_more ns n)

pub as_many : (ns : List ℕ) → length ns ≡ length (map pair_of ns)
as_many [] = refl
as_many (n ∷ ns) = ap suc (as_many ns)

-- each of these numbers stands there once, and no other one does
from_out : (low n m : ℕ) → (m < low) ⊎ (low + n ≤ m) → times m (numbers_from low n) ≡ 0
unfolding numbers_from
from_out low zero m out = times_nil m
from_out low (suc n) m out = ⊎_elim
    (λ (less : m < low). let other : low ≢ m = λ e. absurd (omega arith) in
    times_else m low (numbers_from (low + 1) n) other ∙ from_out (low + 1) n m (inl (omega arith)))
    (λ (more : low + suc n ≤ m). let other : low ≢ m = λ e. absurd (omega arith) in
    times_else m low (numbers_from (low + 1) n) other ∙ from_out (low + 1) n m (inr (omega arith))) out

from_once : (low n m : ℕ) → times m (numbers_from low n) ≤ 1
unfolding numbers_from
from_once low zero m = let none = times_nil m in omega arith
from_once low (suc n) m = dite (ℕ_discrete low m)
    (λ e. let here = times_here m low (numbers_from (low + 1) n) e in let rest = from_out (low + 1) n m (inl (omega arith)) in
    omega arith)
    (λ ne. let here = times_else m low (numbers_from (low + 1) n) ne in let rest = from_once (low + 1) n m in omega arith)

-- the pegs from nil on, and from one on
pub pegs_none : (n : ℕ) → n ≡ 0 → pegs_from n ≡ []
pegs_none n e = ap (λ (b : Bool). cond b [] (numbers_from n (6 - n))) (eq-eqb n 0 e)

pub pegs_some : (n : ℕ) → n ≢ 0 → pegs_from n ≡ numbers_from n (6 - n)
pegs_some n ne = ap (λ (b : Bool). cond b [] (numbers_from n (6 - n))) (ne_eqb n 0 ne)

pub pegs_once : (n m : ℕ) → times m (pegs_from n) ≤ 1
pegs_once n m = dite (ℕ_discrete n 0)
    (λ e. let is = ap (times m) (pegs_none n e) ∙ times_nil m in omega arith)
    (λ ne. let is = ap (times m) (pegs_some n ne) in let one = from_once n (6 - n) m in omega arith)

pub pegs_low : (n : ℕ) → times 0 (pegs_from n) ≡ 0
pegs_low n = dite (ℕ_discrete n 0) (λ e. ap (times 0) (pegs_none n e) ∙ times_nil 0)
    (λ ne. ap (times 0) (pegs_some n ne) ∙ from_out n (6 - n) 0 (inl (omega arith)))

pub pegs_high : (n m : ℕ) → 6 ≤ m → times m (pegs_from n) ≡ 0
pegs_high n m high = dite (ℕ_discrete n 0) (λ e. ap (times m) (pegs_none n e) ∙ times_nil m)
    (λ ne. ap (times m) (pegs_some n ne) ∙ from_out n (6 - n) m (side n m high))
  where
    side : (n m : ℕ) → 6 ≤ m → (m < n) ⊎ (n + (6 - n) ≤ m)
    side n m high = ⊎_elim (λ (less : m < n). inl less) (λ (more : n ≤ m). inr (omega arith))
        (cases_lt m n)

-- the word of the first head
pub word_at : (z : Sizes) (words : List ℕ) (place : ℕ) → place ≡ head_place z 0 → get_or words place 0 ≡ head_word words z 0
unfolding head_word
word_at z words place at = ap (λ (k : ℕ). get_or words k 0) at

-- one more number of these, where so many stand already
pub from_step : (low n : ℕ) → low ≤ n → numbers_from low (n + 1 - low) ≡ numbers_from low (n - low) ++ n ∷ []
from_step low n le = let more : n + 1 - low ≡ n - low + 1 = omega arith in let last : low + (n - low) ≡ n = omega arith in
    ap (numbers_from low) more ∙ (from_more low (n - low) ∙ ap (λ (k : ℕ). numbers_from low (n - low) ++ k ∷ []) last)
