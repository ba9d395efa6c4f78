-- A pool opens with its sentinels attached, and with no other record.
use Rattle.std.proofs.Common.{◌≡◌, ℕ, zero, suc, ◌+◌, ◌<◌, ◌≤◌, List, [], ◌∷◌, length, refl, ap, subst, ⊎_elim, arith, ◌⊎◌, inl, inr}
use Rattle.std.proofs.Math.Decide.{ℕ_discrete}
use mathlib.Core.Logic.{dite}
use Rattle.pp_link.specs.declared.layout.Sizes.{Sizes}
use Rattle.pp_link.specs.Links.{target}
use Rattle.pp_link.specs.Places.{IsWithin}
use Rattle.pp_link.specs.Words.{head_word, cell_word}
use Rattle.pp_rule.specs.Lists.{IsIn, Once}
use Rattle.pp_rule.specs.States.{PoolState}
use Rattle.pp_rule.specs.Reached.{Reached, ReachesAll}
use Rattle.pp_rule.specs.Reached.Reached.{by_head, by_link}
use Rattle.pp_rule.specs.Causes.{CountsAttached}
use Rattle.pp_rule.specs.Laws.{HeadsOpen, LinksOpen, MetAtOpening}
use Rattle.pp_rule.specs.Opening.{opening_words, numbers_from, dealt}
use Rattle.pp_rule.proofs.Put.{in_nil, in_first, in_later, in_cases}
use Rattle.pp_rule.proofs.Without.{once_cons}
use Rattle.pp_rule.proofs.OpeningWords.{opening_head, opening_field}
use Rattle.pp_rule.proofs.Opening.{opening_state, opening_attached, opening_owned, base_open}
use Rattle.pp_rule.proofs.Shares.{owner}

in_from : (low k n : ℕ) → IsIn n (numbers_from low k) → (low ≤ n) × (n < low + k)
unfolding numbers_from
in_from low zero n i = absurd (in_nil n i)
in_from low (suc k) n i = ⊎_elim (λ (e : n ≡ low). (omega arith, omega arith))
    (λ (later : IsIn n (numbers_from (low + 1) k)). let rest = in_from (low + 1) k n later in let from = rest.0 in let below = rest.1 in
    (omega arith, omega arith))
    (in_cases n low (numbers_from (low + 1) k) i)

from_in : (low k n : ℕ) → low ≤ n → n < low + k → IsIn n (numbers_from low k)
unfolding numbers_from
from_in low zero n from below = absurd (omega arith)
from_in low (suc k) n from below = by (low_or low n from) (λ more. from_in (low + 1) k n more (omega arith))
  where
    low_or : (low n : ℕ) → low ≤ n → (low ≡ n) ⊎ (low + 1 ≤ n)
    low_or low n le = dite (ℕ_discrete low n) inl (λ ne. inr (omega arith))

    by : (low ≡ n) ⊎ (low + 1 ≤ n) → (low + 1 ≤ n → IsIn n (numbers_from (low + 1) k)) → IsIn n (low ∷ numbers_from (low + 1) k)
    by (inl e) rest = subst (λ (m : ℕ). IsIn m (low ∷ numbers_from (low + 1) k)) e (in_first low (numbers_from (low + 1) k))
    by (inr more) rest = in_later n low (numbers_from (low + 1) k) (rest more)

once_from : (low k : ℕ) → Once (numbers_from low k)
unfolding numbers_from
once_from low zero = λ i j x y at_i at_j e. absurd (in_nil x (i, at_i))
once_from low (suc k) = once_cons (λ n. n) low (numbers_from (low + 1) k)
    (λ n i e. let from = (in_from (low + 1) k n i).0 in absurd (omega arith)) (once_from (low + 1) k)

long_from : (low k : ℕ) → length (numbers_from low k) ≡ k
unfolding numbers_from
long_from low zero = refl
long_from low (suc k) = let rest = long_from (low + 1) k in omega arith

module _ {E A W : Type 0} (sides sentinels : ℕ) (head : ℕ → ℕ) (field : ℕ → ℕ → ℕ) (own : W) (z : Sizes)
    (addition : Sizes → List ℕ → PoolState E A W → Type 0) (two : sides ≤ 2) (within : IsWithin z) (most : sentinels ≤ z.records)
    (heads : HeadsOpen sentinels head) (links : LinksOpen sides sentinels field)
    (met : MetAtOpening sides addition sentinels head field own) (reaches : ReachesAll sides addition) where
  -- no link leads past the sentinels
  reached_low : (n : ℕ) → Reached sides z (opening_words sentinels head field z) n → n ≤ sentinels
  reached_low n (by_head h low to) = let leads : target (head h) ≤ sentinels = (heads h).to in
      let is : target (head_word (opening_words sentinels head field z) z h) ≡ target (head h) =
      ap target (opening_head sentinels head field z h low) in omega arith
  reached_low n (by_link m side is low to r) = let below = reached_low m r in
      let leads : target (field m (2 + side)) ≤ sentinels = (links m side is.0 below low).to in
      let there : target (cell_word (opening_words sentinels head field z) z m (2 + side)) ≡ target (field m (2 + side)) =
      ap target (opening_field sentinels head field z m (2 + side) is.0 below (omega arith)) in omega arith

  -- As many records are attached as there are sentinels.
  pub opens_clean : CountsAttached (Reached sides z (opening_words sentinels head field z)) sentinels
  opens_clean = let g : PoolState E A W = record { of = dealt sentinels own z; order = []; status = opening_state sentinels z } in
      let base = base_open sides sentinels head field own z two within most heads links in
      let added = met z g within most base record {
        of = λ p low. refl;
        order = refl;
        sentinels_are = λ n number le. opening_attached sentinels z n le;
        others_are = λ n number lt. (owner sentinels z z.passes n, opening_owned sentinels z n lt);
      } in record {
        numbers = numbers_from 1 sentinels;
        count_is = long_from 1 sentinels;
        once = once_from 1 sentinels;
        each = λ n i. let at = in_from 1 sentinels n i in let from = at.0 in let below = at.1 in (
          at.0,
          reaches z (opening_words sentinels head field z) g n base added (at.0, omega arith) (opening_attached sentinels z n
              (omega arith)),
        );
        all = λ n some r. from_in 1 sentinels n some (let low = reached_low n r in omega arith);
      }
