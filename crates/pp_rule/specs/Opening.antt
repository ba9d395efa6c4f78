-- How a pool opens: its words, and what is known of its passes.
use Rattle.std.specs.Prelude.{◌≡◌, ℕ, zero, suc, ◌+◌, ◌-◌, ◌*◌, ◌/◌, ◌%◌, ◌<◌, ◌≤◌, cond, nat_lt, List, [], ◌∷◌, ◌++◌, replicate}
use Rattle.pp_link.specs.declared.layout.Sizes.{Sizes}
use Rattle.pp_link.specs.Links.{target, invalid_bit}
use Rattle.pp_link.specs.Places.{IsNumber}
use Rattle.pp_rule.specs.Views.{PrivateRecord, PassState, SeatView, blank}
use Rattle.pp_rule.specs.States.{attached, owned, PoolState, IsSmall}
use Rattle.pp_rule.specs.Steps.{several}

-- the first n words from the number low on
unfoldable pub words_from : (ℕ → ℕ) → ℕ → ℕ → List ℕ
words_from word low zero = []
words_from word low (suc n) = word low ∷ words_from word (low + 1) n

-- the fields of n records from the number low on
unfoldable pub fields_from : (ℕ → ℕ → ℕ) → ℕ → ℕ → List ℕ
fields_from field low zero = []
fields_from field low (suc n) =
    field low 0 ∷ field low 1 ∷ field low 2 ∷ field low 3 ∷ field low 4 ∷ fields_from field (low + 1) n

-- the words with which a pool opens: all are 0 but the heads and the fields of the sentinels
unfoldable pub opening_words : ℕ → (ℕ → ℕ) → (ℕ → ℕ → ℕ) → Sizes → List ℕ
opening_words sentinels head field z = replicate (1 + 17 * z.passes) 0
    ++ (words_from head 0 z.heads ++ (fields_from field 1 sentinels ++ replicate (5 * (z.records - sentinels)) 0))

-- how many records a pass is given: an equal share of those that are no sentinels, and one of the rest
abbrev pub share_of : ℕ → Sizes → ℕ → ℕ
share_of sentinels z c = (z.records - sentinels) / z.passes + cond (nat_lt c ((z.records - sentinels) % z.passes)) 1 0

-- the first of them
unfoldable pub start_of : ℕ → Sizes → ℕ → ℕ
start_of sentinels z zero = sentinels + 1
start_of sentinels z (suc c) = start_of sentinels z c + share_of sentinels z c

-- n numbers from low on
unfoldable pub numbers_from : ℕ → ℕ → List ℕ
numbers_from low zero = []
numbers_from low (suc n) = low ∷ numbers_from (low + 1) n

-- free records as they open
unfoldable pub records_from : ℕ → ℕ → List PrivateRecord
records_from low zero = []
records_from low (suc n) = record { number = low; key = 0; value = 0; left = 0; right = 0; high = 0 } ∷ records_from (low + 1) n

module _ {W : Type 0} where
  -- what is known of the pass c at the opening
  unfoldable pub dealt : ℕ → W → Sizes → ℕ → PassState W
  dealt sentinels own z c = record {
    number = c;
    sizes = z;
    owned = records_from (start_of sentinels z c) (share_of sentinels z c);
    retired = [];
    walk = replicate 5 blank;
    frontier = replicate 4 0;
    chains = [];
    scan = record { read = 0; left = [] };
    own = own;
  }

  -- of n passes from low on
  unfoldable pub dealt_from : ℕ → W → Sizes → ℕ → ℕ → List (PassState W)
  dealt_from sentinels own z low zero = []
  dealt_from sentinels own z low (suc n) = dealt sentinels own z low ∷ dealt_from sentinels own z (low + 1) n

-- the view of the first seat, which stands for all passes until it deals them
abbrev pub first_view : {E A W : Type 0} → ℕ → W → Sizes → SeatView E A W
first_view sentinels own z = several [] (dealt sentinels own z 0) (dealt_from sentinels own z 1 (z.passes - 1))

-- a word that leads to nil or to a sentinel
pub record OpensInto (sentinels w : ℕ) : Type 0 where
  pub small : IsSmall w
  pub valid : invalid_bit w ≡ 0
  pub to : target w ≤ sentinels

-- a pool as it opens
pub record IsOpening {E A W : Type 0} (sentinels : ℕ) (own : W) (z : Sizes) (g : PoolState E A W) : Type 0 where
  pub of : (p : ℕ) → p < z.passes → g.of p ≡ dealt sentinels own z p
  pub order : g.order ≡ []
  pub sentinels_are : (n : ℕ) → IsNumber z n → n ≤ sentinels → g.status n ≡ attached
  pub others_are : (n : ℕ) → IsNumber z n → sentinels < n → (p : ℕ) × (g.status n ≡ owned p)
