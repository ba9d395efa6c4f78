-- The rule of five pegs on one line, of which a pass may pull out the first.
use Rattle.std.specs.Prelude.{◌≡◌, ◌≢◌, ℕ, ◌+◌, ◌-◌, ◌*◌, ◌<◌, ◌≤◌, cond, nat_eq, nat_lt, List, [], ◌∷◌, map}
use Rattle.pp_link.specs.declared.layout.Sizes.{Sizes}
use Rattle.pp_link.specs.Links.{target}
use Rattle.pp_link.specs.Places.{IsNumber, head_place}
use Rattle.pp_link.specs.Words.{head_word, cell_word}
use Rattle.pp_model.specs.declared.Pair.{Pair}
use Rattle.pp_rule.specs.Orders.{log_of, placed_by}
use Rattle.pp_rule.specs.Opening.{numbers_from}
use Rattle.pp_rule.specs.declared.views.Chain.{Chain}
use Rattle.pp_rule.specs.declared.views.WalkSlot.{WalkSlot}
use Rattle.pp_rule.specs.States.{attached, IsLinked, PoolState, Stays}
use Rattle.pp_base.specs.Row.{Learnt}

-- the peg behind the peg n, or nil behind the last one; the first one stands behind 0
abbrev pub next_peg : ℕ → ℕ
next_peg n = cond (nat_lt n 5) (n + 1) 0

-- the head 0 leads to the first peg, and every other head is nil
abbrev pub peg_head : ℕ → ℕ
peg_head h = cond (nat_eq h 0) 16 0

-- the left link of a peg leads to the next one, with FLAG
abbrev pub peg_link : ℕ → ℕ
peg_link n = 16 * next_peg n + 1

-- the peg n has the key n and the value 0, and no right link
abbrev pub peg_field : ℕ → ℕ → ℕ
peg_field n f = cond (nat_eq f 0) n (cond (nat_eq f 2) (peg_link n) 0)

module _ {E A W : Type 0} where
  -- What the pegs add to the rule.
  pub record ArePegs (z : Sizes) (words : List ℕ) (g : PoolState E A W) : Type 0 where
    -- no call takes effect, and none is placed
    pub log : log_of g.order ≡ []
    pub placed : (p : ℕ) → placed_by p g.order ≡ []
    -- so many were pulled out, the first ones, and the head leads to the next
    pub out : ℕ
    pub few : out ≤ 5
    pub head : head_word words z 0 ≡ 16 * next_peg out
    pub heads : (h : ℕ) → h < z.heads → h ≢ 0 → head_word words z h ≡ 0
    pub standing : (n : ℕ) → out < n → n ≤ 5 → g.status n ≡ attached
    pub no_other : (n : ℕ) → IsNumber z n → g.status n ≡ attached → (out < n) × (n ≤ 5)
    -- while a peg is attached or in hand, its link is as it was, or has INVALID beside
    pub links : (n : ℕ) → 1 ≤ n → n ≤ 5 → IsLinked (g.status n) → Stays (peg_link n) (cell_word words z n 2)

-- one peg alone, which leads to the next one
abbrev pub peg_chain : ℕ → ℕ → Chain
peg_chain guard n = record {
  records = n ∷ [];
  guard = guard;
  frontier = next_peg n;
  links = record { number = n; side = 0; word = peg_link n } ∷ [];
  valid = (n, 0) ∷ [];
}

-- A pass that holds a peg and has learnt its link may lead the head past it.
pub record MayPull (z : Sizes) (walk : List WalkSlot) (place first new : ℕ) : Type 0 where
  pub peg : ℕ
  pub some_is : 1 ≤ peg
  pub few : peg ≤ 5
  pub place_is : place ≡ head_place z 0
  pub first_is : first ≡ 16 * peg
  pub new_is : new ≡ 16 * next_peg peg
  pub learnt : Learnt walk peg (peg_link peg)

-- the pegs from this one on, and none from nil on
abbrev pub pegs_from : ℕ → List ℕ
pegs_from n = cond (nat_eq n 0) [] (numbers_from n (6 - n))

-- the pegs from that on to which the head leads are live
abbrev pub peg_alive : Sizes → List ℕ → List ℕ
peg_alive z words = pegs_from (target (head_word words z 0))

abbrev pub pair_of : ℕ → Pair
pair_of n = record { key = n; value = 0 }

-- and their keys and values are the contents
abbrev pub peg_pairs : Sizes → List ℕ → List Pair
peg_pairs z words = map pair_of (peg_alive z words)

abbrev pub PegGathered : Sizes → List ℕ → List Pair → List ℕ → Type 0
PegGathered z words contents live = (contents ≡ peg_pairs z words) × (live ≡ peg_alive z words)

abbrev pub peg_count : ℕ → ℕ
peg_count pairs = pairs

-- no call took effect
abbrev pub PegTells : {E : Type 0} → Sizes → List E → List Pair → Type 0
PegTells z log pairs = log ≡ []

abbrev pub PegTellsPass : {E A : Type 0} → Sizes → List E → ℕ → List A → Type 0
PegTellsPass z log p placed = placed ≡ []
