-- The rule of a row of three records, of which a pass may detach the first two.
use Rattle.std.specs.Prelude.{◌≡◌, ◌≢◌, ◌⊎◌, ℕ, ◌*◌, ◌<◌, ◌≤◌, Bool, true, cond, nat_eq, List, [], ◌∷◌, slice_index_or}
use Rattle.pp_link.specs.declared.layout.Sizes.{Sizes}
use Rattle.pp_link.specs.Links.{flag_bit}
use Rattle.pp_link.specs.Places.{IsNumber, head_place}
use Rattle.pp_link.specs.Words.{head_word, cell_word}
use Rattle.pp_model.specs.declared.Pair.{Pair}
use Rattle.pp_rule.specs.Lists.{IsIn}
use Rattle.pp_rule.specs.Orders.{log_of, placed_by}
use Rattle.pp_rule.specs.declared.views.Chain.{Chain}
use Rattle.pp_rule.specs.declared.views.WalkSlot.{WalkSlot}
use Rattle.pp_rule.specs.Views.{blank}
use Rattle.pp_rule.specs.States.{attached, IsLinked, PoolState, Stays}

-- the head 0 leads to the record 1, and every other head is nil
abbrev pub row_head : ℕ → ℕ
row_head h = cond (nat_eq h 0) 16 0

-- the left link of the record 1 leads to 2 with FLAG, that of 2 to 3 with FLAG, and that of 3 is nil
abbrev pub row_link : ℕ → ℕ
row_link n = cond (nat_eq n 1) 33 (cond (nat_eq n 2) 49 0)

-- the record n has the key n and the value 10 n, and no right link
abbrev pub row_field : ℕ → ℕ → ℕ
row_field n f = cond (nat_eq f 0) n (cond (nat_eq f 1) (10 * n) (cond (nat_eq f 2) (row_link n) 0))

-- a link with FLAG keeps its target
abbrev pub has_flag : ℕ → Bool
has_flag w = nat_eq (flag_bit w) 1

module _ {E A W : Type 0} where
  -- the row stands as it opened
  pub record IsWhole (z : Sizes) (words : List ℕ) (g : PoolState E A W) : Type 0 where
    pub head : head_word words z 0 ≡ 16
    pub first : g.status 1 ≡ attached
    pub second : g.status 2 ≡ attached

  -- the first two records were detached
  pub record IsCut (z : Sizes) (words : List ℕ) (g : PoolState E A W) : Type 0 where
    pub head : head_word words z 0 ≡ 48
    pub first : g.status 1 ≢ attached
    pub second : g.status 2 ≢ attached

  -- What the row adds to the rule.
  pub record IsRow (z : Sizes) (words : List ℕ) (g : PoolState E A W) : Type 0 where
    -- no call takes effect, and none is placed
    pub log : log_of g.order ≡ []
    pub placed : (p : ℕ) → placed_by p g.order ≡ []
    pub heads : (h : ℕ) → h < z.heads → h ≢ 0 → head_word words z h ≡ 0
    pub row : IsWhole z words g ⊎ IsCut z words g
    pub last : g.status 3 ≡ attached
    pub no_other : (n : ℕ) → IsNumber z n → g.status n ≡ attached → n ≤ 3
    -- while a record is attached or in hand, its link is as it was, or has INVALID beside
    pub links : (n : ℕ) → 1 ≤ n → n ≤ 3 → IsLinked (g.status n) → Stays (row_link n) (cell_word words z n 2)

-- the record n is held in one of these walk words, and this word of its left link was learnt
pub record Learnt (walk : List WalkSlot) (n word : ℕ) : Type 0 where
  pub index : ℕ
  pub index_low : index < 5
  pub held : (slice_index_or walk index blank).held ≡ true
  pub named : (slice_index_or walk index blank).named ≡ n
  pub learnt : IsIn (0, word) (slice_index_or walk index blank).learnt

-- the first two records, which the head leads through
abbrev pub row_chain : ℕ → Chain
row_chain guard = record {
  records = 1 ∷ 2 ∷ [];
  guard = guard;
  frontier = 3;
  links = record { number = 1; side = 0; word = 33 } ∷ record { number = 2; side = 0; word = 49 } ∷ [];
  valid = (1, 0) ∷ (2, 0) ∷ [];
}

-- A pass that has learnt their links may lead the head to the record 3.
pub record MayCut (z : Sizes) (walk : List WalkSlot) (place first new : ℕ) : Type 0 where
  pub place_is : place ≡ head_place z 0
  pub first_is : first ≡ 16
  pub new_is : new ≡ 48
  pub first_learnt : Learnt walk 1 33
  pub second_learnt : Learnt walk 2 49

-- Its contents are none, and the record 3 alone is live.
abbrev pub RowGathered : Sizes → List ℕ → List Pair → List ℕ → Type 0
RowGathered z words contents live = (contents ≡ []) × (live ≡ 3 ∷ [])

abbrev pub row_count : ℕ → ℕ
row_count pairs = 1

-- no call took effect, and there are no contents
abbrev pub RowTells : {E : Type 0} → Sizes → List E → List Pair → Type 0
RowTells z log pairs = (log ≡ []) × (pairs ≡ [])

abbrev pub RowTellsPass : {E A : Type 0} → Sizes → List E → ℕ → List A → Type 0
RowTellsPass z log p placed = placed ≡ []
