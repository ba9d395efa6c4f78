-- Which records can be reached.
use Rattle.std.specs.Prelude.{◌≡◌, ◌≢◌, ℕ, ◌+◌, ◌<◌, List}
use Rattle.pp_link.specs.declared.layout.Sizes.{Sizes}
use Rattle.pp_link.specs.Links.{target}
use Rattle.pp_link.specs.Places.{IsNumber, head_place, cell_place}
use Rattle.pp_link.specs.Words.{head_word, cell_word}
use Rattle.pp_rule.specs.States.{PoolState, attached}
use Rattle.pp_rule.specs.Rule.{Base}

-- The record n can be reached from a head by links: a head leads to it, or a link of a record that can be reached.
pub data Reached (sides : ℕ) (z : Sizes) (words : List ℕ) : ℕ → Type 0 where
  by_head : {n : ℕ} (h : ℕ) → h < z.heads → target (head_word words z h) ≡ n → Reached sides z words n
  by_link : {n : ℕ} (m side : ℕ) → IsNumber z m → side < sides → target (cell_word words z m (2 + side)) ≡ n
      → Reached sides z words m → Reached sides z words n

-- each attached record can
abbrev pub ReachesAll : {E A W : Type 0} → ℕ → (Sizes → List ℕ → PoolState E A W → Type 0) → Type 0
ReachesAll {E} {A} {W} sides addition = (z : Sizes) (words : List ℕ) (g : PoolState E A W) (n : ℕ) → Base sides z words g
    → addition z words g → IsNumber z n → g.status n ≡ attached → Reached sides z words n

-- the word at this place is none of a head or of a record that can be reached
pub record IsAside (sides : ℕ) (z : Sizes) (words : List ℕ) (place : ℕ) : Type 0 where
  pub heads : (h : ℕ) → h < z.heads → place ≢ head_place z h
  pub cells : (n f : ℕ) → IsNumber z n → f < 5 → place ≡ cell_place z n f → Reached sides z words n → ⊥

-- so many words on, the heads are as they were, and so are the records that could be reached
pub record SameReached (sides : ℕ) (z : Sizes) (words words' : List ℕ) : Type 0 where
  pub heads : (h : ℕ) → h < z.heads → head_word words' z h ≡ head_word words z h
  pub cells : (n f : ℕ) → IsNumber z n → f < 5 → Reached sides z words n → cell_word words' z n f ≡ cell_word words z n f
