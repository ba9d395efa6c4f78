-- What a shape sees of a step.
use Rattle.std.specs.Prelude.{◌≡◌, ◌≢◌, ℕ, ◌+◌, ◌<◌, true, false, List}
use Rattle.pp_link.specs.declared.layout.Sizes.{Sizes}
use Rattle.pp_link.specs.Links.{invalid_bit}
use Rattle.pp_link.specs.Places.{IsNumber}
use Rattle.pp_link.specs.Words.{head_word, cell_word}
use Rattle.pp_rule.specs.Lists.{IsIn}
use Rattle.pp_rule.specs.Orders.{IsQuietStep}
use Rattle.pp_rule.specs.Views.{WalkSlot, PassState, slot}
use Rattle.pp_rule.specs.States.{attached, in_hand, IsUsed, IsLinked, PoolState, Stays}

-- The record that is held in a walk word still is, with the key and the value that it was published with, and what was learnt
-- of it is known.
pub record StillHeld (s s' : WalkSlot) : Type 0 where
  pub held : s'.held ≡ true
  pub named : s'.named ≡ s.named
  pub key : s'.key ≡ s.key
  pub value : s'.value ≡ s.value
  pub learnt : (l : ℕ × ℕ) → IsIn l s.learnt → IsIn l s'.learnt

module _ {W : Type 0} where
  -- the pass holds all that it held, and perhaps more
  pub record HoldsOn (q q' : PassState W) : Type 0 where
    pub each : (i : ℕ) → i < 5 → (slot q i).held ≡ true → StillHeld (slot q i) (slot q' i)

  pub record SameOwn (q q' : PassState W) : Type 0 where
    pub own : q'.own ≡ q.own
    pub holds : HoldsOn q q'

  -- the pass cleared the word i, and the shape's part forgot it
  pub record Clears (forget : ℕ → W → W) (i : ℕ) (q q' : PassState W) : Type 0 where
    pub own : q'.own ≡ forget i q.own
    pub gone : (slot q' i).held ≡ false
    pub others : (j : ℕ) → j < 5 → j ≢ i → slot q' j ≡ slot q j

module _ {E A W : Type 0} where
  -- The heads, the records that are used, and the log are as they were. What was attached is so, and what is attached or in
  -- hand was in the same state: a chain may have been retired, and what was retired may have become free.
  pub record SameSeen (z : Sizes) (words words' : List ℕ) (g g' : PoolState E A W) : Type 0 where
    pub heads : (h : ℕ) → h < z.heads → head_word words' z h ≡ head_word words z h
    pub cells : (n f : ℕ) → IsNumber z n → f < 5 → IsUsed (g'.status n) → cell_word words' z n f ≡ cell_word words z n f
    pub attached_on : (n : ℕ) → g.status n ≡ attached → g'.status n ≡ attached
    pub linked_was : (n : ℕ) → IsLinked (g'.status n) → g'.status n ≡ g.status n
    pub used_was : (n : ℕ) → IsUsed (g'.status n) → IsUsed (g.status n)
    pub order : IsQuietStep g.order g'.order

  -- A shape can't tell the two states apart, but for what the passes hold beside what they held.
  pub record LooksSame (z : Sizes) (words words' : List ℕ) (g g' : PoolState E A W) : Type 0 where
    pub seen : SameSeen z words words' g g'
    pub passes : (p : ℕ) → p < z.passes → SameOwn (g.of p) (g'.of p)

  -- The same, where the pass p cleared its walk word i.
  pub record Cleared (forget : ℕ → W → W) (z : Sizes) (words words' : List ℕ) (g g' : PoolState E A W) (p i : ℕ) : Type 0 where
    pub pass : p < z.passes
    pub word : i < 5
    pub seen : SameSeen z words words' g g'
    pub others : (r : ℕ) → r < z.passes → r ≢ p → SameOwn (g.of r) (g'.of r)
    pub here : Clears forget i (g.of p) (g'.of p)

  -- One link of a record in hand got INVALID, and nothing else changed that a shape sees.
  pub record Invalidates (z : Sizes) (words words' : List ℕ) (g g' : PoolState E A W) (n side : ℕ) : Type 0 where
    pub number : IsNumber z n
    pub hand : (p : ℕ) × ((j : ℕ) × (g.status n ≡ in_hand p j))
    pub heads : (h : ℕ) → h < z.heads → head_word words' z h ≡ head_word words z h
    pub others : (m f : ℕ) → IsNumber z m → f < 5 → ((m ≡ n) × (f ≡ 2 + side) → ⊥)
        → cell_word words' z m f ≡ cell_word words z m f
    pub here : Stays (cell_word words z n (2 + side)) (cell_word words' z n (2 + side))
    pub invalid : invalid_bit (cell_word words' z n (2 + side)) ≡ 1
    pub status : (m : ℕ) → g'.status m ≡ g.status m
    pub order : IsQuietStep g.order g'.order
    pub passes : (p : ℕ) → p < z.passes → SameOwn (g.of p) (g'.of p)
