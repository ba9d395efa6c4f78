-- The laws that a shape's addition to the rule meets.
use Rattle.std.specs.Prelude.{◌≡◌, ℕ, ◌+◌, ◌<◌, ◌≤◌, Bool, true, List, length, slice_index, slice_set}
use Rattle.pp_link.specs.declared.layout.Sizes.{Sizes}
use Rattle.pp_link.specs.Links.{target}
use Rattle.pp_link.specs.Places.{IsWithin}
use Rattle.pp_model.specs.declared.Pair.{Pair}
use Rattle.pp_rule.specs.Orders.{log_of, placed_by}
use Rattle.pp_rule.specs.Views.{WalkSlot, Chain, PassState, guarding}
use Rattle.pp_rule.specs.States.{PoolState, IsFrozen}
use Rattle.pp_rule.specs.Rule.{Base}
use Rattle.pp_rule.specs.Looks.{LooksSame, Cleared, Invalidates}
use Rattle.pp_rule.specs.Steps.{IsUnused}
use Rattle.pp_rule.specs.Paths.{IsChainTo}
use Rattle.pp_rule.specs.Detach.{Detaches, Detached}
use Rattle.pp_rule.specs.Opening.{opening_words, OpensInto, IsOpening}
use Rattle.pp_rule.specs.Closing.{Gathers}

-- a frozen word has FLAG or TAG
abbrev pub Freezes : (ℕ → Bool) → Type 0
Freezes frozen = (w : ℕ) → frozen w ≡ true → IsFrozen w

-- the heads and the sentinels' links lead to nil or to sentinels
abbrev pub HeadsOpen : ℕ → (ℕ → ℕ) → Type 0
HeadsOpen sentinels head = (h : ℕ) → OpensInto sentinels (head h)

abbrev pub LinksOpen : ℕ → ℕ → (ℕ → ℕ → ℕ) → Type 0
LinksOpen sides sentinels field = (n side : ℕ) → 1 ≤ n → n ≤ sentinels → side < sides → OpensInto sentinels (field n (2 + side))

module _ {E A W : Type 0} (sides : ℕ) (addition : Sizes → List ℕ → PoolState E A W → Type 0) where
  -- it is met by the opening
  abbrev pub MetAtOpening : ℕ → (ℕ → ℕ) → (ℕ → ℕ → ℕ) → W → Type 0
  MetAtOpening sentinels head field own = (z : Sizes) (g : PoolState E A W) → IsWithin z → sentinels ≤ z.records
      → Base sides z (opening_words sentinels head field z) g → IsOpening sentinels own z g
      → addition z (opening_words sentinels head field z) g

  -- a step that the shape can't see keeps it
  abbrev pub KeptAlike : Type 0
  KeptAlike = (z : Sizes) (words words' : List ℕ) (g g' : PoolState E A W) → Base sides z words g → Base sides z words' g'
      → LooksSame z words words' g g' → addition z words g → addition z words' g'

  -- so does a step that clears a walk word
  abbrev pub KeptCleared : (ℕ → W → W) → Type 0
  KeptCleared forget = (z : Sizes) (words words' : List ℕ) (g g' : PoolState E A W) (p i : ℕ) → Base sides z words g
      → Base sides z words' g'
      → Cleared forget z words words' g g' p i → addition z words g → addition z words' g'

  -- so does an or-step that sets INVALID in a link of a record in hand
  abbrev pub KeptInvalid : Type 0
  KeptInvalid = (z : Sizes) (words words' : List ℕ) (g g' : PoolState E A W) (n side : ℕ) → Base sides z words g → Base sides z words' g'
      → side < sides → Invalidates z words words' g g' n side → addition z words g → addition z words' g'

  module _ (chain : List WalkSlot → W → ℕ → ℕ → ℕ → Chain) (may_detach : Sizes → List WalkSlot → W → ℕ → ℕ → ℕ → Type 0) where
    -- Where the word is still the one that is expected, the chain may be detached under a frontier word that guards no chain and
    -- names the record that the new word leads to.
    abbrev pub MayDetach : Type 0
    MayDetach = (z : Sizes) (words : List ℕ) (g : PoolState E A W) (q : PassState W) (place guard first new : ℕ) → Base sides z words g
        → addition z words g → q.number < z.passes → g.of q.number ≡ q → may_detach z q.walk q.own place first new
        → guard < 4 → guarding q guard ≡ target new → IsUnused guard q
        → slice_index words place ≡ first → Detaches sides z words g q (chain q.walk q.own guard first new) place (target new) new

    -- It stands in the order in which its links lead, from the record that the old word leads to up to the one that the new
    -- word leads to.
    abbrev pub Chained : Type 0
    Chained = (z : Sizes) (words : List ℕ) (g : PoolState E A W) (q : PassState W) (place guard first new : ℕ)
        → Base sides z words g
        → addition z words g → q.number < z.passes → g.of q.number ≡ q → may_detach z q.walk q.own place first new
        → slice_index words place ≡ first → IsChainTo sides guard (target first) (target new) (chain q.walk q.own guard first new)

    -- and that keeps the addition
    abbrev pub KeptDetached : Type 0
    KeptDetached = (z : Sizes) (words : List ℕ) (g g' : PoolState E A W) (q : PassState W) (place guard first new : ℕ)
        → Base sides z words g
        → Base sides z (slice_set words place new) g' → q.number < z.passes → g.of q.number ≡ q
        → may_detach z q.walk q.own place first new
        → slice_index words place ≡ first → Detaches sides z words g q (chain q.walk q.own guard first new) place (target new) new
        → Detached z g g' q (chain q.walk q.own guard first new) → addition z words g → addition z (slice_set words place new) g'

  -- What a closed pool tells of what was gathered from its words: its live numbers, its contents, and the placed calls of each
  -- pass.
  abbrev pub Closes : (Sizes → List ℕ → List Pair → List ℕ → Type 0) → (ℕ → ℕ) → (Sizes → List E → List Pair → Type 0)
      → (Sizes → List E → ℕ → List A → Type 0) → Type 0
  Closes gathered live_count tells tells_pass =
      (z : Sizes) (words : List ℕ) (g : PoolState E A W) (contents : List Pair) (live : List ℕ)
      → Base sides z words g → addition z words g → gathered z words contents live
      → Gathers z live × (length live ≡ live_count (length contents)) × tells z (log_of g.order) contents
      × ((p : ℕ) → p < z.passes → tells_pass z (log_of g.order) p (placed_by p g.order))
