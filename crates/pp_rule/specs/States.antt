-- The states of a record, and what the rule knows beside the words and the views.
use Rattle.std.specs.Prelude.{◌≡◌, ◌≢◌, ◌⊎◌, ℕ, ◌+◌, ◌*◌, ◌%◌, ◌<◌, List}
use Rattle.pp_link.specs.declared.layout.Sizes.{Sizes}
use Rattle.pp_link.specs.Links.{target, invalid_bit, flag_bit, tag_bit, leaf_bit}
use Rattle.pp_link.specs.Places.{IsNumber}
use Rattle.pp_link.specs.Words.{frontier_word, cell_word}
use Rattle.pp_rule.specs.Lists.{IsIn}
use Rattle.pp_rule.specs.Orders.{LoggedStep}
use Rattle.pp_rule.specs.Views.{PassState, WalkSlot, halves}

-- what a record is
pub data RecordState : Type 0 where
  -- it can be reached from a head
  attached : RecordState
  -- in hand of a pass, in the chain that this frontier word guards
  in_hand : ℕ → ℕ → RecordState
  -- retired by a pass
  retired : ℕ → RecordState
  -- free with a pass, or private to it
  owned : ℕ → RecordState
  -- free, in a shelf word
  shelved : ℕ → RecordState

-- neither free nor private
abbrev pub IsUsed : RecordState → Type 0
IsUsed attached = Unit {0}
IsUsed (in_hand p j) = Unit {0}
IsUsed (retired p) = Unit {0}
IsUsed (owned p) = ⊥
IsUsed (shelved j) = ⊥

-- attached or in hand
abbrev pub IsLinked : RecordState → Type 0
IsLinked attached = Unit {0}
IsLinked (in_hand p j) = Unit {0}
IsLinked (retired p) = ⊥
IsLinked (owned p) = ⊥
IsLinked (shelved j) = ⊥

-- the state speaks of a pass, a frontier word or a shelf word that there is
abbrev pub IsStateIn : Sizes → RecordState → Type 0
IsStateIn z attached = Unit {0}
IsStateIn z (in_hand p j) = (p < z.passes) × (j < 4)
IsStateIn z (retired p) = p < z.passes
IsStateIn z (owned p) = p < z.passes
IsStateIn z (shelved j) = j < 8 * z.passes

-- what the rule knows beside the words and the views: what is known of each pass, the order of all steps, and the one state of
-- each number
pub record PoolState (E A W : Type 0) : Type 0 where
  pub of : ℕ → PassState W
  pub order : List (LoggedStep E A)
  pub status : ℕ → RecordState

-- a word of 36 bits, as links are
abbrev pub IsSmall : ℕ → Type 0
IsSmall w = w < 68719476736

-- a link with FLAG or TAG, which keeps its number
abbrev pub IsFrozen : ℕ → Type 0
IsFrozen w = w % 4 ≢ 0

-- a frozen link that was read is now as it was, or has INVALID beside
abbrev pub Stays : ℕ → ℕ → Type 0
Stays was now = (now ≡ was) ⊎ ((invalid_bit was ≡ 0) × (now ≡ was + 4))

-- a link of a detached record keeps all but INVALID and TAG
pub record SameTarget (was now : ℕ) : Type 0 where
  pub target_is : target now ≡ target was
  pub flag_is : flag_bit now ≡ flag_bit was
  pub leaf_is : leaf_bit now ≡ leaf_bit was

-- a frozen link that was read keeps its target, FLAG and LEAF, and a TAG; it may get INVALID, and TAG beside FLAG
pub record Keeps (was now : ℕ) : Type 0 where
  pub same : SameTarget was now
  pub tag : tag_bit was ≡ 1 → tag_bit now ≡ 1

-- a link without INVALID that leads to nil or to an attached record
pub record Leads (z : Sizes) (status : ℕ → RecordState) (w : ℕ) : Type 0 where
  pub small : IsSmall w
  pub valid : invalid_bit w ≡ 0
  pub to : (target w ≡ 0) ⊎ (IsNumber z (target w) × (status (target w) ≡ attached))

-- A link of a record in hand: without INVALID it leads to nil, to the same chain, or to the record that the chain's frontier
-- word names, which is neither free nor private.
pub record Leaves (z : Sizes) (words : List ℕ) (status : ℕ → RecordState) (p j w : ℕ) : Type 0 where
  pub small : IsSmall w
  pub to : invalid_bit w ≡ 0 → (target w ≡ 0)
      ⊎ (IsNumber z (target w) × ((status (target w) ≡ in_hand p j) ⊎ ((target w ≡ frontier_word words z p j) × IsUsed (status
      (target w)))))

-- A held record is neither free nor private. It has the key and the value that it was published with, and the frozen links
-- that were learnt of it, but perhaps for INVALID, and for TAG beside FLAG.
pub record Held (z : Sizes) (words : List ℕ) (status : ℕ → RecordState) (w : WalkSlot) : Type 0 where
  pub number : IsNumber z w.named
  pub used : IsUsed (status w.named)
  pub key : cell_word words z w.named 0 ≡ w.key
  pub value : halves (cell_word words z w.named 1) (cell_word words z w.named 4) ≡ w.value
  pub learnt : (l : ℕ × ℕ) → IsIn l w.learnt → (l.0 < 2) × Keeps l.1 (cell_word words z w.named (2 + l.0)) × IsFrozen l.1
