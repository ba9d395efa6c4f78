-- The walk words of a pass, and how some of them are cleared.
use Rattle.std.specs.Prelude.{◌≡◌, ◌⊎◌, ℕ, ◌<◌, Bool, true, false, nat_eq, ◌||◌, []}
use Rattle.pp_rule.specs.declared.views.WalkSlot.{WalkSlot}
use Rattle.pp_rule.specs.Views.{slot}
use Rattle.pp_lists.specs.declared.own.ListOwn.{ListOwn}
use Rattle.pp_lists.specs.Lists.{ListPass}

-- a walk word with nothing in it
pub record IsEmpty (w : WalkSlot) : Type 0 where
  pub named : w.named ≡ 0
  pub free : w.held ≡ false

-- all five are empty
abbrev pub AllEmpty : ListPass → Type 0
AllEmpty q = (j : ℕ) → j < 5 → IsEmpty (slot q j)

-- whether the walk word j is one of these three; 5 stands for none
abbrev pub is_kept : ℕ → ℕ → ℕ → ℕ → Bool
is_kept a b c j = nat_eq j a || (nat_eq j b || nat_eq j c)

-- it is the same call, from the same start, and the pass left the same removed records attached
pub record SameCallOf (own own' : ListOwn) : Type 0 where
  pub call : own'.call ≡ own.call
  pub start : own'.start ≡ own.start
  pub left : own'.left ≡ own.left

-- but for its walk words and the list's part, what is known of the pass is as it was
pub record SameRest (q q' : ListPass) : Type 0 where
  pub number : q'.number ≡ q.number
  pub sizes : q'.sizes ≡ q.sizes
  pub owned : q'.owned ≡ q.owned
  pub retired_are : q'.retired ≡ q.retired
  pub frontier : q'.frontier ≡ q.frontier
  pub chains : q'.chains ≡ q.chains
  pub scan : q'.scan ≡ q.scan

-- What is left where all walk words but a, b and c are cleared.
pub record Cleared (a b c : ℕ) (q q' : ListPass) : Type 0 where
  pub rest : SameRest q q'
  pub same : SameCallOf q.own q'.own
  pub going : q'.own.going ≡ q.own.going
  pub kept : (j : ℕ) → is_kept a b c j ≡ true → slot q' j ≡ slot q j
  pub empty : (j : ℕ) → j < 5 → is_kept a b c j ≡ false → IsEmpty (slot q' j)
  -- the call stands where it stood, if that word is kept
  pub at : is_kept a b c q.own.at ≡ true → q'.own.at ≡ q.own.at
  -- what was gathered stays with the word of its first record
  pub gathered : is_kept a b c q.own.first ≡ true → (q'.own.first ≡ q.own.first) × (q'.own.chain ≡ q.own.chain)
  pub lost : q.own.first < 5 → is_kept a b c q.own.first ≡ false → (slot q q.own.first).held ≡ true
      → (q'.own.first ≡ 5) × (q'.own.chain ≡ [])
  pub none : q.own.first ≡ 5 → q.own.chain ≡ [] → (q'.own.first ≡ 5) × (q'.own.chain ≡ [])

-- what the pass holds it held before, in the same walk word
abbrev pub HoldsNoMore : ListPass → ListPass → Type 0
HoldsNoMore q q' = (j : ℕ) → j < 5 → (slot q' j).held ≡ true → ((slot q j).held ≡ true) × ((slot q' j).named ≡ (slot q j).named)

-- but for the record n
abbrev pub HoldsBut : ℕ → ListPass → ListPass → Type 0
HoldsBut n q q' = (j : ℕ) → j < 5 → (slot q' j).held ≡ true
    → ((slot q' j).named ≡ n) ⊎ (((slot q j).held ≡ true) × ((slot q' j).named ≡ (slot q j).named))
