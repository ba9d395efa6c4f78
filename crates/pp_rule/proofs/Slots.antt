-- The walk words and the frontier words of a pass where one of them has a new value.
use Rattle.std.proofs.Common.{◌≡◌, ◌≢◌, ℕ, ◌<◌, true, false, List, length, get_or, set, refl, sym, ap, ◌∙◌, subst}
use Rattle.std.proofs.lemmas.List.{get_or-set_same, get_or-set_other, length-set}
use Rattle.std.proofs.Math.Bool.{false≢true}
use Rattle.std.proofs.Math.Decide.{ℕ_discrete}
use mathlib.Core.Logic.{dite}
use Rattle.pp_rule.specs.Views.{WalkSlot, naming, blank, PassState, slot, guarding}
use Rattle.pp_rule.specs.Looks.{StillHeld, HoldsOn, SameOwn, Clears}

pub still_self : (s : WalkSlot) → s.held ≡ true → StillHeld s s
still_self s h = record { held = h; named = refl; key = refl; value = refl; learnt = λ l i. i }

module _ {W : Type 0} where
  -- The walk word i has the slot w. The lists and the frontier words are as they were, and the shape's part may be any.
  pub record WalkSet (i : ℕ) (w : WalkSlot) (q q' : PassState W) : Type 0 where
    pub number : q'.number ≡ q.number
    pub sizes : q'.sizes ≡ q.sizes
    pub owned : q'.owned ≡ q.owned
    pub retired_are : q'.retired ≡ q.retired
    pub frontier : q'.frontier ≡ q.frontier
    pub chains : q'.chains ≡ q.chains
    pub scan : q'.scan ≡ q.scan
    pub walk : q'.walk ≡ set q.walk i w

  pub slot_here : (q q' : PassState W) (i : ℕ) (w : WalkSlot) → q'.walk ≡ set q.walk i w → i < length q.walk → slot q' i ≡ w
  slot_here q q' i w is low = ap (λ (l : List WalkSlot). get_or l i blank) is ∙ get_or-set_same q.walk i w blank low

  pub slot_else : (q q' : PassState W) (i : ℕ) (w : WalkSlot) → q'.walk ≡ set q.walk i w → (j : ℕ) → j ≢ i → slot q' j ≡ slot q j
  slot_else q q' i w is j ne = ap (λ (l : List WalkSlot). get_or l j blank) is ∙ get_or-set_other q.walk i j w blank ne

  -- what is true of the new slot and of the others is true of each
  pub each_slot : (P : ℕ → WalkSlot → Type 0) (q q' : PassState W) (i : ℕ) (w : WalkSlot) → q'.walk ≡ set q.walk i w → i < length q.walk
      → P i w → ((j : ℕ) → j < 5 → j ≢ i → P j (slot q j)) → (j : ℕ) → j < 5 → P j (slot q' j)
  each_slot P q q' i w is low here others j five = dite (ℕ_discrete j i)
      (λ e. subst (λ k. P k (slot q' k)) (sym e) (subst (P i) (sym (slot_here q q' i w is low)) here))
      (λ ne. subst (P j) (sym (slot_else q q' i w is j ne)) (others j five ne))

  pub five_after : (q q' : PassState W) (i : ℕ) (w : WalkSlot) → q'.walk ≡ set q.walk i w → length q.walk ≡ 5 → length q'.walk ≡ 5
  five_after q q' i w is five = ap (λ (l : List WalkSlot). length l) is ∙ (length-set q.walk i w ∙ five)

  -- a word in which nothing is held may get any slot
  pub holds_on_free : (q q' : PassState W) (i : ℕ) (w : WalkSlot) → q'.walk ≡ set q.walk i w → (slot q i).held ≡ false → HoldsOn q q'
  holds_on_free q q' i w is free = record {
    each = λ j five h. subst (StillHeld (slot q j)) (sym (slot_else q q' i w is j (other j h))) (still_self (slot q j) h);
  }
    where
      other : (j : ℕ) → (slot q j).held ≡ true → j ≢ i
      other j h e = false≢true (sym free ∙ (ap (λ k. (slot q k).held) (sym e) ∙ h))

  -- a word may get another slot that holds the same record
  pub holds_on_same : (q q' : PassState W) (i : ℕ) (w : WalkSlot) → q'.walk ≡ set q.walk i w → i < length q.walk
      → ((slot q i).held ≡ true → StillHeld (slot q i) w) → HoldsOn q q'
  holds_on_same q q' i w is low same = record {
    each = λ j five. each_slot (λ k s. (slot q k).held ≡ true → StillHeld (slot q k) s) q q' i w is low same
        (λ k k5 ne h. still_self (slot q k) h) j five;
  }

  pub holds_on_self : (q q' : PassState W) → q'.walk ≡ q.walk → HoldsOn q q'
  holds_on_self q q' is = record {
    each = λ j five h. subst (λ (l : List WalkSlot). StillHeld (slot q j) (get_or l j blank)) (sym is) (still_self (slot q j) h);
  }

  pub same_own : (q q' : PassState W) → q'.own ≡ q.own → q'.walk ≡ q.walk → SameOwn q q'
  same_own q q' own walk = record { own = own; holds = holds_on_self q q' walk }

  pub clears_after : (forget : ℕ → W → W) (q q' : PassState W) (i : ℕ) → q'.walk ≡ set q.walk i (naming 0) → i < length q.walk
      → q'.own ≡ forget i q.own → Clears forget i q q'
  clears_after forget q q' i is low own = record {
    own = own;
    gone = ap (λ (s : WalkSlot). s.held) (slot_here q q' i (naming 0) is low);
    others = λ j five ne. slot_else q q' i (naming 0) is j ne;
  }

  pub guarding_here : (q q' : PassState W) (j n : ℕ) → q'.frontier ≡ set q.frontier j n → j < length q.frontier → guarding q' j ≡ n
  guarding_here q q' j n is low = ap (λ (l : List ℕ). get_or l j 0) is ∙ get_or-set_same q.frontier j n 0 low

  pub guarding_else : (q q' : PassState W) (j n : ℕ) → q'.frontier ≡ set q.frontier j n → (k : ℕ) → k ≢ j → guarding q' k ≡ guarding q k
  guarding_else q q' j n is k ne = ap (λ (l : List ℕ). get_or l k 0) is ∙ get_or-set_other q.frontier j k n 0 ne
