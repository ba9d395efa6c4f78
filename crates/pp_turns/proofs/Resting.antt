-- A pass on which no call is going, or as one begins and ends.
use Rattle.std.proofs.Common.{◌≡◌, ℕ, zero, suc, ◌<◌, ◌≤◌, Bool, true, false, List, [], ◌∷◌, length, map, get_or, refl, sym, ap}
use Rattle.std.proofs.Common.{◌∙◌, subst, arith}
use Rattle.std.proofs.lemmas.List.{length-map}
use Rattle.std.specs.Prelude.{replicate}
use Rattle.pp_link.specs.declared.layout.Sizes.{Sizes}
use Rattle.pp_rule.specs.declared.views.Chain.{Chain}
use Rattle.pp_rule.specs.declared.views.PassState.{PassState}
use Rattle.pp_rule.specs.declared.views.WalkSlot.{WalkSlot}
use Rattle.pp_rule.specs.Steps.{IsUnused}
use Rattle.pp_rule.specs.Views.{slot, blank}
use Rattle.pp_base.specs.declared.purse.InHand.{InHand}
use Rattle.pp_base.specs.declared.purse.Purse.{Purse}
use Rattle.pp_base.specs.Passes.{IsPassOf, IsAtRest, in_hand_of, named_of}

-- all names are 0 where each walk word is empty
names_zero : (ws : List WalkSlot) (k : ℕ) → length ws ≡ k → ((j : ℕ) → j < k → (get_or ws j blank).named ≡ 0)
    → map named_of ws ≡ replicate k zero
names_zero [] zero long each = refl
names_zero [] (suc k) long each = absurd (omega arith)
names_zero (w ∷ ws) zero long each = absurd (omega arith)
names_zero (w ∷ ws) (suc k) long each = let first : w.named ≡ 0 = each 0 (omega arith) in
    ap (λ (n : ℕ). n ∷ map named_of ws) first
    ∙ ap (λ (ns : List ℕ). 0 ∷ ns) (names_zero ws k (omega arith) (λ j lt. each (suc j) (omega arith)))

-- and each of them is so where all are
names_at : (ws : List WalkSlot) (k j : ℕ) → map named_of ws ≡ replicate k zero → (get_or ws j blank).named ≡ 0
names_at [] k j is = refl
names_at (w ∷ ws) zero j is = absurd (let long = ap (λ (l : List ℕ). length l) is in omega arith)
names_at (w ∷ ws) (suc k) zero is = ap (λ (l : List ℕ). get_or l 0 0) is
names_at (w ∷ ws) (suc k) (suc j) is = names_at ws k j (let rest : map named_of ws ≡ replicate k zero = cc in rest)

module _ {W : Type 0} where
  -- a pass has as many chains in hand as its purse knows
  pub four_chains : (q : PassState W) (p : Purse) → map in_hand_of q.chains ≡ p.chains.items → length p.chains.items ≤ 4
      → length q.chains ≤ 4
  four_chains q p is few = let e = sym (length-map q.chains in_hand_of) ∙ ap (λ (l : List InHand). length l) is in omega arith

  -- No scan is under way and no frontier word is in use but for a chain, where the same is known of them.
  pub rest_by : (q q' : PassState W) (p p' : Purse) → q'.scan ≡ q.scan → q'.frontier ≡ q.frontier → q'.chains ≡ q.chains
      → p'.spent ≡ p.spent → IsAtRest q p → IsAtRest q' p'
  rest_by q q' p p' scan frontier chains spent r = record {
    scan = ap (λ s. s.read) scan ∙ r.scan;
    spent = spent ∙ r.spent;
    frontier = λ j lt unused. ap (λ (f : List ℕ). get_or f j 0) frontier
        ∙ r.frontier j lt (subst (λ (cs : List Chain). IsUnused j (record q { chains = cs })) chains unused);
  }

  -- it stays so as a call begins
  pub rest_going : (q : PassState W) (p p' : Purse) → p' ≡ record p { going = true } → IsAtRest q p → IsAtRest q p'
  rest_going q p p' is r = subst (IsAtRest q) (sym is) record { scan = r.scan; spent = r.spent; frontier = r.frontier }

  -- the walk words of a pass name no record where each is empty
  pub names_none : (q : PassState W) (walk : List ℕ) → length q.walk ≡ 5 → map named_of q.walk ≡ walk
      → ((j : ℕ) → j < 5 → (slot q j).named ≡ 0) → walk ≡ replicate 5 zero
  names_none q walk five is empty = sym is ∙ names_zero q.walk 5 five empty

  -- and are empty where they name none
  pub none_named : (z : Sizes) (q : PassState W) (walk : List ℕ) → IsPassOf z q → map named_of q.walk ≡ walk → walk ≡ replicate 5 zero
      → (j : ℕ) → j < 5 → ((slot q j).named ≡ 0) × ((slot q j).held ≡ false)
  none_named z q walk p is none j lt = let zero_named : (slot q j).named ≡ 0 = names_at q.walk 5 j (is ∙ none) in
      (zero_named, by ((slot q j).held) refl zero_named)
    where
      by : (b : Bool) → (slot q j).held ≡ b → (slot q j).named ≡ 0 → (slot q j).held ≡ false
      by false held zero_named = held
      by true held zero_named = let number = p.held j lt held in absurd (let low = number.0 in omega arith)
