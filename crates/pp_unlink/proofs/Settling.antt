-- No call is under way on a pass after it has retired a chain, detached one, or tried to.
use Rattle.std.proofs.Common.{◌≡◌, ◌≢◌, ⊎_elim, ℕ, zero, suc, ◌<◌, List, [], ◌∷◌, ◌++◌, length, get_or, set, refl, sym, ap, ◌∙◌}
use Rattle.std.proofs.Common.{subst, arith}
use Rattle.std.proofs.Math.Decide.{ℕ_discrete}
use mathlib.Core.Logic.{dite}
use Rattle.pp_link.specs.declared.layout.Sizes.{Sizes}
use Rattle.pp_link.specs.Places.{frontier_place}
use Rattle.pp_rule.specs.Lists.{IsIn, rest_of}
use Rattle.pp_rule.specs.declared.views.Chain.{Chain}
use Rattle.pp_rule.specs.declared.views.PassState.{PassState}
use Rattle.pp_rule.specs.declared.views.SeatView.{SeatView}
use Rattle.pp_rule.specs.Steps.{IsUnused, with_chain, with_frontier, retiring, detaching}
use Rattle.pp_rule.proofs.Put.{in_nil, in_cases, in_last}
use Rattle.pp_base.specs.declared.purse.Purse.{Purse}
use Rattle.pp_base.specs.Passes.{IsAtRest}
use Rattle.pp_base.specs.Chains.{no_chain, chain_at}
use Rattle.pp_base.proofs.Learning.{SameButWalk}
use Rattle.pp_unlink.specs.Invalidation.{Invalidated, Flushed}
use Rattle.pp_unlink.proofs.Looking.{chain_set}

word_cleared : (words : List ℕ) (j : ℕ) → get_or (set words j 0) j 0 ≡ 0
word_cleared [] j = refl
word_cleared (w ∷ words) zero = refl
word_cleared (w ∷ words) (suc j) = word_cleared words j

word_else : (words : List ℕ) (j i n : ℕ) → i ≢ j → get_or (set words j n) i 0 ≡ get_or words i 0
word_else [] j i n ne = refl
word_else (w ∷ words) zero zero n ne = absurd (ne refl)
word_else (w ∷ words) zero (suc i) n ne = refl
word_else (w ∷ words) (suc j) zero n ne = refl
word_else (w ∷ words) (suc j) (suc i) n ne = word_else words j i n (λ e. ne (ap suc e))

module _ {W : Type 0} where
  -- a frontier word that guards no chain but the oldest
  unused_before : (q : PassState W) (j : ℕ) → j ≢ (chain_at q 0).guard
      → ((c : Chain) → IsIn c (rest_of q.chains) → c.guard ≢ j) → IsUnused j q
  unused_before q j ne rest = by q.chains ne rest
    where
      by : (cs : List Chain) → j ≢ (get_or cs 0 no_chain).guard → ((c : Chain) → IsIn c (rest_of cs) → c.guard ≢ j)
          → (c : Chain) → IsIn c cs → c.guard ≢ j
      by [] ne rest c i = absurd (in_nil c i)
      by (d ∷ cs) ne rest c i = ⊎_elim (λ (here : c ≡ d). λ (e : c.guard ≡ j). ne (sym (sym (ap (λ x. x.guard) here) ∙ e)))
          (rest c) (in_cases c d cs i)

  pub rest_retired : (q q' : PassState W) (p p' : Purse) → q' ≡ retiring (chain_at q 0) q → p'.spent ≡ 0 → IsAtRest q p → IsAtRest q' p'
  rest_retired q q' p p' is none r = subst (λ (x : PassState W). IsAtRest x p') (sym is) record {
    scan = r.scan;
    spent = none;
    frontier = λ j low unused. dite (ℕ_discrete j (chain_at q 0).guard)
        (λ e. subst (λ (i : ℕ). get_or (set q.frontier (chain_at q 0).guard 0) i 0 ≡ 0) (sym e)
        (word_cleared q.frontier (chain_at q 0).guard))
        (λ ne. word_else q.frontier (chain_at q 0).guard j 0 ne ∙ r.frontier j low (unused_before q j ne unused));
  }

  -- a chain was detached under a frontier word, whatever the shape's part is then
  pub rest_detached : (q q' : PassState W) (p p' : Purse) (c : Chain) (guard n : ℕ) (own : W)
      → q' ≡ record (detaching c (with_frontier guard n q)) { own = own } → c.guard ≡ guard → p'.spent ≡ 0
      → IsAtRest q p → IsAtRest q' p'
  rest_detached q q' p p' c guard n own is guards none r = subst (λ (x : PassState W). IsAtRest x p') (sym is) record {
    scan = r.scan;
    spent = none;
    frontier = λ j low unused. dite (ℕ_discrete j guard)
        (λ e. absurd (unused c (in_last c q.chains) (guards ∙ sym e)))
        (λ ne. word_else q.frontier guard j n ne ∙ r.frontier j low (λ d i. unused d (in_front d q.chains c i)));
  }
    where
      in_front : (d : Chain) (cs : List Chain) (c : Chain) → IsIn d cs → IsIn d (cs ++ c ∷ [])
      in_front d [] c i = absurd (in_nil d i)
      in_front d (x ∷ cs) c (zero, e) = (zero, e)
      in_front d (x ∷ cs) c (suc k, e) = let later = in_front d cs c (k, e) in (suc later.0, later.1)

  -- a frontier word that guards no chain was set and cleared
  pub rest_missed : (q : PassState W) (p : Purse) (guard n : ℕ) → guard < 4 → IsUnused guard q → IsAtRest q p
      → with_frontier guard 0 (with_frontier guard n q) ≡ q
  rest_missed q p guard n low unused r = ap (λ (ws : List ℕ). record q { frontier = ws })
      (twice q.frontier guard n (r.frontier guard low unused))
    where
      twice : (words : List ℕ) (j n : ℕ) → get_or words j 0 ≡ 0 → set (set words j n) j 0 ≡ words
      twice [] j n e = refl
      twice (w ∷ words) zero n e = ap (λ (v : ℕ). v ∷ words) (sym e)
      twice (w ∷ words) (suc j) n e = ap (λ (ws : List ℕ). w ∷ ws) (twice words j n e)

  -- the oldest chain is retired as well where its links have INVALID already
  pub retired_same : (q q' : PassState W) → 0 < length q.chains → q' ≡ with_chain 0 (record (chain_at q 0) { valid = [] }) q
      → retiring (chain_at q' 0) q' ≡ retiring (chain_at q 0) q
  retired_same q q' any is = ap (λ (x : PassState W). retiring (chain_at x 0) x) is ∙ by q.chains any
    where
      by : (cs : List Chain) → 0 < length cs
          → retiring (get_or (set cs 0 (record (get_or cs 0 no_chain) { valid = [] })) 0 no_chain) (record q {
            chains = set cs 0 (record
                (get_or cs 0 no_chain) { valid = [] });
          }) ≡ retiring (get_or cs 0 no_chain) (record q { chains = cs })
      by [] any = absurd (omega arith)
      by (c ∷ cs) any = refl

  -- its frontier word stands where it stood
  pub retire_place : (z : Sizes) (q q' : PassState W) → 0 < length q.chains → q' ≡ with_chain 0 (record (chain_at q 0) { valid = [] }) q
      → frontier_place z q'.number (chain_at q' 0).guard ≡ frontier_place z q.number (chain_at q 0).guard
  retire_place z q q' any is = ap (λ (x : PassState W). frontier_place z x.number (chain_at x 0).guard) is
      ∙ ap (λ (c : Chain). frontier_place z q.number c.guard) (chain_set q (record (chain_at q 0) { valid = [] }) any)

  -- one chain less is in hand
  pub one_less : (q q' : PassState W) → 0 < length q.chains → q' ≡ retiring (chain_at q 0) q → suc (length q'.chains) ≡ length q.chains
  one_less q q' any is = ap (λ (x : PassState W). suc (length x.chains)) is ∙ by q.chains any
    where
      by : (cs : List Chain) → 0 < length cs → suc (length (rest_of cs)) ≡ length cs
      by [] any = absurd (omega arith)
      by (c ∷ cs) any = refl

module _ {E A W : Type 0} where
  -- one chain more was flushed
  pub flushed_more : (sides : ℕ) (z : Sizes) (n : ℕ) (u v w : SeatView E A W) → Flushed sides z n u v → Invalidated sides z v w
      → Flushed sides z (suc n) u w
  flushed_more sides z zero u v w is made = (w, (subst (λ (x : SeatView E A W). Invalidated sides z x w) is made, refl))
  flushed_more sides z (suc n) u v w flushed made = (flushed.0, (flushed.1.0, flushed_more sides z n flushed.0 v w flushed.1.1 made))

-- the pass knows what it knew but for its walk words, and has as many numbers set aside
pub rest_learnt : {W : Type 0} (q q' : PassState W) (p p' : Purse) → SameButWalk q q' → p'.spent ≡ p.spent
    → IsAtRest q p → IsAtRest q' p'
rest_learnt q q' p p' same none r = record {
  scan = ap (λ x. x.read) same.scan ∙ r.scan;
  spent = none ∙ r.spent;
  frontier = λ j low unused. ap (λ (l : List ℕ). get_or l j 0) same.frontier
      ∙ r.frontier j low (λ c i. unused c (subst (λ (l : List Chain). IsIn c l) (sym same.chains) i));
}
