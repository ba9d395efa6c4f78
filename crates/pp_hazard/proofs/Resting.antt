-- The calls of this crate leave a pass at rest that was so: they touch one walk word alone, and nothing of its purse.
use Rattle.std.proofs.Common.{◌≡◌, ◌≢◌, ℕ, Bool, true, false, cond, ◌&&◌, List, ◌∷◌, get_or, ap, ◌∙◌, subst, sym}
use Rattle.atomic_table.specs.declared.shared.Seat.{Seat}
use Rattle.pp_link.specs.declared.layout.Sizes.{Sizes}
use Rattle.pp_rule.specs.Lists.{IsIn}
use Rattle.pp_rule.specs.declared.views.WalkSlot.{WalkSlot}
use Rattle.pp_rule.specs.declared.views.SeatView.{SeatView}
use Rattle.pp_rule.specs.Views.{slot}
use Rattle.pp_rule.specs.Steps.{with_walk}
use Rattle.pp_rule.proofs.Made.{known_after}
use Rattle.pp_rule.specs.declared.views.Chain.{Chain}
use Rattle.pp_rule.specs.declared.views.PassState.{PassState}
use Rattle.pp_base.specs.declared.purse.Purse.{Purse}
use Rattle.pp_base.specs.declared.source.Side.{Side}
use Rattle.pp_base.specs.declared.source.Place.{Place}
use Rattle.pp_base.specs.declared.source.Place.TheVariants.{Head, Walk}
use Rattle.pp_base.specs.Passes.{known, view, IsAtRest}
use Rattle.pp_base.specs.Sources.{side_number, learning_at}
use Rattle.pp_base.specs.Made.{LoadedAt}
use Rattle.pp_hazard.specs.Protection.{SameBut}

pub rest_but : {W : Type 0} (i : ℕ) (q q' : PassState W) (p p' : Purse) → SameBut i q q' → p' ≡ p → IsAtRest q p → IsAtRest q' p'
rest_but i q q' p p' same is r = record {
  scan = ap (λ s. s.read) same.scan ∙ r.scan;
  spent = ap (λ (x : Purse). x.spent) is ∙ r.spent;
  frontier = λ j low unused. ap (λ (ws : List ℕ). get_or ws j 0) same.frontier
      ∙ r.frontier j low (subst (λ (cs : List Chain). (c : Chain) → IsIn c cs → c.guard ≢ j) same.chains unused);
}

module _ {W : Type 0} where
  -- no call is under way after a load
  rest_learning : (frozen : ℕ → Bool) (at : Place) (side : Side) (word : ℕ) (q : PassState W) (p : Purse) → IsAtRest q p
      → IsAtRest (learning_at frozen at side word q) p
  rest_learning frozen (Head h) side word q p r = r
  rest_learning frozen (Walk i) side word q p r = by (frozen word && (slot q i).held)
    where
      more : WalkSlot
      more = record (slot q i) { learnt = (side_number side, word) ∷ (slot q i).learnt }

      by : (b : Bool) → IsAtRest (cond b (with_walk i more q) q) p
      by false = r
      by true = record { scan = r.scan; spent = r.spent; frontier = r.frontier }

-- no call is under way after a link was loaded
pub rest_loaded : {E A W : Type 0} (z : Sizes) (frozen : ℕ → Bool) (at : Place) (side : Side) (word : ℕ) (s s' : Seat Unit (SeatView E A W))
    (p p' : Purse) → LoadedAt z frozen at side word s s' → p' ≡ p → IsAtRest (known s) p → IsAtRest (known s') p'
rest_loaded {E} {A} {W} z frozen at side word s s' p p' loaded is r = subst (λ (x : Purse). IsAtRest (known s') x) (sym is)
    (subst (λ (q : PassState W). IsAtRest q p) (sym (known_after _ _ _ _ _ _ _ (view s) (view s') loaded.made))
    (rest_learning frozen at side word (known s) p r))
