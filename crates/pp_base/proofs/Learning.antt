-- What stays of what is known of a pass that learnt a link.
use Rattle.std.proofs.Common.{◌≡◌, ℕ, Bool, true, false, cond, ◌&&◌, ◌∷◌, refl}
use Rattle.pp_rule.specs.declared.views.WalkSlot.{WalkSlot}
use Rattle.pp_rule.specs.declared.views.PassState.{PassState}
use Rattle.pp_rule.specs.Views.{slot}
use Rattle.pp_rule.specs.Steps.{with_walk, with_frontier}
use Rattle.pp_base.specs.declared.source.Side.{Side}
use Rattle.pp_base.specs.declared.source.Place.{Place}
use Rattle.pp_base.specs.declared.source.Place.TheVariants.{Head, Walk}
use Rattle.pp_base.specs.Sources.{side_number, learning_at}

module _ {W : Type 0} where
  -- all but the walk words
  pub record SameButWalk (q q' : PassState W) : Type 0 where
    pub number : q'.number ≡ q.number
    pub sizes : q'.sizes ≡ q.sizes
    pub owned : q'.owned ≡ q.owned
    pub retired_are : q'.retired ≡ q.retired
    pub frontier : q'.frontier ≡ q.frontier
    pub chains : q'.chains ≡ q.chains
    pub scan : q'.scan ≡ q.scan
    pub own : q'.own ≡ q.own

  pub learns_walk : (frozen : ℕ → Bool) (at : Place) (side : Side) (word : ℕ) (q : PassState W)
      → SameButWalk q (learning_at frozen at side word q)
  learns_walk frozen (Head h) side word q = record {
    number = refl;
    sizes = refl;
    owned = refl;
    retired_are = refl;
    frontier = refl;
    chains = refl;
    scan = refl;
    own = refl;
  }
  learns_walk frozen (Walk i) side word q = by (frozen word && (slot q i).held)
    where
      more : WalkSlot
      more = record (slot q i) { learnt = (side_number side, word) ∷ (slot q i).learnt }

      by : (b : Bool) → SameButWalk q (cond b (with_walk i more q) q)
      by true = record {
        number = refl;
        sizes = refl;
        owned = refl;
        retired_are = refl;
        frontier = refl;
        chains = refl;
        scan = refl;
        own = refl;
      }
      by false = record {
        number = refl;
        sizes = refl;
        owned = refl;
        retired_are = refl;
        frontier = refl;
        chains = refl;
        scan = refl;
        own = refl;
      }

  -- it doesn't matter whether a frontier word is set before or after
  pub frontier_learning : (frozen : ℕ → Bool) (at : Place) (side : Side) (word j n : ℕ) (q : PassState W)
      → with_frontier j n (learning_at frozen at side word q) ≡ learning_at frozen at side word (with_frontier j n q)
  frontier_learning frozen (Head h) side word j n q = refl
  frontier_learning frozen (Walk i) side word j n q = by (frozen word && (slot q i).held)
    where
      more : WalkSlot
      more = record (slot q i) { learnt = (side_number side, word) ∷ (slot q i).learnt }

      by : (b : Bool) → with_frontier j n (cond b (with_walk i more q) q) ≡ cond b (with_walk i more (with_frontier j n q))
          (with_frontier j n q)
      by true = refl
      by false = refl
