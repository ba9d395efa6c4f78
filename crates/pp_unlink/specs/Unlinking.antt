-- What a try to detach a chain makes of the view of its pass.
use Rattle.std.specs.Prelude.{◌≡◌, ◌≢◌, ℕ, ◌<◌, Bool, List, [], ◌∷◌, length}
use Rattle.pp_link.specs.declared.layout.Sizes.{Sizes}
use Rattle.pp_link.specs.Links.{word_of, target}
use Rattle.pp_link.specs.Places.{frontier_place}
use Rattle.pp_rule.specs.Lists.{IsIn}
use Rattle.pp_rule.specs.declared.views.Chain.{Chain}
use Rattle.pp_rule.specs.declared.views.WalkSlot.{WalkSlot}
use Rattle.pp_rule.specs.declared.views.PassState.{PassState}
use Rattle.pp_rule.specs.declared.views.SeatView.{SeatView}
use Rattle.pp_rule.specs.Orders.{detach_step}
use Rattle.pp_rule.specs.Steps.{IsUnused, with_frontier, detaching, MadeQuietStep}
use Rattle.pp_base.specs.declared.purse.InHand.{InHand}
use Rattle.pp_base.specs.declared.source.Side.{Side}
use Rattle.pp_base.specs.declared.source.Place.{Place}
use Rattle.pp_base.specs.Sources.{source_place, learning_at}
use Rattle.pp_base.specs.Named.{NamedStep, guards, unguards, detaches, misses, Made}
use Rattle.pp_unlink.specs.declared.unlinking.Unlink.{Unlink}
use Rattle.pp_unlink.specs.declared.unlinking.Unlink.TheVariants.{Detached, Changed}
use Rattle.pp_unlink.specs.Invalidation.{Flushed}

-- none of these chains is guarded by the frontier word j
abbrev pub GuardsNone : ℕ → List InHand → Type 0
GuardsNone j hs = (h : InHand) → IsIn h hs → h.guard ≢ j

-- the pass holds what it held, and has learnt what it had
pub record SameHeld {W : Type 0} (q q' : PassState W) : Type 0 where
  pub number : q'.number ≡ q.number
  pub walk : q'.walk ≡ q.walk
  pub own : q'.own ≡ q.own

module _ {E A W : Type 0} where
  -- where four chains were in hand, all of them were flushed
  pub record MayFlush (sides : ℕ) (z : Sizes) (before after : SeatView E A W) : Type 0 where
    pub full : length before.known.chains ≡ 4 → Flushed sides z 4 before after
    pub few : length before.known.chains < 4 → after ≡ before

  -- after this step a detaching exchange at this place found one word and left another
  pub record ExchangesFor (step : NamedStep) (place first new : ℕ) (before after : SeatView E A W) : Type 0 where
    pub then : SeatView E A W
    pub earlier : Made (step ∷ []) before then
    pub known : PassState W
    pub made : MadeQuietStep detach_step place first new known then after

  module _ (sides : ℕ) (z : Sizes) (frozen : ℕ → Bool) (chain : List WalkSlot → W → ℕ → ℕ → ℕ → Chain) (at : Place) (side : Side)
      (first new : ℕ) (before after : SeatView E A W) where
    -- where the link stands
    abbrev pub link_at : ℕ
    link_at = source_place z before.known at side

    -- The link was exchanged, and what the shape says is detached is the newest chain in hand.
    pub record Exchanges : Type 0 where
      pub between : SeatView E A W
      pub flushed : MayFlush sides z before between
      pub guard : ℕ
      pub guard_low : guard < 4
      pub unused : IsUnused guard between.known
      pub steps : Made (guards (frontier_place z before.known.number guard)
          (target new) ∷ detaches link_at first ∷ []) between after
      pub known : after.known ≡ detaching (chain before.known.walk before.known.own guard first new)
          (with_frontier guard (target new) between.known)
      -- the exchange itself, behind the store to the frontier word: it left the word that leads behind the chain
      pub exchange : ExchangesFor (guards (frontier_place z before.known.number guard) (target new)) link_at first new between after

    -- The link was another word, which is learnt where it is frozen and a held record's. But for such a flush nothing else has
    -- changed.
    pub record Misses (found : ℕ) : Type 0 where
      pub between : SeatView E A W
      pub flushed : MayFlush sides z before between
      pub guard : ℕ
      pub guard_low : guard < 4
      pub unused : IsUnused guard between.known
      pub other : found ≢ first
      pub steps : Made (guards (frontier_place z before.known.number guard) (target new) ∷ misses link_at found
          ∷ unguards (frontier_place z before.known.number guard) ∷ []) between after
      pub known : after.known ≡ learning_at frozen at side found between.known

    -- each answer
    abbrev pub Unlinks : Unlink → Type 0
    Unlinks Detached = Exchanges
    Unlinks (Changed l) = Misses (word_of l)
