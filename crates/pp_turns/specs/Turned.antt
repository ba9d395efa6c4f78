-- What a turn makes of a call that is under way, for every structure.
use Rattle.std.specs.Prelude.{◌≡◌, ℕ, ◌<◌, true, false, List, length}
use Rattle.pp_link.specs.declared.layout.Sizes.{Sizes}
use Rattle.pp_model.specs.declared.Call.{Call}
use Rattle.pp_model.specs.declared.Change.{Change}
use Rattle.pp_model.specs.declared.Placed.{Placed}
use Rattle.pp_model.specs.declared.Reply.{Reply}
use Rattle.pp_model.specs.declared.Turned.{Turned}
use Rattle.pp_model.specs.MapCalls.{Answered, AnswersCall, IfOn, IfDone, IsClean, Counted, MakesTurn}
use Rattle.pp_model.specs.MapCalls.{WentOn, took_effect}
use Rattle.pp_model.specs.Pass.{GoingView, MapSizes, Meaning, PassView}
use Rattle.pp_rule.specs.declared.views.SeatView.{SeatView}
use Rattle.pp_rule.specs.Causes.{Reader}
use Rattle.pp_calls.specs.PoolViews.{pool_view}
use Rattle.pp_calls.specs.Steps.{Stepped, HasOwn, StandsThen}
use Rattle.pp_shelf.specs.Runs.{map_sizes, steps_made}
use Rattle.pp_turns.specs.Tallies.{Tally, lost_of}
use Rattle.pp_turns.specs.Turns.{Since, Struck, HasEffect}

module _ (m : Meaning) (z : Sizes) (share : ℕ) {W : Type 0} where
  -- What a turn makes of a call, which stays the same one as its structure says. Before it and after it, this was known of the call,
  -- of the view at which it was begun and of the free numbers then.
  pub record HasTurned (IsSame : Type 0) (Under Under' : SeatView Change Placed W → List ℕ → Type 0) (was now : GoingView)
      (v w : SeatView Change Placed W) (free' : List ℕ) (result : Turned) : Type 0 where
    pub stepped : Stepped v w
    pub some_made : 0 < length (steps_made v w)
    pub stands : HasOwn w.order → StandsThen v → StandsThen w
    pub same : IsSame
    pub stays : was.struck ≡ true → now.struck ≡ true
    pub strikes : was.struck ≡ false → now.struck ≡ true → (said : Reply) × Struck was.call said v w
    pub struck : IfDone result (λ answer. now.struck ≡ took_effect answer)
    pub went : IfOn result (WentOn was now)
    pub goes_on : IfOn result ((from : SeatView Change Placed W) (free : List ℕ) → Under from free → Under' from free)
    pub answered : IfDone result (λ answer. (from : SeatView Change Placed W) (free : List ℕ) → Under from free → StandsThen w
        → Answered m (map_sizes z) was.call was.budget (pool_view from free share) (pool_view w free' share) answer now.lost)

  -- A call is under way. Where its pass is alone, and no record of a removed pair was attached as it began, this is true of it, and
  -- none of its turns was lost so far.
  abbrev pub IsGoing : (SeatView Change Placed W → List ℕ → Type 0) → Type 0 → ℕ → SeatView Change Placed W → List ℕ → Type 0
  IsGoing Under Lone lost from free = Under from free × (z.passes ≡ 1 → IsClean m (map_sizes z) (pool_view from free share)
      → Lone × (lost ≡ 0))

-- A turn of a call of a pass that is alone is not lost: this is true of the call after it, and that of the map after its last one.
pub record LoneTurned (Lone Bare : Type 0) (was now : ℕ) (result : Turned) : Type 0 where
  pub lost : now ≡ was
  pub on : IfOn result Lone
  pub done : IfDone result (λ _. Bare)

-- The steps of a call since its begin are counted as callers see it.
pub record CountsAs (r : Reader Call) (z : MapSizes) (going : GoingView) {W : Type 0} (from now : SeatView Change Placed W)
    : Type 0 where
  pub tally : Tally r.Memory
  pub since : Since r z going.call going.start tally from now
  pub lost_is : going.lost ≡ lost_of tally
  pub effect : going.struck ≡ true → HasEffect true going.call from now
  pub none : going.struck ≡ false → HasEffect false going.call from now

-- What a map's clauses say of a turn of a call, before and after which this was known of it, with the purse that it left.
pub record TurnClauses (m : Meaning) (z : MapSizes) (was now : GoingView) (before left : PassView) (result : Turned)
    (Before After : PassView → Type 0) : Type 0 where
  pub made : MakesTurn m was now before left
  pub going : IfOn result ((at_begin : PassView) → Before at_begin → After at_begin)
  pub counted : IfOn result ((at_begin : PassView) → Before at_begin → Counted m z now at_begin left)
  pub answered : IfDone result (λ answer. (at_begin : PassView) → Before at_begin
      → AnswersCall m z was.call was.budget at_begin left answer)
