-- What a pass did between two moments.
use Rattle.std.specs.Prelude.{◌≡◌, ℕ, ◌<◌, ◌≤◌, false, List, [], ◌∷◌, ◌++◌, length}
use Rattle.pp_model.specs.declared.Change.{Change}
use Rattle.pp_model.specs.declared.Placed.{Placed}
use Rattle.pp_model.specs.declared.steps.Step.{Step}
use Rattle.pp_model.specs.History.{Stands}
use Rattle.pp_model.specs.Pass.{seen_last}
use Rattle.pp_rule.specs.declared.views.LoggedStep.{LoggedStep}
use Rattle.pp_rule.specs.declared.views.SeatView.{SeatView}
use Rattle.pp_rule.specs.Lists.{IsIn, BeginsWith}
use Rattle.pp_rule.specs.Orders.{log_of, made_by, placed_by}
use Rattle.pp_rule.specs.Alone.{IsOwnStep}
use Rattle.pp_calls.specs.PoolViews.{is_writing}

-- none of these steps writes a link, by their kinds
abbrev pub WriteNone : List Step → Type 0
WriteNone [] = Unit {0}
WriteNone (s ∷ steps) = (is_writing s.kind ≡ false) × WriteNone steps

-- each of these steps saw so many changes at least, and so many at most
abbrev pub SeeBetween : ℕ → ℕ → List Step → Type 0
SeeBetween low high steps = (s : Step) → IsIn s steps → (low ≤ s.seen) × (s.seen ≤ high)

module _ {E A W : Type 0} where
  -- The pass made these steps since, and placed these calls at them. It may have learnt of more.
  pub record Went (v w : SeatView E A W) : Type 0 where
    pub number : w.known.number ≡ v.known.number
    pub order : BeginsWith w.order v.order
    pub steps : List Step
    pub made : made_by v.known.number w.order ≡ made_by v.known.number v.order ++ steps
    pub saw : SeeBetween (length (log_of v.order)) (length (log_of w.order)) steps
    pub calls : List A
    pub placed : placed_by v.known.number w.order ≡ placed_by v.known.number v.order ++ calls

  -- The pass made these steps, whatever took effect at them, and has then seen what the last of them saw.
  pub record Stepped (v w : SeatView E A W) : Type 0 where
    pub number : w.known.number ≡ v.known.number
    pub order : BeginsWith w.order v.order
    pub steps : List Step
    pub made : made_by v.known.number w.order ≡ made_by v.known.number v.order ++ steps
    pub saw : SeeBetween (length (log_of v.order)) (length (log_of w.order)) steps
    pub calls : List A
    pub placed : placed_by v.known.number w.order ≡ placed_by v.known.number v.order ++ calls
    -- without a step it saw nothing more
    pub still : steps ≡ [] → log_of w.order ≡ log_of v.order
    pub last : 0 < length steps → seen_last 0 steps ≡ length (log_of w.order)

  -- nothing of its purse that its view tells has changed
  pub record SamePurse (v w : SeatView E A W) : Type 0 where
    pub sizes : w.known.sizes ≡ v.known.sizes
    pub retired : w.known.retired ≡ v.known.retired
    pub chains : length w.known.chains ≡ length v.known.chains

-- the changes of each of these steps are those of its pass
abbrev pub HasOwn : List (LoggedStep Change Placed) → Type 0
HasOwn order = (s : LoggedStep Change Placed) → IsIn s order → IsOwnStep (λ (c : Change). c.caller) s

module _ {W : Type 0} where
  -- the placed calls of the pass stand in what it has seen
  abbrev pub StandsThen : SeatView Change Placed W → Type 0
  StandsThen v = Stands (log_of v.order) v.known.number (placed_by v.known.number v.order)

  -- What a turn of a call adds to what callers see of the pass, whatever the call.
  pub record TurnMade (v w : SeatView Change Placed W) : Type 0 where
    pub stepped : Stepped v w
    pub some_made : 0 < length stepped.steps
    pub stands : StandsThen v → StandsThen w
