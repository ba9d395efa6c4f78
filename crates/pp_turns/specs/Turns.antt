-- What the turns of a going call come to, by the views of its pass.
use Rattle.std.specs.Prelude.{◌≡◌, ℕ, ◌+◌, ◌<◌, ◌≤◌, min, Bool, true, false, List, [], ◌∷◌, ◌++◌, length, None}
use Rattle.pp_model.specs.declared.Call.{Call}
use Rattle.pp_model.specs.declared.Change.{Change}
use Rattle.pp_model.specs.declared.Placed.{Placed}
use Rattle.pp_model.specs.declared.Reply.{Reply}
use Rattle.pp_model.specs.Calls.{reply, changes}
use Rattle.pp_model.specs.FiniteMap.{find}
use Rattle.pp_model.specs.History.{after}
use Rattle.pp_model.specs.MapCalls.{placed}
use Rattle.pp_model.specs.Pass.{PassView, MapSizes, seen_first, seen_last}
use Rattle.pp_rule.specs.declared.views.SeatView.{SeatView}
use Rattle.pp_rule.specs.Causes.{Reader}
use Rattle.pp_rule.specs.Orders.{log_of, placed_by}
use Rattle.pp_calls.specs.PoolViews.{pool_view}
use Rattle.pp_calls.specs.Steps.{Went, Stepped, HasOwn, StandsThen}
use Rattle.pp_shelf.specs.Runs.{steps_made}
use Rattle.pp_turns.specs.Tallies.{Tally, losing, tally}

module _ (r : Reader Call) (z : MapSizes) (call : Call) {W : Type 0} where
  -- The pass made steps, over which the call's lost turns were counted so. Its placed calls stand then, where they stood.
  pub record Ran (t t' : Tally r.Memory) (v w : SeatView Change Placed W) : Type 0 where
    pub stepped : Stepped v w
    pub read : tally r z call t (steps_made v w) ≡ t'
    pub stands : HasOwn w.order → StandsThen v → StandsThen w

  -- What a call made of its pass since its begin: its first step saw so many changes, and its steps are counted so.
  pub record Since (start : ℕ) (t : Tally r.Memory) (from now : SeatView Change Placed W) : Type 0 where
    pub went : Went from now
    pub some_made : 0 < length (steps_made from now)
    pub started : seen_first 0 (steps_made from now) ≡ start
    pub read : tally r z call (losing r.blank 0) (steps_made from now) ≡ t

module _ {W : Type 0} where
  -- it made no step yet
  pub record Waits (from now : SeatView Change Placed W) : Type 0 where
    pub went : Went from now
    pub none : steps_made from now ≡ []

  -- its last step saw all that the pass has seen
  abbrev pub SawLast : SeatView Change Placed W → SeatView Change Placed W → Type 0
  SawLast from now = seen_last 0 (steps_made from now) ≡ length (log_of now.order)

  -- no call was placed
  abbrev pub Unplaced : SeatView Change Placed W → SeatView Change Placed W → Type 0
  Unplaced from now = placed_by from.known.number now.order ≡ placed_by from.known.number from.order

  -- The call took effect, with this reply: its place is above all that was seen before.
  pub record Struck (call : Call) (said : Reply) (from now : SeatView Change Placed W) : Type 0 where
    pub changed : changes said ≡ true
    pub place : ℕ
    pub placed_so : placed_by from.known.number now.order ≡ placed_by from.known.number from.order ++ placed call said place ∷ []
    pub above : length (log_of from.order) < place
    pub within : place ≤ length (log_of now.order)

  -- whether it has taken effect
  abbrev pub HasEffect : Bool → Call → SeatView Change Placed W → SeatView Change Placed W → Type 0
  HasEffect true call from now = (said : Reply) × Struck call said from now
  HasEffect false call from now = Unplaced from now

  -- A reply that changes nothing was placed, at the least place from this start on at which it is right.
  pub record Replied (call : Call) (said : Reply) (start : ℕ) (from now : SeatView Change Placed W) : Type 0 where
    pub unchanged : changes said ≡ false
    pub place : ℕ
    pub placed_so : placed_by from.known.number now.order ≡ placed_by from.known.number from.order ++ placed call said place ∷ []
    pub since : start ≤ place
    pub within : place ≤ length (log_of now.order)
    pub least : (q : ℕ) → start ≤ q → q < place → reply (after (log_of now.order) q) call ≡ said → ⊥

  -- A pass of this share has a call under way that callers saw begin there: what is known of it speaks of the view at its begin
  -- and of the free numbers then.
  pub record BegunAt (share : ℕ) (Under : SeatView Change Placed W → List ℕ → Type 0) (before : PassView) : Type 0 where
    pub from : SeatView Change Placed W
    pub free : List ℕ
    pub seen_so : before ≡ pool_view from free share
    pub under : Under from free

-- at a place from this start on the key was absent
pub record WasAbsent (start key : ℕ) (log : List Change) : Type 0 where
  pub place : ℕ
  pub since : start ≤ place
  pub within : place ≤ length log
  pub absent : find (after log place) key ≡ None

-- Of the free numbers of its share, of which there were so many, none is gone, but for the records that are out.
abbrev pub Kept : List ℕ → (share : ℕ) → List ℕ → (out : ℕ) → Type 0
Kept was share free out = min (length was) share ≤ length free + out
