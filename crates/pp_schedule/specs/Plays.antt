-- The order of turns that a plan gives, and runs by a plan.
use Rattle.std.specs.Prelude.{◌≡◌, ◌≢◌, ℕ, zero, suc, ◌+◌, ◌-◌, ◌<◌, cond, nat_eq, List, [], ◌∷◌, ◌++◌, length, map, replicate}
use Rattle.std.specs.Prelude.{Some, None, slice_get}
use Rattle.pp_model.specs.Lists.{AtEach, times, upto}
use Rattle.pp_model.specs.Pass.{NoteView, MapSizes, Meaning}
use Rattle.pp_model.specs.MapCalls.{Notes}
use Rattle.pp_model.specs.declared.Change.{Change}
use Rattle.pp_model.specs.declared.steps.OrderEntry.{OrderEntry}
use Rattle.pp_schedule.specs.Schedule.{State, Turn, Pieces, callers_of, places_in_turn}
use Rattle.pp_schedule.specs.Calls.{CallerAt, CallerTurn, Marks}

-- so many turns of each caller, but one less of caller c
abbrev pub less_one : ℕ → (ℕ → ℕ) → ℕ → ℕ
less_one c left d = cond (nat_eq d c) (left d - 1) (left d)

-- the turns that are left of so many callers, from caller k on, by rising callers
abbrev pub rising : ℕ → ℕ → (ℕ → ℕ) → List ℕ
rising k zero left = []
rising k (suc n) left = replicate (left k) k ++ rising (k + 1) n left

-- The order of turns: the plan's callers in order, where one without turns left is passed over; then the callers rise, each
-- making all its turns. Each caller has so many turns to make: those of its calls.
abbrev pub turns_by : ℕ → List ℕ → (ℕ → ℕ) → List ℕ
turns_by callers [] left = rising 0 callers left
turns_by callers (c ∷ plan) left = cond (nat_eq (left c) 0) (turns_by callers plan left) (c ∷ turns_by callers plan (less_one c left))

-- the callers at one moment, what the last note tells, and how many changes took effect in the turns so far
pub record Moment : Type 0 where
  pub callers : List CallerAt
  pub told : NoteView
  pub count : ℕ

abbrev pub state_of : Moment → State
state_of s = record { passes = map (λ v. v.pass) s.callers; told = s.told }

-- all calls of a caller are answered
pub record Answered (v : CallerAt) : Type 0 where
  pub none_going : v.doing ≡ None
  pub none_left : v.calls ≡ []

-- caller c learnt the last note, made one turn of its present call, and left a note; the call was marked
pub record Move (meaning : Meaning) (sizes : MapSizes) (races : ℕ) (s : Moment) (c : ℕ) (t : Moment) : Type 0 where
  pub was : CallerAt
  pub is_was : slice_get s.callers c ≡ Some was
  pub now : CallerAt
  pub is_now : slice_get t.callers c ≡ Some now
  pub others : (d : ℕ) → d ≢ c → slice_get t.callers d ≡ slice_get s.callers d
  pub as_many : length t.callers ≡ length s.callers
  pub turn : CallerTurn meaning sizes races s.told was now
  pub marks : Marks turn.going turn.now s.count t.count was now
  pub noted : Notes now.pass t.told

-- A run by a plan: the callers that made a turn, in order.
pub data Plays (meaning : Meaning) (sizes : MapSizes) (races : ℕ) : List ℕ → Moment → List ℕ → Moment → Type 0 where
  ended : (s : Moment) → AtEach s.callers (λ k v. Answered v) → Plays meaning sizes races [] s [] s
  passed : (c : ℕ) (plan : List ℕ) (s t : Moment) (turns : List ℕ) → ((v : CallerAt) → slice_get s.callers c ≡ Some v → Answered v)
      → Plays meaning sizes races plan s turns t → Plays meaning sizes races (c ∷ plan) s turns t
  planned : (c : ℕ) (plan : List ℕ) (s t u : Moment) (turns : List ℕ) → Move meaning sizes races s c t
      → Plays meaning sizes races plan t turns u → Plays meaning sizes races (c ∷ plan) s (c ∷ turns) u
  rest : (c : ℕ) (s t u : Moment) (turns : List ℕ) → ((d : ℕ) (v : CallerAt) → d < c → slice_get s.callers d ≡ Some v → Answered v)
      → Move meaning sizes races s c t → Plays meaning sizes races [] t turns u → Plays meaning sizes races [] s (c ∷ turns) u

-- What a run by a plan left on a closed map: the turns stand in the plan's order, the order of all steps is one piece per turn, and
-- the changes took effect in the log's order.
pub record RunsByPlan (least callers : ℕ) (plan turns : List ℕ) (log : List Change) (order : List (OrderEntry Change)) : Type 0 where
  pub planned : turns ≡ turns_by callers plan (λ c. times c turns)
  pub pieces : Pieces least turns order
  pub moves : List Turn
  pub of_turns : callers_of moves ≡ turns
  pub in_turn : places_in_turn moves ≡ upto 1 (length log)
