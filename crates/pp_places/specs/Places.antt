-- What is known of a closed run by a plan, from which its history is found.
use Rattle.std.specs.Prelude.{◌≡◌, ◌≢◌, ℕ, ◌+◌, ◌-◌, ◌^◌, ◌<◌, ◌≤◌, ◌⊎◌, List, ◌++◌, length, drop, max, Some, slice_get}
use Rattle.pp_model.specs.declared.Call.{Call}
use Rattle.pp_model.specs.declared.Answer.{Answer}
use Rattle.pp_model.specs.declared.Change.{Change}
use Rattle.pp_model.specs.declared.Placed.{Placed}
use Rattle.pp_model.specs.Lists.{AtEach}
use Rattle.pp_model.specs.History.{Sound, Stands}
use Rattle.pp_model.specs.Pass.{RunView}
use Rattle.pp_schedule.specs.Marks.{MarkedAs}
use Rattle.pp_planned.specs.Planned.{IsMarked}

-- Callers' calls with their answers and their marks, and the run that they belong to: its log is sound and has their changes alone,
-- and each caller's list stands in it.
pub record IsPlaced (lists : List (List Call)) (answers : List (List Answer)) (marks : List (List ℕ)) (run : RunView) : Type 0 where
  pub marked : IsMarked lists answers marks run
  pub sound : Sound run.log
  pub known : AtEach run.log (λ p c. c.caller < length lists)
  pub answered : length answers ≡ length lists
  pub callers : length run.callers ≡ length lists
  pub stand : AtEach run.callers (λ c r. Stands run.log c r.mine)

-- for each caller there are as many answers and marks as calls
pub record AreAsLong (lists : List (List Call)) (answers : List (List Answer)) (marks : List (List ℕ)) : Type 0 where
  pub many_answers : length answers ≡ length lists
  pub many_marks : length marks ≡ length lists
  pub each_answers : (c : ℕ) (calls : List Call) (got : List Answer) → slice_get lists c ≡ Some calls → slice_get answers c ≡ Some got
      → length got ≡ length calls
  pub each_marks : (c : ℕ) (calls : List Call) (own : List ℕ) → slice_get lists c ≡ Some calls → slice_get marks c ≡ Some own
      → length own ≡ length calls

-- the change is one of an earlier caller
abbrev pub earlier : ℕ → Change → Type 0
earlier caller c = c.caller < caller

-- or one of the first so many placed calls of this one
abbrev pub among_first : ℕ → ℕ → Change → Type 0
among_first caller number c = (c.caller < caller) ⊎ ((c.caller ≡ caller) × (c.number ≤ number))

-- the changes of a log that are so were entered at their places
pub record HasEntered (whole : List Change) (So : Change → Type 0) (log : List Change) : Type 0 where
  pub within : length log ≤ length whole
  pub each : (p : ℕ) (c : Change) → slice_get whole p ≡ Some c → So c → slice_get log p ≡ Some c

-- The changes of earlier callers and of a caller's first so many placed calls were entered; its other calls are these.
pub record EntersOn (whole : List Change) (caller : ℕ) (mine : List Placed) (calls : List Call) (answers : List Answer) (exact : List ℕ)
    (number : ℕ) (log : List Change) : Type 0 where
  pub marked : MarkedAs whole calls answers exact (drop number mine)
  pub entered : HasEntered whole (among_first caller number) log

-- The first of a caller's placed calls are listed; its other calls are these.
pub record PlacesOn (log : List Change) (mine : List Placed) (calls : List Call) (answers : List Answer) (exact : List ℕ)
    (list : List Placed) : Type 0 where
  pub rest : List Placed
  pub whole : mine ≡ list ++ rest
  pub marked : MarkedAs log calls answers exact rest

-- a change was entered at this place, from 1
pub record IsEntry (old : List Change) (place : ℕ) (change : Change) (new : List Change) : Type 0 where
  pub held : place < 2 ^ 64 - 1
  pub longer : length new ≡ max (length old) place
  pub here : slice_get new (place - 1) ≡ Some change
  pub others : (p : ℕ) (c : Change) → p + 1 ≢ place → slice_get old p ≡ Some c → slice_get new p ≡ Some c
