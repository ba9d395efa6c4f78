-- A run by a plan of turns, from its start to its closing.
use Rattle.std.specs.Prelude.{◌≡◌, ℕ, List, [], ◌∷◌, length, map, Option, Some, None, slice_get}
use Rattle.pp_model.specs.declared.Call.{Call}
use Rattle.pp_model.specs.declared.Answer.{Answer}
use Rattle.pp_model.specs.Pass.{PassView, NoteView, MapSizes, Meaning, RunView, CallerRun}
use Rattle.pp_model.specs.MapCalls.{caller_run}
use Rattle.pp_outside.specs.Outside.{Rose}
use Rattle.pp_schedule.specs.Calls.{CallerAt, all_capped}
use Rattle.pp_schedule.specs.Marks.{MarkedAs}
use Rattle.pp_schedule.specs.Plays.{Moment, Plays, RunsByPlan}
use Rattle.pp_planned.specs.declared.PlannedFault.{PlannedFault}
use Rattle.pp_planned.specs.declared.PlannedFault.TheVariants.{Failed, NoMemory}

-- what stands in a list of options
abbrev pub somes : {A : Type 0} → List (Option A) → List A
somes [] = []
somes (None ∷ xs) = somes xs
somes (Some x ∷ xs) = x ∷ somes xs

-- callers with these passes that have begun none of the calls of their lists
abbrev pub opened_callers : List PassView → List (List Call) → List CallerAt
opened_callers [] lists = []
opened_callers (p ∷ passes) [] = []
opened_callers (p ∷ passes) (calls ∷ lists) =
    record { pass = p; doing = None; calls = calls; answers = []; mark = 0; marks = [] } ∷ opened_callers passes lists

-- what a note tells of a pass that has seen nothing
abbrev pub told_nothing : NoteView
told_nothing = record { seen = 0; order = 0 }

-- the moment before the first turn, where nobody has seen anything
abbrev pub opened_at : List PassView → List (List Call) → Moment
opened_at passes lists = record { callers = opened_callers passes lists; told = told_nothing; count = 0 }

-- The callers made their turns by the plan, from these passes and lists on, and the run was closed over the passes that they left.
-- The order of all steps is one piece a turn, and the changes stand in the log in the order of the turns in which they took effect.
pub record IsPlanned (meaning : Meaning) (sizes : MapSizes) (races : ℕ) (plan : List ℕ) (opened : List PassView)
    (lists : List (List Call)) (run : RunView) : Type 0 where
  pub turns : List ℕ
  pub last : Moment
  pub plays : Plays meaning sizes races plan (opened_at opened lists) turns last
  pub left : run.callers ≡ map (λ v. caller_run v.pass) last.callers
  pub by_plan : RunsByPlan meaning.turn_steps (length lists) plan turns run.log run.order

-- Each caller's calls are marked as the closed run has placed them. The marks are as 64 bits hold them.
pub record IsMarked (lists : List (List Call)) (answers : List (List Answer)) (marks : List (List ℕ)) (run : RunView) : Type 0 where
  pub exact : List (List ℕ)
  pub many : length exact ≡ length lists
  pub marks_are : marks ≡ map all_capped exact
  pub each : (c : ℕ) (calls : List Call) (got : List Answer) (own : List ℕ) (r : CallerRun) → slice_get lists c ≡ Some calls
      → slice_get answers c ≡ Some got → slice_get exact c ≡ Some own → slice_get run.callers c ≡ Some r
      → MarkedAs run.log calls got own r.mine

-- the fault is the runner's only where its count of faults rose
abbrev pub IsRunnersFault : ℕ → ℕ → PlannedFault → Type 0
IsRunnersFault before after Failed = Rose before after
IsRunnersFault before after NoMemory = after ≡ before
