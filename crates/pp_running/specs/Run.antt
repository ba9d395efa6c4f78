-- A run of callers' calls on a map, from its start to its closing.
use Rattle.std.specs.Prelude.{◌≡◌, ℕ, ◌<◌, List, length, map, slice_get, Some}
use Rattle.pp_model.specs.declared.Call.{Call}
use Rattle.pp_model.specs.declared.Answer.{Answer}
use Rattle.pp_model.specs.Lists.{AtEach, IsPrefix}
use Rattle.pp_model.specs.History.{Sound, Stands}
use Rattle.pp_model.specs.Pass.{PassView, MapSizes, Meaning, RunView, IsFresh}
use Rattle.pp_model.specs.MapCalls.{AnswersCalls, IsOrdered, caller_run, said_call, said_calls}
use Rattle.pp_model.specs.Linearization.{IsHistory, caller_list}

-- a pass as a run opens it: fresh, and of this caller
pub record IsOpened (c : ℕ) (pass : PassView) : Type 0 where
  pub fresh : IsFresh pass
  pub caller : pass.caller ≡ c

-- What caller c did in a run: with this pass it made its calls one after another, and got these answers. Its list is its calls
-- that were answered by a reply, in order and with these replies, and stands in the run's log.
pub record IsCaller (meaning : Meaning) (sizes : MapSizes) (races : ℕ) (run : RunView) (c : ℕ) (opened : PassView) (calls : List Call)
    (answers : List Answer) : Type 0 where
  pub closed : PassView
  pub made : AnswersCalls meaning sizes races opened calls answers closed
  pub caller : closed.caller ≡ c
  pub listed : slice_get run.callers c ≡ Some (caller_run closed)
  pub said : map said_call closed.mine ≡ said_calls calls answers
  pub stands : Stands run.log c closed.mine
  pub seen : IsPrefix closed.seen run.log
  pub order : IsPrefix closed.order run.order

-- One run from these passes: one sound log of the callers' changes alone, in one order of all steps, and what each caller
-- did. The linearization of the log and the callers' lists is a legal history of these calls and no other.
pub record IsRunOf (meaning : Meaning) (sizes : MapSizes) (races : ℕ) (opened : List PassView) (lists : List (List Call))
    (answers : List (List Answer)) (run : RunView) : Type 0 where
  pub sizes_are : run.sizes ≡ sizes
  pub passes : AtEach opened IsOpened
  pub sound : Sound run.log
  pub known : AtEach run.log (λ p c. c.caller < length lists)
  pub ordered : IsOrdered meaning run
  pub passes_are : length opened ≡ length lists
  pub answered : length answers ≡ length lists
  pub callers : length run.callers ≡ length lists
  pub each : (c : ℕ) (pass : PassView) (calls : List Call) (got : List Answer) → slice_get opened c ≡ Some pass
      → slice_get lists c ≡ Some calls → slice_get answers c ≡ Some got → IsCaller meaning sizes races run c pass calls got
  pub history : IsHistory run.log (map caller_list run.callers)
