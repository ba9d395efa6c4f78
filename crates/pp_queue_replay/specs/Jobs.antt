-- What a queue's callers have to do, and what they did.
use Rattle.std.specs.Prelude.{◌≡◌, ℕ, ◌≤◌, List, [], length}
use Rattle.pp_model.specs.Lists.{AtEach}
use Rattle.pp_callers.specs.declared.Job.{Job}
use Rattle.pp_rule.specs.declared.shape.Shape.{Ghosts}
use Rattle.pp_base.specs.declared.pool.Pass.{Pass}
use Rattle.pp_queues.specs.declared.calls.QueueAnswer.{QueueAnswer}
use Rattle.pp_queues.specs.declared.calls.QueueCall.{QueueCall}
use Rattle.pp_queues.specs.declared.calls.QueueChange.{QueueChange}
use Rattle.pp_queues.specs.declared.calls.QueuePlaced.{QueuePlaced}
use Rattle.pp_queues.specs.declared.own.QueueOwn.{QueueOwn}
use Rattle.pp_queue.specs.declared.queue.Queue.{Queue}
use Rattle.pp_queue.specs.Passes.{IsReady, pass_seen}
use Rattle.pp_queue_replay.specs.Runs.{AnswersCalls}

-- what one caller of a queue has to do
abbrev pub QueueJob : {S : Type 0} → Ghosts S QueueChange QueuePlaced QueueOwn → Type 0
QueueJob {S} shape = Job (Pass S QueueChange QueuePlaced QueueOwn shape) QueueCall QueueAnswer

module _ {S : Type 0} {shape : Ghosts S QueueChange QueuePlaced QueueOwn} where
  -- a caller may make its calls: its pass is between its calls, and there is room for the answers
  pub record MayMake (q : Queue) (job : QueueJob shape) (space : ℕ) : Type 0 where
    pub ready : IsReady q job.pass
    pub none : job.answers.items ≡ []
    pub fits : length job.calls.items ≤ space

  -- a caller made its calls
  pub record HasMade (q : Queue) (races : ℕ) (was job : QueueJob shape) : Type 0 where
    pub ready : IsReady q job.pass
    pub caller : job.caller ≡ was.caller
    pub calls : job.calls.items ≡ was.calls.items
    pub made : AnswersCalls q.pool.layout races (pass_seen was.pass) was.calls.items job.answers.items (pass_seen job.pass)

-- lists of calls that may be run: one for each caller, none longer than a trace
pub record AreCalls (callers : ℕ) (lists : List (List QueueCall)) : Type 0 where
  pub each_caller : length lists ≡ callers
  pub short : AtEach lists (λ c calls. length calls ≤ 16777216)
