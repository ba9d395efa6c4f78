-- A run of callers' calls on a queue, from its start to its closing.
use Rattle.std.specs.Prelude.{◌≡◌, ℕ, ◌+◌, ◌<◌, List, [], ◌∷◌, ◌++◌, length, map, slice_get, Some}
use Rattle.pp_link.specs.declared.layout.Sizes.{Sizes}
use Rattle.pp_model.specs.declared.steps.OrderEntry.{OrderEntry}
use Rattle.pp_model.specs.Lists.{AtEach, IsPrefix}
use Rattle.pp_model.specs.Objects.{CallerList, IsHistory}
use Rattle.pp_rule.specs.Lists.{IsIn}
use Rattle.pp_rule.specs.Opening.{opening_words}
use Rattle.pp_rule.specs.Orders.{changes_of, steps_of, stores, IsExecution}
use Rattle.pp_queues.specs.declared.calls.QueueAnswer.{QueueAnswer}
use Rattle.pp_queues.specs.declared.calls.QueueAnswer.TheVariants as answer
use Rattle.pp_queues.specs.declared.calls.QueueCall.{QueueCall}
use Rattle.pp_queues.specs.declared.calls.QueueCall.TheVariants as call
use Rattle.pp_queues.specs.declared.calls.QueueChange.{QueueChange}
use Rattle.pp_queues.specs.declared.calls.QueuePlaced.{QueuePlaced}
use Rattle.pp_queues.specs.declared.calls.QueueReply.{QueueReply}
use Rattle.pp_queues.specs.Calls.{QueuePassView, AnswersQueue}
use Rattle.pp_queues.specs.Queue.{queue, items_of, IsSound, StandsIn}
use Rattle.pp_queues.specs.Queues.{queue_head, queue_field}
use Rattle.pp_queue.specs.Closings.{QueueCaller, QueueRun, caller_run}

-- a pass made these calls, one after another, with these answers
pub data AnswersCalls (z : Sizes) (races : ℕ) (before : QueuePassView) : List QueueCall → List QueueAnswer → QueuePassView → Type 0 where
  none : AnswersCalls z races before [] [] before
  more : (calls : List QueueCall) (answers : List QueueAnswer) (then_at now : QueuePassView) (call : QueueCall) (answer : QueueAnswer)
      → AnswersCalls z races before calls answers then_at → AnswersQueue z call races then_at now answer
      → AnswersCalls z races before (calls ++ call ∷ []) (answers ++ answer ∷ []) now

-- what a placed call says
pub record SaidCall : Type 0 where
  pub call : QueueCall
  pub reply : QueueReply

abbrev pub said_call : QueuePlaced → SaidCall
said_call s = record { call = s.call; reply = s.reply }

-- the calls that were answered by a reply, with their replies
abbrev pub said_calls : List QueueCall → List QueueAnswer → List SaidCall
said_calls [] answers = []
said_calls (c ∷ calls) [] = []
said_calls (c ∷ calls) (answer.Said r ∷ answers) = record { call = c; reply = r } ∷ said_calls calls answers
said_calls (c ∷ calls) (answer.Full ∷ answers) = said_calls calls answers
said_calls (c ∷ calls) (answer.Lost turns ∷ answers) = said_calls calls answers

-- how many of these calls are puts
abbrev pub puts : List QueueCall → ℕ
puts [] = 0
puts (call.Put v ∷ calls) = puts calls + 1
puts (call.Take ∷ calls) = puts calls

-- a pass as a run opens it: it has done and seen nothing, and is of this caller
pub record IsOpened (c : ℕ) (pass : QueuePassView) : Type 0 where
  pub seen : pass.seen ≡ []
  pub mine : pass.mine ≡ []
  pub steps : pass.steps ≡ []
  pub order_is : pass.order ≡ []
  pub free : length pass.free ≡ pass.share
  pub caller : pass.caller ≡ c

-- What caller c did in a run: with this pass it made its calls one after another, and got these answers. Its list is its calls
-- that were answered by a reply, in order and with these replies, and stands in the run's log.
pub record IsCaller (z : Sizes) (races : ℕ) (run : QueueRun) (c : ℕ) (opened : QueuePassView) (calls : List QueueCall)
    (answers : List QueueAnswer) : Type 0 where
  pub closed : QueuePassView
  pub made : AnswersCalls z races opened calls answers closed
  pub caller : closed.caller ≡ c
  pub listed : slice_get run.callers c ≡ Some (caller_run closed)
  pub said : map said_call closed.mine ≡ said_calls calls answers
  pub stands : StandsIn run.log c closed.mine
  pub seen : IsPrefix closed.seen run.log
  pub order_is : IsPrefix closed.order run.order

abbrev pub caller_list : QueueCaller → CallerList queue
caller_list r = record { caller = r.caller; mine = r.mine }

-- One run from these passes: one sound log of the callers' changes alone, in one order of all steps, and what each caller
-- did. The linearization of the log and the callers' lists is a legal history of these calls on a first-in first-out queue and
-- of no other.
pub record IsRunOf (z : Sizes) (races : ℕ) (opened : List QueuePassView) (lists : List (List QueueCall))
    (answers : List (List QueueAnswer)) (items : List ℕ) (run : QueueRun) : Type 0 where
  pub sizes_are : run.sizes ≡ z
  pub passes : AtEach opened IsOpened
  pub sound : IsSound run.log
  pub items_are : items ≡ items_of run.log
  pub known : AtEach run.log (λ p c. c.caller < length lists)
  pub logged : run.log ≡ changes_of run.order
  pub execution : IsExecution stores (opening_words 1 queue_head queue_field z) 0 run.order
  pub own_passes : (e : OrderEntry QueueChange) → IsIn e run.order → e.pass < length lists
  pub own_changes : (e : OrderEntry QueueChange) (c : QueueChange) → IsIn e run.order → IsIn c e.changes → c.caller ≡ e.pass
  pub own_steps : AtEach run.callers (λ k r. r.steps ≡ steps_of r.caller run.order)
  pub passes_are : length opened ≡ length lists
  pub answered : length answers ≡ length lists
  pub callers : length run.callers ≡ length lists
  pub each : (c : ℕ) (pass : QueuePassView) (calls : List QueueCall) (got : List QueueAnswer) → slice_get opened c ≡ Some pass
      → slice_get lists c ≡ Some calls → slice_get answers c ≡ Some got → IsCaller z races run c pass calls got
  pub history : IsHistory queue run.log (map caller_list run.callers)
