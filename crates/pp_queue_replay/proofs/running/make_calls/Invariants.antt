use Rattle.std.proofs.Common.{◌≡◌, ◌≤◌, length, take}
use Rattle.std.specs.Prelude.{vec_capacity}
use Rattle.pp_queue.specs.Passes.{IsReady, pass_seen}
use Rattle.pp_queue_replay.specs.Runs.{AnswersCalls}
use Rattle.pp_queue_replay.proofs.running.make_calls.Given as goal

-- the calls so far were made with the answers so far, and there is room for the rest
abbrev pub invariant-loop-call : goal.invariant-loop-call
invariant-loop-call g l = record {
  ready : IsReady l.queue l.pass;
  made : AnswersCalls l.queue.pool.layout l.races (pass_seen l.fn.pass) (take l.call-index l.calls) l.answers.items (pass_seen l.pass);
  count : length l.answers.items ≡ l.call-index;
  space : length l.calls ≤ vec_capacity l.answers;
}
