use Rattle.std.proofs.Common.{◌≡◌, ◌+◌, ◌≤◌, length, take}
use Rattle.std.specs.Prelude.{vec_capacity}
use Rattle.pp_model.specs.MapCalls.{AnswersCalls}
use Rattle.pp_callers.proofs.make_calls.Given as goal

-- the calls so far were made with the answers so far, and there is room for the rest
abbrev pub invariant-loop-call : goal.invariant-loop-call
invariant-loop-call g l = record {
  belongs : g.M.MapCalls.Belongs l.map l.pass;
  idle : g.M.MapCalls.Idle l.pass;
  made : AnswersCalls g.M.MapCalls.meaning (g.M.MapCalls.sizes l.map) l.races (g.M.MapCalls.pass_view l.fn.pass)
      (take l.call-index l.calls) l.answers.items (g.M.MapCalls.pass_view l.pass);
  room : length l.calls ≤ (g.M.MapCalls.pass_view l.pass).room + l.call-index;
  count : length l.answers.items ≡ l.call-index;
  space : length l.calls ≤ vec_capacity l.answers;
}
