use Rattle.std.proofs.Common.{◌≤◌, length, take}
use Rattle.std.specs.Prelude.{vec_capacity}
use Rattle.pp_model.specs.MapCalls.{AnswersCalls}
use Rattle.pp_model.proofs.calling.answer_all.Given as goal

abbrev pub invariant-loop-call : goal.invariant-loop-call
invariant-loop-call g l = record {
  belongs : g.M.MapCalls.Belongs l.map l.pass;
  idle : g.M.MapCalls.Idle l.pass;
  answered : AnswersCalls g.M.MapCalls.meaning (g.M.MapCalls.sizes l.map) l.races (g.M.MapCalls.pass_view l.fn.pass)
      (take l.call-index l.calls) l.answers.items (g.M.MapCalls.pass_view l.pass);
  space : length l.calls ≤ vec_capacity l.answers;
}
