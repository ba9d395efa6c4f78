use Rattle.std.proofs.Common.{◌≡◌}
use Rattle.pp_model.specs.Pass.{turns_left}
use Rattle.pp_model.proofs.calling.answer_one.Given as goal

abbrev pub invariant-loop-answer : goal.invariant-loop-answer
invariant-loop-answer g l = record {
  belongs : g.M.MapCalls.Belongs l.map l.pass;
  going : g.M.MapCalls.UnderWay l.map l.pass l.going (g.M.MapCalls.pass_view l.fn.pass);
  call : (g.M.MapCalls.going_view l.pass l.going).call ≡ l.fn.call;
  budget : (g.M.MapCalls.going_view l.pass l.going).budget ≡ l.fn.races;
}

abbrev pub decreases-loop-answer : goal.decreases-loop-answer
decreases-loop-answer g l = turns_left (g.M.MapCalls.going_view l.pass l.going)
