use Rattle.std.proofs.Common.{arith, length, ap, length-append}
use Rattle.std.proofs.lemmas.List.{take_more, take_all}
use Rattle.std.proofs.lemmas.Option.{slice_get-get_or}
use Rattle.pp_model.specs.declared.Call.TheVariants.{Get}
use Rattle.pp_model.specs.MapCalls.{none, more}
use Rattle.pp_callers.proofs.make_calls.Goals as goal

pub loop-call-init : goal.loop-call-init
loop-call-init g c = record {
  belongs = c.requires.belongs;
  idle = c.requires.idle;
  made = rw c.requires.may.none none;
  room = omega (arith, c.requires.may.room);
  count = ap length c.requires.may.none;
  space = c.requires.may.fits;
}

pub make_call-answer-requires-clause-may : goal.make_call-answer-requires-clause-may
make_call-answer-requires-clause-may g c = record {
  key = c.requires.may.keys c.loop-call.call-index _ (slice_get-get_or c.args.calls.now c.loop-call.call-index (Get 0)
      c.loop-call-test.true);
  budget_left = c.requires.races;
  room = omega (arith, c.loop-call.invariant.room);
}

pub loop-call-preserved : goal.loop-call-preserved
loop-call-preserved g c = record {
  belongs = c.make_call-answer.ensures.belongs;
  idle = c.make_call-answer.ensures.idle;
  made = rw (take_more c.args.calls.now c.loop-call.call-index (Get 0) c.loop-call-test.true, c.enter.ensures.items)
      (more _ _ _ _ _ _ c.loop-call.invariant.made c.make_call-answer.ensures.answered);
  room = omega (arith, c.loop-call.invariant.room, c.make_call-answer.ensures.answered.told.grew.room);
  count = omega (arith, c.loop-call.invariant.count, simp length-append at (ap length c.enter.ensures.items));
  space = omega (arith, c.loop-call.invariant.space, c.enter.ensures.room);
}

pub returns-clause-answered : goal.returns-clause-answered
returns-clause-answered g c =
    rw (take_all c.loop-call.call-index c.args.calls.now c.loop-call-test.false) at c.loop-call.invariant.made
