use Rattle.std.proofs.Common.{arith, ap, length, length-append}
use Rattle.std.proofs.lemmas.List.{take_more, take_all}
use Rattle.pp_queues.specs.declared.calls.QueueCall.TheVariants.{Put}
use Rattle.pp_queue_replay.specs.Runs.{none, more}
use Rattle.pp_queue_replay.proofs.running.make_calls.Goals as goal

pub loop-call-init : goal.loop-call-init
loop-call-init g c = record {
  ready = c.requires.ready;
  made = rw c.requires.none none;
  count = ap length c.requires.none;
  space = c.requires.fits;
}

pub loop-call-preserved : goal.loop-call-preserved
loop-call-preserved g c = record {
  ready = c.make_call-answer.ensures.ready;
  made = rw (take_more c.args.calls.now c.loop-call.call-index (Put 0) c.loop-call-test.true, c.enter.ensures.items)
      (more _ _ _ _ _ _ c.loop-call.invariant.made c.make_call-answer.ensures.answered);
  count = omega (arith, c.loop-call.invariant.count, simp length-append at (ap length c.enter.ensures.items));
  space = omega (arith, c.loop-call.invariant.space, c.enter.ensures.room);
}

pub returns-clause-answered : goal.returns-clause-answered
returns-clause-answered g c =
    rw (take_all c.loop-call.call-index c.args.calls.now c.loop-call-test.false) at c.loop-call.invariant.made
