use Rattle.std.proofs.Common.{arith}
use Rattle.pp_check.proofs.Verdicts.{stand_more, misplaced_verdict, yes_verdict}
use Rattle.pp_check.proofs.history.check_lists.Goals as goal

pub returns-in-Some : goal.returns-in-Some
returns-in-Some c = λ text is.
    misplaced_verdict text c.args.certificate.now is c.log.result.now c.loop-caller.caller c.in-Some.number c.list-list.result.now
    c.log.ensures
    c.loop-caller-test.true c.list-list.ensures c.requires.sound (c.loop-caller.invariant text is) c.in-Some.ensures

pub loop-caller-preserved : goal.loop-caller-preserved
loop-caller-preserved c = λ text is.
    stand_more text c.args.certificate.now is c.log.result.now c.loop-caller.caller c.list-list.result.now c.log.ensures
    c.loop-caller-test.true c.list-list.ensures c.in_default.ensures (c.loop-caller.invariant text is)

pub returns : goal.returns
returns c = λ text is.
    yes_verdict text c.args.certificate.now is c.requires.sound (λ k below. c.loop-caller.invariant text is k (omega arith))
