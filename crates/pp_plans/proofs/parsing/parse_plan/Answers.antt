use Rattle.pp_plans.proofs.Readings.{past_given, read_all}
use Rattle.pp_plans.proofs.parsing.parse_plan.Goals as goal

pub loop-span-preserved : goal.loop-span-preserved
loop-span-preserved c =
    let read = past_given c.args.bytes.now c.args.before c.args.callers _ _ _ c.in-Some.span c.in-Some.ensures c.loop-span.invariant _ _
    c.in-Gives.ensures in
    rw c.in_ok-enter_turns-in-Gives.ensures read

pub returns-clause-plan : goal.returns-clause-plan
returns-clause-plan c =
    read_all c.args.bytes.now c.args.before c.args.callers c.loop-span.from c.loop-span.line _ c.in_default.ensures
    c.loop-span.invariant
