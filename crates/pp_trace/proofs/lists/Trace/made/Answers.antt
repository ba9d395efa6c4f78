use Rattle.std.proofs.Common.{arith}
use Rattle.pp_trace.proofs.MadeLines.{IsMade-lists}
use Rattle.pp_trace.proofs.lists.Trace.made.Goals as goal

pub returns-in-Ok : goal.returns-in-Ok
returns-in-Ok c =
    IsMade-lists c.args.make.seed c.args.make.lines c.args.callers c.in-Ok.trace (omega (arith, c.requires.callers)) c.requires.callers.1
    c.requires.limits.1 c.in-Ok.ensures
