use Rattle.std.proofs.Common.{◌≡◌, ◌*◌, ◌^◌, ◌<◌, map}
use Rattle.pp_model.specs.Lists.{upto}
use Rattle.pp_trace.specs.MadeTrace.{state, made}
use Rattle.pp_trace.proofs.made.make_lists.Given as goal

abbrev pub invariant-loop-line : goal.invariant-loop-line
invariant-loop-line l =
    (l.state < 2 ^ 31)
    × (l.state ≡ state l.fn.make.seed (2 * l.line))
    × (l.trace ≡ map (made l.fn.make.seed l.line l.callers) (upto 0 l.callers))
