use Rattle.std.proofs.Common.{◌-◌, length}
use Rattle.pp_plans.proofs.Cuts.{Passed}
use Rattle.pp_plans.proofs.cutting.part.Given as goal

-- so far no line named the plan
abbrev pub invariant-loop-line : goal.invariant-loop-line
invariant-loop-line l = Passed l.bytes l.from l.lines

abbrev pub decreases-loop-line : goal.decreases-loop-line
decreases-loop-line l = length l.bytes - l.from
