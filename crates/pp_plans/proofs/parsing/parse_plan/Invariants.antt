use Rattle.std.proofs.Common.{◌-◌, length}
use Rattle.pp_plans.proofs.Readings.{HasRead}
use Rattle.pp_plans.proofs.parsing.parse_plan.Given as goal

abbrev pub invariant-loop-span : goal.invariant-loop-span
invariant-loop-span l = HasRead l.bytes l.before l.callers l.from l.line l.plan.items

abbrev pub decreases-loop-span : goal.decreases-loop-span
decreases-loop-span l = length l.bytes - l.from
