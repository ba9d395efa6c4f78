use Rattle.pp_check.specs.Histories.{InPlaceTo}
use Rattle.pp_check.proofs.placing.first_amiss.Given as goal

abbrev pub invariant-loop-position : goal.invariant-loop-position
invariant-loop-position l = InPlaceTo l.log l.caller l.list l.position
