use Rattle.pp_check.specs.Histories.{SoundTo}
use Rattle.pp_check.proofs.history.first_unsound.Given as goal

abbrev pub invariant-loop-at : goal.invariant-loop-at
invariant-loop-at l = SoundTo l.log l.at
