use Rattle.pp_check.proofs.OneVerdict.{verdicts_are_one}
use Rattle.pp_check.proofs.laws.verdicts_are_one.Goals as goal

pub returns : goal.returns
returns c = verdicts_are_one
