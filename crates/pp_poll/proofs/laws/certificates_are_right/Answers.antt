use Rattle.pp_poll.proofs.Right.{certificates_are_right}
use Rattle.pp_poll.proofs.laws.certificates_are_right.Goals as goal

pub returns : goal.returns
returns c = certificates_are_right
