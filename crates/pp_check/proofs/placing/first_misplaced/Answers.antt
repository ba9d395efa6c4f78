use Rattle.std.proofs.Common.{◌+◌}
use Rattle.pp_check.proofs.Standing.{stands_from, listed_of}
use Rattle.pp_check.proofs.placing.first_misplaced.Goals as goal

pub returns : goal.returns
returns c =
    stands_from c.args.log.now c.args.caller c.args.list.now c.in_default.ensures
    (λ p d at its. listed_of c.args.log.now c.args.caller c.args.list.now d.number (p + 1) (c.if-leaves_out.ensures p d at its))
