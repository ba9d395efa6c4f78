use Rattle.std.proofs.Common.{◌-◌, ◌+◌, length, refl, ap, ◌∙◌, arith}
use Rattle.pp_model.specs.Plain.{log_of}
use Rattle.pp_model.proofs.PlainPasses.{length-upto}
use Rattle.pp_model.proofs.plain.PlainMap.start.Goals as goal

pub returns-clause-fresh : goal.returns-clause-fresh
returns-clause-fresh c =
    let pairs = c.in_ok-pairs.pairs.items in
    record {
      seen = ap log_of c.in_ok-placed.ensures.empty;
      mine = c.in_ok-placed.ensures.empty;
      steps = refl;
      order = refl;
      wrote = refl;
      free = length-upto (length pairs + 1) (c.args.records - length pairs) ∙ omega (arith, ap length c.in_ok-pairs.ensures.empty);
      retired = refl;
      chains = refl;
    }
