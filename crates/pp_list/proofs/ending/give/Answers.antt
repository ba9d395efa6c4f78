use Rattle.std.proofs.Common.{sym, ◌∙◌, subst}
use Rattle.pp_base.specs.Passes.{known, IsAtRest}
use Rattle.pp_list.proofs.ending.give.Goals as goal

pub returns-in-Some-clause-rest : goal.returns-in-Some-clause-rest
returns-in-Some-clause-rest c = subst (λ s. IsAtRest (known s) c.give_back.new.pass.purse) (sym c.give_back.ensures.seat) record {
  scan = c.requires.rest.scan;
  spent = c.give_back.ensures.purse.spent ∙ c.requires.rest.spent;
  frontier = c.requires.rest.frontier;
}
