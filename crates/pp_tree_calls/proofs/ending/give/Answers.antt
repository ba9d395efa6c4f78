use Rattle.std.proofs.Common.{sym, ap, ◌∙◌, subst}
use Rattle.pp_base.specs.Passes.{known, IsAtRest}
use Rattle.pp_tree_calls.specs.Purses.{HasOut}
use Rattle.pp_tree_calls.proofs.Resting.{second_private}
use Rattle.pp_tree_calls.proofs.ending.give.Goals as goal

pub give_back-requires-in-Some : goal.give_back-requires-in-Some
give_back-requires-in-Some c = let old = c.args.pass.now in let mid = c.give_back.new.pass in
    second_private (known old.seat) (known mid.seat) (c.in-Some.leaf, c.in-Some.inner) old.purse mid.purse
    (ap known c.give_back.ensures.seat) c.give_back.ensures.purse
    (subst (HasOut (known old.seat) old.purse) c.in-Some.is c.requires.out)

pub returns-in-Some-clause-rest : goal.returns-in-Some-clause-rest
returns-in-Some-clause-rest c = subst (λ s. IsAtRest (known s) c.give_back-in-Some.new.pass.purse)
    (sym (c.give_back-in-Some.ensures.seat ∙ c.give_back.ensures.seat)) record {
      scan = c.requires.rest.scan;
      spent = c.give_back-in-Some.ensures.purse.spent ∙ (c.give_back.ensures.purse.spent ∙ c.requires.rest.spent);
      frontier = c.requires.rest.frontier;
    }
