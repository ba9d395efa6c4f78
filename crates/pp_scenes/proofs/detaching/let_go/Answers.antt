use Rattle.pp_base.specs.Passes.{known}
use Rattle.pp_hazard.proofs.Resting.{rest_but}
use Rattle.pp_scenes.proofs.detaching.let_go.Goals as goal

pub returns-clause-rest : goal.returns-clause-rest
returns-clause-rest c = let old = c.args.pass.now in let first = c.clear.new.pass in let second = c.clear-2.new.pass in
    let third = c.clear-3.new.pass in
    rest_but 2 (known second.seat) (known third.seat) second.purse third.purse c.clear-3.ensures.others c.clear-3.ensures.purse
    (rest_but 1 (known first.seat) (known second.seat) first.purse second.purse c.clear-2.ensures.others c.clear-2.ensures.purse
    (rest_but 0 (known old.seat) (known first.seat) old.purse first.purse c.clear.ensures.others c.clear.ensures.purse c.requires.rest))
