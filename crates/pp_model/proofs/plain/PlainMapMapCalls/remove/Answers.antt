use Rattle.pp_model.proofs.PlainPasses.{plain_belongs, plain_answers}
use Rattle.pp_model.proofs.plain.PlainMapMapCalls.remove.Goals as goal

pub returns-clause-belongs : goal.returns-clause-belongs
returns-clause-belongs c =
    plain_belongs _ _ _ _ _ _ _ c.requires.belongs (c.remove.ensures c.args._races c.requires.may.budget_left)

pub returns-clause-answered : goal.returns-clause-answered
returns-clause-answered c = rw (← c.requires.belongs.share) (plain_answers _ _ _ _ _ _
    (c.remove.ensures c.args._races c.requires.may.budget_left))
