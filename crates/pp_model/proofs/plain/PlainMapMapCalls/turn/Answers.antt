use Rattle.std.proofs.Common.{subst}
use Rattle.pp_model.specs.MapCalls.{AnswersCall}
use Rattle.pp_model.specs.Plain.{plain_meaning, plain_sizes}
use Rattle.pp_model.proofs.PlainPasses.{plain_belongs, plain_answers}
use Rattle.pp_model.proofs.plain.PlainMapMapCalls.turn.Goals as goal

pub returns-clause-belongs : goal.returns-clause-belongs
returns-clause-belongs c = plain_belongs _ _ _ _ _ _ _ c.requires.belongs
    (c.answer-answer.ensures c.args.going.now.races c.requires.going.1.may.budget_left)

pub returns-clause-answered : goal.returns-clause-answered
returns-clause-answered c before under =
    let going = c.args.going.now in
    subst (λ b. AnswersCall plain_meaning (plain_sizes c.args.self.now.records) going.call going.races b c.answer-answer.new.self
    c.answer-answer.result) under.same
    (rw (← c.requires.belongs.share) (plain_answers _ _ _ _ _ _ (c.answer-answer.ensures going.races under.may.budget_left)))
