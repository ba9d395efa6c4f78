use Rattle.std.proofs.Common.{ℕ, subst}
use Rattle.pp_model.specs.declared.Call.{Call}
use Rattle.pp_model.specs.MapCalls.{AnswersCall}
use Rattle.pp_calls.specs.PoolViews.{pass_view}
use Rattle.pp_ends.specs.Ends.{map_sizes}
use Rattle.pp_tree_turns.specs.Causes.{tree_meaning}
use Rattle.pp_tree.proofs.calls.answer.Goals as goal

pub returns-in-Done-clause-answered : goal.returns-in-Done-clause-answered
returns-in-Done-clause-answered c = let i = c.loop-answer.invariant in let z = map_sizes c.args.tree.now.pool.layout in
    let before = pass_view c.args.pass.now in let now = pass_view c.turn.new.pass in let answer = c.in-Done.answer in
    subst (λ (n : ℕ). AnswersCall tree_meaning z c.args.call n before now answer) i.budget
    (subst (λ (call : Call). AnswersCall tree_meaning z call c.loop-answer.going.races before now answer) i.call
    (c.in-Done.ensures.answered before i.going))
