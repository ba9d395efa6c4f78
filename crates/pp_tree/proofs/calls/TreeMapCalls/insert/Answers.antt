use Rattle.pp_model.specs.declared.Call.TheVariants.{Insert}
use Rattle.pp_tree_turns.specs.Causes.{tree_meaning}
use Rattle.pp_answers.proofs.Suiting.{suits}
use Rattle.pp_tree.proofs.calls.TreeMapCalls.insert.Goals as goal

pub of_insert-requires : goal.of_insert-requires
of_insert-requires c = suits tree_meaning _ (Insert c.args.key c.args.value) _ _ _ c.answer.result c.answer.ensures.answered
