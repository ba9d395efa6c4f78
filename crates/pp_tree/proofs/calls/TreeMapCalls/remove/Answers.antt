use Rattle.pp_model.specs.declared.Call.TheVariants.{Remove}
use Rattle.pp_tree_turns.specs.Causes.{tree_meaning}
use Rattle.pp_answers.proofs.Suiting.{suits}
use Rattle.pp_tree.proofs.calls.TreeMapCalls.remove.Goals as goal

pub of_remove-requires : goal.of_remove-requires
of_remove-requires c = suits tree_meaning _ (Remove c.args.key) _ _ _ c.answer.result c.answer.ensures.answered
