use Rattle.pp_model.specs.declared.Call.TheVariants.{Get}
use Rattle.pp_tree_turns.specs.Causes.{tree_meaning}
use Rattle.pp_answers.proofs.Suiting.{suits}
use Rattle.pp_tree.proofs.calls.TreeMapCalls.get.Goals as goal

pub of_get-requires : goal.of_get-requires
of_get-requires c = suits tree_meaning _ (Get c.args.key) _ _ _ c.answer.result c.answer.ensures.answered
