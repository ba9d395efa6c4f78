use Rattle.pp_model.specs.declared.Call.TheVariants.{Cut}
use Rattle.pp_tree_turns.specs.Causes.{tree_meaning}
use Rattle.pp_answers.proofs.Suiting.{suits}
use Rattle.pp_tree.proofs.calls.TreeMapCalls.cut.Goals as goal

pub of_cut-requires : goal.of_cut-requires
of_cut-requires c = suits tree_meaning _ (Cut c.args.key c.args.value) _ _ _ c.answer.result c.answer.ensures.answered
