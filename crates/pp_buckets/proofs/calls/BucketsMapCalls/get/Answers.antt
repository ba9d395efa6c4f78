use Rattle.pp_model.specs.declared.Call.TheVariants.{Get}
use Rattle.pp_list.specs.Meant.{list_meaning}
use Rattle.pp_answers.proofs.Suiting.{suits}
use Rattle.pp_buckets.proofs.calls.BucketsMapCalls.get.Goals as goal

pub of_get-requires : goal.of_get-requires
of_get-requires c = suits list_meaning _ (Get c.args.key) _ _ _ c.answer.result c.answer.ensures.answered
