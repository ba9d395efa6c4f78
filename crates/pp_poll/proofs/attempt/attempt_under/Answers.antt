use Rattle.std.proofs.Common.{map}
use Rattle.pp_poll.proofs.Finishes.{may_run, may_plan}
use Rattle.pp_poll.proofs.attempt.attempt_under.Goals as goal

pub run_chosen-requires-clause-calls : goal.run_chosen-requires-clause-calls
run_chosen-requires-clause-calls g c =
    may_run c.args.settings.make c.args.settings.callers _ _ (map (λ v. v.items) c.in-Ok.input.lists.items) _ c.in-Ok.ensures.input

pub run_chosen-requires-clause-plan : goal.run_chosen-requires-clause-plan
run_chosen-requires-clause-plan g c =
    may_plan c.args.settings.make c.args.settings.callers _ _ (map (λ v. v.items) c.in-Ok.input.lists.items) _ c.in-Ok.ensures.input
