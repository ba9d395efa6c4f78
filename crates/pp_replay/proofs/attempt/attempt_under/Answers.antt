use Rattle.std.proofs.Common.{map}
use Rattle.pp_replay.proofs.Finishes.{may_run}
use Rattle.pp_replay.proofs.attempt.attempt_under.Goals as goal

pub run_chosen-requires-clause-calls : goal.run_chosen-requires-clause-calls
run_chosen-requires-clause-calls g c κs within =
    may_run c.args.settings.make c.args.settings.callers _ _ (map (λ v. v.items) c.in-Ok.lists.items) c.in-Ok.ensures.calls
