use Rattle.pp_programs.proofs.Causes.{says}
use Rattle.pp_queue_replay.specs.Replay.{and_list}
use Rattle.pp_queue_replay.proofs.Finishes.{unread}
use Rattle.pp_queue_replay.proofs.Readings.{trace_calls}
use Rattle.pp_queue_replay.proofs.attempt.attempt_under.Goals as goal

pub run_queue-requires-clause-calls : goal.run_queue-requires-clause-calls
run_queue-requires-clause-calls g c κs within = trace_calls c.in-Ok.ensures.calls.bytes c.args.settings.callers _ c.in-Ok.ensures.calls.says

pub returns-in-Err : goal.returns-in-Err
returns-in-Err g c = λ words said_by.
    let said = says (and_list words) c.args.settings said_by _ c.is_some.ensures c.if-is_some.false in
    rw c.without_run-in-Err.ensures.0 (unread words c.args.settings _ _ _ _ _ c.in-Err.way said c.in-Err.ensures.none)
