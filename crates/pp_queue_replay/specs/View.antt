-- What contracts see of an ending.
use Rattle.std.specs.Prelude.{map, Option, Some, None}
use Rattle.pp_base.specs.Passes.{view}
use Rattle.pp_queue.specs.Closings.{QueueRun, queue_run}
use Rattle.pp_queue.specs.declared.closing.QueueClosed.{QueueClosed}
use Rattle.pp_queue_replay.specs.declared.ending.QueueEnding.TheInside.{Inside}
use Rattle.pp_queue_replay.specs.Replay.{EndingView}

-- the run that was kept, if one was closed
abbrev pub kept_run : Option QueueClosed → Option QueueRun
kept_run None = None
kept_run (Some closed) = Some (queue_run (view closed.closed.witness.seat) closed.closed.witness.live.items)

abbrev pub ending_view : Inside → EndingView
ending_view e = record { status = e.status; answers = map (λ v. v.items) e.answers.items; run = kept_run e.kept }
