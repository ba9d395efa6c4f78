-- What contracts see of the ending of a replay by a plan.
use Rattle.std.specs.Prelude.{map}
use Rattle.pp_replay.specs.Replay.{EndingView}
use Rattle.pp_replay.specs.View.{kept_run}
use Rattle.pp_poll.specs.declared.ending.PolledEnding.TheInside.{Inside}

abbrev pub ending_view : Inside → EndingView
ending_view e = record { status = e.status; answers = map (λ v. v.items) e.answers.items; run = kept_run e.kept }
