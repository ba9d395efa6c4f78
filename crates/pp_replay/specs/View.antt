-- What contracts see of an ending.
use Rattle.std.specs.Prelude.{map, Option, Some, None}
use Rattle.pp_base.specs.Passes.{view}
use Rattle.pp_ends.specs.Ends.{pool_run}
use Rattle.pp_model.specs.declared.Change.{Change}
use Rattle.pp_model.specs.declared.Placed.{Placed}
use Rattle.pp_model.specs.declared.map_calls.Closed.{Closed}
use Rattle.pp_model.specs.declared.plain.PlainKept.{PlainKept}
use Rattle.pp_model.specs.Pass.{RunView}
use Rattle.pp_model.specs.Plain.{plain_run}
use Rattle.pp_pool.specs.declared.closing.Witness.{Witness}
use Rattle.pp_replay.specs.declared.ending.Kept.{Kept}
use Rattle.pp_replay.specs.declared.ending.Kept.TheVariants as kept
use Rattle.pp_replay.specs.declared.ending.Ending.TheInside.{Inside}
use Rattle.pp_replay.specs.Replay.{EndingView}

-- the run that a plain map's witness shows
abbrev pub plain_kept_run : PlainKept → RunView
plain_kept_run witness = plain_run witness.records witness.placed.items

-- the run that the witness of a pool shows, of whichever shape
abbrev pub pool_kept_run : {S W : Type 0} → Witness S Change Placed W → RunView
pool_kept_run witness = pool_run (view witness.seat) witness.live.items

-- the run that a closed map's witness shows, if one was closed
abbrev pub shown_run : {W : Type 0} → (W → RunView) → Option (Closed W) → Option RunView
shown_run run_of None = None
shown_run run_of (Some closed) = Some (run_of closed.witness)

-- the run that was kept, if one was closed
abbrev pub kept_run : Kept → Option RunView
kept_run kept.Nothing = None
kept_run (kept.Plain closed) = Some (plain_kept_run closed.witness)
kept_run (kept.Table closed) = Some (pool_kept_run closed.witness)
kept_run (kept.Tree closed) = Some (pool_kept_run closed.witness)

abbrev pub ending_view : Inside → EndingView
ending_view e = record { status = e.status; answers = map (λ v. v.items) e.answers.items; run = kept_run e.kept }
