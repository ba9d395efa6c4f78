use Rattle.std.proofs.Common.{arith, ◌∙◌}
use Rattle.pp_buckets.specs.Tables.{table_sizes}
use Rattle.pp_ends.specs.Ends.{map_sizes}
use Rattle.pp_list.specs.Meant.{list_meaning}
use Rattle.pp_replay.proofs.Unders.{chosen}
use Rattle.pp_replay.proofs.TableRuns.{table_meant, table_shares, table_sized}
use Rattle.pp_tally.proofs.Finishes.{refused}
use Rattle.pp_tally.proofs.attempt.run_table.Goals as goal

pub run_shown-shown-requires-clause-chosen : goal.run_shown-shown-requires-clause-chosen
run_shown-shown-requires-clause-chosen g c κs within = rw c.in-Ok.ensures.sizes (chosen c.args.settings list_meaning
    (map_sizes (table_sizes c.args.settings.callers c.args.settings.records c.args.buckets))
    (table_meant c.args.settings c.args.buckets c.requires.table) (table_sized c.args.settings c.args.buckets c.requires.table))

pub run_shown-shown-requires-clause-passes : goal.run_shown-shown-requires-clause-passes
run_shown-shown-requires-clause-passes g c κs within = λ k p at. (
  c.in-Ok.ensures.belong k p at,
  c.in-Ok.ensures.rest k p at,
  record { fresh = c.in-Ok.ensures.fresh k p at; caller = c.in-Ok.ensures.callers k p at },
)

pub run_shown-shown-requires-clause-clean : goal.run_shown-shown-requires-clause-clean
run_shown-shown-requires-clause-clean g c κs within = λ k p at. c.in-Ok.ensures.clean k p at

pub run_shown-shown-requires-clause-shares : goal.run_shown-shown-requires-clause-shares
run_shown-shown-requires-clause-shares g c κs within = λ k p at.
    c.in-Ok.ensures.share k p at ∙ table_shares c.args.settings c.args.buckets c.requires.table k

pub run_shown-shown-requires-clause-room : goal.run_shown-shown-requires-clause-room
run_shown-shown-requires-clause-room g c κs within = λ k p at. omega (arith, c.requires.short)

pub returns-in_default : goal.returns-in_default
returns-in_default g c = λ words before after said_by read.
    refused words c.args.settings before after _ c.args.bytes.now _ _ said_by read c.without_run.ensures.0

pub returns : goal.returns
returns g c = λ words before after said_by read. rw c.kept_table.ensures (c.run_shown-shown.ensures words before after said_by read)
