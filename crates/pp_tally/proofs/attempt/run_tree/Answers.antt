use Rattle.std.proofs.Common.{arith, sym, ap, ◌∙◌}
use Rattle.pp_ends.specs.Ends.{map_sizes}
use Rattle.pp_tree.specs.Trees.{tree_sizes}
use Rattle.pp_tree_turns.specs.Causes.{tree_meaning}
use Rattle.pp_replay.specs.Replay.{meaning_of}
use Rattle.pp_replay.proofs.Unders.{chosen}
use Rattle.pp_replay.proofs.TreeRuns.{tree_shares, tree_sized}
use Rattle.pp_tally.proofs.Finishes.{refused}
use Rattle.pp_tally.proofs.attempt.run_tree.Goals as goal

pub run_shown-shown-requires-clause-chosen : goal.run_shown-shown-requires-clause-chosen
run_shown-shown-requires-clause-chosen g c κs within = rw c.in-Ok.ensures.sizes (chosen c.args.settings tree_meaning
    (map_sizes (tree_sizes c.args.settings.callers c.args.settings.records)) (sym (ap meaning_of c.requires.tree))
    (tree_sized c.args.settings c.requires.tree))

pub run_shown-shown-requires-clause-passes : goal.run_shown-shown-requires-clause-passes
run_shown-shown-requires-clause-passes g c κs within = λ k p at. (
  c.in-Ok.ensures.belong k p at,
  c.in-Ok.ensures.rest k p at,
  record { fresh = c.in-Ok.ensures.fresh k p at; caller = c.in-Ok.ensures.callers k p at },
)

pub run_shown-shown-requires-clause-clean : goal.run_shown-shown-requires-clause-clean
run_shown-shown-requires-clause-clean g c κs within = λ k p at. c.in-Ok.ensures.clean k p at

pub run_shown-shown-requires-clause-shares : goal.run_shown-shown-requires-clause-shares
run_shown-shown-requires-clause-shares g c κs within = λ k p at.
    c.in-Ok.ensures.share k p at ∙ tree_shares c.args.settings c.requires.tree k

pub run_shown-shown-requires-clause-room : goal.run_shown-shown-requires-clause-room
run_shown-shown-requires-clause-room g c κs within = λ k p at. omega (arith, c.requires.short)

pub returns-in_default : goal.returns-in_default
returns-in_default g c = λ words before after said_by read.
    refused words c.args.settings before after _ c.args.bytes.now _ _ said_by read c.without_run.ensures.0

pub returns : goal.returns
returns g c = λ words before after said_by read. rw c.kept_tree.ensures (c.run_shown-shown.ensures words before after said_by read)
