use Rattle.std.proofs.Common.{map, sym, ap, ◌∙◌}
use Rattle.pp_ends.specs.Ends.{map_sizes}
use Rattle.pp_tree.specs.Trees.{tree_sizes}
use Rattle.pp_tree_turns.specs.Causes.{tree_meaning}
use Rattle.pp_replay.specs.Replay.{meaning_of}
use Rattle.pp_replay.proofs.PoolRuns.{pool_room}
use Rattle.pp_replay.proofs.TreeRuns.{tree_shares, tree_sized}
use Rattle.pp_poll.proofs.Finishes.{refused, chosen_to_poll}
use Rattle.pp_poll.proofs.attempt.run_tree.Goals as goal

pub run_shown-shown-requires-clause-chosen : goal.run_shown-shown-requires-clause-chosen
run_shown-shown-requires-clause-chosen g c = rw c.in-Ok.ensures.sizes (chosen_to_poll c.args.settings tree_meaning
    (map_sizes (tree_sizes c.args.settings.callers c.args.settings.records)) c.requires.within (sym (ap meaning_of c.requires.tree))
    (tree_sized c.args.settings c.requires.tree))

pub run_shown-shown-requires-clause-passes : goal.run_shown-shown-requires-clause-passes
run_shown-shown-requires-clause-passes g c = λ k p at. (
  c.in-Ok.ensures.belong k p at,
  c.in-Ok.ensures.rest k p at,
  record { fresh = c.in-Ok.ensures.fresh k p at; caller = c.in-Ok.ensures.callers k p at },
)

pub run_shown-shown-requires-clause-clean : goal.run_shown-shown-requires-clause-clean
run_shown-shown-requires-clause-clean g c = λ k p at. c.in-Ok.ensures.clean k p at

pub run_shown-shown-requires-clause-shares : goal.run_shown-shown-requires-clause-shares
run_shown-shown-requires-clause-shares g c = λ k p at.
    c.in-Ok.ensures.share k p at ∙ tree_shares c.args.settings c.requires.tree k

pub run_shown-shown-requires-clause-room : goal.run_shown-shown-requires-clause-room
run_shown-shown-requires-clause-room g c =
    pool_room c.in-Ok.passes.items (map (λ v. v.items) c.args.input.lists.items) c.requires.calls.short

pub returns-in_default : goal.returns-in_default
returns-in_default g c = λ words before after said_by input.
    refused c.args.places words c.args.settings _ _ before after _ _ _ _ _ _ said_by input c.without_run.ensures.0

pub returns : goal.returns
returns g c = λ words before after said_by input. rw c.kept_tree.ensures (c.run_shown-shown.ensures words before after said_by input)
