use Rattle.pp_base.specs.Passes.{view}
use Rattle.pp_ends.proofs.Closing.{closing}
use Rattle.pp_ends.proofs.Telling.{tells_map}
use Rattle.pp_trees.specs.Gathering.{TreeGathered, TreeTells, TreeTellsPass}
use Rattle.pp_tree_turns.specs.Causes.{tree_causes, tree_words}
use Rattle.pp_tree.proofs.calls.TreeMapCalls.close.Goals as goal

pub close-requires-clause-each : goal.close-requires-clause-each
close-requires-clause-each c = λ k p at. let r = c.requires.each k p at in (r.0.fits, r.2)

pub close-requires-clause-idle : goal.close-requires-clause-idle
close-requires-clause-idle c = λ k p at. let r = c.requires.each k p at in r.1.idle

pub returns-in-Ok-clause-closed : goal.returns-in-Ok-clause-closed
returns-in-Ok-clause-closed c = let z = c.args.self.pool.layout in let closed = c.in-Ok.closed in
    closing TreeGathered TreeTells TreeTellsPass tree_words tree_causes z c.args.self.pool.table.shared.table_id c.args.passes.items
    closed.contents.items closed.free.items closed.witness.live.items (view closed.witness.seat)
    (λ k p at. let r = c.requires.each k p at in (r.0.fits, r.2)) c.requires.all (λ log pairs told. tells_map log pairs told.0 told.1)
    (λ log p placed told. told) c.in-Ok.ensures.closed
