use Rattle.std.proofs.Common.{◌≤◌, vec_capacity}
use Rattle.pp_trees.proofs.Gathers.{AheadAt, remaining}
use Rattle.pp_trees.proofs.gathering.list_live.Given as goal

abbrev pub invariant-loop-link : goal.invariant-loop-link
invariant-loop-link l = record {
  ahead : AheadAt l.layout l.words l.link l.stack.items l.live.items l.low l.base l.parting;
  stack_room : l.layout.records ≤ vec_capacity l.stack;
  live_room : l.layout.records ≤ vec_capacity l.live;
}

abbrev pub decreases-loop-link : goal.decreases-loop-link
decreases-loop-link l = remaining l.layout l.words l.low l.stack.items
