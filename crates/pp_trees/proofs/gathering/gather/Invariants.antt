use Rattle.std.proofs.Common.{◌≡◌, ◌≤◌, take, vec_capacity}
use Rattle.pp_trees.specs.Gathering.{closed, pairs_in}
use Rattle.pp_trees.proofs.gathering.gather.Given as goal

abbrev pub invariant-loop-number : goal.invariant-loop-number
invariant-loop-number l = record {
  contents : l.contents.items ≡ pairs_in (closed l.layout l.words) (take l.number-index l.number-items);
  room : l.layout.records ≤ vec_capacity l.contents;
}
