use Rattle.std.proofs.Common.{◌≡◌, ◌-◌, ◌≤◌, map, vec_capacity}
use Rattle.pp_rule.specs.Opening.{numbers_from}
use Rattle.pp_peg_scenes.specs.Pegs.{pair_of}
use Rattle.pp_peg_scenes.proofs.pegs.PegShapeShape.gather.Given as goal

abbrev pub invariant-loop-number : goal.invariant-loop-number
invariant-loop-number l = record {
  above : l.first ≤ l.number;
  below : l.number ≤ 6;
  live : l.live.items ≡ numbers_from l.first (l.number - l.first);
  contents : l.contents.items ≡ map pair_of (numbers_from l.first (l.number - l.first));
  live_room : l.layout.records ≤ vec_capacity l.live;
  contents_room : l.layout.records ≤ vec_capacity l.contents;
}
