use Rattle.std.proofs.Common.{◌≡◌, []}
use Rattle.pp_base.specs.Passes.{IsPassOf}
use Rattle.pp_base.specs.Sources.{side_number}
use Rattle.pp_trees.specs.Edges.{Tags}
use Rattle.pp_edges.proofs.edges.tag_edge.Given as goal

abbrev pub ghosts-set_bits : goal.ghosts-set_bits
ghosts-set_bits a = record {
  then = λ m n m'. ((m'.1 ≡ []) × Tags a.place (side_number a._about.side) n m.0 m'.0) × IsPassOf a.pool.now.layout m'.0.known;
}
