use Rattle.std.proofs.Common.{◌≡◌, []}
use Rattle.pp_base.specs.Passes.{IsPassOf}
use Rattle.pp_base.specs.Sources.{side_number}
use Rattle.pp_trees.specs.Seeks.{Looks}
use Rattle.pp_seek.proofs.steps.look.Given as goal

abbrev pub ghosts-load_word : goal.ghosts-load_word
ghosts-load_word a = record {
  then = λ m n m'. ((m'.1 ≡ []) × Looks (side_number a._about.side) a.place n m.0 m'.0) × IsPassOf a.pool.now.layout m'.0.known;
}
