use Rattle.std.proofs.Common.{◌≡◌, []}
use Rattle.pp_base.specs.Passes.{IsPassOf}
use Rattle.pp_trees.specs.Seeks.{Begins}
use Rattle.pp_seek.proofs.steps.begin.Given as goal

abbrev pub ghosts-load_word : goal.ghosts-load_word
ghosts-load_word a = record {
  then = λ m n m'. ((m'.1 ≡ []) × Begins a.place a._about.call n m.0 m'.0) × IsPassOf a.pool.now.layout m'.0.known;
}
