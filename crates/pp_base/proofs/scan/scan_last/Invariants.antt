use Rattle.std.proofs.Common.{◌≡◌, []}
use Rattle.pp_rule.specs.Steps.{Reclaimed}
use Rattle.pp_base.specs.Passes.{IsPassOf}
use Rattle.pp_base.proofs.scan.scan_last.Given as goal

abbrev pub ghosts-load_word : goal.ghosts-load_word
ghosts-load_word g a = record {
  then = λ m n m'. ((m'.1 ≡ []) × Reclaimed n a.place m.0 m'.0) × IsPassOf a.pool.now.layout m'.0.known;
}
