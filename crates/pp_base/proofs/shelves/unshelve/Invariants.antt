use Rattle.std.proofs.Common.{◌≡◌, []}
use Rattle.pp_rule.specs.Shelves.{ClearedShelf}
use Rattle.pp_base.specs.Passes.{IsPassOf}
use Rattle.pp_base.proofs.shelves.unshelve.Given as goal

abbrev pub ghosts-swap_word : goal.ghosts-swap_word
ghosts-swap_word g a = record {
  then = λ m n m'. ((m'.1 ≡ []) × ClearedShelf n a.place m.0 m'.0) × IsPassOf a.pool.now.layout m'.0.known;
}
