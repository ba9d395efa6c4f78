use Rattle.std.proofs.Common.{◌≡◌, []}
use Rattle.pp_rule.specs.Shelves.{TriedShelf}
use Rattle.pp_base.specs.Passes.{IsPassOf}
use Rattle.pp_base.proofs.shelves.shelve.Given as goal

abbrev pub ghosts-exchange_word : goal.ghosts-exchange_word
ghosts-exchange_word g a = record {
  then = λ m n m'. ((m'.1 ≡ []) × TriedShelf a.new n a.place m.0 m'.0) × IsPassOf a.pool.now.layout m'.0.known;
}
