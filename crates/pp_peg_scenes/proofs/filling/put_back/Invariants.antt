use Rattle.std.proofs.Common.{◌≡◌, []}
use Rattle.pp_base.specs.Passes.{IsPassOf}
use Rattle.pp_peg_scenes.specs.Puts.{PutBack}
use Rattle.pp_peg_scenes.proofs.filling.put_back.Given as goal

abbrev pub ghosts-exchange_word : goal.ghosts-exchange_word
ghosts-exchange_word a = record {
  then = λ m n m'. ((m'.1 ≡ []) × PutBack a._about.number a.place n m.0 m'.0) × IsPassOf a.pool.now.layout m'.0.known;
}
