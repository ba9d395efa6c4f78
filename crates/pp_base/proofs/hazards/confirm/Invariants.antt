use Rattle.std.proofs.Common.{◌≡◌, []}
use Rattle.pp_rule.specs.Steps.{Confirmed}
use Rattle.pp_base.specs.Passes.{IsPassOf}
use Rattle.pp_base.specs.Sources.{learning_at}
use Rattle.pp_base.proofs.hazards.confirm.Given as goal

abbrev pub ghosts-load_word : goal.ghosts-load_word
ghosts-load_word g a = record {
  then = λ m n m'. ((m'.1 ≡ []) × Confirmed a._about.word a._about.number n a.place
      (learning_at g.S.Shape.frozen a._about.at a._about.side n m.0.known) m.0 m'.0)
      × IsPassOf a.pool.now.layout m'.0.known;
}
