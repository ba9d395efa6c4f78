use Rattle.std.proofs.Common.{◌≡◌, []}
use Rattle.pp_rule.specs.Detach.{Exchanged}
use Rattle.pp_rule.specs.Paths.{IsChainTo}
use Rattle.pp_link.specs.Links.{target}
use Rattle.pp_base.specs.Passes.{IsPassOf}
use Rattle.pp_base.specs.Sources.{learning_at}
use Rattle.pp_base.proofs.chains.detach.Given as goal

abbrev pub ghosts-exchange_word : goal.ghosts-exchange_word
ghosts-exchange_word g a = record {
  then = λ m n m'. ((m'.1 ≡ []) × Exchanged (g.S.Shape.chain m.0.known.walk m.0.known.own a._about.word a.first a.new)
      a.first a.new n a.place
      (learning_at g.S.Shape.frozen a._about.at a._about.side n m.0.known) m.0 m'.0
      × (n ≡ a.first → IsChainTo g.S.Shape.SIDES a._about.word (target a.first) (target a.new)
      (g.S.Shape.chain m.0.known.walk m.0.known.own a._about.word a.first a.new)))
      × IsPassOf a.pool.now.layout m'.0.known;
}
