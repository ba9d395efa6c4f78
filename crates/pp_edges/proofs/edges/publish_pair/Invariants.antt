use Rattle.std.proofs.Common.{◌≡◌, []}
use Rattle.pp_base.specs.Passes.{IsPassOf}
use Rattle.pp_link.specs.Links.{target}
use Rattle.pp_edges.specs.Edging.{PublishesAt}
use Rattle.pp_edges.proofs.edges.publish_pair.Given as goal

abbrev pub ghosts-exchange_word : goal.ghosts-exchange_word
ghosts-exchange_word a = record {
  then = λ m n m'. ((m'.1 ≡ []) × PublishesAt a._about.number (target a.new) a.place a.first n m.0 m'.0)
      × IsPassOf a.pool.now.layout m'.0.known;
}
