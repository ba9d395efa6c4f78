use Rattle.std.proofs.Common.{◌≡◌, []}
use Rattle.pp_rule.specs.Orders.{announce_step}
use Rattle.pp_rule.specs.Views.{naming}
use Rattle.pp_rule.specs.Steps.{MadeQuietStep, with_walk}
use Rattle.pp_base.specs.Passes.{IsPassOf}
use Rattle.pp_base.proofs.hazards.announce.Given as goal

abbrev pub ghosts-store_word : goal.ghosts-store_word
ghosts-store_word g a = record {
  then = λ m n m'. ((m'.1 ≡ []) × MadeQuietStep announce_step a.place n n (with_walk a._about.word
      (naming n) m.0.known) m.0 m'.0) × IsPassOf a.pool.now.layout m'.0.known;
}
