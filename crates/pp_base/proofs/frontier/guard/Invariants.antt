use Rattle.std.proofs.Common.{◌≡◌, []}
use Rattle.pp_rule.specs.Orders.{guard_step}
use Rattle.pp_rule.specs.Steps.{MadeQuietStep, with_frontier}
use Rattle.pp_base.specs.Passes.{IsPassOf}
use Rattle.pp_base.proofs.frontier.guard.Given as goal

abbrev pub ghosts-store_word : goal.ghosts-store_word
ghosts-store_word g a = record {
  then = λ m n m'. ((m'.1 ≡ []) × MadeQuietStep guard_step a.place n n (with_frontier a._about.word n m.0.known) m.0 m'.0)
      × IsPassOf a.pool.now.layout m'.0.known;
}
