use Rattle.std.proofs.Common.{◌≡◌, []}
use Rattle.pp_rule.specs.Orders.{retire_step}
use Rattle.pp_rule.specs.Steps.{MadeQuietStep, retiring}
use Rattle.pp_base.specs.Passes.{IsPassOf}
use Rattle.pp_base.specs.Chains.{chain_at}
use Rattle.pp_base.proofs.chains.retire.Given as goal

abbrev pub ghosts-store_word : goal.ghosts-store_word
ghosts-store_word g a = record {
  then = λ m n m'. ((m'.1 ≡ []) × MadeQuietStep retire_step a.place 0 0 (retiring (chain_at m.0.known 0) m.0.known) m.0 m'.0)
      × IsPassOf a.pool.now.layout m'.0.known;
}
