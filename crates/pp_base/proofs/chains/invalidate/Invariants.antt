use Rattle.std.proofs.Common.{◌≡◌, []}
use Rattle.pp_rule.specs.Steps.{Invalidated}
use Rattle.pp_base.specs.Passes.{IsPassOf}
use Rattle.pp_base.specs.Sources.{side_number}
use Rattle.pp_base.specs.Chains.{chain_at}
use Rattle.pp_base.proofs.chains.invalidate.Given as goal

abbrev pub ghosts-set_bits : goal.ghosts-set_bits
ghosts-set_bits g a = record {
  then = λ m n m'. ((m'.1 ≡ []) × Invalidated a._about.word (chain_at m.0.known a._about.word) a._about.number
      (side_number a._about.side) n a.place m.0 m'.0) × IsPassOf a.pool.now.layout m'.0.known;
}
