use Rattle.std.proofs.Common.{◌≡◌, length, ◌-◌}
use Rattle.pp_base.specs.Passes.{known}
use Rattle.pp_base.specs.Chains.{chain_at}
use Rattle.pp_unlink.proofs.Looking.{Looks}
use Rattle.pp_unlink.proofs.invalidating.invalidate_links.Given as goal

abbrev pub invariant-loop-link : goal.invariant-loop-link
invariant-loop-link g l = Looks g.S.Shape.SIDES l.pool.layout l.link l.fn.pass.seat l.fn.pass.purse l.pass.seat l.pass.purse
    × (l.pass.walk ≡ l.fn.pass.walk) × (l.sides ≡ g.S.Shape.SIDES) × (l.before ≡ length (known l.fn.pass.seat).retired)

abbrev pub decreases-loop-link : goal.decreases-loop-link
decreases-loop-link g l = length (chain_at (known l.fn.pass.seat) 0).links - l.link
