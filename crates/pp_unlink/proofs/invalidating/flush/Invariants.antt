use Rattle.std.proofs.Common.{◌≡◌, ℕ, length, ◌+◌}
use Rattle.pp_base.specs.Passes.{known, view, IsSame, IsAtRest}
use Rattle.pp_unlink.specs.Invalidation.{Flushed, SameFree}
use Rattle.pp_unlink.proofs.invalidating.flush.Given as goal

abbrev pub invariant-loop-pass : goal.invariant-loop-pass
invariant-loop-pass g l = (n : ℕ)
    × ((n + length (known l.pass.seat).chains ≡ length (known l.fn.pass.seat).chains)
    × Flushed g.S.Shape.SIDES l.pool.layout n (view l.fn.pass.seat) (view l.pass.seat)
    × IsSame l.fn.pass.seat l.pass.seat × IsAtRest (known l.pass.seat) l.pass.purse × SameFree l.fn.pass.purse l.pass.purse
    × (l.pass.walk ≡ l.fn.pass.walk))

abbrev pub decreases-loop-pass : goal.decreases-loop-pass
decreases-loop-pass g l = length (known l.pass.seat).chains
