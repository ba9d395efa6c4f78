use Rattle.std.proofs.Common.{◌≡◌, ℕ, ◌-◌, length}
use Rattle.pp_base.specs.Passes.{known, view, IsSame}
use Rattle.pp_shelf.specs.Shelves.{MovesFree}
use Rattle.pp_shelf.specs.Runs.{TakesMany}
use Rattle.pp_shelf.proofs.taking.collect.Given as goal

-- so many numbers came from shelves
abbrev pub invariant-loop-pass : goal.invariant-loop-pass
invariant-loop-pass g l = (count : ℕ) × record {
  takes : TakesMany l.pool.layout l.enough count (view l.fn.pass.seat) l.fn.pass.purse (view l.pass.seat) l.pass.purse;
  same : IsSame l.fn.pass.seat l.pass.seat;
  only : MovesFree (known l.fn.pass.seat) (known l.pass.seat) l.fn.pass.purse l.pass.purse;
  walk : l.pass.walk ≡ l.fn.pass.walk;
}

-- each of them lengthens the free list
abbrev pub decreases-loop-pass : goal.decreases-loop-pass
decreases-loop-pass g l = l.enough - length l.pass.purse.free.items
