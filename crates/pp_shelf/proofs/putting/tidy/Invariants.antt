use Rattle.std.proofs.Common.{◌≡◌, ℕ, length}
use Rattle.pp_base.specs.Passes.{known, view, IsSame}
use Rattle.pp_shelf.specs.Shelves.{MovesFree}
use Rattle.pp_shelf.specs.Runs.{PutsMany}
use Rattle.pp_shelf.proofs.putting.tidy.Given as goal

-- so many numbers went to shelves
abbrev pub invariant-loop : goal.invariant-loop
invariant-loop g l = (count : ℕ) × record {
  puts : PutsMany l.pool.layout l.fn.pass.share count (view l.fn.pass.seat) l.fn.pass.purse (view l.pass.seat) l.pass.purse;
  same : IsSame l.fn.pass.seat l.pass.seat;
  only : MovesFree (known l.fn.pass.seat) (known l.pass.seat) l.fn.pass.purse l.pass.purse;
  walk : l.pass.walk ≡ l.fn.pass.walk;
}

-- each of them shortens the free list
abbrev pub decreases-loop : goal.decreases-loop
decreases-loop g l = length l.pass.purse.free.items
