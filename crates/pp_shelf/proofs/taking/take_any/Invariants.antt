use Rattle.std.proofs.Common.{◌≡◌}
use Rattle.pp_base.specs.Passes.{view, IsSame}
use Rattle.pp_shelf.specs.Shelves.{EmptiesNone}
use Rattle.pp_shelf.proofs.taking.take_any.Given as goal

-- a swap at each shelf word before this one found 0
abbrev pub invariant-loop-shelf : goal.invariant-loop-shelf
invariant-loop-shelf g l = record {
  empty : EmptiesNone l.pool.layout l.shelf (view l.fn.pass.seat) (view l.pass.seat);
  same : IsSame l.fn.pass.seat l.pass.seat;
  purse : l.pass.purse ≡ l.fn.pass.purse;
  walk : l.pass.walk ≡ l.fn.pass.walk;
}
