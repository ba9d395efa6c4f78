use Rattle.std.proofs.Common.{◌≡◌}
use Rattle.pp_base.specs.Passes.{view, IsSame}
use Rattle.pp_shelf.specs.Shelves.{MissesShelves}
use Rattle.pp_shelf.proofs.putting.put.Given as goal

-- an exchange at each shelf word before this one found another word than 0
abbrev pub invariant-loop-shelf : goal.invariant-loop-shelf
invariant-loop-shelf g l = record {
  missed : MissesShelves l.pool.layout l.shelf (view l.fn.pass.seat) (view l.pass.seat);
  same : IsSame l.fn.pass.seat l.pass.seat;
  purse : l.pass.purse ≡ l.fn.pass.purse;
  walk : l.pass.walk ≡ l.fn.pass.walk;
}
