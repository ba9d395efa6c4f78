use Rattle.std.proofs.Common.{◌≡◌}
use Rattle.pp_base.specs.Passes.{view, Fits, IsSame}
use Rattle.pp_seek.specs.Keeping.{KeepsOnly}
use Rattle.pp_seek.proofs.keeping.keep_only.Given as goal

abbrev pub invariant-loop-word : goal.invariant-loop-word
invariant-loop-word l = record {
  fits : Fits l.pool.table.shared.table_id l.pool.layout l.pass.seat;
  same : IsSame l.fn.pass.seat l.pass.seat;
  keeps : KeepsOnly l.words l.word (view l.fn.pass.seat) (view l.pass.seat);
  purse : l.pass.purse ≡ l.fn.pass.purse;
}
