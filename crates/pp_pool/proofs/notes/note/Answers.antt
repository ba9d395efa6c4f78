use Rattle.std.proofs.Common.{sym, subst}
use Rattle.atomic_table.specs.Table.{Me}
use Rattle.pp_base.specs.Made.{HasRun}
use Rattle.pp_pool.proofs.Noting.{keeping_same}
use Rattle.pp_pool.proofs.notes.note.Goals as goal

pub invariant_of-pass : goal.invariant_of-pass
invariant_of-pass g c = let pass = c.args.pass.now in record {
  keeping = keeping_same g.S.Shape.SENTINELS g.S.Shape.SIDES pass.seat c.tell_seat.new.seat _ _ _ pass.purse
      c.tell_seat.ensures.same pass.keeping;
  run = subst (λ (m : Me Unit _). HasRun g.S.Shape.SIDES g.S.Shape.SENTINELS g.S.Shape.first_head g.S.Shape.first_field
      g.S.Shape.addition g.S.Shape.caller_of m.0)
      (sym c.tell_seat.ensures.same) pass.run;
}
