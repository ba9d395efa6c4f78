use Rattle.std.proofs.Common.{◌∷◌, [], ◌++◌, ap, sym, ◌∙◌, arith}
use Rattle.std.specs.Slots.{slots_items}
use Rattle.pp_pool.proofs.Marking.{take_at}
use Rattle.pp_pool.proofs.closing.end_table.Goals as goal

pub loop-i-preserved : goal.loop-i-preserved
loop-i-preserved g c = record {
  entered = c.enter.ensures.items ∙ (ap (λ l. l ++ c.word.result ∷ []) c.loop-i.invariant.entered
      ∙ sym (take_at (slots_items c.close_with-closed.result.words) c.loop-i.i c.word.result c.word.ensures));
  room = omega (arith, c.loop-i.invariant.room, c.enter.ensures.room);
}
