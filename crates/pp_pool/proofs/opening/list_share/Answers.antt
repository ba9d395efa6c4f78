use Rattle.std.proofs.Common.{arith, ap, sym, ◌∙◌, length}
use Rattle.pp_pool.proofs.Words.{no_numbers, length_numbers, number_appended}
use Rattle.pp_pool.proofs.opening.list_share.Goals as goal

pub loop-count-init : goal.loop-count-init
loop-count-init c = (c.requires.none ∙ sym (no_numbers c.args.first), omega arith)

pub enter-requires : goal.enter-requires
enter-requires c =
    let count = ap length c.loop-count.invariant.0 ∙ length_numbers c.args.first c.loop-count.count in
    let room = c.loop-count.invariant.1 in omega arith

pub loop-count-preserved : goal.loop-count-preserved
loop-count-preserved c = (
  number_appended c.args.first c.loop-count.count c.loop-count.free.items c.enter.new.list.items
      c.loop-count.invariant.0 c.enter.ensures.items,
  omega arith,
)
