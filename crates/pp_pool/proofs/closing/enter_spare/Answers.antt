use Rattle.std.proofs.Common.{◌+◌, ◌∙◌, true, length, ap, arith}
use Rattle.std.proofs.lemmas.List.{length-replicate}
use Rattle.pp_pool.proofs.Marking.{marks_none, marked_spare}
use Rattle.pp_pool.proofs.closing.enter_spare.Goals as goal

pub unmark-requires-clause-marked : goal.unmark-requires-clause-marked
unmark-requires-clause-marked c = marks_none (c.args.last + 1) c.args.marks.now c.requires.marked

pub returns : goal.returns
returns c = c.enter_marked.ensures ∙ marked_spare c.args.live.now c.unmark.new.marks 1 c.args.last c.unmark.ensures.marks
    (omega (arith, c.unmark.ensures.count, ap length c.requires.marked, length-replicate (c.args.last + 1) true))
