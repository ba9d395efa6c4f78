use Rattle.std.proofs.Common.{length, get_or, take, arith}
use Rattle.std.proofs.lemmas.List.{take_more}
use Rattle.pp_pool.proofs.Marking.{at_under, marks_more}
use Rattle.pp_pool.proofs.closing.unmark.Goals as goal

pub bounds-marks-number : goal.bounds-marks-number
bounds-marks-number c = at_under c.args.live.now c.loop-number.number-index (length c.loop-number.marks)
    (omega (arith, c.loop-number-test.true)) (λ n over. c.requires.within n (omega (arith, c.loop-number.auto.marks)))

pub loop-number-preserved : goal.loop-number-preserved
loop-number-preserved c = let i = c.loop-number.number-index in let live = c.args.live.now in
    let more = take_more live i 0 (omega (arith, c.loop-number-test.true)) in
    rw more (marks_more (take i live) c.loop-number.marks (get_or live i 0) c.loop-number.invariant)
