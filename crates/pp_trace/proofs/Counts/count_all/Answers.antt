use Rattle.std.proofs.Common.{arith}
use Rattle.std.proofs.lemmas.List.{length-take-le}
use Rattle.pp_trace.proofs.Tallies.{HasRoom-after}
use Rattle.pp_trace.proofs.Counts.count_all.Goals as goal

pub count-requires : goal.count-requires
count-requires c =
    HasRoom-after _ 1 c.requires c.loop-answer.invariant
    (omega (arith, length-take-le c.loop-answer.answer-index c.args.answers.now c.loop-answer.auto.answer-index-end))
