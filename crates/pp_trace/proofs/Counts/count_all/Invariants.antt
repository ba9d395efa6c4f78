use Rattle.std.proofs.Common.{take}
use Rattle.pp_trace.specs.Counting.{CountsAlso}
use Rattle.pp_trace.proofs.Counts.count_all.Given as goal

abbrev pub invariant-loop-answer : goal.invariant-loop-answer
invariant-loop-answer l = CountsAlso l.initial.self l.self (take l.answer-index l.answers)
