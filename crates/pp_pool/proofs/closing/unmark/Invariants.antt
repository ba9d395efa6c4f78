use Rattle.std.proofs.Common.{take}
use Rattle.pp_pool.specs.Marks.{MarksSpare}
use Rattle.pp_pool.proofs.closing.unmark.Given as goal

-- the marks of the live numbers up to here are gone
abbrev pub invariant-loop-number : goal.invariant-loop-number
invariant-loop-number l = MarksSpare (take l.number-index l.live) l.marks
