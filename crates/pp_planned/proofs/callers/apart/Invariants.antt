use Rattle.std.proofs.Common.{◌≡◌}
use Rattle.pp_schedule.specs.Calls.{answers_of, marks_of}
use Rattle.pp_planned.proofs.callers.apart.Given as goal

-- the answers and the marks so far are those of the items that were taken so far
abbrev pub invariant-loop-one : goal.invariant-loop-one
invariant-loop-one l = record {
  answers : l.answers.items ≡ answers_of l.yielded;
  marks : l.marks.items ≡ marks_of l.yielded;
}
