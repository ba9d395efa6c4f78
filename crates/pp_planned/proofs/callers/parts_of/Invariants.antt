use Rattle.std.proofs.Common.{◌≡◌, map}
use Rattle.pp_schedule.specs.Calls.{answers_of, marks_of}
use Rattle.pp_schedule.specs.Seats.{calls_of}
use Rattle.pp_planned.specs.Planned.{somes}
use Rattle.pp_planned.proofs.callers.parts_of.Given as goal

-- the parts so far are those of the callers that were taken so far
abbrev pub invariant-loop-caller : goal.invariant-loop-caller
invariant-loop-caller g l = record {
  passes : l.passes.items ≡ somes (map (λ c. c.pass) l.yielded);
  lists : l.lists.items ≡ calls_of l.yielded;
  answers : map (λ v. v.items) l.answers.items ≡ map (λ c. answers_of c.answers.items) l.yielded;
  marks : map (λ v. v.items) l.marks.items ≡ map (λ c. marks_of c.answers.items) l.yielded;
}
