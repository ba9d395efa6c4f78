use Rattle.std.proofs.Common.{◌≡◌, ℕ, ◌-◌, ◌≤◌, ◌++◌, drop, length}
use Rattle.pp_trace.specs.Grammar.{readings}
use Rattle.pp_trace.proofs.Openings.{nothings}
use Rattle.pp_trace.proofs.forms.read_opening.Given as goal

-- so far each line was skipped
abbrev pub invariant-loop-line : goal.invariant-loop-line
invariant-loop-line l = record {
  within : l.from ≤ length l.bytes;
  few : l.lines ≤ l.from;
  says : (callers : ℕ) → readings l.bytes callers ≡ nothings l.lines ++ readings (drop l.from l.bytes) callers;
}

abbrev pub decreases-loop-line : goal.decreases-loop-line
decreases-loop-line l = length l.bytes - l.from
