use Rattle.std.proofs.Common.{◌≡◌, ◌+◌, ◌-◌, ◌≤◌, drop, length}
use Rattle.pp_trace.specs.Grammar.{bad, first_bad}
use Rattle.pp_trace.specs.Opening.{readings_in}
use Rattle.pp_trace.proofs.Readings.{HasReadTo}
use Rattle.pp_trace.proofs.parsing.parse.Given as goal

abbrev pub invariant-loop-span : goal.invariant-loop-span
invariant-loop-span l = record {
  within : l.from ≤ length l.bytes;
  few : l.line ≤ l.from;
  good : bad l.bytes l.callers ≡ first_bad (l.line + 1) (readings_in l.form (drop l.from l.bytes) l.callers);
  read : HasReadTo l.bytes l.callers (readings_in l.form (drop l.from l.bytes) l.callers) l.trace;
}

abbrev pub decreases-loop-span : goal.decreases-loop-span
decreases-loop-span l = length l.bytes - l.from
