use Rattle.std.proofs.Common.{◌≡◌, ◌+◌, ◌-◌, ◌≤◌, drop, length, map}
use Rattle.pp_queue_replay.specs.Grammar.{bad, first_bad}
use Rattle.pp_queue_replay.proofs.Readings.{HasReadTo, readings_in}
use Rattle.pp_queue_replay.proofs.parsing.parse.Given as goal

abbrev pub invariant-loop-span : goal.invariant-loop-span
invariant-loop-span l = record {
  within : l.from ≤ length l.bytes;
  few : l.line ≤ l.from;
  good : bad l.bytes l.callers ≡ first_bad (l.line + 1) (readings_in (drop l.from l.bytes) l.callers);
  read : HasReadTo l.bytes l.callers (readings_in (drop l.from l.bytes) l.callers) (map (λ v. v.items) l.lists.items);
}

abbrev pub decreases-loop-span : goal.decreases-loop-span
decreases-loop-span l = length l.bytes - l.from
