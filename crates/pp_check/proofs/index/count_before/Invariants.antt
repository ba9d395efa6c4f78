use Rattle.std.proofs.Common.{ℕ, ◌-◌, ◌<◌, ◌≤◌, length, get_or}
use Rattle.pp_check.specs.declared.index.Touch.{Touch}
use Rattle.pp_check.specs.Indexes.{IsBefore}
use Rattle.pp_check.proofs.index.count_before.Given as goal

abbrev pub invariant-loop-low : goal.invariant-loop-low
invariant-loop-low l = record {
  order : l.low ≤ l.high;
  within : l.high ≤ length l.index;
  below : (k : ℕ) (d : Touch) → k < l.low → IsBefore (get_or l.index k d) l.key l.at;
  above : (k : ℕ) (d : Touch) → l.high ≤ k → k < length l.index → IsBefore (get_or l.index k d) l.key l.at → ⊥;
}

abbrev pub decreases-loop-low : goal.decreases-loop-low
decreases-loop-low l = l.high - l.low
