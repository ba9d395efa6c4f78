use Rattle.std.proofs.Common.{ℕ, ◌-◌, ◌<◌, ◌≤◌, Option, List, length, drop}
use Rattle.pp_schedule.specs.Seats.{HasNone, Chooses}
use Rattle.pp_schedule.proofs.schedule.choose.Given as goal

-- the callers of the plan that were passed over had no call left
abbrev pub invariant-loop-at : goal.invariant-loop-at
invariant-loop-at g l = (r : Option ℕ) (left : List ℕ) → Chooses (HasNone l.callers) (length l.callers) (drop l.at l.plan) r left
    → Chooses (HasNone l.callers) (length l.callers) (drop l.fn.at l.plan) r left

abbrev pub decreases-loop-at : goal.decreases-loop-at
decreases-loop-at g l = length l.plan - l.at

abbrev pub invariant-loop-caller : goal.invariant-loop-caller
invariant-loop-caller g l = record {
  past : length l.plan ≤ l.at;
  over : (d : ℕ) → d < l.caller → HasNone l.callers d;
  passed : (r : Option ℕ) (left : List ℕ) → Chooses (HasNone l.callers) (length l.callers) (drop l.at l.plan) r left
      → Chooses (HasNone l.callers) (length l.callers) (drop l.fn.at l.plan) r left;
}
