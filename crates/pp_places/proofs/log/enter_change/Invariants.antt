use Rattle.std.proofs.Common.{◌≡◌, ◌≤◌, ℕ, Some, length, max}
use Rattle.std.specs.Prelude.{slice_get}
use Rattle.pp_model.specs.declared.Change.{Change}
use Rattle.pp_places.proofs.log.enter_change.Given as goal

-- the old changes stand, and there are as many as were counted
abbrev pub invariant-loop-filled : goal.invariant-loop-filled
invariant-loop-filled l = record {
  kept : (p : ℕ) → (c : Change) → slice_get l.fn.log.items p ≡ Some c → slice_get l.log.items p ≡ Some c;
  long : length l.log.items ≡ l._filled;
  high : l._filled ≤ max (length l.fn.log.items) l.place;
  low : length l.fn.log.items ≤ l._filled;
}
