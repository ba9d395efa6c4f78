use Rattle.std.proofs.Common.{◌≡◌, ℕ, ◌<◌, Some}
use Rattle.std.specs.Prelude.{slice_get}
use Rattle.std.specs.List.{All, Contains}
use Rattle.pp_model.specs.declared.Change.{Change}
use Rattle.pp_model.specs.Calls.{key_of}
use Rattle.pp_check.specs.Indexes.{touch, IsTouch}
use Rattle.pp_check.proofs.index.index_of.Given as goal

abbrev pub invariant-loop-at : goal.invariant-loop-at
invariant-loop-at l = record {
  touches : All (IsTouch l.log) l.touches.items;
  each : (p : ℕ) (c : Change) → p < l.at → slice_get l.log p ≡ Some c → Contains l.touches.items (touch (key_of c.call) p);
}
