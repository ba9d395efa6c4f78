use Rattle.std.proofs.Common.{◌≡◌, ℕ, ◌+◌, ◌<◌, Some}
use Rattle.std.specs.Prelude.{slice_get}
use Rattle.pp_model.specs.declared.Change.{Change}
use Rattle.pp_check.specs.Histories.{IsChangeAt}
use Rattle.pp_check.proofs.placing.leaves_out.Given as goal

-- so far each change of the caller is listed
abbrev pub invariant-loop-at : goal.invariant-loop-at
invariant-loop-at l = (p : ℕ) (c : Change) → p < l.at → slice_get l.log p ≡ Some c → c.caller ≡ l.caller → IsChangeAt l.list c.number
    (p + 1)
