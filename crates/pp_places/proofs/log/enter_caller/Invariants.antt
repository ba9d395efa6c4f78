use Rattle.std.proofs.Common.{◌≡◌, ◌≤◌, ℕ, List, drop}
use Rattle.pp_model.specs.declared.Change.{Change}
use Rattle.pp_model.specs.declared.Placed.{Placed}
use Rattle.pp_model.specs.History.{Stands}
use Rattle.pp_schedule.specs.Calls.{all_capped}
use Rattle.pp_schedule.specs.Marks.{MarkedAs}
use Rattle.pp_places.specs.Places.{HasEntered, EntersOn, earlier}
use Rattle.pp_places.proofs.log.enter_caller.Given as goal

-- the changes of the calls so far are entered
abbrev pub invariant-loop-at : goal.invariant-loop-at
invariant-loop-at l = record {
  few : l.number ≤ l.at;
  entered : (whole : List Change) → (exact : List ℕ) → (mine : List Placed) → MarkedAs whole l.calls l.answers exact mine
      → l.marks ≡ all_capped exact → Stands whole l.caller mine → HasEntered whole (earlier l.caller) l.fn.log.items
      → EntersOn whole l.caller mine (drop l.at l.calls) (drop l.at l.answers) (drop l.at exact) l.number l.log.items;
}
