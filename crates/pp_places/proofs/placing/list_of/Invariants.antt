use Rattle.std.proofs.Common.{◌≡◌, ℕ, List, drop}
use Rattle.pp_model.specs.declared.Placed.{Placed}
use Rattle.pp_schedule.specs.Calls.{all_capped}
use Rattle.pp_schedule.specs.Marks.{MarkedAs}
use Rattle.pp_places.specs.Places.{PlacesOn}
use Rattle.pp_places.proofs.placing.list_of.Given as goal

-- the calls so far are listed
abbrev pub invariant-loop-at : goal.invariant-loop-at
invariant-loop-at l = (exact : List ℕ) → (mine : List Placed) → MarkedAs l.log l.calls l.answers exact mine → l.marks ≡ all_capped exact
    → PlacesOn l.log mine (drop l.at l.calls) (drop l.at l.answers) (drop l.at exact) l.list.items
