use Rattle.std.proofs.Common.{map}
use Rattle.pp_model.specs.Pass.{RunView}
use Rattle.pp_places.specs.Places.{IsPlaced, HasEntered, earlier}
use Rattle.pp_places.proofs.log.log_of.Given as goal

-- the changes of the callers so far are entered
abbrev pub invariant-loop-caller : goal.invariant-loop-caller
invariant-loop-caller l = (run : RunView)
    → IsPlaced (map (λ v. v.items) l.lists) (map (λ v. v.items) l.answers) (map (λ v. v.items) l.marks) run
    → HasEntered run.log (earlier l.caller) l.log.items
