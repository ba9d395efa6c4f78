use Rattle.std.proofs.Common.{◌≡◌, map, take}
use Rattle.pp_model.specs.Pass.{RunView}
use Rattle.pp_places.specs.Places.{IsPlaced}
use Rattle.pp_places.proofs.placing.lists_of.Given as goal

-- the lists so far are those of the callers so far
abbrev pub invariant-loop-caller : goal.invariant-loop-caller
invariant-loop-caller l = (run : RunView)
    → IsPlaced (map (λ v. v.items) l.lists) (map (λ v. v.items) l.answers) (map (λ v. v.items) l.marks) run
    → run.log ≡ l.log → map (λ v. v.items) l.out.items ≡ map (λ r. r.mine) (take l.caller run.callers)
