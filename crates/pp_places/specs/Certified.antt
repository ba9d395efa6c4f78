-- What the checker says of a run's certificate.
use Rattle.std.specs.Prelude.{ℕ, List, map}
use Rattle.pp_model.specs.declared.Call.{Call}
use Rattle.pp_model.specs.declared.Answer.{Answer}
use Rattle.pp_model.specs.Pass.{RunView}
use Rattle.pp_certificate.specs.Printed.{certificate_text, Fit}
use Rattle.pp_check.specs.declared.Verdict.TheVariants.{Yes}
use Rattle.pp_check.specs.Verdicts.{IsVerdict}
use Rattle.pp_places.specs.Places.{IsPlaced}

-- The law: the verdict on the text of a run's log and lists is yes.
abbrev pub RunsAreCertified : Type 0
RunsAreCertified = (lists : List (List Call)) (answers : List (List Answer)) (marks : List (List ℕ)) (run : RunView)
    → IsPlaced lists answers marks run → Fit run.log (map (λ r. r.mine) run.callers)
    → IsVerdict (certificate_text run.log (map (λ r. r.mine) run.callers)) Yes
