use Rattle.std.proofs.Common.{ℕ, List, ◌<◌}
use Rattle.pp_model.specs.History.{Stands}
use Rattle.pp_certificate.specs.Certificates.{IsCertificate, log_of, list_of}
use Rattle.pp_check.proofs.history.check_lists.Given as goal

-- so far each list stands
abbrev pub invariant-loop-caller : goal.invariant-loop-caller
invariant-loop-caller l =
    (text : List ℕ) → IsCertificate text l.certificate → (c : ℕ) → c < l.caller → Stands (log_of text) c (list_of text c)
