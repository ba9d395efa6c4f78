-- What the checker says of a printed certificate.
use Rattle.std.specs.Prelude.{ℕ, true, List, Option}
use Rattle.pp_model.specs.declared.Answer.{Answer}
use Rattle.pp_model.specs.Pass.{RunView}
use Rattle.pp_devices.specs.Devices.{World}
use Rattle.pp_check.specs.declared.Verdict.TheVariants.{Yes}
use Rattle.pp_check.specs.Verdicts.{IsVerdict}
use Rattle.pp_poll.specs.Polled.{IsPolled}

-- The law: the checker's verdict on the text of a replay by a plan with places is yes.
abbrev pub CertificatesAreRight : Type 0
CertificatesAreRight = (words : List (List ℕ)) (before after : World) (answers : List (List Answer)) (kept : Option RunView)
    → (polled : IsPolled true words before after answers kept) → IsVerdict polled.text Yes
