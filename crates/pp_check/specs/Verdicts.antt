-- When each verdict on a text is right.
use Rattle.std.specs.Prelude.{◌≡◌, ℕ, List, None, Some, map}
use Rattle.pp_model.specs.declared.Change.{Change}
use Rattle.pp_model.specs.declared.Placed.{Placed}
use Rattle.pp_model.specs.Lists.{upto}
use Rattle.pp_model.specs.History.{Sound}
use Rattle.pp_model.specs.Linearization.{CallerList, IsHistory}
use Rattle.pp_certificate.specs.Stages.{first_bad}
use Rattle.pp_certificate.specs.Certificates.{log_of, list_of}
use Rattle.pp_check.specs.declared.Verdict.{Verdict}
use Rattle.pp_check.specs.declared.Verdict.TheVariants.{Yes, BadLine, Unsound, Misplaced}
use Rattle.pp_check.specs.Histories.{IsUnsound, IsMisplaced, AllStand}

-- when each verdict on a log and the callers' lists is right
abbrev pub IsVerdictOn : List Change → (ℕ → List Placed) → Verdict → Type 0
IsVerdictOn log lists Yes = Sound log × AllStand log lists
IsVerdictOn log lists (BadLine line) = ⊥
IsVerdictOn log lists (Unsound change) = IsUnsound log change
IsVerdictOn log lists (Misplaced caller number) = Sound log × IsMisplaced log lists caller number

-- The text is a certificate, and the verdict is right on its log and lists; or this is the first line with which no certificate goes
-- on.
abbrev pub IsVerdict : List ℕ → Verdict → Type 0
IsVerdict text Yes = (first_bad text ≡ None) × IsVerdictOn (log_of text) (list_of text) Yes
IsVerdict text (BadLine line) = first_bad text ≡ Some line
IsVerdict text (Unsound change) = (first_bad text ≡ None) × IsVerdictOn (log_of text) (list_of text) (Unsound change)
IsVerdict text (Misplaced caller number) =
    (first_bad text ≡ None) × IsVerdictOn (log_of text) (list_of text) (Misplaced caller number)

-- the lists that a text says, with their callers
abbrev pub caller_list : (ℕ → List Placed) → ℕ → CallerList
caller_list lists c = record { caller = c; mine = lists c }

abbrev pub caller_lists : (ℕ → List Placed) → List CallerList
caller_lists lists = map (caller_list lists) (upto 0 64)

-- the linearization of a text's log and lists is legal, and has each call of them once, each caller's in order, and no other
abbrev pub IsLegal : List ℕ → Type 0
IsLegal text = IsHistory (log_of text) (caller_lists (list_of text))

-- ---- laws

-- no text has two verdicts
abbrev pub VerdictsAreOne : Type 0
VerdictsAreOne = (text : List ℕ) (v w : Verdict) → IsVerdict text v → IsVerdict text w → v ≡ w

-- each text has one
abbrev pub EachHasVerdict : Type 0
EachHasVerdict = (text : List ℕ) → (v : Verdict) × IsVerdict text v
