-- The order of a certificate's lines.
use Rattle.std.specs.Prelude.{ℕ, ◌+◌, Bool, true, false, cond, nat_lt, List, [], ◌∷◌, Option, Some, None, option_and_then}
use Rattle.pp_trace.specs.Lines.{is_some_text}
use Rattle.pp_certificate.specs.declared.Entry.{Entry}
use Rattle.pp_certificate.specs.declared.Entry.TheVariants.{Opens, Changes, Says, Ends}
use Rattle.pp_certificate.specs.declared.entries.Stage.{Stage}
use Rattle.pp_certificate.specs.declared.entries.Stage.TheVariants.{Opening, Log, Calls, Ended}
use Rattle.pp_certificate.specs.Cuts.{parts_of}
use Rattle.pp_certificate.specs.Lines.{line_entry}

-- First the line that opens it. Then the changes of the log. Then the placed calls, by callers that never fall. Then the end.
abbrev pub next_stage : Stage → Entry → Option Stage
next_stage Opening Opens = Some Log
next_stage Log (Changes change) = Some Log
next_stage Log (Says caller placed) = Some (Calls caller)
next_stage Log Ends = Some Ended
next_stage (Calls before) (Says caller placed) = cond (nat_lt caller before) None (Some (Calls caller))
next_stage (Calls before) Ends = Some Ended
next_stage stage entry = None

-- how far it has come after a line
abbrev pub stage_after : Stage → List ℕ → Option Stage
stage_after stage line = option_and_then (next_stage stage) (line_entry line)

-- the last line was read
abbrev pub has_ended : Stage → Bool
has_ended Opening = false
has_ended Log = false
has_ended (Calls caller) = false
has_ended Ended = true

-- the text may end here: the last line was read, and nothing follows it
abbrev pub may_end : Stage → List ℕ → Bool
may_end stage rest = cond (is_some_text rest) false (has_ended stage)

-- line n, where it can't come next, and else what follows from the stage after it
abbrev pub unless_after : ℕ → Option Stage → (Stage → Option ℕ) → Option ℕ
unless_after n None rest = Some n
unless_after n (Some stage) rest = rest stage

-- the first line, counted from n, with which no certificate goes on from this stage: one that can't come next, or what follows the
-- last line feed, where the text can't end there
abbrev pub first_bad_from : ℕ → Stage → List (List ℕ) → Option ℕ
first_bad_from n stage [] = None
first_bad_from n stage (rest ∷ []) = cond (may_end stage rest) None (Some n)
first_bad_from n stage (line ∷ next ∷ more) =
    unless_after n (stage_after stage line) (λ later. first_bad_from (n + 1) later (next ∷ more))

-- the first line of a text with which no certificate goes on, or one past its last line where it ends early
abbrev pub first_bad : List ℕ → Option ℕ
first_bad text = first_bad_from 1 Opening (parts_of text)
