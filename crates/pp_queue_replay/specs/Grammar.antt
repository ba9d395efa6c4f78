-- What a queue's trace says: the calls of each caller, or its first bad line. Lines, fields and numbers are those of a trace of map
-- calls, and so is what is skipped.
use Rattle.std.specs.Prelude.{◌≡◌, ℕ, ◌+◌, ◌≤◌, ◌==◌, cond, List, [], ◌∷◌, ◌++◌, map, length, Option, Some, None, ⊤}
use Rattle.std.specs.Prelude.{Result, Ok, Err, codes, slice_set, slice_index_or}
use Rattle.std.specs.List.{filter_map}
use Rattle.std.specs.Str.{bytes_eq}
use Rattle.pp_model.specs.Lists.{upto, AtEach}
use Rattle.pp_trace.specs.declared.TraceFault.{TraceFault}
use Rattle.pp_trace.specs.declared.TraceFault.TheVariants as fault
use Rattle.pp_trace.specs.declared.Why.{Why}
use Rattle.pp_trace.specs.declared.Why.TheVariants as why
use Rattle.pp_trace.specs.Grammar.{number_below, is_skipped, BadLine}
use Rattle.pp_trace.specs.Lines.{lines_of, fields_of}
use Rattle.pp_queues.specs.declared.calls.QueueCall.{QueueCall}
use Rattle.pp_queues.specs.declared.calls.QueueCall.TheVariants as call
use Rattle.pp_queue_replay.specs.declared.parsing.Reading.{Reading}
use Rattle.pp_queue_replay.specs.declared.parsing.Reading.TheVariants.{Nothing, Asks, Bad}

abbrev pub greatest_value : ℕ
greatest_value = 340282366920938463463374607431768211455

-- the fields after `put`: a value and nothing more
abbrev pub put_of : List (List ℕ) → Result QueueCall Why
put_of (value ∷ []) = put_by (number_below (greatest_value + 1) value)
  where
    put_by : Option ℕ → Result QueueCall Why
    put_by None = Err why.Value
    put_by (Some v) = Ok (call.Put v)
put_of fields = Err why.Fields

-- nothing stands after `take`
abbrev pub take_of : List (List ℕ) → Result QueueCall Why
take_of [] = Ok call.Take
take_of (field ∷ fields) = Err why.Fields

-- the call that the fields after the caller say, or why they say none
abbrev pub call_of : List (List ℕ) → Result QueueCall Why
call_of [] = Err why.Word
call_of (first ∷ fields) =
    cond (bytes_eq first (codes "put")) (put_of fields) (cond (bytes_eq first (codes "take")) (take_of fields) (Err why.Word))

abbrev pub asked_by : ℕ → Result QueueCall Why → Reading
asked_by caller (Ok call) = Asks caller call
asked_by caller (Err cause) = Bad cause

-- what a line says whose first field gives this caller
abbrev pub reading_by : Option ℕ → List (List ℕ) → Reading
reading_by None fields = Bad why.Caller
reading_by (Some caller) fields = asked_by caller (call_of fields)

-- what a line of these fields says; one that is skipped says nothing
abbrev pub reading : ℕ → List (List ℕ) → Reading
reading callers [] = Nothing
reading callers (first ∷ fields) = cond (is_skipped (first ∷ fields)) Nothing (reading_by (number_below callers first) fields)

-- what each of these lines says
abbrev pub readings_of : ℕ → List (List ℕ) → List Reading
readings_of callers lines = map (reading callers) (map fields_of lines)

-- what each line of a text says
abbrev pub readings : List ℕ → ℕ → List Reading
readings text callers = readings_of callers (lines_of text)

-- the call of a line, where this caller asks it
abbrev pub call_by : ℕ → Reading → Option QueueCall
call_by c Nothing = None
call_by c (Asks caller call) = cond (caller == c) (Some call) None
call_by c (Bad cause) = None

-- a caller's calls, in the order of their lines
abbrev pub calls_of : ℕ → List Reading → List QueueCall
calls_of c lines = filter_map (call_by c) lines

-- the first bad line, where lines count from n
abbrev pub first_bad : ℕ → List Reading → Option BadLine
first_bad n [] = None
first_bad n (Nothing ∷ rest) = first_bad (n + 1) rest
first_bad n (Asks caller call ∷ rest) = first_bad (n + 1) rest
first_bad n (Bad cause ∷ rest) = Some (record { line = n; why = cause })

-- the calls of caller c
abbrev pub lines : List ℕ → ℕ → ℕ → List QueueCall
lines text callers c = calls_of c (readings text callers)

-- the first bad line of a text, with its cause
abbrev pub bad : List ℕ → ℕ → Option BadLine
bad text callers = first_bad 1 (readings text callers)

-- the lists are those that a text says
pub record IsTrace (bytes : List ℕ) (callers : ℕ) (lists : List (List QueueCall)) : Type 0 where
  pub good : bad bytes callers ≡ None
  pub lists_are : lists ≡ map (lines bytes callers) (upto 0 callers)
  pub short : AtEach lists (λ c calls. length calls ≤ 16777216)

-- why a trace was refused
abbrev pub TraceCause : List ℕ → ℕ → TraceFault → Type 0
TraceCause bytes callers (fault.BadLine line why) = bad bytes callers ≡ Some (record { line = line; why = why })
TraceCause bytes callers fault.NoMemory = ⊤

-- the lists with one more call of a caller
abbrev pub with_call : List (List QueueCall) → ℕ → QueueCall → List (List QueueCall)
with_call lists caller call = slice_set lists caller (slice_index_or lists caller [] ++ call ∷ [])
