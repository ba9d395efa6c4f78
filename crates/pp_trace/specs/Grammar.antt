-- What a trace says: the calls of each caller, or its first bad line.
use Rattle.std.specs.Prelude.{ℕ, ◌+◌, ◌==◌, ◌&&◌, Bool, true, false, cond, nat_lt, List, [], ◌∷◌, map, Option, Some, None}
use Rattle.std.specs.Prelude.{option_map, option_and_then, ok_or}
use Rattle.std.specs.Prelude.{Result, Ok, Err, slice_index, codes}
use Rattle.std.specs.List.{filter_map}
use Rattle.std.specs.Str.{bytes_eq}
use Rattle.pp_model.specs.declared.Call.{Call}
use Rattle.pp_model.specs.declared.Call.TheVariants.{Get, Insert, Remove, Cut}
use Rattle.pp_model.specs.declared.Pair.{Pair}
use Rattle.pp_trace.specs.declared.Why.{Why}
use Rattle.pp_trace.specs.declared.Why.TheVariants as why
use Rattle.pp_trace.specs.declared.forms.Form.{Form}
use Rattle.pp_trace.specs.declared.forms.Form.TheVariants.{First, Second}
use Rattle.pp_trace.specs.declared.parsing.Reading.{Reading}
use Rattle.pp_trace.specs.declared.parsing.Word.{Word}
use Rattle.pp_trace.specs.declared.parsing.Word.TheVariants as word
use Rattle.pp_trace.specs.declared.parsing.Reading.TheVariants.{Nothing, Asks, Bad}
use Rattle.pp_trace.specs.Lines.{lines_of, fields_of, number_of}

abbrev pub greatest_key : ℕ
greatest_key = 18446744073709551612

abbrev pub greatest_value : Form → ℕ
greatest_value First = 18446744073709551615
greatest_value Second = 340282366920938463463374607431768211455

-- the number that a field writes, if it is one and below this bound
abbrev pub number_below : ℕ → List ℕ → Option ℕ
number_below bound field = option_and_then (λ n. cond (nat_lt n bound) (Some n) None) (number_of field)

abbrev pub key_in : List ℕ → Option ℕ
key_in field = number_below (greatest_key + 1) field

abbrev pub value_in : Form → List ℕ → Option ℕ
value_in form field = number_below (greatest_value form + 1) field

abbrev pub cut_in : Form → Option Word
cut_in First = None
cut_in Second = Some word.Cut

-- the words of calls, in lower-case letters; `cut` is one in the second form alone
abbrev pub word_of : Form → List ℕ → Option Word
word_of form field =
    cond (bytes_eq field (codes "get")) (Some word.Get)
    (cond (bytes_eq field (codes "insert")) (Some word.Insert)
    (cond (bytes_eq field (codes "remove")) (Some word.Remove)
    (cond (bytes_eq field (codes "cut")) (cut_in form) None)))

-- the fields after `get` or `remove`: a key and nothing more
abbrev pub key_of_fields : List (List ℕ) → Result ℕ Why
key_of_fields (key ∷ []) = ok_or (key_in key) why.Key
key_of_fields fields = Err why.Fields

-- a key and a value; a bad key counts before a bad value
abbrev pub pair_of : Option ℕ → Option ℕ → Result Pair Why
pair_of None value = Err why.Key
pair_of (Some key) value = ok_or (option_map (λ v. record { key = key; value = v }) value) why.Value

-- the fields after `insert` or `cut`: a key, a value and nothing more
abbrev pub pair_of_fields : Form → List (List ℕ) → Result Pair Why
pair_of_fields form (key ∷ value ∷ []) = pair_of (key_in key) (value_in form value)
pair_of_fields form fields = Err why.Fields

abbrev pub call_with_key : (ℕ → Call) → Result ℕ Why → Result Call Why
call_with_key call (Ok key) = Ok (call key)
call_with_key call (Err cause) = Err cause

abbrev pub call_with_pair : (ℕ → ℕ → Call) → Result Pair Why → Result Call Why
call_with_pair call (Ok pair) = Ok (call pair.key pair.value)
call_with_pair call (Err cause) = Err cause

abbrev pub call_of_word : Form → Option Word → List (List ℕ) → Result Call Why
call_of_word form None fields = Err why.Word
call_of_word form (Some word.Get) fields = call_with_key Get (key_of_fields fields)
call_of_word form (Some word.Insert) fields = call_with_pair Insert (pair_of_fields form fields)
call_of_word form (Some word.Remove) fields = call_with_key Remove (key_of_fields fields)
call_of_word form (Some word.Cut) fields = call_with_pair Cut (pair_of_fields form fields)

-- the call that the fields after the caller say, or why they say none
abbrev pub call_of : Form → List (List ℕ) → Result Call Why
call_of form [] = Err why.Word
call_of form (first ∷ fields) = call_of_word form (word_of form first) fields

abbrev pub asked_by : ℕ → Result Call Why → Reading
asked_by caller (Ok call) = Asks caller call
asked_by caller (Err cause) = Bad cause

-- what a line says whose first field gives this caller
abbrev pub reading_by : Form → Option ℕ → List (List ℕ) → Reading
reading_by form None fields = Bad why.Caller
reading_by form (Some caller) fields = asked_by caller (call_of form fields)

-- a line is skipped that has no fields, or whose first one begins with `#`, which is 35
abbrev pub is_skipped : List (List ℕ) → Bool
is_skipped [] = true
is_skipped (first ∷ fields) = slice_index first 0 == 35

-- what a line of these fields says in a form; one that is skipped says nothing
abbrev pub reading : Form → ℕ → List (List ℕ) → Reading
reading form callers [] = Nothing
reading form callers (first ∷ fields) =
    cond (is_skipped (first ∷ fields)) Nothing (reading_by form (number_below callers first) fields)

-- ---- the form of a text

-- the line that names the second form has exactly two fields, `trace` and `2`
abbrev pub names_second : List (List ℕ) → Bool
names_second (first ∷ second ∷ []) = bytes_eq first (codes "trace") && bytes_eq second (codes "2")
names_second fields = false

-- the form of a text of these lines: the second where the first line that isn't skipped names it
abbrev pub form_of : List (List (List ℕ)) → Form
form_of [] = First
form_of (line ∷ lines) = cond (is_skipped line) (form_of lines) (cond (names_second line) Second First)

-- the lines, but that the one that names the second form is skipped too: in its place stands a line without fields
abbrev pub without_name : List (List (List ℕ)) → List (List (List ℕ))
without_name [] = []
without_name (line ∷ lines) =
    cond (is_skipped line) (line ∷ without_name lines) (cond (names_second line) ([] ∷ lines) (line ∷ lines))

-- what each of these lines says, in the form of them all
abbrev pub readings_of : List (List (List ℕ)) → ℕ → List Reading
readings_of lines callers = map (reading (form_of lines) callers) (without_name lines)

-- what each line of a text says
abbrev pub readings : List ℕ → ℕ → List Reading
readings text callers = readings_of (map fields_of (lines_of text)) callers

-- the call of a line, where this caller asks it
abbrev pub call_by : ℕ → Reading → Option Call
call_by c Nothing = None
call_by c (Asks caller call) = cond (caller == c) (Some call) None
call_by c (Bad cause) = None

-- a caller's calls, in the order of their lines
abbrev pub calls_of : ℕ → List Reading → List Call
calls_of c lines = filter_map (call_by c) lines

pub record BadLine : Type 0 where
  pub line : ℕ
  pub why : Why

-- the first bad line, where lines count from n
abbrev pub first_bad : ℕ → List Reading → Option BadLine
first_bad n [] = None
first_bad n (Nothing ∷ rest) = first_bad (n + 1) rest
first_bad n (Asks caller call ∷ rest) = first_bad (n + 1) rest
first_bad n (Bad cause ∷ rest) = Some (record { line = n; why = cause })

-- the calls of caller c
abbrev pub lines : List ℕ → ℕ → ℕ → List Call
lines text callers c = calls_of c (readings text callers)

-- the first bad line of a text, with its cause
abbrev pub bad : List ℕ → ℕ → Option BadLine
bad text callers = first_bad 1 (readings text callers)
