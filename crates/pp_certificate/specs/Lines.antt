-- What a line of a certificate says.
use Rattle.std.specs.Prelude.{ℕ, ◌<◌, ◌^◌, cond, List, [], ◌∷◌, Option, Some, None, option_map, codes}
use Rattle.std.specs.Str.{bytes_eq}
use Rattle.pp_model.specs.declared.Call.{Call}
use Rattle.pp_model.specs.declared.Call.TheVariants.{Get, Insert, Remove, Cut}
use Rattle.pp_model.specs.declared.Reply.{Reply}
use Rattle.pp_model.specs.declared.Reply.TheVariants.{Value, Absent, Added, Held, Took, Other}
use Rattle.pp_certificate.specs.declared.Entry.{Entry}
use Rattle.pp_certificate.specs.declared.Entry.TheVariants.{Opens, Changes, Says, Ends}
use Rattle.pp_certificate.specs.declared.entries.Word.{Word}
use Rattle.pp_certificate.specs.declared.entries.Word.TheVariants as word
use Rattle.pp_certificate.specs.declared.entries.Called.{Called}
use Rattle.pp_certificate.specs.Words.{fields_of, number_below, words_left}

abbrev pub caller_in : List ℕ → Option ℕ
caller_in field = number_below 64 field

-- the number of a call, or a place
abbrev pub count_in : List ℕ → Option ℕ
count_in field = number_below (2 ^ 64) field

abbrev pub key_in : List ℕ → Option ℕ
key_in field = number_below 18446744073709551613 field

abbrev pub value_in : List ℕ → Option ℕ
value_in field = number_below (2 ^ 128) field

-- ---- calls: `get K`, `insert K V`, `remove K` or `cut K V`

abbrev pub word_of : List ℕ → Option Word
word_of field =
    cond (bytes_eq field (codes "get")) (Some word.Get)
    (cond (bytes_eq field (codes "insert")) (Some word.Insert)
    (cond (bytes_eq field (codes "remove")) (Some word.Remove)
    (cond (bytes_eq field (codes "cut")) (Some word.Cut) None)))

-- a call that stands in the first fields of some, and the fields behind it
pub record CallAndRest : Type 0 where
  pub call : Call
  pub rest : List (List ℕ)

abbrev pub with_rest : Call → List (List ℕ) → CallAndRest
with_rest call rest = record { call = call; rest = rest }

abbrev pub call_with_value : (ℕ → Call) → List (List ℕ) → Option CallAndRest
call_with_value call [] = None
call_with_value call (value ∷ rest) = option_map (λ v. with_rest (call v) rest) (value_in value)

abbrev pub call_with : Option Word → Option ℕ → List (List ℕ) → Option CallAndRest
call_with None key rest = None
call_with (Some w) None rest = None
call_with (Some word.Get) (Some key) rest = Some (with_rest (Get key) rest)
call_with (Some word.Insert) (Some key) rest = call_with_value (Insert key) rest
call_with (Some word.Remove) (Some key) rest = Some (with_rest (Remove key) rest)
call_with (Some word.Cut) (Some key) rest = call_with_value (Cut key) rest

abbrev pub call_of : List (List ℕ) → Option CallAndRest
call_of [] = None
call_of (first ∷ []) = None
call_of (first ∷ key ∷ rest) = call_with (word_of first) (key_in key) rest

-- a call that was read up to a place of a line
abbrev pub called_at : List ℕ → ℕ → Called → CallAndRest
called_at text end called = with_rest called.call (words_left text called.next end)

-- ---- replies: `value V`, `absent`, `added`, `held V`, `took V` or `other V`

abbrev pub bare_reply : List ℕ → Option Reply
bare_reply field =
    cond (bytes_eq field (codes "absent")) (Some Absent)
    (cond (bytes_eq field (codes "added")) (Some Added) None)

abbrev pub valued_reply : List ℕ → ℕ → Option Reply
valued_reply field value =
    cond (bytes_eq field (codes "value")) (Some (Value value))
    (cond (bytes_eq field (codes "held")) (Some (Held value))
    (cond (bytes_eq field (codes "took")) (Some (Took value))
    (cond (bytes_eq field (codes "other")) (Some (Other value)) None)))

abbrev pub reply_with : List ℕ → Option ℕ → Option Reply
reply_with field None = None
reply_with field (Some value) = valued_reply field value

abbrev pub reply_of : List (List ℕ) → Option Reply
reply_of [] = None
reply_of (first ∷ []) = bare_reply first
reply_of (first ∷ value ∷ []) = reply_with first (value_in value)
reply_of (first ∷ value ∷ next ∷ more) = None

-- ---- lines

-- behind `certificate`: the version
abbrev pub opening_of : List (List ℕ) → Option Entry
opening_of (version ∷ []) = cond (bytes_eq version (codes "1")) (Some Opens) None
opening_of fields = None

-- behind `end`: nothing
abbrev pub ending_of : List (List ℕ) → Option Entry
ending_of [] = Some Ends
ending_of fields = None

abbrev pub change_to : ℕ → ℕ → Call → List (List ℕ) → Option Entry
change_to caller number call [] = Some (Changes (record { caller = caller; number = number; call = call }))
change_to caller number call fields = None

abbrev pub change_with : Option ℕ → Option ℕ → Option CallAndRest → Option Entry
change_with None number called = None
change_with (Some caller) None called = None
change_with (Some caller) (Some number) None = None
change_with (Some caller) (Some number) (Some called) = change_to caller number called.call called.rest

-- behind `change`: a caller, the number of its call, and the call
abbrev pub change_of_words : List (List ℕ) → Option Entry
change_of_words [] = None
change_of_words (caller ∷ []) = None
change_of_words (caller ∷ number ∷ rest) = change_with (caller_in caller) (count_in number) (call_of rest)

abbrev pub said_to : ℕ → ℕ → Call → Option Reply → Option Entry
said_to caller place call None = None
said_to caller place call (Some reply) = Some (Says caller (record { call = call; reply = reply; place = place }))

abbrev pub said_with : Option ℕ → Option ℕ → Option CallAndRest → Option Entry
said_with None place called = None
said_with (Some caller) None called = None
said_with (Some caller) (Some place) None = None
said_with (Some caller) (Some place) (Some called) = said_to caller place called.call (reply_of called.rest)

-- behind `said`: a caller, a place, a call and its reply
abbrev pub said_of_words : List (List ℕ) → Option Entry
said_of_words [] = None
said_of_words (caller ∷ []) = None
said_of_words (caller ∷ place ∷ rest) = said_with (caller_in caller) (count_in place) (call_of rest)

abbrev pub entry_of : List (List ℕ) → Option Entry
entry_of [] = None
entry_of (first ∷ rest) =
    cond (bytes_eq first (codes "change")) (change_of_words rest)
    (cond (bytes_eq first (codes "said")) (said_of_words rest)
    (cond (bytes_eq first (codes "certificate")) (opening_of rest)
    (cond (bytes_eq first (codes "end")) (ending_of rest) None)))

-- what a line says, if anything
abbrev pub line_entry : List ℕ → Option Entry
line_entry line = entry_of (fields_of line)

-- the caller of an entry is one that a certificate may speak of
abbrev pub EntryFits : Entry → Type 0
EntryFits Opens = Unit {0}
EntryFits (Changes change) = change.caller < 64
EntryFits (Says caller placed) = caller < 64
EntryFits Ends = Unit {0}
