-- The fields of a line, and the number that a field writes.
use Rattle.std.specs.Prelude.{◌≡◌, ℕ, ◌+◌, ◌≤◌, ◌==◌, ◌&&◌, Bool, cond, nat_lt, List, [], ◌∷◌, length, slice_index, Option, Some, None}
use Rattle.std.specs.Prelude.{option_and_then}
use Rattle.std.specs.List.{slice_split, between}
use Rattle.pp_trace.specs.declared.scanning.Span.{Span}
use Rattle.pp_trace.specs.Lines.{number_of}

abbrev pub is_space : ℕ → Bool
is_space byte = byte == 32

-- the fields of a line: what stands between its spaces, so that two spaces in a row have an empty field between them
abbrev pub fields_of : List ℕ → List (List ℕ)
fields_of line = slice_split is_space line

-- it begins with `0`, which is 48, and goes on
abbrev pub has_leading_zero : List ℕ → Bool
has_leading_zero field = nat_lt 1 (length field) && slice_index field 0 == 48

-- the number that a field writes in base ten without leading zeros, if it is one
abbrev pub plain_number : List ℕ → Option ℕ
plain_number field = cond (has_leading_zero field) None (number_of field)

-- the same, if it is below this bound
abbrev pub number_below : ℕ → List ℕ → Option ℕ
number_below bound field = option_and_then (λ n. cond (nat_lt n bound) (Some n) None) (plain_number field)

-- the fields from a place of a line on, which ends at `end`; behind its end there are none
abbrev pub words_left : List ℕ → ℕ → ℕ → List (List ℕ)
words_left text from end = cond (nat_lt end from) [] (fields_of (between from end text))

-- the first of them
pub record IsFirstWord (text : List ℕ) (from end : ℕ) (field : Span) : Type 0 where
  pub order : field.start ≤ field.end
  pub within : field.end ≤ end
  pub next : field.next ≡ field.end + 1
  pub words : words_left text from end ≡ between field.start field.end text ∷ words_left text field.next end
