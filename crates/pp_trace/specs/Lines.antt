-- A text cut into lines, a line into fields, and the number that a field writes.
use Rattle.std.specs.Prelude.{◌≡◌, ℕ, ◌+◌, ◌*◌, ◌^◌, ◌<◌, ◌≤◌, ◌==◌, ◌||◌, ◌&&◌, Bool, not, cond, nat_lt, List, [], ◌∷◌, length, map}
use Rattle.std.specs.Prelude.{Option, Some, None, drop}
use Rattle.std.specs.List.{filter, slice_split, between, after_first}
use Rattle.std.specs.Str.{all_ascii_digits}
use Rattle.std.specs.Str.Lines.{strip_carriage_return}
use Rattle.std.specs.Str.Parse.{digits_value}
use Rattle.pp_trace.specs.declared.scanning.Span.{Span}
use Rattle.pp_trace.specs.declared.scanning.Number.{Number}
use Rattle.pp_trace.specs.declared.scanning.Number.TheVariants.{Is, Above, Not}

abbrev pub is_line_feed : ℕ → Bool
is_line_feed byte = byte == 10

abbrev pub is_blank : ℕ → Bool
is_blank byte = byte == 32 || byte == 9

abbrev pub is_field_byte : ℕ → Bool
is_field_byte byte = not (is_blank byte)

abbrev pub is_some_text : List ℕ → Bool
is_some_text text = nat_lt 0 (length text)

-- the parts of a text, but for the last one where it is empty
abbrev pub without_empty_last : List (List ℕ) → List (List ℕ)
without_empty_last [] = []
without_empty_last (part ∷ []) = cond (is_some_text part) (part ∷ []) []
without_empty_last (part ∷ next ∷ more) = part ∷ without_empty_last (next ∷ more)

-- the lines of a text: what stands between its line feeds, each without the one carriage return at its end;
-- what follows the last line feed is a line where it isn't empty
abbrev pub lines_of : List ℕ → List (List ℕ)
lines_of text = map strip_carriage_return (without_empty_last (slice_split is_line_feed text))

-- the fields of a line: its longest runs of bytes that are no blanks
abbrev pub fields_of : List ℕ → List (List ℕ)
fields_of line = filter is_some_text (slice_split is_blank line)

-- the number that a field writes in base ten, if it is one
abbrev pub number_of : List ℕ → Option ℕ
number_of field = cond (is_some_text field && all_ascii_digits field) (Some (digits_value 10 field)) None

-- the line at a place of a text: where it begins and ends, and where the next one begins
pub record IsLineAt (text : List ℕ) (from : ℕ) (line : Span) : Type 0 where
  pub begins : line.start ≡ from
  pub ordered : (line.start ≤ line.end) × (line.end ≤ line.next) × (line.next ≤ length text)
  pub longer : from < line.next
  pub lines : lines_of (drop from text) ≡ between line.start line.end text ∷ lines_of (drop line.next text)
  pub rest : drop line.next text ≡ after_first is_line_feed (drop from text)

-- the first field of a part of a text
pub record IsFirstField (text : List ℕ) (from end : ℕ) (field : Span) : Type 0 where
  pub within : (from ≤ field.start) × (field.start < field.end) × (field.end ≤ end)
  pub next : field.next ≡ field.end
  pub fields : fields_of (between from end text) ≡ between field.start field.end text ∷ fields_of (between field.end end text)

-- a number as `read_number` gives it
abbrev pub as_number : Option ℕ → Number
as_number None = Not
as_number (Some n) = cond (nat_lt n (2 ^ 128)) (Is n) Above

-- a number with one more digit at its end
abbrev pub number_with_digit : Number → ℕ → Number
number_with_digit (Is n) digit = as_number (Some (n * 10 + digit))
number_with_digit Above digit = Above
number_with_digit Not digit = Not
