-- The text of a tally.
use Rattle.std.specs.Prelude.{ℕ, cond, nat_eq, List, [], ◌++◌, length, codes}
use Rattle.std.specs.Fmt.{decimal}
use Rattle.std.specs.List.{flat_map}
use Rattle.pp_model.specs.Lists.{times, upto}
use Rattle.pp_trace.specs.Text.{counted_line}
use Rattle.pp_pieces.specs.Pieces.{pieces_of}

-- a byte value with its count, on a line; none where it doesn't stand in the input
abbrev pub value_line : ℕ → ℕ → List ℕ
value_line value count = cond (nat_eq count 0) [] (decimal value ++ codes " " ++ decimal count ++ codes "\n")

-- those of the first values, by rising value
abbrev pub values_text : (ℕ → ℕ) → ℕ → List ℕ
values_text count values = flat_map (λ value. value_line value (count value)) (upto 0 values)

-- how many bytes and pieces there are
abbrev pub head_text : ℕ → ℕ → List ℕ
head_text bytes pieces = counted_line (codes "bytes ") bytes ++ counted_line (codes "pieces ") pieces

-- the output: how many bytes and pieces the input has, and how often each byte value stands in it
abbrev pub tally_text : List ℕ → List ℕ
tally_text bytes = head_text (length bytes) (pieces_of (length bytes)) ++ values_text (λ value. times value bytes) 256
