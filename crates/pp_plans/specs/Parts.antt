-- How an input is cut into a trace and a plan.
use Rattle.std.specs.Prelude.{ℕ, zero, suc, ◌+◌, ◌-◌, Bool, false, cond, List, [], ◌∷◌, length, take, Option}
use Rattle.std.specs.Prelude.{Some, None, option_map, codes}
use Rattle.std.specs.List.{after_first}
use Rattle.std.specs.Str.{bytes_eq}
use Rattle.pp_trace.specs.Lines.{is_line_feed, lines_of, fields_of}

-- the line that names the plan has exactly one field, `schedule`
abbrev pub names_plan : List (List ℕ) → Bool
names_plan (field ∷ []) = bytes_eq field (codes "schedule")
names_plan fields = false

-- how many lines stand before the first one that names the plan
abbrev pub plan_at : List (List ℕ) → Option ℕ
plan_at [] = None
plan_at (line ∷ lines) = cond (names_plan (fields_of line)) (Some 0) (option_map suc (plan_at lines))

-- what stands behind the first n line feeds of a text
abbrev pub after_lines : ℕ → List ℕ → List ℕ
after_lines zero text = text
after_lines (suc n) text = after_first is_line_feed (after_lines n text)

-- the bytes of the trace, those of the plan, and how many lines stand before the plan
pub record TextParts : Type 0 where
  pub trace : List ℕ
  pub plan : List ℕ
  pub lines : ℕ

abbrev pub parts_at : List ℕ → Option ℕ → TextParts
parts_at text None = record { trace = text; plan = []; lines = length (lines_of text) }
parts_at text (Some n) = record {
  trace = take (length text - length (after_lines n text)) text;
  plan = after_lines (suc n) text;
  lines = n + 1;
}

-- The trace stands before the first line that names the plan, and the plan behind it. Without such a line all is the trace.
abbrev pub parts_of : List ℕ → TextParts
parts_of text = parts_at text (plan_at (lines_of text))
