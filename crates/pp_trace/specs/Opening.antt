-- What stands before the calls of a trace.
use Rattle.std.specs.Prelude.{◌≡◌, ℕ, ◌≤◌, List, ◌++◌, length, map, drop, replicate}
use Rattle.pp_trace.specs.declared.forms.Form.{Form}
use Rattle.pp_trace.specs.declared.forms.Opening.{Opening}
use Rattle.pp_trace.specs.declared.parsing.Reading.{Reading}
use Rattle.pp_trace.specs.declared.parsing.Reading.TheVariants.{Nothing}
use Rattle.pp_trace.specs.Lines.{lines_of, fields_of}
use Rattle.pp_trace.specs.Grammar.{reading, readings}

-- what the lines of a text say that is read in one form from its front on
abbrev pub readings_in : Form → List ℕ → ℕ → List Reading
readings_in form text callers = map (reading form callers) (map fields_of (lines_of text))

-- The lines of an opening say nothing, and those behind it are read in its form.
pub record IsOpening (text : List ℕ) (opening : Opening) : Type 0 where
  pub within : opening.from ≤ length text
  pub few : opening.lines ≤ opening.from
  pub says : (callers : ℕ)
      → readings text callers ≡ replicate opening.lines Nothing ++ readings_in opening.form (drop opening.from text) callers
