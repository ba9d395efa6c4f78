-- A text cut at its line feeds.
use Rattle.std.specs.Prelude.{◌≡◌, ℕ, ◌+◌, ◌≤◌, ◌<◌, List, [], ◌∷◌, length, drop}
use Rattle.std.specs.List.{slice_split, between}
use Rattle.pp_trace.specs.Lines.{is_line_feed}

-- what stands between the line feeds of a text: its lines, and last what follows the last line feed
abbrev pub parts_of : List ℕ → List (List ℕ)
parts_of text = slice_split is_line_feed text

-- no line feed follows this place
abbrev pub IsLastPart : List ℕ → ℕ → Type 0
IsLastPart text from = parts_of (drop from text) ≡ drop from text ∷ []

-- the line that begins at this place ends at the line feed at `feed`
pub record IsLineTo (text : List ℕ) (from feed : ℕ) : Type 0 where
  pub order : from ≤ feed
  pub within : feed < length text
  pub parts : parts_of (drop from text) ≡ between from feed text ∷ parts_of (drop (feed + 1) text)
