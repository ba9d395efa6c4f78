-- Passes, lists and answers as lists that contracts compare.
use Rattle.std.specs.Prelude.{◌≡◌, ℕ, ◌≤◌, List, map, length, Some, slice_get}
use Rattle.pp_model.specs.declared.Call.{Call}
use Rattle.pp_model.specs.Lists.{AtEach}
use Rattle.pp_model.specs.Pass.{PassView}
use Rattle.pp_trace.specs.TraceLists.{KeysFit}

-- what the passes show
abbrev pub views_of : {P : Type 0} → (P → PassView) → List P → List PassView
views_of view passes = map view passes

-- each pass has room for the calls of its list
abbrev pub HaveRoom : List PassView → List (List Call) → Type 0
HaveRoom passes lists = (c : ℕ) (pass : PassView) (calls : List Call) → slice_get passes c ≡ Some pass → slice_get lists c ≡ Some calls
    → length calls ≤ pass.room

-- lists of calls that may be run: one for each caller, with keys in range, none longer than a trace
pub record AreCalls (callers : ℕ) (lists : List (List Call)) : Type 0 where
  pub each_caller : length lists ≡ callers
  pub keys : KeysFit lists
  pub short : AtEach lists (λ c calls. length calls ≤ 16777216)
