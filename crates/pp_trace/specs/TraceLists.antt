-- The lists that a trace says, and why it is refused.
use Rattle.std.specs.Prelude.{◌≡◌, ℕ, ◌≤◌, List, [], ◌∷◌, ◌++◌, map, length, slice_set, slice_index_or, Some, None, ⊤}
use Rattle.pp_model.specs.declared.Call.{Call}
use Rattle.pp_model.specs.Calls.{key_of}
use Rattle.pp_model.specs.Lists.{upto, AtEach}
use Rattle.pp_trace.specs.declared.TraceFault.{TraceFault}
use Rattle.pp_trace.specs.declared.TraceFault.TheVariants.{BadLine, NoMemory}
use Rattle.pp_trace.specs.Grammar.{lines, bad}

-- the lists with one more call of a caller
abbrev pub with_call : List (List Call) → ℕ → Call → List (List Call)
with_call lists caller call = slice_set lists caller (slice_index_or lists caller [] ++ call ∷ [])

-- the keys of calls are in range
abbrev pub KeysFit : List (List Call) → Type 0
KeysFit lists = AtEach lists (λ c calls. AtEach calls (λ n call. key_of call ≤ 18446744073709551612))

-- the lists are those that a text says
pub record IsTrace (bytes : List ℕ) (callers : ℕ) (lists : List (List Call)) : Type 0 where
  pub good : bad bytes callers ≡ None
  pub lists_are : lists ≡ map (lines bytes callers) (upto 0 callers)
  pub keys : KeysFit lists
  pub short : AtEach lists (λ c calls. length calls ≤ 16777216)

-- why a trace was refused
abbrev pub TraceCause : List ℕ → ℕ → TraceFault → Type 0
TraceCause bytes callers (BadLine line why) = bad bytes callers ≡ Some (record { line = line; why = why })
TraceCause bytes callers NoMemory = ⊤
