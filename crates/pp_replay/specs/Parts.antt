-- What the parts of a replay come to.
use Rattle.std.specs.Prelude.{◌≡◌, ◌⊎◌, ℕ, ◌≤◌, List, Option, Some, None, ⊤}
use Rattle.pp_model.specs.declared.Answer.{Answer}
use Rattle.pp_model.specs.declared.Call.{Call}
use Rattle.pp_model.specs.Pass.{PassView, MapSizes, Meaning, RunView}
use Rattle.pp_trace.specs.declared.Make.{Make}
use Rattle.pp_trace.specs.Grammar.{bad}
use Rattle.pp_devices.specs.declared.ways.Way.{Way}
use Rattle.pp_devices.specs.declared.ways.Way.TheVariants as way
use Rattle.pp_devices.specs.Devices.{Device, WasUnread, WasTooLong}
use Rattle.pp_words.specs.declared.Settings.{Settings}
use Rattle.pp_words.specs.declared.Kind.TheVariants as kind
use Rattle.pp_programs.specs.Causes.{WasSpared}
use Rattle.pp_running.specs.Run.{IsRunOf}
use Rattle.pp_replay.specs.Replay.{HasBadLine, meaning_of, sizes_of}

-- the settings choose a table of so many buckets: a list is one bucket
abbrev pub IsTable : Settings → ℕ → Type 0
IsTable settings buckets =
    ((settings.map ≡ kind.List) × (buckets ≡ 1)) ⊎ ((settings.map ≡ kind.Hash) × (buckets ≡ settings.buckets))

-- A map of this meaning and these sizes is the one that the settings choose: its runs are runs of that one. It has no more pairs than
-- live records.
pub record IsChosen (meaning : Meaning) (sizes : MapSizes) (settings : Settings) : Type 0 where
  pub sizes_are : sizes ≡ sizes_of settings
  pub runs : (opened : List PassView) → (lists : List (List Call)) → (answers : List (List Answer)) → (run : RunView)
      → IsRunOf meaning sizes settings.races opened lists answers run
      → IsRunOf (meaning_of settings.map) (sizes_of settings) settings.races opened lists answers run
  pub live : (n : ℕ) → n ≤ meaning.live n

-- reading the trace, or making it, ended in this way without calls
abbrev pub HasNoCalls : Way → Option Make → ℕ → Device → Device → Type 0
HasNoCalls (way.BadLine line why) make callers before after = (make ≡ None) × HasBadLine callers line why before after
HasNoCalls way.Unread make callers before after = (make ≡ None) × WasUnread before after
HasNoCalls way.TooLong make callers before after = (make ≡ None) × WasTooLong before after
HasNoCalls way.NoMemory make callers before after = WasSpared make before after
HasNoCalls _ make callers before after = ⊥

-- parsing these bytes ended in this way without calls
abbrev pub HasBadTrace : List ℕ → ℕ → Way → Type 0
HasBadTrace bytes callers (way.BadLine line why) = bad bytes callers ≡ Some (record { line = line; why = why })
HasBadTrace bytes callers way.NoMemory = ⊤
HasBadTrace bytes callers _ = ⊥
