-- The changes of a log by their keys.
use Rattle.std.specs.Prelude.{◌≡◌, ℕ, ◌+◌, ◌<◌, ◌≤◌, ◌⊎◌, List, Option, Some, None, slice_get, slice_index_or, length}
use Rattle.std.specs.List.{All, Contains}
use Rattle.pp_model.specs.declared.Call.{Call}
use Rattle.pp_model.specs.declared.Call.TheVariants.{Get, Insert, Remove, Cut}
use Rattle.pp_model.specs.declared.Change.{Change}
use Rattle.pp_model.specs.Calls.{key_of}
use Rattle.pp_check.specs.declared.index.Touch.{Touch}

abbrev pub touch : ℕ → ℕ → Touch
touch key at = record { key = key; at = at }

-- it is that of a change of the log
pub record IsTouch (log : List Change) (t : Touch) : Type 0 where
  pub change : Change
  pub logged : slice_get log t.at ≡ Some change
  pub key : t.key ≡ key_of change.call

-- by key, and then by position
abbrev pub Precedes : Touch → Touch → Type 0
Precedes s t = (s.key < t.key) ⊎ ((s.key ≡ t.key) × (s.at ≤ t.at))

-- it comes before the changes of this key from this position on
abbrev pub IsBefore : Touch → ℕ → ℕ → Type 0
IsBefore t key at = (t.key < key) ⊎ ((t.key ≡ key) × (t.at < at))

-- the touches are sorted
abbrev pub Rises : List Touch → Type 0
Rises index = (k : ℕ) (d : Touch) → k + 1 < length index → Precedes (slice_index_or index k d) (slice_index_or index (k + 1) d)

-- the touches of all changes of a log and no other, by their keys, and those of a key by their positions
pub record IsIndex (log : List Change) (index : List Touch) : Type 0 where
  pub touches : All (IsTouch log) index
  pub each : (p : ℕ) (c : Change) → slice_get log p ≡ Some c → Contains index (touch (key_of c.call) p)
  pub rise : Rises index

-- the value that a call which changes the map leaves at its key
abbrev pub left_by : Call → Option ℕ
left_by (Get k) = None
left_by (Insert k v) = Some v
left_by (Remove k) = None
left_by (Cut k v) = None

-- so many touches of an index come before the changes of this key from this position on
pub record IsSplit (index : List Touch) (key at count : ℕ) : Type 0 where
  pub within : count ≤ length index
  pub below : (k : ℕ) (d : Touch) → k < count → IsBefore (slice_index_or index k d) key at
  pub above : (k : ℕ) (d : Touch) → count ≤ k → k < length index → IsBefore (slice_index_or index k d) key at → ⊥
