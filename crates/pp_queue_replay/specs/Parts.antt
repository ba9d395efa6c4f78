-- What the parts of a queue's replay come to.
use Rattle.std.specs.Prelude.{◌≡◌, ℕ, List, Some, ⊤}
use Rattle.pp_devices.specs.declared.ways.Way.{Way}
use Rattle.pp_devices.specs.declared.ways.Way.TheVariants as way
use Rattle.pp_devices.specs.Devices.{Device, WasUnread, WasTooLong}
use Rattle.pp_queue_replay.specs.Grammar.{bad}
use Rattle.pp_queue_replay.specs.Replay.{HasBadLine}

-- reading the trace ended in this way without calls
abbrev pub HasNoCalls : Way → ℕ → Device → Device → Type 0
HasNoCalls (way.BadLine line why) callers before after = HasBadLine callers line why before after
HasNoCalls way.Unread callers before after = WasUnread before after
HasNoCalls way.TooLong callers before after = WasTooLong before after
HasNoCalls way.NoMemory callers before after = after.faults ≡ before.faults
HasNoCalls _ callers before after = ⊥

-- parsing these bytes ended in this way without calls
abbrev pub HasBadTrace : List ℕ → ℕ → Way → Type 0
HasBadTrace bytes callers (way.BadLine line why) = bad bytes callers ≡ Some (record { line = line; why = why })
HasBadTrace bytes callers way.NoMemory = ⊤
HasBadTrace bytes callers _ = ⊥
