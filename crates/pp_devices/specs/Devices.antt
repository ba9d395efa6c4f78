-- What a program's source and sink show, and how its reading ends.
use Rattle.std.specs.Prelude.{◌≡◌, ℕ, List, Option}
use Rattle.pp_outside.specs.Outside.{Rose, GaveMore, GaveAtMost}

-- a source or a sink: the bytes that it tells, those left or those written, and its count of faults
pub record Device : Type 0 where
  pub bytes : Option (List ℕ)
  pub faults : ℕ

-- the source and the sink
pub record World : Type 0 where
  pub source : Device
  pub sink : Device

abbrev pub device : Option (List ℕ) → ℕ → Device
device bytes faults = record { bytes = bytes; faults = faults }

abbrev pub world : Device → Device → World
world source sink = record { source = source; sink = sink }

-- the source failed, having given no more than may be read
pub record WasUnread (before after : Device) : Type 0 where
  pub rose : Rose before.faults after.faults
  pub few : GaveAtMost 16777216 before.bytes after.bytes

-- the source gave more than may be read, and no read failed before
pub record WasTooLong (before after : Device) : Type 0 where
  pub gave : GaveMore 16777216 before.bytes after.bytes
  pub unfailed : after.faults ≡ before.faults

-- nothing was read or written
pub record Untouched (before after : World) : Type 0 where
  pub source : after.source ≡ before.source
  pub sink : after.sink ≡ before.sink
