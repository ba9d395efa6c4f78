-- What the parts of a tally come to.
use Rattle.std.specs.Prelude.{◌≡◌}
use Rattle.pp_devices.specs.declared.ways.Way.{Way}
use Rattle.pp_devices.specs.declared.ways.Way.TheVariants as way
use Rattle.pp_devices.specs.Devices.{Device, WasUnread, WasTooLong}

-- reading the input ended in this way without bytes
abbrev pub HasNoBytes : Way → Device → Device → Type 0
HasNoBytes way.Unread before after = WasUnread before after
HasNoBytes way.TooLong before after = WasTooLong before after
HasNoBytes way.NoMemory before after = after.faults ≡ before.faults
HasNoBytes _ before after = ⊥
