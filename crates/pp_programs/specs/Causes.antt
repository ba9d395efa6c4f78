-- What a program's words say, and what a program that read or wrote nothing says of its devices.
use Rattle.std.specs.Prelude.{◌≡◌, ℕ, List, Option, Some, None}
use Rattle.pp_trace.specs.declared.Make.{Make}
use Rattle.pp_words.specs.declared.Settings.{Settings}
use Rattle.pp_words.specs.Words.{settings_of}
use Rattle.pp_devices.specs.Devices.{Device, World, Untouched}

-- the words say these settings, and ask for no made trace
pub record Says (words : List (List ℕ)) (s : Settings) : Type 0 where
  pub settings : settings_of words ≡ Some s
  pub reads : s.make ≡ None

-- the words say settings under which the source is read; reading came to this, and the sink is as it was
pub record IsReading (words : List (List ℕ)) (before after : World) (Came : Settings → Type 0) : Type 0 where
  pub settings : Settings
  pub said_by : Says words settings
  pub came : Came settings
  pub quiet : after.sink ≡ before.sink

-- the words say no settings, or ask for a made trace, and nothing was read or written
pub record IsRefused (words : List (List ℕ)) (before after : World) : Type 0 where
  pub none : (s : Settings) → Says words s → ⊥
  pub untouched : Untouched before after

-- no read failed, and with a made trace nothing was read
pub record WasSpared (make : Option Make) (before after : Device) : Type 0 where
  pub unfailed : after.faults ≡ before.faults
  pub unread : (m : Make) → make ≡ Some m → after ≡ before

-- there was no memory: nothing was written, no read failed, and with a made trace nothing was read
pub record HadNoMemory (words : List (List ℕ)) (before after : World) : Type 0 where
  pub quiet : after.sink ≡ before.sink
  pub unfailed : after.source.faults ≡ before.source.faults
  pub unread : (settings : Settings) (make : Make) → settings_of words ≡ Some settings → settings.make ≡ Some make
      → after.source ≡ before.source
