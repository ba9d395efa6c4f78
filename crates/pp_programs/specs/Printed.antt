-- What printing a whole text does to a sink, and how a program ends by it.
use Rattle.std.specs.Prelude.{◌≡◌, ℕ, ◌+◌, ◌<◌, ◌≤◌, List, length, Option, Result, Ok, Err}
use Rattle.std.specs.Io.KnownBytes.{Appends}
use Rattle.pp_outside.specs.Outside.{Rose, GrewByPrefix}
use Rattle.pp_outside.specs.declared.Failed.{Failed}
use Rattle.pp_model.specs.Lists.{AtEach}
use Rattle.pp_devices.specs.declared.ways.Way.{Way}
use Rattle.pp_devices.specs.declared.ways.Way.TheVariants as way
use Rattle.pp_devices.specs.Devices.{Device}
use Rattle.pp_devices.specs.Told.{IsTold}
use Rattle.pp_devices.specs.Ways.{status_of, line_of}

-- the whole text was written and no write failed; or one did, and a prefix of the text was written
abbrev pub IsPrinted : Option (List ℕ) → ℕ → Option (List ℕ) → ℕ → List ℕ → Result (Unit {0}) Failed → Type 0
IsPrinted old faults_old new faults_new text (Ok u) = Appends old new text × (faults_new ≡ faults_old)
IsPrinted old faults_old new faults_new text (Err e) = Rose faults_old faults_new × GrewByPrefix old new text

-- no more callers than a run has, and no more answers of one than a trace has lines
pub record AreShort {A : Type 0} (answers : List (List A)) : Type 0 where
  pub callers : length answers ≤ 64
  pub each : AtEach answers (λ c given. length given ≤ 16777216)

-- printing this text, of so many full and lost lines, ended in this way
abbrev pub IsFinished : Way → Device → Device → ℕ → ℕ → List ℕ → Type 0
IsFinished way.Answered before after full lost text =
    Appends before.bytes after.bytes text × (after.faults ≡ before.faults) × (full ≡ 0) × (lost ≡ 0)
IsFinished (way.Partly f l) before after full lost text =
    Appends before.bytes after.bytes text × (after.faults ≡ before.faults) × (full ≡ f) × (lost ≡ l) × (0 < f + l)
IsFinished way.Unwritten before after full lost text = Rose before.faults after.faults × GrewByPrefix before.bytes after.bytes text
IsFinished way.NoMemory before after full lost text = after ≡ before
IsFinished _ before after full lost text = ⊥

-- the way of a program that printed everything, with so many full and lost lines
abbrev pub IsWayOf : ℕ → ℕ → Way → Type 0
IsWayOf full lost way.Answered = (full ≡ 0) × (lost ≡ 0)
IsWayOf full lost (way.Partly f l) = (f ≡ full) × (l ≡ lost) × (0 < full + lost)
IsWayOf full lost _ = ⊥

-- the status of a program that refuses its words, whose line was told
pub record IsRefusal {E : Type 0} (written : E → Option (List ℕ)) (faults : E → ℕ) (Writes : E → E → List ℕ → Result ℕ Failed → Type 0)
    (old new : E) (status : ℕ) : Type 0 where
  pub way : Way
  pub status_is : status ≡ status_of way
  pub told : IsTold written faults Writes old new (line_of way)
