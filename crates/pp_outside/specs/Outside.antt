-- Counts of faults, what a reading of a whole source says, and the calls that reading and writing are made of.
use Rattle.std.specs.Prelude.{◌≡◌, ℕ, ◌+◌, ◌-◌, ◌^◌, ◌≤◌, ◌<◌, min, List, [], ◌++◌, length, drop, Option, Result, Ok, Err, OnOk, OnErr}
use Rattle.std.specs.Io.KnownBytes.{Consumes, IsAtEnd, Appends}
use Rattle.pp_outside.specs.declared.Failed.{Failed}
use Rattle.pp_outside.specs.declared.reading.ReadFault.{ReadFault}
use Rattle.pp_outside.specs.declared.reading.ReadFault.TheVariants as fault

-- one more on a counter that stays at its last value
abbrev pub counted : ℕ → ℕ
counted n = min (n + 1) (2 ^ 64 - 1)

-- a count of faults rose, or stands at its last value
abbrev pub Rose : ℕ → ℕ → Type 0
Rose before now = counted before ≤ now

-- the count never falls; a call that failed raised it, and one that succeeded left it as it was
pub record HasCause {T E : Type 0} (before now : ℕ) (result : Result T E) : Type 0 where
  pub later : before ≤ now
  pub failed : OnErr result (Rose before now)
  pub kept : OnOk result (now ≡ before)

-- a call that failed counted one fault, and one that succeeded none
abbrev pub CountsFaults : {T E : Type 0} → ℕ → ℕ → Result T E → Type 0
CountsFaults before now (Ok x) = now ≡ before
CountsFaults before now (Err e) = now ≡ counted before

-- ---- reading

-- Reads one after another, each offered at least so much room, that all succeeded.
pub data ReadOn {S : Type 0} (Reads : S → S → ℕ → Result ℕ Failed → Type 0) (room : ℕ) (old : S) : S → Type 0 where
  no_read : ReadOn Reads room old old
  next_read : (s t : S) (offered n : ℕ) → ReadOn Reads room old s → room ≤ offered → Reads s t offered (Ok n) → ReadOn Reads room old t

-- such reads, and then one that failed, the last
pub record ReadToFault {S : Type 0} (Reads : S → S → ℕ → Result ℕ Failed → Type 0) (room : ℕ) (old new : S) : Type 0 where
  pub last : S
  pub before : ReadOn Reads room old last
  pub offered : ℕ
  pub enough : room ≤ offered
  pub why : Failed
  pub failed : Reads last new offered (Err why)

-- the first read that fails ends a reading; all reads of a reading that ends otherwise succeed
abbrev pub ReadsTillFault : {T S : Type 0} → (S → S → ℕ → Result ℕ Failed → Type 0) → ℕ → S → S → Result T ReadFault → Type 0
ReadsTillFault Reads room old new (Ok x) = ReadOn Reads room old new
ReadsTillFault Reads room old new (Err fault.Failed) = ReadToFault Reads room old new
ReadsTillFault Reads room old new (Err fault.TooLong) = ReadOn Reads room old new
ReadsTillFault Reads room old new (Err fault.NoMemory) = ReadOn Reads room old new

-- these bytes were the source's, up to its end
pub record WasAll (old new : Option (List ℕ)) (bytes : List ℕ) : Type 0 where
  pub consumed : Consumes old new bytes
  pub end : IsAtEnd new

-- the source gave more bytes than this
pub record GaveMore (most : ℕ) (old new : Option (List ℕ)) : Type 0 where
  pub bytes : List ℕ
  pub consumed : Consumes old new bytes
  pub many : most < length bytes

-- the source gave no more bytes than this
pub record GaveAtMost (most : ℕ) (old new : Option (List ℕ)) : Type 0 where
  pub bytes : List ℕ
  pub consumed : Consumes old new bytes
  pub few : length bytes ≤ most

-- why a reading ended without the bytes
abbrev pub ReadCause : ℕ → Option (List ℕ) → Option (List ℕ) → ℕ → ℕ → ReadFault → Type 0
ReadCause most old new faults_old faults_new fault.Failed = Rose faults_old faults_new × GaveAtMost most old new
ReadCause most old new faults_old faults_new fault.TooLong = GaveMore most old new × (faults_new ≡ faults_old)
ReadCause most old new faults_old faults_new fault.NoMemory = faults_new ≡ faults_old

-- ---- writing

-- known bytes grew by a prefix of these
abbrev pub GrewByPrefix : Option (List ℕ) → Option (List ℕ) → List ℕ → Type 0
GrewByPrefix old new text = (front : List ℕ) × (more : List ℕ) × (text ≡ front ++ more) × Appends old new front

-- Writes one after another that all succeeded: from a sink to which all these bytes are to be written, to one to which the rest is.
-- Each offered a front of what was left then, such as `Offers` says of it and of the bytes behind it.
pub data WroteOn {K : Type 0} (Writes : K → K → List ℕ → Result ℕ Failed → Type 0) (Offers : List ℕ → List ℕ → Type 0)
    (old : K) (all : List ℕ) : K → List ℕ → Type 0 where
  no_write : WroteOn Writes Offers old all old all
  next_write : (s t : K) (rest front later : List ℕ) (n : ℕ) → WroteOn Writes Offers old all s rest → rest ≡ front ++ later
      → Offers front later → n ≤ length front → Writes s t front (Ok n) → WroteOn Writes Offers old all t (drop n rest)

-- such writes, and then one that failed, the last, which had offered this front
pub record WroteToFault {K : Type 0} (Writes : K → K → List ℕ → Result ℕ Failed → Type 0) (Offers : List ℕ → List ℕ → Type 0)
    (old : K) (all : List ℕ) (new : K) (front : List ℕ) : Type 0 where
  pub last : K
  pub later : List ℕ
  pub before : WroteOn Writes Offers old all last (front ++ later)
  pub offers : Offers front later
  pub why : Failed
  pub failed : Writes last new front (Err why)

-- the first write that fails ends a writing, and what it had offered is left; all writes of a writing that succeeds do
abbrev pub WritesTillFault : {K : Type 0} → (K → K → List ℕ → Result ℕ Failed → Type 0) → (List ℕ → List ℕ → Type 0)
    → K → List ℕ → K → List ℕ → Result (Unit {0}) Failed → Type 0
WritesTillFault Writes Offers old all new left (Ok u) = WroteOn Writes Offers old all new left
WritesTillFault Writes Offers old all new left (Err e) = WroteToFault Writes Offers old all new left

-- a write that offers all that is left
abbrev pub OffersAll : List ℕ → List ℕ → Type 0
OffersAll front later = later ≡ []
