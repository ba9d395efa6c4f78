-- What a printer's calls do to its buffer and to the sink.
use Rattle.std.specs.Prelude.{◌≡◌, ℕ, ◌+◌, ◌≤◌, Bool, List, ◌++◌, length, drop, Option, Result, Ok, Err, IsOk, is_err}
use Rattle.std.specs.Io.KnownBytes.{Appends}
use Rattle.pp_outside.specs.Outside.{HasCause, WritesTillFault}
use Rattle.pp_outside.specs.declared.Failed.{Failed}

-- a printer as its callers see it: the bytes that wait in its buffer, and whether a write of it has failed
pub record Waiting : Type 0 where
  pub waits : List ℕ
  pub failed : Bool

-- what was written, followed by what waits, grew by exactly this text
pub record Prints (old new : Option (List ℕ)) (waited waits text : List ℕ) : Type 0 where
  pub front : List ℕ
  pub written : Appends old new front
  pub same : front ++ waits ≡ waited ++ text

-- what was written, followed by what waits, grew by a prefix of this text
pub record Broke (old new : Option (List ℕ)) (waited waits text : List ℕ) : Type 0 where
  pub front : List ℕ
  pub rest : List ℕ
  pub written : Appends old new front
  pub same : front ++ (waits ++ rest) ≡ waited ++ text

abbrev pub Printing : Option (List ℕ) → Option (List ℕ) → List ℕ → List ℕ → List ℕ → Result (Unit {0}) Failed → Type 0
Printing old new waited waits text (Ok u) = Prints old new waited waits text
Printing old new waited waits text (Err e) = Broke old new waited waits text

-- the sink is as it was, and the text waits behind what waited
pub record Waits {K : Type 0} (old new : K) (waited waits text : List ℕ) (result : Result (Unit {0}) Failed) : Type 0 where
  pub untouched : new ≡ old
  pub behind : waits ≡ waited ++ text
  pub ok : IsOk result

-- a write that offers a full buffer, which is all that waits then
abbrev pub OffersFull : List ℕ → List ℕ → Type 0
OffersFull front later = length front ≡ 65536

-- one write, which offered all that waited; what the sink took waits no more
abbrev pub WritesOnce : {K : Type 0} → (K → K → List ℕ → Result ℕ Failed → Type 0) → K → List ℕ → K → List ℕ
    → Result (Unit {0}) Failed → Type 0
WritesOnce Writes old waited new waits (Ok u) =
    (n : ℕ) × (n ≤ length waited) × Writes old new waited (Ok n) × (waits ≡ drop n waited)
WritesOnce Writes old waited new waits (Err e) = (why : Failed) × Writes old new waited (Err why) × (waits ≡ waited)

-- A call printed this text through the buffer: it wrote only where the buffer was full, each write offered all that waited, the
-- first that failed was the last, and the call failed only there.
pub record Puts {K : Type 0} (written : K → Option (List ℕ)) (faults : K → ℕ) (Writes : K → K → List ℕ → Result ℕ Failed → Type 0)
    (old new : K) (was is : Waiting) (text : List ℕ) (result : Result (Unit {0}) Failed) : Type 0 where
  pub printed : Printing (written old) (written new) was.waits is.waits text result
  pub cause : HasCause (faults old) (faults new) result
  pub fits : length was.waits + length text ≤ 65536 → Waits old new was.waits is.waits text result
  pub writes : WritesTillFault Writes OffersFull old (was.waits ++ text) new is.waits result
  pub failed : is.failed ≡ is_err result
