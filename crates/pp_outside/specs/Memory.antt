-- What contracts see of a source or a sink in memory, and what one call of it does.
use Rattle.std.specs.Prelude.{◌≡◌, ℕ, min, List, ◌++◌, length, take, drop, Contains, Result, Ok, Err}
use Rattle.pp_outside.specs.declared.Failed.{Failed}
use Rattle.pp_outside.specs.Outside.{counted}

-- its bytes, the most that a call moves, the numbers of the calls that fail, the calls and the faults so far
pub record Memory : Type 0 where
  pub bytes : List ℕ
  pub most : ℕ
  pub failing : List ℕ
  pub calls : ℕ
  pub faults : ℕ

-- the number of the next call is one of those that fail
abbrev pub FailsNext : Memory → Type 0
FailsNext m = Contains m.failing (counted m.calls)

-- a read with so much room gives the next bytes, as many as it may, and fails exactly at its numbers
abbrev pub MemoryRead : Memory → Memory → ℕ → Result ℕ Failed → Type 0
MemoryRead old new room (Ok n) =
    (FailsNext old → ⊥) × (n ≡ min (min (length old.bytes) old.most) room)
    × (new ≡ record old { bytes = drop n old.bytes; calls = counted old.calls })
MemoryRead old new room (Err e) = FailsNext old × (new ≡ record old { calls = counted old.calls; faults = counted old.faults })

-- a write takes the first bytes, as many as it may, and doesn't succeed at the numbers that fail
abbrev pub MemoryWrite : Memory → Memory → List ℕ → Result ℕ Failed → Type 0
MemoryWrite old new offered (Ok n) =
    (FailsNext old → ⊥) × (n ≡ min (length offered) old.most)
    × (new ≡ record old { bytes = old.bytes ++ take n offered; calls = counted old.calls })
MemoryWrite old new offered (Err e) = new ≡ record old { calls = counted old.calls; faults = counted old.faults }
