-- A line that is told.
use Rattle.std.specs.Prelude.{◌≡◌, ◌⊎◌, ℕ, List, [], Option, Result}
use Rattle.std.specs.Io.KnownBytes.{Appends}
use Rattle.pp_outside.specs.Outside.{Rose, GrewByPrefix, WroteOn, WroteToFault, OffersAll}
use Rattle.pp_outside.specs.declared.Failed.{Failed}

-- a line was told whole, by writes that all succeeded and that each offered all that was left of it
pub record IsToldWhole {E : Type 0} (written : E → Option (List ℕ)) (faults : E → ℕ) (Writes : E → E → List ℕ → Result ℕ Failed → Type 0)
    (old new : E) (line : List ℕ) : Type 0 where
  pub written_is : Appends (written old) (written new) line
  pub kept : faults new ≡ faults old
  pub writes : WroteOn Writes OffersAll old line new []

-- a prefix of a line was told, up to the first write that failed, which ended its writing
pub record IsToldPart {E : Type 0} (written : E → Option (List ℕ)) (faults : E → ℕ) (Writes : E → E → List ℕ → Result ℕ Failed → Type 0)
    (old new : E) (line : List ℕ) : Type 0 where
  pub written_is : GrewByPrefix (written old) (written new) line
  pub rose : Rose (faults old) (faults new)
  pub rest : List ℕ
  pub writes : WroteToFault Writes OffersAll old line new rest

-- the line was told, or a failure cut it off
abbrev pub IsTold : {E : Type 0} → (E → Option (List ℕ)) → (E → ℕ) → (E → E → List ℕ → Result ℕ Failed → Type 0) → E → E → List ℕ → Type 0
IsTold written faults Writes old new line =
    IsToldWhole written faults Writes old new line ⊎ IsToldPart written faults Writes old new line
