-- The bytes that a source gave which tells its bytes.
use Rattle.std.proofs.Common.{◌≡◌, ℕ, ◌≤◌, List, length, refl, ap, arith, length-append}
use Rattle.std.specs.Prelude.{Option, Some, None}
use Rattle.std.specs.Io.KnownBytes.{Consumes}
use Rattle.std.proofs.KnownBytes.{Consumes-whole}
use Rattle.pp_outside.specs.Outside.{WasAll}

pub gave_all : (old new : Option (List ℕ)) (own bytes : List ℕ) → old ≡ Some own → WasAll old new bytes → own ≡ bytes
gave_all old new own bytes tells all =
    rw tells at (Consumes-whole old new bytes (λ l. l ≡ bytes) all.consumed all.end refl)

pub gave_part : (old new : Option (List ℕ)) (own bytes : List ℕ) → old ≡ Some own → Consumes old new bytes → length bytes ≤ length own
gave_part None new own bytes tells gave = absurd cc
gave_part (Some xs) None own bytes tells gave = absurd gave
gave_part (Some xs) (Some ys) own bytes tells gave =
    let same : xs ≡ own = cc in
    omega (arith, length-append bytes ys, ap length gave, ap length same)
