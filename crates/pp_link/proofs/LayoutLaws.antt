-- Different words of a table have different places, all below the total, and each place is a word's.
use Rattle.std.proofs.Common.{◌≡◌, ℕ, ◌+◌, ◌*◌, ◌-◌, ◌/◌, ◌%◌, ◌<◌, ◌≤◌, ⊎_elim, refl, arith, ap, ap₂}
use Rattle.std.proofs.lemmas.Bool.{cases_lt}
use Rattle.pp_link.specs.declared.layout.Sizes.{Sizes}
use Rattle.pp_link.specs.Places.{IsLayout, Word, seat, walk, frontier, shelf, head, cell, IsWordOf, place_of, total}

below : (z : Sizes) (w : Word) → IsWordOf z w → place_of z w < total z
below z seat is = omega arith
below z (walk p i) is = omega arith
below z (frontier p j) is = omega arith
below z (shelf j) is = omega arith
below z (head h) is = omega arith
below z (cell n f) is = omega arith

distinct : (z : Sizes) (v w : Word) → IsWordOf z v → IsWordOf z w → place_of z v ≡ place_of z w → v ≡ w
distinct z seat seat a b e = refl
distinct z seat (walk p i) a b e = absurd (omega arith)
distinct z seat (frontier p i) a b e = absurd (omega arith)
distinct z seat (shelf i) a b e = absurd (omega arith)
distinct z seat (head i) a b e = absurd (omega arith)
distinct z seat (cell n f) a b e = absurd (omega arith)
distinct z (walk p i) seat a b e = absurd (omega arith)
distinct z (walk p i) (walk q j) a b e = ap₂ walk (omega arith) (omega arith)
distinct z (walk p i) (frontier q j) a b e = absurd (omega arith)
distinct z (walk p i) (shelf j) a b e = absurd (omega arith)
distinct z (walk p i) (head j) a b e = absurd (omega arith)
distinct z (walk p i) (cell n f) a b e = absurd (omega arith)
distinct z (frontier p i) seat a b e = absurd (omega arith)
distinct z (frontier p i) (walk q j) a b e = absurd (omega arith)
distinct z (frontier p i) (frontier q j) a b e = ap₂ frontier (omega arith) (omega arith)
distinct z (frontier p i) (shelf j) a b e = absurd (omega arith)
distinct z (frontier p i) (head j) a b e = absurd (omega arith)
distinct z (frontier p i) (cell n f) a b e = absurd (omega arith)
distinct z (shelf i) seat a b e = absurd (omega arith)
distinct z (shelf i) (walk q j) a b e = absurd (omega arith)
distinct z (shelf i) (frontier q j) a b e = absurd (omega arith)
distinct z (shelf i) (shelf j) a b e = ap shelf (omega arith)
distinct z (shelf i) (head j) a b e = absurd (omega arith)
distinct z (shelf i) (cell n f) a b e = absurd (omega arith)
distinct z (head i) seat a b e = absurd (omega arith)
distinct z (head i) (walk q j) a b e = absurd (omega arith)
distinct z (head i) (frontier q j) a b e = absurd (omega arith)
distinct z (head i) (shelf j) a b e = absurd (omega arith)
distinct z (head i) (head j) a b e = ap head (omega arith)
distinct z (head i) (cell n f) a b e = absurd (omega arith)
distinct z (cell n f) seat a b e = absurd (omega arith)
distinct z (cell n f) (walk q j) a b e = absurd (omega arith)
distinct z (cell n f) (frontier q j) a b e = absurd (omega arith)
distinct z (cell n f) (shelf j) a b e = absurd (omega arith)
distinct z (cell n f) (head j) a b e = absurd (omega arith)
distinct z (cell n f) (cell m g) a b e = ap₂ cell (omega arith) (omega arith)

-- a place below the total is found by the region that it falls in
each : (z : Sizes) (place : ℕ) → place < total z → (w : Word) × IsWordOf z w × (place_of z w ≡ place)
each z place low = ⊎_elim
    (λ (none : place < 1). (seat, tt, omega arith))
    (λ (some : 1 ≤ place). ⊎_elim
    (λ (early : place < 1 + 5 * z.passes). (walk ((place - 1) / 5) ((place - 1) % 5), (omega arith, omega arith), omega arith))
    (λ (past : 1 + 5 * z.passes ≤ place). ⊎_elim
    (λ (early : place < 1 + 9 * z.passes). (
      frontier ((place - 1 - 5 * z.passes) / 4) ((place - 1 - 5 * z.passes) % 4),
      (omega arith, omega arith),
      omega arith,
    ))
    (λ (later : 1 + 9 * z.passes ≤ place). ⊎_elim
    (λ (early : place < 1 + 17 * z.passes). (shelf (place - 1 - 9 * z.passes), omega arith, omega arith))
    (λ (above : 1 + 17 * z.passes ≤ place). ⊎_elim
    (λ (early : place < 1 + 17 * z.passes + z.heads). (head (place - 1 - 17 * z.passes), omega arith, omega arith))
    (λ (last : 1 + 17 * z.passes + z.heads ≤ place).
    let at : ℕ = place - 1 - 17 * z.passes - z.heads in
    (cell (at / 5 + 1) (at % 5), ((omega arith, omega arith), omega arith), omega arith))
    (cases_lt place (1 + 17 * z.passes + z.heads)))
    (cases_lt place (1 + 17 * z.passes)))
    (cases_lt place (1 + 9 * z.passes)))
    (cases_lt place (1 + 5 * z.passes)))
    (cases_lt place 1)

pub is_layout : (z : Sizes) → IsLayout z
is_layout z = record { below = below z; distinct = distinct z; each = each z }
