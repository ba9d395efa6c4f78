-- A read from memory gives the front of what is left.
use Rattle.std.proofs.Common.{◌≡◌, ℕ, ◌+◌, ◌-◌, ◌<◌, ◌≤◌, List, [], ◌++◌, length, take, drop, sym, ap, ◌∙◌, arith}
use Rattle.std.specs.Prelude.{min}
use Rattle.std.proofs.lemmas.List.{take-append-drop, length-take-le, length-drop}
use Rattle.std.proofs.Math.ListN.{drop_of_length-le}
use lib.Seq.{take-append_seam}
use Rattle.std.proofs.lemmas.Grind.{common_steps}

-- the front of what is left, in front of what the buffer had, and what is left then
pub front_given : (items from copied into : List ℕ) (at count most : ℕ) → from ≡ items
    → copied ≡ take (at + count - at) (drop at from)
    → count ≡ min (min (length items - at) most) (length into) → at ≤ length items → 1 ≤ most → 0 < length into
    → (drop at items ≡ take count (copied ++ drop count into) ++ drop (at + count) items)
    × (count ≡ 0 → 0 < length (copied ++ drop count into) → drop (at + count) items ≡ [])
front_given items from copied into at count most all after is within some room =
    let width : at + count - at ≡ count = omega arith in
    let same : copied ≡ take count (drop at items) =
    after ∙ ap (λ n. take n (drop at from)) width ∙ ap (λ s. take count (drop at s)) all in
    let fits : count ≤ length (drop at items) = omega (arith, length-drop at items) in
    let size : length copied ≡ count = ap length same ∙ length-take-le count (drop at items) fits in
    let front : take count (copied ++ drop count into) ≡ copied =
    ap (λ n. take n (copied ++ drop count into)) (sym size) ∙ take-append_seam copied (drop count into) in
    let rest : drop count (drop at items) ≡ drop (at + count) items = grind (arith, common_steps) in (
      sym (take-append-drop count (drop at items)) ∙ ap (λ l. l ++ drop count (drop at items)) (sym same ∙ sym front)
          ∙ ap (λ l. take count (copied ++ drop count into) ++ l) rest,
      λ none some_room. drop_of_length-le items (omega arith),
    )
