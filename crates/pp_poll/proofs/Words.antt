-- The first word, and the others.
use Rattle.std.proofs.Common.{◌≡◌, ℕ, ◌≤◌, true, false, cond, List, [], ◌∷◌, length, map, drop, get_or}
use Rattle.std.proofs.Common.{refl, ap, arith}
use Rattle.std.specs.Prelude.{codes}
use Rattle.std.specs.Str.{bytes_eq}
use Rattle.pp_poll.specs.Certificates.{asks_places, setting_words}

module _ {A : Type 0} (text : A → List ℕ) where
  pub asks_none : (words : List A) → length words ≡ 0 → asks_places (map text words) ≡ false
  asks_none [] none = refl
  asks_none (w ∷ words) none = absurd (omega (arith, none))

  pub asks_first : (words : List A) (d : A) → 1 ≤ length words
      → asks_places (map text words) ≡ bytes_eq (text (get_or words 0 d)) (codes "places")
  asks_first [] d some = absurd (omega (arith, some))
  asks_first (w ∷ words) d some = refl

  pub others : (words : List A) → asks_places (map text words) ≡ true → setting_words (map text words) ≡ map text (drop 1 words)
  others [] asked = absurd cc
  others (w ∷ words) asked = ap (λ b. cond b (map text words) (text w ∷ map text words)) asked

  pub all_words : (words : List A) → asks_places (map text words) ≡ false → setting_words (map text words) ≡ map text words
  all_words [] asked = refl
  all_words (w ∷ words) asked = ap (λ b. cond b (map text words) (text w ∷ map text words)) asked
