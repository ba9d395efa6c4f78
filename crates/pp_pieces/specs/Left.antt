-- The pieces that nobody owns.
use Rattle.std.specs.Prelude.{◌≡◌, ℕ, ◌+◌, ◌<◌, ◌||◌, Bool, false, cond, nat_eq, List, [], ◌∷◌, length, get_or}

-- whether a number is among these
abbrev pub has : ℕ → List ℕ → Bool
has n [] = false
has n (m ∷ ns) = nat_eq m n || has n ns

-- these pieces were marked too
pub record Marked (old new : List Bool) (ns : List ℕ) : Type 0 where
  pub long : length new ≡ length old
  pub each : (n : ℕ) → n < length old → get_or new n false ≡ (get_or old n false || has n ns)

-- the numbers of those that aren't marked, in a list whose first one is that of `low`
abbrev pub left : ℕ → List Bool → List ℕ
left low [] = []
left low (taken ∷ more) = cond taken (left (low + 1) more) (low ∷ left (low + 1) more)
