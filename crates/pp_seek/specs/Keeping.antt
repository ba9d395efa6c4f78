-- What a pass keeps of its walk words.
use Rattle.std.specs.Prelude.{◌≡◌, ◌≢◌, ◌⊎◌, ℕ, ◌<◌, ◌≤◌}
use Rattle.pp_rule.specs.Views.{slot}
use Rattle.pp_trees.specs.Searches.{forget_word}
use Rattle.pp_trees.specs.Edges.{TreeView}
use Rattle.pp_seek.specs.declared.keeping.Words.{Words}
use Rattle.pp_seek.specs.Trails.{Clears, IsEmpty, SameCall}

abbrev pub IsOf : Words → ℕ → Type 0
IsOf w j = (j ≡ w.first) ⊎ ((j ≡ w.second) ⊎ (j ≡ w.third))

-- The walk word i is empty, unless it is one of these. All others are as they were.
pub record KeepsAt (w : Words) (i : ℕ) (before now : TreeView) : Type 0 where
  pub emptied : (IsOf w i → ⊥) → IsEmpty (slot now.known i)
  pub kept : IsOf w i → now.known ≡ before.known
  pub others : (j : ℕ) → j ≢ i → slot now.known j ≡ slot before.known j
  pub own : (now.known.own ≡ before.known.own) ⊎ ((IsOf w i → ⊥) × (now.known.own ≡ forget_word i before.known.own))
  pub cleared : Clears before now

-- So it is of all walk words below n.
pub record KeepsOnly (w : Words) (n : ℕ) (before now : TreeView) : Type 0 where
  pub emptied : (j : ℕ) → j < n → (IsOf w j → ⊥) → IsEmpty (slot now.known j)
  pub kept : (j : ℕ) → IsOf w j → slot now.known j ≡ slot before.known j
  pub later : (j : ℕ) → n ≤ j → slot now.known j ≡ slot before.known j
  pub call : SameCall before.known.own now.known.own
  -- where the words that the tree's part names are kept, that part is as it was
  pub own : IsOf w before.known.own.at → (before.known.own.top < 5 → IsOf w before.known.own.top)
      → now.known.own ≡ before.known.own
  pub cleared : Clears before now
