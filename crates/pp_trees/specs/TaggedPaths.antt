-- The tagged path that a splice takes away, with the flagged leaves beside it.
use Rattle.std.specs.Prelude.{◌≡◌, ◌⊎◌, ℕ, ◌+◌, ◌*◌, ◌<◌, cond, nat_eq, List, [], ◌∷◌, ◌++◌}
use Rattle.pp_link.specs.declared.layout.Sizes.{Sizes}
use Rattle.pp_link.specs.Links.{target, flag_bit, tag_bit, invalid_bit, leaf_bit}
use Rattle.pp_link.specs.Places.{IsNumber}
pub use Rattle.pp_trees.specs.declared.own.Passed.{Passed}
use Rattle.pp_rule.specs.Lists.{IsIn}
use Rattle.pp_rule.specs.declared.views.Chain.{Chain}
use Rattle.pp_rule.specs.declared.views.ChainLink.{ChainLink}
use Rattle.pp_rule.specs.Paths.{links_of}
use Rattle.pp_rule.specs.States.{attached}
use Rattle.pp_trees.specs.Trees.{Heap, across, Internal}

-- The path begins with the record to which the word `first` leads, and its last edge is the word `last`.
abbrev pub Joined : ℕ → List Passed → ℕ → Type 0
Joined first [] last = first ≡ last
Joined first (c ∷ cs) last = (c.number ≡ target first) × (tag_bit c.word ≡ 1) × Joined c.word cs last

-- it is attached, and has the tagged edge
pub record IsPassed (z : Sizes) (t : Heap) (c : Passed) : Type 0 where
  pub number : IsNumber z c.number
  pub on : t.state c.number ≡ attached
  pub low : c.side < 2
  pub edge : t.link c.number c.side ≡ c.word
  pub beside : target (t.link c.number (across c.side)) ≡ c.leaf

abbrev pub Intact : Sizes → Heap → List Passed → Type 0
Intact z t cs = (c : Passed) → IsIn c cs → IsPassed z t c

-- n is a record of the path, or a leaf beside it
abbrev pub Taken : List Passed → ℕ → Type 0
Taken cs n = (c : Passed) × (IsIn c cs × ((n ≡ c.number) ⊎ (n ≡ c.leaf)))

-- What a splice at the edge (a, s) of the path is to know: the edge has no bit, and the new word is the last one without TAG.
pub record MaySplice (z : Sizes) (t : Heap) (a s w : ℕ) (cs : List Passed) : Type 0 where
  pub ancestor : Internal z t a
  pub low : s < 2
  pub plain : (flag_bit (t.link a s) ≡ 0) × (tag_bit (t.link a s) ≡ 0)
  pub last : ℕ
  pub tagged : tag_bit last ≡ 1
  pub joined : Joined (t.link a s) cs last
  pub intact : Intact z t cs
  pub new_is : (target w ≡ target last) × (leaf_bit w ≡ leaf_bit last) × (flag_bit w ≡ flag_bit last) × (tag_bit w ≡ 0)
      × (invalid_bit w ≡ 0)

-- The chain of a tagged path: its records in the order in which its links lead, from the left link of the first on. A leaf's
-- links are
-- nil.
abbrev pub own_links : Passed → List ChainLink
own_links c = cond (nat_eq c.side 0)
    (record { number = c.number; side = 0; word = c.word } ∷ record { number = c.number; side = 1; word = 16 * c.leaf + 9 } ∷ [])
    (record { number = c.number; side = 0; word = 16 * c.leaf + 9 } ∷ record { number = c.number; side = 1; word = c.word } ∷ [])

abbrev pub leaf_links : ℕ → List ChainLink
leaf_links l = record { number = l; side = 0; word = 0 } ∷ record { number = l; side = 1; word = 0 } ∷ []

unfoldable pub records_below : Passed → List Passed → List ℕ
records_below c [] = c.leaf ∷ []
records_below c (d ∷ cs) = cond (nat_eq c.side 0) (d.number ∷ c.leaf ∷ []) (c.leaf ∷ d.number ∷ []) ++ records_below d cs

unfoldable pub links_below : Passed → List Passed → List ChainLink
links_below c [] = leaf_links c.leaf
links_below c (d ∷ cs) = cond (nat_eq c.side 0) (own_links d ++ leaf_links c.leaf)
    (leaf_links c.leaf ++ own_links d) ++ links_below d cs

unfoldable pub path_records : List Passed → List ℕ
path_records [] = []
path_records (c ∷ cs) = c.number ∷ records_below c cs

unfoldable pub path_links : List Passed → List ChainLink
path_links [] = []
path_links (c ∷ cs) = own_links c ++ links_below c cs

abbrev pub path_chain : List Passed → ℕ → ℕ → Chain
path_chain cs guard frontier = record {
  records = path_records cs;
  guard = guard;
  frontier = frontier;
  links = path_links cs;
  valid = links_of 2 (path_records cs);
}
