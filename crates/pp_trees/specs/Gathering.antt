-- What a closed tree holds: its contents and its live records.
use Rattle.std.specs.Prelude.{◌≡◌, ◌≢◌, ◌⊎◌, ℕ, ◌+◌, ◌*◌, ◌<◌, ◌≤◌, cond, nat_eq, nat_lt, List, [], ◌∷◌, ◌++◌, length, Some}
use Rattle.pp_link.specs.declared.layout.Sizes.{Sizes}
use Rattle.pp_link.specs.Links.{target, flag_bit, leaf_bit}
use Rattle.pp_link.specs.Places.{total}
use Rattle.pp_model.specs.declared.Change.{Change}
use Rattle.pp_model.specs.declared.Pair.{Pair}
use Rattle.pp_model.specs.declared.Placed.{Placed}
use Rattle.pp_model.specs.History.{contents_of, Sound, Stands}
use Rattle.pp_model.specs.FiniteMap.{pair, find, KeysRise}
use Rattle.pp_rule.specs.Lists.{IsIn, Once}
use Rattle.pp_rule.specs.States.{RecordState, attached}
use Rattle.pp_trees.specs.Trees.{Heap, heap, side, edge, Meets, inf0, Sane, SearchTree}

-- the records of closed words; a walk sees no state of a record
abbrev pub closed : Sizes → List ℕ → Heap
closed z words = heap z words (λ n. attached)

-- the root's walk for its key ends at the leaf l, over an edge without FLAG
pub record LiveLeaf (t : Heap) (l : ℕ) : Type 0 where
  pub parent : ℕ
  pub meets : Meets t (t.key l) parent
  pub leaf : leaf_bit (edge t (t.key l) parent) ≡ 1
  pub plain : flag_bit (edge t (t.key l) parent) ≡ 0
  pub to : target (edge t (t.key l) parent) ≡ l

-- l and m are neighbours among these leaves, l the one with the smaller key
pub record Neighbours (t : Heap) (l m : ℕ) : Type 0 where
  pub low : LiveLeaf t l
  pub high : LiveLeaf t m
  pub rise : t.key l < t.key m
  pub none_between : (n : ℕ) → LiveLeaf t n → t.key l < t.key n → t.key n < t.key m → ⊥

-- n is the last internal record that the root's walks for j and k have in common: both come to it, and leave it by different
-- edges
pub record Parts (t : Heap) (j k n : ℕ) : Type 0 where
  pub first : Meets t j n
  pub second : Meets t k n
  pub apart : side j (t.key n) ≢ side k (t.key n)

-- it is so for the keys of two neighbours
pub record PartsTwo (t : Heap) (n : ℕ) : Type 0 where
  pub low : ℕ
  pub high : ℕ
  pub neighbours : Neighbours t low high
  pub parts : Parts t (t.key low) (t.key high) n

-- The live records are the leaves at the ends of the root's walks, without FLAG, and the internal records at which the walks to
-- two
-- neighbours among them part. The contents are the pairs of these leaves, by rising keys, sentinels left out.
pub record IsGathered (t : Heap) (contents : List Pair) (live : List ℕ) : Type 0 where
  pub live_is : (n : ℕ) → IsIn n live → LiveLeaf t n ⊎ PartsTwo t n
  pub leaves : (l : ℕ) → LiveLeaf t l → IsIn l live
  pub partings : (n : ℕ) → PartsTwo t n → IsIn n live
  pub once : Once live
  pub count : length live ≡ 2 * length contents + 5
  pub rise : KeysRise contents
  pub pairs_are : (k v : ℕ) → find contents k ≡ Some v → (l : ℕ) × (LiveLeaf t l × (t.key l ≡ k) × (t.value l ≡ v) × (k < inf0))
  pub pairs : (l : ℕ) → LiveLeaf t l → t.key l < inf0 → find contents (t.key l) ≡ Some (t.value l)

-- the words hold a tree
pub record HoldsTree (z : Sizes) (words : List ℕ) : Type 0 where
  pub state : ℕ → RecordState
  pub few : z.records ≤ 262144
  pub wide : length words ≡ total z
  pub sane : Sane z (heap z words state)
  pub tree : SearchTree z (heap z words state)

-- the pair of a leaf that is no sentinel, and those of a list of records
abbrev pub own_pairs : Heap → ℕ → List Pair
own_pairs t n = cond (nat_eq (target (t.link n 0)) 0) (cond (nat_lt (t.key n) inf0) (pair (t.key n) (t.value n) ∷ []) []) []

abbrev pub pairs_in : Heap → List ℕ → List Pair
pairs_in t [] = []
pairs_in t (n ∷ ns) = own_pairs t n ++ pairs_in t ns

-- a list of live records with one more leaf, and before it the record at which its walk parts from the one before, if there is
-- one
abbrev pub with_leaf : List ℕ → ℕ → ℕ → List ℕ
with_leaf live parting leaf = cond (nat_eq parting 0) (live ++ leaf ∷ []) ((live ++ parting ∷ []) ++ leaf ∷ [])

-- what the contents and the live numbers of the closed words of a tree are
abbrev pub TreeGathered : Sizes → List ℕ → List Pair → List ℕ → Type 0
TreeGathered z words contents live = IsGathered (closed z words) contents live

-- so many live numbers there are with so many pairs
abbrev pub live_in_tree : ℕ → ℕ
live_in_tree pairs = 2 * pairs + 5

-- the contents are the map that the log leaves, in which each change changed it
abbrev pub TreeTells : Sizes → List Change → List Pair → Type 0
TreeTells z log contents = Sound log × (contents ≡ contents_of log)

-- and the placed calls of a pass stand in it
abbrev pub TreeTellsPass : Sizes → List Change → ℕ → List Placed → Type 0
TreeTellsPass z log p placed = Stands log p placed
