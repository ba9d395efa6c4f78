-- A pass that is alone on its pool, where no record that can be reached is removed.
use Rattle.std.specs.Prelude.{◌≡◌, ℕ, ◌<◌, true, List, slice_index_or}
use Rattle.pp_link.specs.declared.layout.Sizes.{Sizes}
use Rattle.pp_rule.specs.Orders.{replayed, entries_of}
use Rattle.pp_rule.specs.Opening.{opening_words}
use Rattle.pp_rule.specs.Reached.{Reached}
use Rattle.pp_rule.specs.Views.{slot}
use Rattle.pp_rule.specs.Alone.{HasSeen}
use Rattle.pp_trees.specs.Trees.{root_head}
use Rattle.pp_trees.specs.Sentinels.{sentinel_field}
use Rattle.pp_trees.specs.Searches.{Trees, caller_of}
use Rattle.pp_trees.specs.Edges.{TreeView}
use Rattle.pp_trees.specs.Clean.{IsBare}

abbrev pub tree_opens : Sizes → List ℕ
tree_opens = opening_words 5 root_head sentinel_field

-- the words that the order leaves that the pass has seen
abbrev pub words_of : Sizes → TreeView → List ℕ
words_of z v = replayed (tree_opens z) (entries_of v.order)

-- what a pass of this pool has seen
pub record Sees (z : Sizes) (v : TreeView) : Type 0 where
  pub sizes : v.known.sizes ≡ z
  pub low : v.known.number < z.passes
  pub seen : HasSeen 2 tree_opens (λ z words g. Trees z words g) caller_of v

-- It is alone, no edge that can be reached has FLAG, and each record that it holds can be reached.
pub record IsLone (z : Sizes) (v : TreeView) : Type 0 where
  pub one : z.passes ≡ 1
  pub bare : IsBare z (words_of z v)
  pub held : (j : ℕ) → j < 5 → (slot v.known j).held ≡ true → Reached 2 z (words_of z v) (slot v.known j).named

-- It is alone, and this word stands at this place.
pub record IsStanding (z : Sizes) (place word : ℕ) (v : TreeView) : Type 0 where
  pub one : z.passes ≡ 1
  pub stands : slice_index_or (words_of z v) place 0 ≡ word
