-- What stands of a tree between the turns of a removal of a pass that is alone on its pool: one edge that can be reached has FLAG.
use Rattle.std.specs.Prelude.{◌≡◌, ℕ, ◌+◌, ◌<◌, true, List}
use Rattle.pp_link.specs.declared.layout.Sizes.{Sizes}
use Rattle.pp_link.specs.declared.link.Link.{Link}
use Rattle.pp_link.specs.Links.{flag_bit, target, word_of}
use Rattle.pp_link.specs.Places.{IsNumber}
use Rattle.pp_link.specs.Words.{cell_word}
use Rattle.pp_rule.specs.Reached.{Reached}
use Rattle.pp_rule.specs.Views.{slot}
use Rattle.pp_base.specs.declared.source.Side.{Side}
use Rattle.pp_base.specs.Sources.{side_number, source_place}
use Rattle.pp_trees.specs.Trees.{across}
use Rattle.pp_trees.specs.Searches.{TreePass}
use Rattle.pp_trees.specs.TaggedPaths.{Taken}
use Rattle.pp_trees.specs.Edges.{TreeView}
use Rattle.pp_trees.specs.Lone.{words_of, IsStanding}
use Rattle.pp_seek.specs.declared.seek.Sought.{Sought}

-- the record where the call stands
abbrev pub parent_of : TreePass → ℕ
parent_of q = (slot q q.own.at).named

-- No edge that can be reached has FLAG, but for that of the record m at this side.
abbrev pub IsBareBut : Sizes → ℕ → ℕ → List ℕ → Type 0
IsBareBut z m side words = (n r : ℕ) → IsNumber z n → r < 2 → Reached 2 z words n → ((n ≡ m) × (r ≡ side) → ⊥)
    → flag_bit (cell_word words z n (2 + r)) ≡ 0

-- The pass is alone. But for the edge of the parent at the other side no edge has FLAG, and the ancestor's edge leads to the parent.
pub record LoneFlagged (z : Sizes) (s : Sought) (side : Side) (v : TreeView) : Type 0 where
  pub one : z.passes ≡ 1
  pub but : IsBareBut z (parent_of v.known) (across (side_number side)) (words_of z v)
  pub held : (j : ℕ) → j < 5 → (slot v.known j).held ≡ true → Reached 2 z (words_of z v) (slot v.known j).named
  pub leads : target (word_of s.successor) ≡ parent_of v.known
  pub above : IsStanding z (source_place z v.known s.ancestor s.ancestor_side) (word_of s.successor) v

-- The parent's edge at this side has TAG and was this link before, without FLAG. The parent is on the path that is to be taken out.
pub record LoneTagged (z : Sizes) (s : Sought) (side : Side) (sibling : Link) (v : TreeView) : Type 0 where
  pub one : z.passes ≡ 1
  pub but : IsBareBut z (parent_of v.known) (across (side_number side)) (words_of z v)
  pub held : (j : ℕ) → j < 5 → (slot v.known j).held ≡ true → Reached 2 z (words_of z v) (slot v.known j).named
  pub leads : target (word_of s.successor) ≡ parent_of v.known
  pub above : IsStanding z (source_place z v.known s.ancestor s.ancestor_side) (word_of s.successor) v
  pub plain : flag_bit (word_of sibling) ≡ 0
  pub beside : Reached 2 z (words_of z v) (target (word_of sibling))
  pub path : Taken v.known.own.path (parent_of v.known)
