-- Each attached record of a tree can be reached from the head.
use Rattle.std.proofs.Common.{⊎_elim, ℕ, List, sym, ap, ◌∙◌, arith}
use Rattle.pp_link.specs.declared.layout.Sizes.{Sizes}
use Rattle.pp_link.specs.Links.{target}
use Rattle.pp_model.specs.declared.Change.{Change}
use Rattle.pp_model.specs.declared.Placed.{Placed}
use Rattle.pp_rule.specs.Rule.{Base}
use Rattle.pp_rule.specs.Reached.{Reached, by_head, by_link, ReachesAll}
use Rattle.pp_trees.specs.declared.own.TreeOwn.{TreeOwn}
use Rattle.pp_trees.specs.Trees.{Heap, heap, side, HasChildren, HasNone, Meets, root, down}
use Rattle.pp_trees.specs.Searches.{TreeState, Trees}
use Rattle.pp_trees.proofs.Walking.{side_low, is_linked, meets_internal}
use Rattle.pp_trees.proofs.Heaps.{sane_of}

module _ (z : Sizes) (words : List ℕ) (g : TreeState) (b : Base 2 z words g) (tr : Trees z words g) where
  abbrev t : Heap
  t = heap z words g.status

  -- what the root's walk comes to
  meets_reached : (k n : ℕ) → Meets t k n → Reached 2 z words n
  meets_reached k n (root e) = by_head 0 (let one = b.within.some_heads in omega arith)
      (ap target (tr.tree.sentinels.head 0 (let one = b.within.some_heads in omega arith)) ∙ sym e)
  meets_reached k n (down {n = p} m inner to) = let i = meets_internal z t (sane_of z words g b) tr.tree k p m in
      by_link p (side k (t.key p)) i.number (side_low k (t.key p)) (sym to) (meets_reached k p m)

pub tree_reached : ReachesAll {E = Change} {A = Placed} {W = TreeOwn} 2 (λ z words g. Trees z words g)
tree_reached z words g n b tr number on = let t : Heap = heap z words g.status in ⊎_elim
    (λ (c : HasChildren t n). meets_reached z words g b tr (t.key n) n
    (tr.tree.internal_home n record { number = number; on = on; children = c }).1)
    (λ (none : HasNone t n). let h = tr.tree.leaf_home n record { number = number; on = on; none = none } in
    let i = meets_internal z t (sane_of z words g b) tr.tree (t.key n) h.parent h.meets in
    by_link h.parent (side (t.key n) (t.key h.parent)) i.number (side_low (t.key n) (t.key h.parent)) h.to
    (meets_reached z words g b tr (t.key n) h.parent h.meets))
    (tr.tree.sort n number (is_linked (g.status n) on))
