-- What a closed tree tells: its contents are the map that the log leaves.
use Rattle.std.proofs.Common.{◌≡◌, ℕ, ◌<◌, List}
use Rattle.std.proofs.Common.{Some, refl, sym, ap, ◌∙◌, subst, arith}
use Rattle.std.proofs.Math.Decide.{ℕ_discrete}
use mathlib.Core.Logic.{dite}
use Rattle.pp_link.specs.declared.layout.Sizes.{Sizes}
use Rattle.pp_link.specs.Links.{target, flag_bit, leaf_bit}
use Rattle.pp_model.specs.declared.Change.{Change}
use Rattle.pp_model.specs.declared.Placed.{Placed}
use Rattle.pp_model.specs.declared.Pair.{Pair}
use Rattle.pp_model.specs.FiniteMap.{find}
use Rattle.pp_model.specs.History.{contents_of}
use Rattle.pp_rule.specs.Lists.{times}
use Rattle.pp_rule.specs.Closing.{Gathers}
use Rattle.pp_rule.specs.Laws.{Closes}
use Rattle.pp_rule.specs.Orders.{log_of}
use Rattle.pp_rule.specs.States.{attached}
use Rattle.pp_rule.proofs.Occurrences.{in_times, once_times}
use Rattle.pp_trees.specs.Trees.{Heap, heap, side, edge, Meets, inf0, Sane, SearchTree, Stored, Mapped}
use Rattle.pp_trees.specs.Searches.{TreeOwn, Trees}
use Rattle.pp_trees.specs.Gathering.{LiveLeaf, IsGathered, TreeGathered, live_in_tree, TreeTells, TreeTellsPass}
use Rattle.pp_trees.proofs.Walking.{meets_internal, side_low}
use Rattle.pp_trees.proofs.Heaps.{sane_of}
use Rattle.pp_trees.proofs.Rising.{same_finds, some_same}
use Rattle.pp_trees.proofs.Gathers.{gathered_still, live_number}

module _ (z : Sizes) (t : Heap) (sane : Sane z t) (tree : SearchTree z t) where
  -- the value of a live leaf is that of its key in the map
  in_map : (m : List Pair) → Mapped z t m → (l : ℕ) → LiveLeaf t l → t.key l < inf0 → find m (t.key l) ≡ Some (t.value l)
  in_map m map l live low = let p = live.parent in let s : ℕ = side (t.key l) (t.key p) in
      subst (λ (x : ℕ). find m (t.key x) ≡ Some (t.value x)) live.to
      (map.pairs p s (meets_internal z t sane tree (t.key l) p live.meets) (side_low (t.key l) (t.key p)) live.leaf live.plain
      (subst (λ (x : ℕ). t.key x < inf0) (sym live.to) low))

  -- and each key of the map has a live leaf
  from_map : (k : ℕ) → Stored t k → (l : ℕ) × (LiveLeaf t l × (t.key l ≡ k) × (k < inf0))
  from_map k s = let here = subst At (sym s.key) (s.meets, s.leaf, s.plain, refl) in (
    target (edge t k s.parent),
    (
      record { parent = s.parent; meets = here.0; leaf = here.1; plain = here.2; to = here.3 },
      s.key,
      s.low,
    ),
  )
    where
      At : ℕ → Type 0
      At j = Meets t j s.parent × (leaf_bit (edge t j s.parent) ≡ 1) × (flag_bit (edge t j s.parent) ≡ 0)
          × (target (edge t j s.parent) ≡ target (edge t k s.parent))

  pub contents_are : (contents : List Pair) (live : List ℕ) (m : List Pair) → IsGathered t contents live → Mapped z t m
      → contents ≡ m
  contents_are contents live m g map = same_finds contents m 0 0 g.rise map.sorted
      (λ k v e. let x = g.pairs_are k v e in subst (λ (j : ℕ). find m j ≡ Some v) x.1.1
      (in_map m map x.0 x.1.0 (subst (λ (j : ℕ). j < inf0) (sym x.1.1) x.1.3) ∙ ap (λ (u : ℕ). Some u) x.1.2))
      (λ k v e. let x = from_map k (map.records k v e) in let low : t.key x.0 < inf0 = subst (λ (j : ℕ). j < inf0)
      (sym x.1.1) x.1.2 in
      let same : t.value x.0 ≡ v = some_same (t.value x.0) v (sym (in_map m map x.0 x.1.0 low) ∙ (ap (find m) x.1.1 ∙ e)) in
      sym (ap (find contents) x.1.1) ∙ (g.pairs x.0 x.1.0 low ∙ ap (λ (u : ℕ). Some u) same))

  pub numbers_are : (contents : List Pair) (live : List ℕ) → IsGathered t contents live → Gathers z live
  numbers_are contents live g = record {
    once = λ n. once_times n live g.once;
    low = let one = once_times 0 live g.once in dite (ℕ_discrete (times 0 live) 0) (λ e. e)
        (λ ne. let number = live_number z t sane tree 0 (g.live_is 0 (in_times 0 live (omega arith))) in
        let low = number.0 in absurd (omega arith));
    high = λ n more. dite (ℕ_discrete (times n live) 0) (λ e. e)
        (λ ne. let number = live_number z t sane tree n (g.live_is n (in_times n live (omega arith))) in
        let high = number.1 in absurd (omega arith));
  }

pub tree_gathers : Closes {E = Change} {A = Placed} {W = TreeOwn} 2
    (λ z words g. Trees z words g) TreeGathered live_in_tree TreeTells TreeTellsPass
tree_gathers z words g contents live b trees is = let t : Heap = heap z words g.status in let sane = sane_of z words g b in
    let own = gathered_still z words (λ n. attached) g.status contents live is in (
      numbers_are z t sane trees.tree contents live own,
      is.count,
      (trees.sound, contents_are z t sane trees.tree contents live (contents_of (log_of g.order)) own trees.mapped),
      λ p low. (trees.each p low).stands,
    )
