-- What the rule of the present words says of the record where a call stands, for a pass that is alone on its pool, where no record that
-- can be reached is removed.
use Rattle.std.proofs.Common.{◌≡◌, ◌≢◌, ℕ, ◌+◌, ◌<◌, List, get_or, refl, sym, ap, ◌∙◌, subst, arith}
use Rattle.pp_link.specs.declared.layout.Sizes.{Sizes}
use Rattle.pp_link.specs.Links.{target, flag_bit, tag_bit, invalid_bit, leaf_bit}
use Rattle.pp_link.specs.Places.{cell_place}
use Rattle.pp_link.specs.Words.{cell_word}
use Rattle.pp_rule.specs.States.{RecordState, attached}
use Rattle.pp_rule.specs.Rule.{Base}
use Rattle.pp_rule.specs.Reached.{Reached, SameReached}
use Rattle.pp_rule.proofs.Lone.{field_is}
use Rattle.pp_rule.proofs.Undisturbed.{reached_back}
use Rattle.pp_trees.specs.Trees.{Heap, heap, side, Internal, Meets, root, down, Sane, SearchTree}
use Rattle.pp_trees.specs.Searches.{TreeState, Trees}
use Rattle.pp_trees.specs.Gathering.{closed}
use Rattle.pp_trees.specs.Edges.{TreeView}
use Rattle.pp_trees.specs.Lone.{words_of as seen_words, Sees, IsLone}
use Rattle.pp_trees.proofs.Heaps.{sane_of}
use Rattle.pp_trees.proofs.Reaching.{tree_reached}
use Rattle.pp_trees.proofs.Walking.{side_low, meets_internal, meets_same}
pub use Rattle.pp_trees.proofs.Lone.{run_of, state_at, state_less, sane_at, held_at, reached_at, reached_internal, stands_reached}
pub use Rattle.pp_trees.proofs.Lone.{stands_at}
use Rattle.pp_trees.proofs.Lone as trees

pub cell_is : (z : Sizes) (words : List ℕ) (n f : ℕ) → get_or words (cell_place z n f) 0 ≡ cell_word words z n f
cell_is z words n f = field_is z words n f

-- a walk sees no state of a record
pub meets_state : (z : Sizes) (words : List ℕ) (state state' : ℕ → RecordState) (k n : ℕ) → Meets (heap z words state) k n
    → Meets (heap z words state') k n
meets_state z words state state' k n (root e) = root e
meets_state z words state state' k n (down {n = p} m inner to) = down (meets_state z words state state' k p m) inner to

module _ (z : Sizes) (t : Heap) (sane : Sane z t) (tree : SearchTree z t) where
  -- a walk that comes to the record behind an edge came over that edge
  pub meets_up : (x n s : ℕ) → Internal z t n → s < 2 → Meets t x (target (t.link n s)) → Meets t x n × (side x (t.key n) ≡ s)
  meets_up x n s i low m = by (target (t.link n s)) refl m
    where
      by : (m : ℕ) → m ≡ target (t.link n s) → Meets t x m → Meets t x n × (side x (t.key n) ≡ s)
      by m to (root is) = absurd (tree.rooted n s i low (sym to ∙ is))
      by m to (down {n = p} above inner there) =
          let one = tree.once p (side x (t.key p)) n s (meets_internal z t sane tree x p above) (side_low x (t.key p)) i low
          (sym there ∙ to) in
          (subst (Meets t x) one.0 above, ap (λ (r : ℕ). side x (t.key r)) (sym one.0) ∙ one.1)

  -- no edge leads to the record that it leaves
  pub no_loop : (n s : ℕ) → Internal z t n → s < 2 → target (t.link n s) ≢ n
  no_loop n s i low loop = by n refl (tree.internal_home n i).1
    where
      by : (m : ℕ) → m ≡ n → Meets t (t.key n) m → ⊥
      by m e (root is) = tree.rooted n s i low (loop ∙ (sym e ∙ is))
      by m e (down {n = p} above inner to) =
          let one = tree.once p (side (t.key n) (t.key p)) n s (meets_internal z t sane tree (t.key n) p above)
          (side_low (t.key n) (t.key p)) i low (sym to ∙ (e ∙ sym loop)) in by p one.0 above

module _ (z : Sizes) (v : TreeView) (s : Sees z v) where
  -- no edge has a bit but LEAF
  pub edge_plain : (g : TreeState) → Base 2 z (seen_words z v) g → Trees z (seen_words z v) g → g.of v.known.number ≡ v.known
      → IsLone z v → (n r : ℕ) → Internal z (heap z (seen_words z v) g.status) n → r < 2
      → (flag_bit (cell_word (seen_words z v) z n (2 + r)) ≡ 0) × (tag_bit (cell_word (seen_words z v) z n (2 + r)) ≡ 0)
      × (invalid_bit (cell_word (seen_words z v) z n (2 + r)) ≡ 0)
  edge_plain g b tr is lone n r i low = trees.edge_plain z v s g b tr is lone.bare n r i low

  -- The root's walks come where they came before, if the words of what can be reached are as they were.
  pub meets_then : z.passes ≡ 1 → (words : List ℕ) → SameReached 2 z words (seen_words z v) → (g : TreeState)
      → Base 2 z (seen_words z v) g → Trees z (seen_words z v) g → (k n : ℕ) → Meets (closed z (seen_words z v)) k n
      → Meets (closed z words) k n
  meets_then one words same g b tr k n m = let t : Heap = heap z (seen_words z v) g.status in
      meets_same z t (sane_of z (seen_words z v) g b) tr.tree (closed z words)
      (λ n i. sym (same.cells n 0 i.number (omega arith) (was n i)))
      (λ n r i low inner. let e = same.cells n (2 + r) i.number (omega arith) (was n i) in
      (ap leaf_bit (sym e) ∙ inner, ap target (sym e)))
      k n (meets_state z (seen_words z v) (λ n. attached) g.status k n m)
    where
      was : (n : ℕ) → Internal z (heap z (seen_words z v) g.status) n → Reached 2 z words n
      was n i = reached_back 2 z words (seen_words z v) same (omega arith) n
          (tree_reached z (seen_words z v) g n b tr i.number i.on)
