-- What FLAG and TAG keep and change.
use Rattle.std.proofs.Common.{◌≡◌, ◌≢◌, ◌⊎◌, inl, inr, ⊎_elim, ℕ, zero, suc, ◌-◌, ◌%◌, ◌<◌, ◌≤◌, List, Some}
use Rattle.std.proofs.Common.{sym, ap, ◌∙◌, subst, arith}
use Rattle.std.proofs.Math.Decide.{ℕ_discrete}
use mathlib.Core.Logic.{dite}
use Rattle.pp_link.specs.declared.layout.Sizes.{Sizes}
use Rattle.pp_link.specs.Links.{target, flag_bit, tag_bit, invalid_bit, leaf_bit}
use Rattle.pp_link.specs.Places.{IsNumber}
use Rattle.pp_model.specs.declared.Pair.{Pair}
use Rattle.pp_model.specs.FiniteMap.{find, drop_key}
use Rattle.pp_model.proofs.Maps.{RisesFrom-drop_key}
use Rattle.pp_rule.specs.States.{attached, IsLinked, IsFrozen, IsUsed}
use Rattle.pp_trees.specs.Trees.{Heap, side, across, edge, HasChildren, HasNone, Internal, Leaf, Meets, IsEdge, inf0}
use Rattle.pp_trees.specs.Trees.{Sane, SearchTree, Mapped, Marked}
use Rattle.pp_trees.proofs.Walking.{side_low, across_low, meets_internal, meets_same, child_on, home_edge, one_leaf}
use Rattle.pp_trees.proofs.Standing.{Onward}
use Rattle.pp_trees.proofs.Splicing.{linked_used, is_there}
use Rattle.pp_model.proofs.Finding.{find_drop, find_drop_else}

module _ (z : Sizes) (t t' : Heap) (p s w : ℕ) (sane : Sane z t) (tree : SearchTree z t) (d : Marked z t t' p s w) where
  new_at : (n r : ℕ) → (n ≡ p) × (r ≡ s) → t'.link n r ≡ w
  new_at n r e = ap (λ (x : ℕ). t'.link x r) e.0 ∙ (ap (t'.link p) e.1 ∙ d.wired.there)

  old_at : (n r : ℕ) → (n ≡ p) × (r ≡ s) → t.link n r ≡ t.link p s
  old_at n r e = ap (λ (x : ℕ). t.link x r) e.0 ∙ ap (t.link p) e.1

  -- each link has its target, its LEAF and its INVALID
  pub same_link : (n r : ℕ) → IsNumber z n → r < 2
      → (target (t'.link n r) ≡ target (t.link n r)) × (leaf_bit (t'.link n r) ≡ leaf_bit (t.link n r))
      × (invalid_bit (t'.link n r) ≡ invalid_bit (t.link n r))
  same_link n r number lt = ⊎_elim
      (λ (at : (n ≡ p) × (r ≡ s)). let new = new_at n r at in let old = old_at n r at in (
        ap target new ∙ (d.to ∙ sym (ap target old)),
        ap leaf_bit new ∙ (d.leaf ∙ sym (ap leaf_bit old)),
        ap invalid_bit new
            ∙ (d.valid ∙ sym (ap invalid_bit old)),
      ))
      (λ (ne : (n ≡ p) × (r ≡ s) → ⊥). let same = d.wired.links n r number lt ne in
      (ap target same, ap leaf_bit same, ap invalid_bit same))
      (is_there n r p s)

  pub children_on : (n : ℕ) → IsNumber z n → HasChildren t n → HasChildren t' n
  children_on n number c r lt e = c r lt (sym (same_link n r number lt).0 ∙ e)

  none_on : (n : ℕ) → IsNumber z n → HasNone t n → HasNone t' n
  none_on n number c r lt = (same_link n r number lt).0 ∙ c r lt

  pub internal_was : (n : ℕ) → Internal z t' n → Internal z t n
  internal_was n i = record {
    number = i.number;
    on = sym (d.states n) ∙ i.on;
    children = λ r lt e. i.children r lt
        ((same_link n r i.number lt).0 ∙ e);
  }

  leaf_was : (n : ℕ) → Leaf z t' n → Leaf z t n
  leaf_was n i = record {
    number = i.number;
    on = sym (d.states n) ∙ i.on;
    none = λ r lt. sym (same_link n r i.number lt).0
        ∙ i.none r lt;
  }

  edge_was : (b n r : ℕ) → IsNumber z n → r < 2 → IsEdge (t'.link n r) b → IsEdge (t.link n r) b
  edge_was b n r number lt e = let same = same_link n r number lt in (
    sym same.2 ∙ e.0,
    sym same.1 ∙ e.1,
    λ nil. e.2 (same.0
        ∙ nil),
  )

  meets_on : (k n : ℕ) → Meets t k n → Meets t' k n
  meets_on k n m = meets_same z t sane tree t' (λ x i. d.wired.keys x i.number)
      (λ x r i lt inner. let same = same_link x r i.number lt in (same.1 ∙ inner, same.0)) k n m

  edge_on : (k n : ℕ) → IsNumber z n → (target (edge t' k n) ≡ target (edge t k n))
      × (leaf_bit (edge t' k n) ≡ leaf_bit (edge t k n))
  edge_on k n number = let at = ap (λ (x : ℕ). t'.link n (side k x)) (d.wired.keys n number) in
      let same = same_link n (side k (t.key n)) number (side_low k (t.key n)) in
      (ap target at ∙ same.0, ap leaf_bit at ∙ same.1)

  is_attached : (n r : ℕ) → (n ≡ p) × (r ≡ s) → Internal z t n → t.state p ≡ attached
  is_attached n r at i = ap t.state (sym at.0) ∙ i.on

  child_key : (n r : ℕ) → Internal z t n → r < 2 → t'.key (target (t'.link n r)) ≡ t.key (target (t.link n r))
  child_key n r i lt = ap t'.key (same_link n r i.number lt).0 ∙ d.wired.keys (target (t.link n r))
      (child_on z t sane tree n r i lt).0

  fixed : (n r c : ℕ) → 1 ≤ n → n ≤ 5 → r < 2 → t.link n r ≡ c → ((n ≡ p) × (r ≡ s) → ⊥) → t'.link n r ≡ c
  fixed n r c some few lt is ne = let many = sane.records in d.wired.links n r (some, omega arith) lt ne ∙ is

  low_number : (n : ℕ) → 1 ≤ n → n ≤ 5 → IsNumber z n
  low_number n some few = let many = sane.records in (some, omega arith)

  key_on : (n c : ℕ) → 1 ≤ n → n ≤ 5 → t.key n ≡ c → t'.key n ≡ c
  key_on n c some few is = d.wired.keys n (low_number n some few) ∙ is

  -- the edges between and into sentinels aren't marked
  pub tree_marked : ((p ≡ 1) → ⊥) → ((p ≡ 2) × (s ≡ 1) → ⊥) → SearchTree z t'
  tree_marked not_root not_s = record {
    sentinels = let was = tree.sentinels in record {
      head = λ h lt. d.wired.head h lt ∙ was.head h lt;
      on = λ n some few. d.states n ∙ was.on n some few;
      keys = (
        key_on 1 _ (omega arith) (omega arith) was.keys.0,
        key_on 2 _ (omega arith) (omega arith) was.keys.1,
        key_on 3 _ (omega arith) (omega arith) was.keys.2,
        key_on 4 _ (omega arith) (omega arith) was.keys.3,
        key_on 5 _
            (omega arith) (omega arith) was.keys.4,
      );
      left_of_root = fixed 1 0 32 (omega arith) (omega arith) (omega arith) was.left_of_root (λ at. not_root (sym at.0));
      right_of_root = fixed 1 1 88 (omega arith) (omega arith) (omega arith) was.right_of_root (λ at. not_root (sym at.0));
      right_of_s = fixed 2 1 72 (omega arith) (omega arith) (omega arith) was.right_of_s (λ at. not_s (sym at.0, sym at.1));
      leaf3 = none_on 3 (low_number 3 (omega arith) (omega arith)) was.leaf3;
    };
    sort = λ n number l. ⊎_elim (λ (c : HasChildren t n). inl (children_on n number c)) (λ (c : HasNone t n). inr
        (none_on n number c))
        (tree.sort n number (subst IsLinked (d.states n) l));
    to_leaf = λ n r number l lt e. let was = edge_was 1 n r number lt e in let l' = subst IsLinked (d.states n) l in
        let x = sane.used n r number lt (linked_used (t.state n) l') was.0 was.2 in
        subst (HasNone t') (sym (same_link n r number lt).0) (none_on (target (t.link n r)) x.0
        (tree.to_leaf n r number l' lt was));
    to_internal = λ n r number l lt e. let was = edge_was 0 n r number lt e in let l' = subst IsLinked (d.states n) l in
        let x = sane.used n r number lt (linked_used (t.state n) l') was.0 was.2 in
        subst (HasChildren t') (sym (same_link n r number lt).0) (children_on (target (t.link n r)) x.0
        (tree.to_internal n r number l' lt was));
    bare = λ n r leaf lt. ⊎_elim
        (λ (at : (n ≡ p) × (r ≡ s)). absurd (d.children s d.low (sym (ap target (old_at n r at)) ∙ (leaf_was n leaf).none r lt)))
        (λ (ne : (n ≡ p) × (r ≡ s) → ⊥). d.wired.links n r leaf.number lt ne
        ∙ tree.bare n r (leaf_was n leaf) lt) (is_there n r p s);
    rooted = λ n r i lt e. tree.rooted n r (internal_was n i) lt (sym (same_link n r i.number lt).0 ∙ e);
    once = λ n r m q i lr j lq e. tree.once n r m q (internal_was n i) lr (internal_was m j) lq (sym
        (same_link n r i.number lr).0 ∙ (e ∙ (same_link m q j.number lq).0));
    flagged = λ n r i lt flag. let was = internal_was n i in ⊎_elim
        (λ (at : (n ≡ p) × (r ≡ s)). let new = new_at n r at in let f = d.flags (is_attached n r at was) (sym
        (ap flag_bit new) ∙ flag) in (
          ap leaf_bit new ∙ f.0,
          subst (λ (x : ℕ). x < inf0) (sym (child_key n r was lt
              ∙ (ap (λ (x : ℕ). t.key (target x)) (old_at n r at) ∙ ap t.key (sym d.to)))) f.1,
        ))
        (λ (ne : (n ≡ p) × (r ≡ s) → ⊥). let same = d.wired.links n r i.number lt ne in
        let f = tree.flagged n r was lt (sym (ap flag_bit same) ∙ flag) in
        (ap leaf_bit same ∙ f.0, subst (λ (x : ℕ). x < inf0) (sym (child_key n r was lt)) f.1)) (is_there n r p s);
    tagged = λ n r i lt tag. let was = internal_was n i in ⊎_elim
        (λ (at : (n ≡ p) × (r ≡ s)). let flag = d.tags (is_attached n r at was) (sym (ap tag_bit (new_at n r at)) ∙ tag) in
        let same : t'.link n (across r) ≡ t.link n (across r) = d.wired.links n (across r) i.number (across_low r)
        (λ b. across_apart' r (b.1 ∙ sym at.1)) in
        ap flag_bit same ∙ (ap (λ (x : ℕ). flag_bit (t.link x (across r))) at.0
        ∙ (ap (λ (x : ℕ). flag_bit (t.link p (across x))) at.1 ∙ flag)))
        (λ (ne : (n ≡ p) × (r ≡ s) → ⊥). let flag = tree.tagged n r was lt (sym (ap tag_bit
        (d.wired.links n r i.number lt ne)) ∙ tag) in ⊎_elim
        (λ (at : (n ≡ p) × (across r ≡ s)). ap flag_bit (new_at n (across r) at)
        ∙ d.still (sym (ap flag_bit (old_at n (across r) at)) ∙ flag))
        (λ (ne' : (n ≡ p) × (across r ≡ s) → ⊥). ap flag_bit (d.wired.links n (across r) i.number (across_low r) ne') ∙ flag)
        (is_there n (across r) p s))
        (is_there n r p s);
    unflagged = λ n r number u lt e. let was = tree.unflagged n r number (subst IsUsed (d.states n) u) lt
        (edge_was 0 n r number lt e) in ⊎_elim
        (λ (at : (n ≡ p) × (r ≡ s)). let new = new_at n r at in ap flag_bit new ∙ (d.inner (sym (ap leaf_bit new) ∙ e.1)
        ∙ (sym (ap flag_bit (old_at n r at)) ∙ was)))
        (λ (ne : (n ≡ p) × (r ≡ s) → ⊥). ap flag_bit (d.wired.links n r number lt ne) ∙ was) (is_there n r p s);
    frozen = λ n r number l off c lt. let f = tree.frozen n r number (subst IsLinked (d.states n) l) (λ e. off (d.states n ∙ e))
        (λ q low e. c q low ((same_link n q number low).0 ∙ e)) lt in ⊎_elim
        (λ (at : (n ≡ p) × (r ≡ s)). subst IsFrozen (sym (new_at n r at)) (frozen_still (subst IsFrozen (old_at n r at) f)))
        (λ (ne : (n ≡ p) × (r ≡ s) → ⊥). subst IsFrozen (sym (d.wired.links n r number lt ne)) f) (is_there n r p s);
    leaf_home = λ n leaf. let b = tree.leaf_home n (leaf_was n leaf) in let key = d.wired.keys n leaf.number in
        let number = (meets_internal z t sane tree (t.key n) b.parent b.meets).number in
        let on = edge_on (t.key n) b.parent number in record {
          parent = b.parent;
          meets = subst (λ (k : ℕ). Meets t' k b.parent) (sym key) (meets_on (t.key n) b.parent b.meets);
          leaf = ap (λ (k : ℕ). leaf_bit (edge t' k b.parent)) key ∙ (on.1 ∙ b.leaf);
          to = ap (λ (k : ℕ). target (edge t' k b.parent)) key ∙ (on.0 ∙ b.to);
        };
    internal_home = λ n i. let was = internal_was n i in let h = tree.internal_home n was in
        subst (λ (k : ℕ). (1 ≤ k) × Meets t' k n × Meets t' (k - 1) n) (sym (d.wired.keys n i.number)) (
          h.0,
          meets_on
              (t.key n) n h.1,
          meets_on (t.key n - 1) n h.2,
        );
  }
    where
      frozen_still : IsFrozen (t.link p s) → IsFrozen w
      frozen_still f e = dite (ℕ_discrete (flag_bit (t.link p s)) 1) (λ on. let now = d.still on in omega arith)
          (λ off. dite (ℕ_discrete (tag_bit (t.link p s)) 1) (λ on. f (ap (λ (x : ℕ). x % 4) (sym (d.fixed on))
          ∙ e)) (λ off'. f (omega arith)))

      across_apart' : (r : ℕ) → across r ≢ r
      across_apart' zero e = omega arith
      across_apart' (suc r) e = omega arith

  -- where FLAG stays too, the contents stay
  pub mapped_tagged : flag_bit w ≡ flag_bit (t.link p s) → (m : List Pair) → Mapped z t m → Mapped z t' m
  mapped_tagged plain m map = record {
    sorted = map.sorted;
    pairs = λ n r i lt leaf off low. let was = internal_was n i in let key = child_key n r was lt in
        let same = same_link n r i.number lt in
        let value : t'.value (target (t'.link n r)) ≡ t.value (target (t.link n r)) = ap t'.value same.0
        ∙ d.wired.values (target (t.link n r)) (child_on z t sane tree n r was lt).0 in
        ap (find m) key ∙ (map.pairs n r was lt (sym same.1 ∙ leaf) (sym (flag_same n r i.number lt)
        ∙ off) (subst (λ (k : ℕ). k < inf0) key low) ∙ ap Some (sym value));
    records = λ k v is. let r = map.records k v is in let i = meets_internal z t sane tree k r.parent r.meets in
        let on = edge_on k r.parent i.number in record {
          parent = r.parent;
          meets = meets_on k r.parent r.meets;
          leaf = on.1 ∙ r.leaf;
          plain = ap (λ (x : ℕ). flag_bit (t'.link r.parent (side k x))) (d.wired.keys r.parent i.number)
              ∙ (flag_same r.parent (side k (t.key r.parent)) i.number (side_low k (t.key r.parent)) ∙ r.plain);
          key = ap t'.key on.0 ∙ (d.wired.keys (target (edge t k r.parent)) (child_on z t sane tree r.parent (side k
              (t.key r.parent)) i (side_low k (t.key r.parent))).0 ∙ r.key);
          low = r.low;
        };
  }
    where
      flag_same : (n r : ℕ) → IsNumber z n → r < 2 → flag_bit (t'.link n r) ≡ flag_bit (t.link n r)
      flag_same n r number lt = ⊎_elim
          (λ (at : (n ≡ p) × (r ≡ s)). ap flag_bit (new_at n r at) ∙ (plain ∙ sym (ap flag_bit (old_at n r at))))
          (λ (ne : (n ≡ p) × (r ≡ s) → ⊥). ap flag_bit (d.wired.links n r number lt ne)) (is_there n r p s)

  -- where the edge of a leaf got FLAG, its pair is gone
  pub mapped_flagged : Internal z t p → leaf_bit (t.link p s) ≡ 1 → flag_bit w ≡ 1 → (m : List Pair) → Mapped z t m
      → Mapped z t' (drop_key m (t.key (target (t.link p s))))
  mapped_flagged parent leaf_at flag m map = let gone : ℕ = t.key (target (t.link p s)) in record {
    sorted = RisesFrom-drop_key m 0 gone map.sorted;
    pairs = λ n r i lt leaf off low. let was = internal_was n i in let key = child_key n r was lt in
        let same = same_link n r i.number lt in
        let value : t'.value (target (t'.link n r)) ≡ t.value (target (t.link n r)) = ap t'.value same.0
        ∙ d.wired.values (target (t.link n r)) (child_on z t sane tree n r was lt).0 in
        let ne : (n ≡ p) × (r ≡ s) → ⊥ = λ at. let on : flag_bit (t'.link n r) ≡ 1 = ap flag_bit (new_at n r at)
        ∙ flag in omega arith in
        let leaf' : leaf_bit (t.link n r) ≡ 1 = sym same.1 ∙ leaf in
        let other : t.key (target (t.link n r)) ≢ gone = λ e. let h = home_edge z t sane tree p s parent d.low leaf_at in
        let one = one_leaf z t sane tree gone p n r h.0 (ap (λ (x : ℕ). leaf_bit (t.link p x)) h.1 ∙ leaf_at) was lt leaf' e in
        ne (one.0, one.1 ∙ h.1) in
        ap (find (drop_key m gone)) key ∙ (find_drop_else m gone (t.key (target (t.link n r))) other
        ∙ (map.pairs n r was lt leaf' (sym (ap flag_bit (d.wired.links n r i.number lt ne))
        ∙ off) (subst (λ (k : ℕ). k < inf0) key low) ∙ ap Some (sym value)));
    records = λ k v is. let apart : k ≢ gone = λ e. let none = find_drop 0 m gone map.sorted in
        let some : find (drop_key m gone) gone ≡ Some v = ap (find (drop_key m gone)) (sym e) ∙ is in absurd cc in
        let r = map.records k v (sym (find_drop_else m gone k apart) ∙ is) in
        let i = meets_internal z t sane tree k r.parent r.meets in let on = edge_on k r.parent i.number in
        let ne : (r.parent ≡ p) × (side k (t.key r.parent) ≡ s) → ⊥ = λ at. apart (sym r.key
        ∙ ap (λ (x : ℕ). t.key (target x)) (old_at r.parent (side k (t.key r.parent)) at)) in record {
          parent = r.parent;
          meets = meets_on k r.parent r.meets;
          leaf = on.1 ∙ r.leaf;
          plain = ap (λ (x : ℕ). flag_bit (t'.link r.parent (side k x))) (d.wired.keys r.parent i.number)
              ∙ (ap flag_bit (d.wired.links r.parent (side k (t.key r.parent)) i.number (side_low k (t.key r.parent)) ne)
              ∙ r.plain);
          key = ap t'.key on.0 ∙ (d.wired.keys (target (edge t k r.parent)) (child_on z t sane tree r.parent (side k
              (t.key r.parent)) i (side_low k (t.key r.parent))).0 ∙ r.key);
          low = r.low;
        };
  }

  pub onward_marked : (flag_bit w ≡ flag_bit (t.link p s)) ⊎ (t.state p ≡ attached) → Onward z t t'
  onward_marked which = record {
    ways = λ n r number used used' lt valid. let same = same_link n r number lt in ⊎_elim
        (λ (at : (n ≡ p) × (r ≡ s)). ⊎_elim
        (λ (flag : flag_bit w ≡ flag_bit (t.link p s)). inl record {
          valid = sym same.2 ∙ valid;
          to = same.0;
          leaf = same.1;
          flag = ap flag_bit (new_at n r at) ∙ (flag ∙ sym (ap flag_bit (old_at n r at)));
        })
        (λ (on : t.state p ≡ attached). inr (
          subst (Internal z t)
              (sym at.0) record { number = d.number; on = on; children = d.children },
          d.states n ∙ (ap t.state at.0 ∙ on),
        ))
        which)
        (λ (ne : (n ≡ p) × (r ≡ s) → ⊥). inl record {
          valid = sym same.2
              ∙ valid;
          to = same.0;
          leaf = same.1;
          flag = ap flag_bit (d.wired.links n r number lt ne);
        })
        (is_there n r p s);
    keys = λ n number used used'. d.wired.keys n number;
    values = λ n number used used'. d.wired.values n number;
    meets = λ k n m on. meets_on k n m;
    was = λ n used on. sym (d.states n) ∙ on;
    children = λ n r number used used' lt some e. some (sym (same_link n r number lt).0 ∙ e);
  }
