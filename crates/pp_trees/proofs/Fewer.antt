-- What a step keeps that a shape can't see, or that sets INVALID in a record in hand.
use Rattle.std.proofs.Common.{◌≡◌, inl, inr, ⊎_elim, ℕ, ◌-◌, ◌<◌, ◌≤◌, List, Some}
use Rattle.std.proofs.Common.{sym, ap, ◌∙◌, subst, arith}
use Rattle.pp_link.specs.declared.layout.Sizes.{Sizes}
use Rattle.pp_link.specs.Links.{target, flag_bit, tag_bit, invalid_bit, leaf_bit}
use Rattle.pp_link.specs.Places.{IsNumber}
use Rattle.pp_model.specs.declared.Pair.{Pair}
use Rattle.pp_model.specs.FiniteMap.{find}
use Rattle.pp_rule.specs.States.{attached, IsUsed, IsLinked}
use Rattle.pp_trees.specs.Trees.{Heap, side, across, edge, HasChildren, HasNone, Internal, Leaf, Meets, IsEdge, inf0}
use Rattle.pp_trees.specs.Trees.{Sane, SearchTree, Mapped, Fewer}
use Rattle.pp_trees.proofs.Walking.{side_low, across_low, is_linked, is_used, meets_internal, meets_same, child_on}
use Rattle.pp_trees.proofs.Standing.{Onward}
use Rattle.pp_trees.proofs.Splicing.{linked_used}

module _ (z : Sizes) (t t' : Heap) (sane : Sane z t) (sane' : Sane z t') (tree : SearchTree z t) (d : Fewer z t t') where
  pub attached_was : (n : ℕ) → t'.state n ≡ attached → t.state n ≡ attached
  attached_was n on = sym (d.linked_was n (is_linked (t'.state n) on)) ∙ on

  linked_back : (n : ℕ) → IsLinked (t'.state n) → IsLinked (t.state n)
  linked_back n l = subst IsLinked (d.linked_was n l) l

  same_link : (n r : ℕ) → IsNumber z n → t'.state n ≡ attached → r < 2 → t'.link n r ≡ t.link n r
  same_link n r number on lt = d.valid n r number (is_used (t'.state n) on) lt (sane'.leads n r number lt on).valid

  pub children_on : (n : ℕ) → IsNumber z n → IsUsed (t'.state n) → HasChildren t n → HasChildren t' n
  children_on n number u f r lt e = f r lt (sym (d.rest n r number u lt).0 ∙ e)

  none_on : (n : ℕ) → IsNumber z n → IsUsed (t'.state n) → HasNone t n → HasNone t' n
  none_on n number u f r lt = (d.rest n r number u lt).0 ∙ f r lt

  pub internal_was : (n : ℕ) → Internal z t' n → Internal z t n
  internal_was n i = record {
    number = i.number;
    on = attached_was n i.on;
    children = λ r lt e. i.children r lt ((d.rest n r i.number (is_used (t'.state n) i.on) lt).0 ∙ e);
  }

  leaf_was : (n : ℕ) → Leaf z t' n → Leaf z t n
  leaf_was n i = record {
    number = i.number;
    on = attached_was n i.on;
    none = λ r lt. sym (d.rest n r i.number (is_used (t'.state n) i.on) lt).0 ∙ i.none r lt;
  }

  pub link_on : (n r : ℕ) → Internal z t n → r < 2 → t'.link n r ≡ t.link n r
  link_on n r i lt = same_link n r i.number (d.attached_on n i.on) lt

  key_on : (n : ℕ) → IsNumber z n → t.state n ≡ attached → t'.key n ≡ t.key n
  key_on n number on = d.keys n number (is_used (t'.state n) (d.attached_on n on))

  meets_on : (k n : ℕ) → Meets t k n → Meets t' k n
  meets_on k n m = meets_same z t sane tree t' (λ x i. key_on x i.number i.on)
      (λ x r i lt inner. let same = link_on x r i lt in (ap leaf_bit same ∙ inner, ap target same)) k n m

  edge_on : (k n : ℕ) → Internal z t n → edge t' k n ≡ edge t k n
  edge_on k n i = ap (λ (x : ℕ). t'.link n (side k x)) (key_on n i.number i.on)
      ∙ link_on n (side k (t.key n)) i (side_low k (t.key n))

  low_key : (n x : ℕ) → 1 ≤ n → n ≤ 5 → t.key n ≡ x → t'.key n ≡ x
  low_key n x some few is = let many = sane.records in key_on n (some, omega arith) (tree.sentinels.on n some few) ∙ is

  low_link : (n r x : ℕ) → 1 ≤ n → n ≤ 5 → r < 2 → t.link n r ≡ x → t'.link n r ≡ x
  low_link n r x some few lt is = let many = sane.records in same_link n r (some, omega arith) (d.attached_on n
      (tree.sentinels.on n some few)) lt ∙ is

  leads_on : (P : ℕ → Type 0) (b n r : ℕ) → IsNumber z n → IsLinked (t'.state n) → r < 2 → IsEdge (t'.link n r) b
      → (IsLinked (t.state n) → IsEdge (t.link n r) b → IsNumber z (target (t.link n r))
      → IsUsed (t'.state (target (t.link n r))) → P (target (t.link n r)))
      → P (target (t'.link n r))
  leads_on P b n r number l lt e then = let u = linked_used (t'.state n) l in let same = d.valid n r number u lt e.0 in
      let to = sane'.used n r number lt u e.0 e.2 in
      subst (λ (x : ℕ). P (target x)) (sym same) (then (linked_back n l) (subst (λ (x : ℕ). IsEdge x b) same e)
      (subst (λ (x : ℕ). IsNumber z (target x)) same to.0) (subst (λ (x : ℕ). IsUsed (t'.state (target x))) same to.1))

  pub tree_fewer : SearchTree z t'
  tree_fewer = record {
    sentinels = let was = tree.sentinels in record {
      head = λ h lt. d.heads h lt ∙ was.head h lt;
      on = λ n some few. d.attached_on n (was.on n some few);
      keys = (
        low_key 1 _ (omega arith) (omega arith) was.keys.0,
        low_key 2 _ (omega arith) (omega arith) was.keys.1,
        low_key 3 _ (omega arith) (omega arith) was.keys.2,
        low_key 4 _ (omega arith) (omega arith) was.keys.3,
        low_key 5 _
            (omega arith) (omega arith) was.keys.4,
      );
      left_of_root = low_link 1 0 32 (omega arith) (omega arith) (omega arith) was.left_of_root;
      right_of_root = low_link 1 1 88 (omega arith) (omega arith) (omega arith) was.right_of_root;
      right_of_s = low_link 2 1 72 (omega arith) (omega arith) (omega arith) was.right_of_s;
      leaf3 = let many = sane.records in none_on 3 (omega arith, omega arith) (is_used (t'.state 3) (d.attached_on 3 (was.on 3
          (omega arith) (omega arith)))) was.leaf3;
    };
    sort = λ n number l. let u = linked_used (t'.state n) l in ⊎_elim (λ (f : HasChildren t n). inl (children_on n number u f))
        (λ (f : HasNone t n). inr (none_on n number u f)) (tree.sort n number (linked_back n l));
    to_leaf = λ n r number l lt e. leads_on (HasNone t') 1 n r number l lt e (λ l' e' num u. none_on (target
        (t.link n r)) num u (tree.to_leaf n r number l' lt e'));
    to_internal = λ n r number l lt e. leads_on (HasChildren t') 0 n r number l lt e
        (λ l' e' num u. children_on (target (t.link n r)) num u (tree.to_internal n r number l' lt e'));
    bare = λ n r leaf lt. same_link n r leaf.number leaf.on lt ∙ tree.bare n r (leaf_was n leaf) lt;
    rooted = λ n r i lt e. tree.rooted n r (internal_was n i) lt (sym (ap target (same_link n r i.number i.on lt)) ∙ e);
    once = λ n r m q i lr j lq e. tree.once n r m q (internal_was n i) lr (internal_was m j) lq
        (sym (ap target (same_link n r i.number i.on lr)) ∙ (e ∙ ap target (same_link m q j.number j.on lq)));
    flagged = λ n r i lt flag. let was = internal_was n i in let same = same_link n r i.number i.on lt in
        let f = tree.flagged n r was lt (sym (ap flag_bit same) ∙ flag) in
        let child = child_on z t sane tree n r was lt in (
          ap leaf_bit same ∙ f.0,
          subst (λ (x : ℕ). x < inf0) (sym (ap (λ (x : ℕ). t'.key (target x)) same
              ∙ key_on (target (t.link n r)) child.0 child.1)) f.1,
        );
    tagged = λ n r i lt tag. let was = internal_was n i in ap flag_bit (same_link n (across r) i.number i.on (across_low r))
        ∙ tree.tagged n r was lt (sym (ap tag_bit (same_link n r i.number i.on lt)) ∙ tag);
    unflagged = λ n r number u lt e. let same = d.valid n r number u lt e.0 in
        ap flag_bit same ∙ tree.unflagged n r number (d.used_was n u) lt (subst (λ (w : ℕ). IsEdge w 0) same e);
    frozen = λ n r number l off c lt. let u = linked_used (t'.state n) l in
        let f = tree.frozen n r number (linked_back n l) (λ e. off (d.linked_was n l ∙ e))
        (λ q low e. c q low ((d.rest n q number u low).0 ∙ e)) lt in λ e. f (sym (d.rest n r number u lt).1 ∙ e);
    leaf_home = λ n leaf. let was = leaf_was n leaf in let b = tree.leaf_home n was in let key = key_on n leaf.number was.on in
        let i = meets_internal z t sane tree (t.key n) b.parent b.meets in let same = edge_on (t.key n) b.parent i in record {
          parent = b.parent;
          meets = subst (λ (x : ℕ). Meets t' x b.parent) (sym key) (meets_on (t.key n) b.parent b.meets);
          leaf = ap (λ (x : ℕ). leaf_bit (edge t' x b.parent)) key ∙ (ap leaf_bit same ∙ b.leaf);
          to = ap (λ (x : ℕ). target (edge t' x b.parent)) key ∙ (ap target same ∙ b.to);
        };
    internal_home = λ n i. let was = internal_was n i in let h = tree.internal_home n was in
        subst (λ (x : ℕ). (1 ≤ x) × Meets t' x n × Meets t' (x - 1) n) (sym (key_on n i.number was.on)) (
          h.0,
          meets_on
              (t.key n) n h.1,
          meets_on (t.key n - 1) n h.2,
        );
  }

  pub mapped_fewer : (m : List Pair) → Mapped z t m → Mapped z t' m
  mapped_fewer m map = record {
    sorted = map.sorted;
    pairs = λ n r i lt leaf plain low. let was = internal_was n i in let same = same_link n r i.number i.on lt in
        let child = child_on z t sane tree n r was lt in
        let x : ℕ = target (t.link n r) in let u = is_used (t'.state x) (d.attached_on x child.1) in
        let key : t'.key (target (t'.link n r)) ≡ t.key x = ap (λ (y : ℕ). t'.key (target y)) same ∙ d.keys x child.0 u in
        let value : t'.value (target (t'.link n r)) ≡ t.value x = ap (λ (y : ℕ). t'.value (target y)) same
        ∙ d.values x child.0 u in
        ap (find m) key ∙ (map.pairs n r was lt (sym (ap leaf_bit same) ∙ leaf) (sym (ap flag_bit same)
        ∙ plain) (subst (λ (y : ℕ). y < inf0) key low) ∙ ap Some (sym value));
    records = λ k v is. let r = map.records k v is in let i = meets_internal z t sane tree k r.parent r.meets in
        let same = edge_on k r.parent i in
        let child = child_on z t sane tree r.parent (side k (t.key r.parent)) i (side_low k (t.key r.parent)) in record {
          parent = r.parent;
          meets = meets_on k r.parent r.meets;
          leaf = ap leaf_bit same ∙ r.leaf;
          plain = ap flag_bit same ∙ r.plain;
          key = ap (λ (y : ℕ). t'.key (target y)) same ∙ (key_on (target (edge t k r.parent)) child.0 child.1 ∙ r.key);
          low = r.low;
        };
  }

  pub onward_fewer : Onward z t t'
  onward_fewer = record {
    ways = λ n r number used used' lt valid. let same = d.valid n r number used' lt valid in
        inl record {
          valid = sym (ap invalid_bit same) ∙ valid;
          to = ap target same;
          leaf = ap leaf_bit same;
          flag = ap
              flag_bit same;
        };
    keys = λ n number used used'. d.keys n number used';
    values = λ n number used used'. d.values n number used';
    meets = λ k n m on. meets_on k n m;
    was = λ n used on. attached_was n on;
    children = λ n r number used used' lt some e. some (sym (d.rest n r number used' lt).0 ∙ e);
  }
