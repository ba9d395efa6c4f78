-- What a splice keeps: the shape of the tree, its contents, and the walks of the other passes.
use Rattle.std.proofs.Common.{◌≡◌, ◌≢◌, ◌⊎◌, inl, inr, ⊎_elim, ℕ, ◌-◌, ◌<◌, ◌≤◌, List, Some}
use Rattle.std.proofs.Common.{refl, sym, ap, ◌∙◌, subst, arith}
use Rattle.std.proofs.Math.Decide.{ℕ_discrete}
use mathlib.Core.Logic.{dite}
use Rattle.pp_link.specs.declared.layout.Sizes.{Sizes}
use Rattle.pp_link.specs.Links.{target, flag_bit, tag_bit, invalid_bit, leaf_bit}
use Rattle.pp_link.specs.Places.{IsNumber}
use Rattle.pp_model.specs.declared.Pair.{Pair}
use Rattle.pp_model.specs.FiniteMap.{find}
use Rattle.pp_rule.specs.States.{RecordState, attached, in_hand, retired, owned, shelved, IsUsed, IsLinked, IsFrozen}
use Rattle.pp_trees.specs.Trees.{Heap, side, across, edge, HasChildren, HasNone, Internal, Leaf, Meets, root, down, IsEdge}
use Rattle.pp_trees.specs.Trees.{Behind, inf0, Sentinels}
use Rattle.pp_trees.specs.Trees.{Sane, SearchTree, Mapped, Cut, Spliced}
use Rattle.pp_trees.proofs.Walking.{side_low, across_low, is_linked, meets_internal, child_on, is_used}
use Rattle.pp_trees.proofs.Standing.{Onward}

pub linked_used : (s : RecordState) → IsLinked s → IsUsed s
linked_used attached l = tt
linked_used (in_hand p j) l = tt
linked_used (retired p) l = absurd l
linked_used (owned p) l = absurd l
linked_used (shelved j) l = absurd l

pub is_there : (n r a s : ℕ) → ((n ≡ a) × (r ≡ s)) ⊎ ((n ≡ a) × (r ≡ s) → ⊥)
is_there n r a s = dite (ℕ_discrete n a) (λ e. dite (ℕ_discrete r s) (λ e'. inl (e, e')) (λ ne. inr (λ (b : (n ≡ a)
    × (r ≡ s)). ne b.1)))
    (λ ne. inr (λ (b : (n ≡ a) × (r ≡ s)). ne b.0))

module _ (z : Sizes) (t t' : Heap) (a s w : ℕ) (In : ℕ → Type 0) (sane : Sane z t) (tree : SearchTree z t)
    (d : Spliced z t t' a s w In) where
  cut : Cut z t a s w In
  cut = d.cut

  new_at : (n r : ℕ) → (n ≡ a) × (r ≡ s) → t'.link n r ≡ w
  new_at n r e = ap (λ (x : ℕ). t'.link x r) e.0 ∙ (ap (t'.link a) e.1 ∙ d.wired.there)

  old_at : (n r : ℕ) → (n ≡ a) × (r ≡ s) → t.link n r ≡ t.link a s
  old_at n r e = ap (λ (x : ℕ). t.link x r) e.0 ∙ ap (t.link a) e.1

  low_number : (n : ℕ) → 1 ≤ n → n ≤ 5 → IsNumber z n
  low_number n some few = let many = sane.records in (some, omega arith)

  new_some : target w ≢ 0
  new_some e = let l = cut.last.1.1 in l.1.children cut.last.1.0 l.2 (l.3 ∙ e)

  pub was_attached : (n : ℕ) → t'.state n ≡ attached → (In n → ⊥) × (t.state n ≡ attached)
  was_attached n on = let out : In n → ⊥ = λ (i : In n). (d.inside_state n i).1 on in (out, sym (d.outside_state n out) ∙ on)

  was_linked : (n : ℕ) → IsLinked (t'.state n) → IsLinked (t.state n)
  was_linked n l = ⊎_elim (λ (i : In n). is_linked (t.state n) (cut.on n i).1) (λ (out : In n
      → ⊥). subst IsLinked (d.outside_state n out) l) (cut.either n)

  pub children_on : (n : ℕ) → IsNumber z n → HasChildren t n → HasChildren t' n
  children_on n number c r lt = ⊎_elim (λ (at : (n ≡ a) × (r ≡ s)). λ e. new_some (sym (ap target (new_at n r at)) ∙ e))
      (λ (ne : (n ≡ a) × (r ≡ s) → ⊥). λ e. c r lt (sym (ap target (d.wired.links n r number lt ne)) ∙ e)) (is_there n r a s)

  none_on : (n : ℕ) → IsNumber z n → HasNone t n → HasNone t' n
  none_on n number c r lt = ⊎_elim (λ (at : (n ≡ a) × (r ≡ s)). absurd (cut.ancestor.children s cut.low (sym (ap target
      (old_at n r at)) ∙ c r lt)))
      (λ (ne : (n ≡ a) × (r ≡ s) → ⊥). ap target (d.wired.links n r number lt ne) ∙ c r lt) (is_there n r a s)

  -- a record in use was in use
  was_used : (n : ℕ) → IsUsed (t'.state n) → IsUsed (t.state n)
  was_used n u = ⊎_elim (λ (i : In n). is_used (t.state n) (cut.on n i).1) (λ (out : In n
      → ⊥). subst IsUsed (d.outside_state n out) u) (cut.either n)

  unflagged_on : (n r : ℕ) → IsNumber z n → IsUsed (t'.state n) → r < 2 → IsEdge (t'.link n r) 0 → flag_bit (t'.link n r) ≡ 0
  unflagged_on n r number u lt e = ⊎_elim
      (λ (at : (n ≡ a) × (r ≡ s)). let new = new_at n r at in let l = cut.last.1.1 in
      let leads = sane.leads cut.last.0 cut.last.1.0 l.1.number l.2 l.1.on in
      ap flag_bit new ∙ (sym l.5 ∙ tree.unflagged cut.last.0 cut.last.1.0 l.1.number (is_used (t.state cut.last.0) l.1.on) l.2
      (leads.valid, l.4 ∙ (sym (ap leaf_bit new) ∙ e.1), l.1.children cut.last.1.0 l.2)))
      (λ (ne : (n ≡ a) × (r ≡ s) → ⊥). let same = d.wired.links n r number lt ne in
      ap flag_bit same ∙ tree.unflagged n r number (was_used n u) lt (subst (λ (w : ℕ). IsEdge w 0) same e)) (is_there n r a s)

  -- both edges of an internal record in hand have FLAG or TAG
  frozen_on : (n r : ℕ) → IsNumber z n → IsLinked (t'.state n) → t'.state n ≢ attached → HasChildren t' n → r < 2
      → IsFrozen (t'.link n r)
  frozen_on n r number l off c lt = let l' = was_linked n l in
      let c' : HasChildren t n = ⊎_elim (λ (f : HasChildren t n). f) (λ (none : HasNone t n). absurd (c 0 (omega arith)
      (none_on n number none 0 (omega arith)))) (tree.sort n number l') in ⊎_elim
      (λ (i : In n). let ne : (n ≡ a) × (r ≡ s) → ⊥ = λ at. cut.stays (subst In at.0 i) in
      subst IsFrozen (sym (d.wired.links n r number lt ne)) (cut.frozen n r i record {
        number = number;
        on =
            (cut.on n i).1;
        children = c';
      } lt))
      (λ (out : In n → ⊥). let same = d.outside_state n out in let off' : t.state n ≢ attached = λ e. off (same ∙ e) in
      let ne : (n ≡ a) × (r ≡ s) → ⊥ = λ at. off' (ap t.state at.0 ∙ cut.ancestor.on) in
      subst IsFrozen (sym (d.wired.links n r number lt ne)) (tree.frozen n r number l' off' c' lt))
      (cut.either n)

  pub internal_was : (n : ℕ) → Internal z t' n → (In n → ⊥) × Internal z t n
  internal_was n i = let was = was_attached n i.on in (
    was.0,
    record {
      number = i.number;
      on = was.1;
      children = ⊎_elim (λ (c : HasChildren t n). c) (λ (none : HasNone t n). absurd (i.children 0 (omega arith)
          (none_on n i.number none 0 (omega arith))))
          (tree.sort n i.number (is_linked (t.state n) was.1));
    },
  )

  leaf_was : (n : ℕ) → Leaf z t' n → (In n → ⊥) × Leaf z t n
  leaf_was n i = let was = was_attached n i.on in (
    was.0,
    record {
      number = i.number;
      on = was.1;
      none = ⊎_elim (λ (c : HasChildren t n). absurd (children_on n i.number c 0 (omega arith) (i.none 0 (omega arith)))) (λ
          (none : HasNone t n). none)
          (tree.sort n i.number (is_linked (t.state n) was.1));
    },
  )

  edge_here : (k : ℕ) → side k (t.key a) ≡ s → edge t' k a ≡ w
  edge_here k e = new_at a (side k (t'.key a)) (refl, ap (side k) (d.wired.keys a cut.ancestor.number) ∙ e)

  edge_else : (k n : ℕ) → IsNumber z n → ((n ≡ a) × (side k (t.key n) ≡ s) → ⊥) → edge t' k n ≡ edge t k n
  edge_else k n number ne = ap (λ (x : ℕ). t'.link n (side k x)) (d.wired.keys n number)
      ∙ d.wired.links n (side k (t.key n)) number (side_low k (t.key n)) ne

  -- The root's walk comes where it came, but into what was taken away. There it comes over the edge of the ancestor.
  pub meets_spliced : (k : ℕ) (n : ℕ) → Meets t k n → (In n × Meets t' k a × (side k (t.key a) ≡ s)) ⊎ ((In n → ⊥) × Meets t' k n)
  meets_spliced k n (root e) = inr ((λ (i : In n). let high = cut.above n i in omega arith), root e)
  meets_spliced k n (down {n = p} m inner to) = let i = meets_internal z t sane tree k p m in let r = side k (t.key p) in
      let lt = side_low k (t.key p) in ⊎_elim
      (λ (was : In p × Meets t' k a × (side k (t.key a) ≡ s)). ⊎_elim
      (λ (still : In (target (t.link p r)) × (leaf_bit (t.link p r) ≡ 1
      → flag_bit (t.link p r) ≡ 1)). inl (subst In (sym to) still.0, was.1, was.2))
      (λ (out : (target (t.link p r) ≡ target w) × (leaf_bit (t.link p r) ≡ leaf_bit w) × (flag_bit (t.link p r) ≡ flag_bit w)).
      let here = edge_here k was.2 in inr (
        (λ (j : In n). cut.frontier (subst In (to ∙ out.0) j)),
        down was.1 (ap leaf_bit here ∙ (sym out.1 ∙ inner)) (to ∙ (out.0 ∙ sym (ap target here))),
      ))
      (cut.inside p r was.0 i lt))
      (λ (was : (In p → ⊥) × Meets t' k p). ⊎_elim
      (λ (at : (p ≡ a) × (r ≡ s)). inl (
        subst In (sym (to ∙ ap target (old_at p r at))) cut.first,
        subst (Meets t' k) at.0 was.1,
        ap (λ (x : ℕ). side k (t.key x)) (sym at.0) ∙ at.1,
      ))
      (λ (ne : (p ≡ a) × (r ≡ s) → ⊥). let same = edge_else k p i.number ne in
      inr (
        (λ (j : In n). cut.outside p r i lt was.0 ne (subst In to j)),
        down was.1 (ap leaf_bit same ∙ inner) (to
            ∙ sym (ap target same)),
      ))
      (is_there p r a s))
      (meets_spliced k p m)

  pub widened : (k n : ℕ) → Meets t k n → t'.state n ≡ attached → Meets t' k n
  widened k n m on = ⊎_elim (λ (i : In n × Meets t' k a × (side k (t.key a) ≡ s)). absurd ((d.inside_state n i.0).1 on))
      (λ (out : (In n → ⊥) × Meets t' k n). out.1) (meets_spliced k n m)

  -- the edge that led to the frontier
  last_edge : Internal z t cut.last.0 × (cut.last.1.0 < 2)
  last_edge = (cut.last.1.1.1, cut.last.1.1.2)

  fixed : (n r c : ℕ) → 1 ≤ n → n ≤ 5 → r < 2 → t.link n r ≡ c → target c ≤ 5 → t'.link n r ≡ c
  fixed n r c some few lt is small = ⊎_elim
      (λ (at : (n ≡ a) × (r ≡ s)). let i : In (target c) = subst (λ (x : ℕ). In (target x)) (sym (old_at n r at)
      ∙ is) cut.first in
      let high = cut.above (target c) i in absurd (omega arith))
      (λ (ne : (n ≡ a) × (r ≡ s) → ⊥). d.wired.links n r (low_number n some few) lt ne ∙ is) (is_there n r a s)

  key_on : (n c : ℕ) → 1 ≤ n → n ≤ 5 → t.key n ≡ c → t'.key n ≡ c
  key_on n c some few is = d.wired.keys n (low_number n some few) ∙ is

  sentinels_on : Sentinels z t'
  sentinels_on = let was = tree.sentinels in record {
    head = λ h lt. d.wired.head h lt ∙ was.head h lt;
    on = λ n some few. d.outside_state n (λ (i : In n). let high = cut.above n i in omega arith) ∙ was.on n some few;
    keys = (
      key_on 1 _ (omega arith) (omega arith) was.keys.0,
      key_on 2 _ (omega arith) (omega arith) was.keys.1,
      key_on 3 _ (omega arith) (omega arith) was.keys.2,
      key_on 4 _ (omega arith) (omega arith) was.keys.3,
      key_on 5 _
          (omega arith) (omega arith) was.keys.4,
    );
    left_of_root = fixed 1 0 32 (omega arith) (omega arith) (omega arith) was.left_of_root (omega arith);
    right_of_root = fixed 1 1 88 (omega arith) (omega arith) (omega arith) was.right_of_root (omega arith);
    right_of_s = fixed 2 1 72 (omega arith) (omega arith) (omega arith) was.right_of_s (omega arith);
    leaf3 = none_on 3 (low_number 3 (omega arith) (omega arith)) was.leaf3;
  }

  -- what an edge leads to, where it is that of a record that is attached or in hand
  leads_on : (P : ℕ → Type 0) (b n r : ℕ) → IsNumber z n → IsLinked (t'.state n) → r < 2 → IsEdge (t'.link n r) b
      → ((x y : ℕ) → IsNumber z x → IsLinked (t.state x) → y < 2 → IsEdge (t.link x y) b → IsNumber z (target (t.link x y))
      → P (target (t.link x y)))
      → P (target (t'.link n r))
  leads_on P b n r number l lt e each = ⊎_elim
      (λ (at : (n ≡ a) × (r ≡ s)). let new = new_at n r at in let x = last_edge.0 in let y : ℕ = cut.last.1.0 in
      let low = last_edge.1 in
      let out = cut.last.1.1 in let leaf : leaf_bit (t.link cut.last.0 y) ≡ b = out.4 ∙ (sym (ap leaf_bit new) ∙ e.1) in
      subst P (out.3 ∙ sym (ap target new)) (each cut.last.0 y x.number (is_linked (t.state cut.last.0) x.on) low
      ((sane.leads cut.last.0 y x.number low x.on).valid, leaf, x.children y low) (child_on z t sane tree cut.last.0 y x low).0))
      (λ (ne : (n ≡ a) × (r ≡ s) → ⊥). let same = d.wired.links n r number lt ne in
      let was : IsEdge (t.link n r) b = subst (λ (x : ℕ). IsEdge x b) same e in
      let l' = was_linked n l in
      subst (λ (x : ℕ). P (target x)) (sym same) (each n r number l' lt was (sane.used n r number lt (linked_used
      (t.state n) l') was.0 was.2).0))
      (is_there n r a s)

  bare_on : (n r : ℕ) → Leaf z t' n → r < 2 → t'.link n r ≡ 0
  bare_on n r leaf lt = let was = leaf_was n leaf in ⊎_elim
      (λ (at : (n ≡ a) × (r ≡ s)). absurd (cut.ancestor.children s cut.low (sym (ap target (old_at n r at)) ∙ was.1.none r lt)))
      (λ (ne : (n ≡ a) × (r ≡ s) → ⊥). d.wired.links n r leaf.number lt ne ∙ tree.bare n r was.1 lt) (is_there n r a s)

  rooted_on : (n r : ℕ) → Internal z t' n → r < 2 → target (t'.link n r) ≢ 1
  rooted_on n r i lt e = let was = internal_was n i in ⊎_elim
      (λ (at : (n ≡ a) × (r ≡ s)). tree.rooted cut.last.0 cut.last.1.0 last_edge.0 last_edge.1 (cut.last.1.1.3
      ∙ (sym (ap target (new_at n r at)) ∙ e)))
      (λ (ne : (n ≡ a) × (r ≡ s) → ⊥). tree.rooted n r was.1 lt (sym (ap target (d.wired.links n r i.number lt ne))
      ∙ e)) (is_there n r a s)

  -- no other edge leads to the frontier now
  no_twin : (n r m q : ℕ) → (n ≡ a) × (r ≡ s) → Internal z t' m → q < 2 → ((m ≡ a) × (q ≡ s) → ⊥)
      → target (t'.link n r) ≡ target (t'.link m q) → ⊥
  no_twin n r m q at j lq ne e = let was = internal_was m j in
      let one = tree.once cut.last.0 cut.last.1.0 m q last_edge.0 last_edge.1 was.1 lq
      (cut.last.1.1.3 ∙ (sym (ap target (new_at n r at)) ∙ (e ∙ ap target (d.wired.links m q j.number lq ne)))) in
      was.0 (subst In one.0 cut.last.1.1.0)

  once_on : (n r m q : ℕ) → Internal z t' n → r < 2 → Internal z t' m → q < 2 → target (t'.link n r) ≡ target (t'.link m q)
      → (n ≡ m) × (r ≡ q)
  once_on n r m q i lr j lq e = ⊎_elim
      (λ (at : (n ≡ a) × (r ≡ s)). ⊎_elim
      (λ (at' : (m ≡ a) × (q ≡ s)). (at.0 ∙ sym at'.0, at.1 ∙ sym at'.1))
      (λ (ne' : (m ≡ a) × (q ≡ s) → ⊥). absurd (no_twin n r m q at j lq ne' e)) (is_there m q a s))
      (λ (ne : (n ≡ a) × (r ≡ s) → ⊥). ⊎_elim
      (λ (at' : (m ≡ a) × (q ≡ s)). absurd (no_twin m q n r at' i lr ne (sym e)))
      (λ (ne' : (m ≡ a) × (q ≡ s) → ⊥). tree.once n r m q (internal_was n i).1 lr (internal_was m j).1 lq
      (sym (ap target (d.wired.links n r i.number lr ne)) ∙ (e ∙ ap target (d.wired.links m q j.number lq ne'))))
      (is_there m q a s))
      (is_there n r a s)

  -- an edge as it is now was an edge before, with the same target, LEAF and FLAG
  pub edge_was : (n r : ℕ) → Internal z t' n → r < 2 → (m : ℕ) × ((q : ℕ) × (Internal z t m × (q < 2)
      × (target (t'.link n r) ≡ target (t.link m q))
      × (leaf_bit (t'.link n r) ≡ leaf_bit (t.link m q)) × (flag_bit (t'.link n r) ≡ flag_bit (t.link m q))))
  edge_was n r i lt = ⊎_elim
      (λ (at : (n ≡ a) × (r ≡ s)). let new = new_at n r at in let out = cut.last.1.1 in (
        cut.last.0,
        (
          cut.last.1.0,
          (
            out.1,
            out.2,
            ap target new ∙ sym out.3,
            ap leaf_bit new ∙ sym out.4,
            ap flag_bit new
                ∙ sym out.5,
          ),
        ),
      ))
      (λ (ne : (n ≡ a) × (r ≡ s) → ⊥). let same = d.wired.links n r i.number lt ne in
      (n, (r, ((internal_was n i).1, lt, ap target same, ap leaf_bit same, ap flag_bit same))))
      (is_there n r a s)

  flagged_on : (n r : ℕ) → Internal z t' n → r < 2 → flag_bit (t'.link n r) ≡ 1 → (leaf_bit (t'.link n r) ≡ 1)
      × (t'.key (target (t'.link n r)) < inf0)
  flagged_on n r i lt flag = let e = edge_was n r i lt in let m = e.0 in let q : ℕ = e.1.0 in let f = e.1.1 in
      let was = tree.flagged m q f.0 f.1 (sym f.4 ∙ flag) in
      let key : t'.key (target (t'.link n r)) ≡ t.key (target (t.link m q)) = ap t'.key f.2
      ∙ d.wired.keys (target (t.link m q)) (child_on z t sane tree m q f.0 f.1).0 in
      (f.3 ∙ was.0, subst (λ (x : ℕ). x < inf0) (sym key) was.1)

  tagged_on : (n r : ℕ) → Internal z t' n → r < 2 → tag_bit (t'.link n r) ≡ 1 → flag_bit (t'.link n (across r)) ≡ 1
  tagged_on n r i lt tag = let was = internal_was n i in ⊎_elim
      (λ (at : (n ≡ a) × (r ≡ s)). let none = cut.untagged in let now : tag_bit w ≡ 1 = sym (ap tag_bit (new_at n r at))
      ∙ tag in absurd (omega arith))
      (λ (ne : (n ≡ a) × (r ≡ s) → ⊥). let flag = tree.tagged n r was.1 lt (sym (ap tag_bit
      (d.wired.links n r i.number lt ne)) ∙ tag) in ⊎_elim
      (λ (at : (n ≡ a) × (across r ≡ s)). let none = cut.plain in let some : flag_bit (t.link a s) ≡ 1 = sym (ap flag_bit
      (old_at n (across r) at)) ∙ flag in absurd (omega arith))
      (λ (ne' : (n ≡ a) × (across r ≡ s) → ⊥). ap flag_bit (d.wired.links n (across r) i.number (across_low r) ne') ∙ flag)
      (is_there n (across r) a s))
      (is_there n r a s)

  -- a walk of the root that ended at a leaf ends there still
  pub end_on : (k p : ℕ) → Meets t k p → leaf_bit (edge t k p) ≡ 1 → (In (target (edge t k p)) → ⊥)
      → (q : ℕ) × (Meets t' k q × (target (edge t' k q) ≡ target (edge t k p)) × (leaf_bit (edge t' k q) ≡ 1)
      × (flag_bit (edge t' k q) ≡ flag_bit (edge t k p)))
  end_on k p m leaf stays = let i = meets_internal z t sane tree k p m in let r = side k (t.key p) in
      let lt = side_low k (t.key p) in ⊎_elim
      (λ (was : In p × Meets t' k a × (side k (t.key a) ≡ s)). let here = edge_here k was.2 in ⊎_elim
      (λ (still : In (target (t.link p r)) × (leaf_bit (t.link p r) ≡ 1 → flag_bit (t.link p r) ≡ 1)). absurd (stays still.0))
      (λ (out : (target (t.link p r) ≡ target w) × (leaf_bit (t.link p r) ≡ leaf_bit w) × (flag_bit (t.link p r) ≡ flag_bit w)).
      (a, (was.1, ap target here ∙ sym out.0, ap leaf_bit here ∙ (sym out.1 ∙ leaf), ap flag_bit here ∙ sym out.2)))
      (cut.inside p r was.0 i lt))
      (λ (was : (In p → ⊥) × Meets t' k p). let ne : (p ≡ a) × (r ≡ s) → ⊥ = λ (at : (p ≡ a)
      × (r ≡ s)). let inner = cut.internal in
      let bad : leaf_bit (t.link a s) ≡ 1 = sym (ap leaf_bit (old_at p r at)) ∙ leaf in omega arith in
      let same = edge_else k p i.number ne in (p, (was.1, ap target same, ap leaf_bit same ∙ leaf, ap flag_bit same)))
      (meets_spliced k p m)

  leaf_home_on : (n : ℕ) → Leaf z t' n → Behind t' n
  leaf_home_on n leaf = let was = leaf_was n leaf in let b = tree.leaf_home n was.1 in
      let end = end_on (t.key n) b.parent b.meets b.leaf (λ (i : In (target (edge t (t.key n) b.parent))). was.0
      (subst In b.to i)) in
      let key : t'.key n ≡ t.key n = d.wired.keys n leaf.number in record {
        parent = end.0;
        meets = subst (λ (k : ℕ). Meets t' k end.0) (sym key) end.1.0;
        leaf = ap (λ (k : ℕ). leaf_bit (edge t' k end.0)) key ∙ end.1.2;
        to = ap (λ (k : ℕ). target (edge t' k end.0)) key ∙ (end.1.1 ∙ b.to);
      }

  internal_home_on : (n : ℕ) → Internal z t' n → (1 ≤ t'.key n) × Meets t' (t'.key n) n × Meets t' (t'.key n - 1) n
  internal_home_on n i = let was = internal_was n i in let h = tree.internal_home n was.1 in
      subst (λ (k : ℕ). (1 ≤ k) × Meets t' k n × Meets t' (k - 1) n) (sym (d.wired.keys n i.number))
      (h.0, widened (t.key n) n h.1 i.on, widened (t.key n - 1) n h.2 i.on)

  pub tree_spliced : SearchTree z t'
  tree_spliced = record {
    sentinels = sentinels_on;
    sort = λ n number l. ⊎_elim (λ (c : HasChildren t n). inl (children_on n number c)) (λ (c : HasNone t n). inr
        (none_on n number c)) (tree.sort n number (was_linked n l));
    to_leaf = λ n r number l lt e. leads_on (HasNone t') 1 n r number l lt e (λ x y num link low is to. none_on (target
        (t.link x y)) to (tree.to_leaf x y num link low is));
    to_internal = λ n r number l lt e. leads_on (HasChildren t') 0 n r number l lt e
        (λ x y num link low is to. children_on (target (t.link x y)) to (tree.to_internal x y num link low is));
    bare = bare_on;
    rooted = rooted_on;
    once = once_on;
    flagged = flagged_on;
    tagged = tagged_on;
    unflagged = unflagged_on;
    frozen = frozen_on;
    leaf_home = leaf_home_on;
    internal_home = internal_home_on;
  }

  -- the contents stay
  pub mapped_spliced : (m : List Pair) → Mapped z t m → Mapped z t' m
  mapped_spliced m map = record {
    sorted = map.sorted;
    pairs = λ n r i lt leaf plain low. let e = edge_was n r i lt in let x = e.0 in let y : ℕ = e.1.0 in let f = e.1.1 in
        let number = (child_on z t sane tree x y f.0 f.1).0 in
        let key : t'.key (target (t'.link n r)) ≡ t.key (target (t.link x y)) = ap t'.key f.2
        ∙ d.wired.keys (target (t.link x y)) number in
        let value : t'.value (target (t'.link n r)) ≡ t.value (target (t.link x y)) = ap t'.value f.2
        ∙ d.wired.values (target (t.link x y)) number in
        ap (find m) key ∙ (map.pairs x y f.0 f.1 (sym f.3 ∙ leaf) (sym f.4 ∙ plain) (subst (λ (k : ℕ). k < inf0) key low)
        ∙ ap Some (sym value));
    records = λ k v is. let r = map.records k v is in let p = r.parent in let i = meets_internal z t sane tree k p r.meets in
        let number = (child_on z t sane tree p (side k (t.key p)) i (side_low k (t.key p))).0 in
        let end = end_on k p r.meets r.leaf (λ (j : In (target (edge t k p))). gone k p r.meets r.leaf r.plain j) in record {
          parent = end.0;
          meets = end.1.0;
          leaf = end.1.2;
          plain = end.1.3 ∙ r.plain;
          key = ap t'.key end.1.1 ∙ (d.wired.keys (target (edge t k p)) number ∙ r.key);
          low = r.low;
        };
  }
    where
      -- a leaf that goes stands behind FLAG
      gone : (k p : ℕ) → Meets t k p → leaf_bit (edge t k p) ≡ 1 → flag_bit (edge t k p) ≡ 0 → In (target (edge t k p)) → ⊥
      gone k p m leaf plain j = let i = meets_internal z t sane tree k p m in let r = side k (t.key p) in
          let lt = side_low k (t.key p) in ⊎_elim
          (λ (was : In p × Meets t' k a × (side k (t.key a) ≡ s)). ⊎_elim
          (λ (still : In (target (t.link p r)) × (leaf_bit (t.link p r) ≡ 1
          → flag_bit (t.link p r) ≡ 1)). let flag = still.1 leaf in omega arith)
          (λ (out : (target (t.link p r) ≡ target w) × (leaf_bit (t.link p r) ≡ leaf_bit w)
          × (flag_bit (t.link p r) ≡ flag_bit w)).
          cut.frontier (subst In out.0 j))
          (cut.inside p r was.0 i lt))
          (λ (was : (In p → ⊥) × Meets t' k p). ⊎_elim
          (λ (at : (p ≡ a) × (r ≡ s)). let inner = cut.internal in let bad : leaf_bit (t.link a s) ≡ 1 = sym (ap leaf_bit
          (old_at p r at)) ∙ leaf in omega arith)
          (λ (ne : (p ≡ a) × (r ≡ s) → ⊥). cut.outside p r i lt was.0 ne j) (is_there p r a s))
          (meets_spliced k p m)

  -- and so do the walks
  pub onward_spliced : Sane z t' → Onward z t t'
  onward_spliced sane' = record {
    ways = λ n r number used used' lt valid. ⊎_elim
        (λ (at : (n ≡ a) × (r ≡ s)). inr (
          subst (Internal z t) (sym at.0) cut.ancestor,
          ap t'.state at.0 ∙ (d.outside_state a cut.stays ∙ cut.ancestor.on),
        ))
        (λ (ne : (n ≡ a) × (r ≡ s) → ⊥). let same = d.wired.links n r number lt ne in
        inl record {
          valid = sym (ap invalid_bit same) ∙ valid;
          to = ap target same;
          leaf = ap leaf_bit same;
          flag = ap
              flag_bit same;
        })
        (is_there n r a s);
    keys = λ n number used used'. d.wired.keys n number;
    values = λ n number used used'. d.wired.values n number;
    meets = widened;
    was = λ n used on. (was_attached n on).1;
    children = λ n r number used used' lt some. ⊎_elim
        (λ (at : (n ≡ a) × (r ≡ s)). λ e. new_some (sym (ap target (new_at n r at)) ∙ e))
        (λ (ne : (n ≡ a) × (r ≡ s) → ⊥). λ e. some (sym (ap target (d.wired.links n r number lt ne)) ∙ e)) (is_there n r a s);
  }
