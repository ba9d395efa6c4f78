-- What publishing an internal record with a leaf keeps and changes.
use Rattle.std.proofs.Common.{◌≡◌, ◌≢◌, ◌⊎◌, inl, inr, ⊎_elim, ℕ, ◌+◌, ◌-◌, ◌*◌, ◌<◌, ◌≤◌, List, Some, None}
use Rattle.std.proofs.Common.{sym, ap, ◌∙◌, subst, arith}
use Rattle.std.proofs.lemmas.Bool.{cases_lt}
use Rattle.std.proofs.Math.Decide.{ℕ_discrete}
use mathlib.Core.Logic.{dite}
use Rattle.pp_link.specs.declared.layout.Sizes.{Sizes}
use Rattle.pp_link.specs.Links.{target, flag_bit, tag_bit, invalid_bit, leaf_bit}
use Rattle.pp_link.specs.Places.{IsNumber}
use Rattle.pp_model.specs.declared.Pair.{Pair}
use Rattle.pp_model.specs.FiniteMap.{find, put}
use Rattle.pp_model.proofs.Maps.{RisesFrom-put}
use Rattle.pp_rule.specs.States.{attached, IsUsed, IsLinked, IsFrozen}
use Rattle.pp_trees.specs.Trees.{Heap, side, across, edge, HasChildren, HasNone, Internal, Leaf, Meets, down, IsEdge, Behind}
use Rattle.pp_trees.specs.Trees.{inf0}
use Rattle.pp_trees.specs.Trees.{Sane, SearchTree, Stored, Mapped, Published}
use Rattle.pp_trees.proofs.Walking.{side_left, side_right, side_between, side_low, across_low, is_linked, is_used, option_cases}
use Rattle.pp_trees.proofs.Walking.{meets_internal, meets_same, meets_between, child_on, child_leaf, home_edge, one_end, one_leaf}
use Rattle.pp_trees.proofs.Standing.{Onward}
use Rattle.pp_trees.proofs.Splicing.{linked_used, is_there}
use Rattle.pp_model.proofs.Finding.{find_put, find_put_else}

pub target_word : (n b : ℕ) → b < 16 → target (16 * n + b) ≡ n
target_word n b lt = omega arith

pub target_16 : (n : ℕ) → target (16 * n) ≡ n
target_16 n = omega arith

module _ (z : Sizes) (t t' : Heap) (p s k c m : ℕ) (sane : Sane z t) (tree : SearchTree z t)
    (d : Published z t t' p s k c m) where
  -- the leaf that was at the edge
  abbrev l : ℕ
  l = target (t.link p s)

  -- the sides of the new internal record at which the leaves are
  abbrev pub sn : ℕ
  sn = side k (t.key c)

  abbrev pub so : ℕ
  so = side (t.key l) (t.key c)

  is_c : IsNumber z c
  is_c = d.numbers.0

  is_m : IsNumber z m
  is_m = d.numbers.1

  pub not_c : (n : ℕ) → IsUsed (t.state n) → n ≢ c
  not_c n used e = d.unused.0 (subst (λ (x : ℕ). IsUsed (t.state x)) e used)

  pub not_m : (n : ℕ) → IsUsed (t.state n) → n ≢ m
  not_m n used e = d.unused.1 (subst (λ (x : ℕ). IsUsed (t.state x)) e used)

  p_not_c : p ≢ c
  p_not_c = not_c p (is_used (t.state p) d.parent.on)

  p_not_m : p ≢ m
  p_not_m = not_m p (is_used (t.state p) d.parent.on)

  leaf_l : Leaf z t l
  leaf_l = child_leaf z t sane tree p s d.parent d.low d.leaf

  home_l : Meets t (t.key l) p × (side (t.key l) (t.key p) ≡ s)
  home_l = home_edge z t sane tree p s d.parent d.low d.leaf

  -- the new key lies above one of the two and not above the other
  record Keys : Type 0 where
    positive : 1 ≤ t.key c
    apart : so ≢ sn
    here : Meets t (t.key c) p × (side (t.key c) (t.key p) ≡ s)
    before : Meets t (t.key c - 1) p × (side (t.key c - 1) (t.key p) ≡ s)

  between : (i x j : ℕ) → i ≤ x → x ≤ j → Meets t i p → side i (t.key p) ≡ s → Meets t j p → side j (t.key p) ≡ s
      → Meets t x p × (side x (t.key p) ≡ s)
  between i x j low high at on at' on' = (
    meets_between z t sane tree i x j p low high at at',
    side_between i x j
        (t.key p) low high (on ∙ sym on') ∙ on,
  )

  keys : Keys
  keys = ⊎_elim
      (λ (lt : k < t.key l). let is = d.greater.0 lt in record {
        positive = omega arith;
        apart = λ e. let a = side_left k (t.key c) (omega arith) in let b = side_right (t.key l) (t.key c) (omega arith) in
            omega arith;
        here = between k (t.key c) (t.key l) (omega arith) (omega arith) d.meets d.at home_l.0 home_l.1;
        before = between k (t.key c - 1) (t.key l) (omega arith) (omega arith) d.meets d.at home_l.0 home_l.1;
      })
      (λ (le : t.key l ≤ k). let other = d.other in let lt : t.key l < k = omega arith in let is = d.greater.1 lt in record {
        positive = omega arith;
        apart = λ e. let a = side_right k (t.key c) (omega arith) in let b = side_left (t.key l) (t.key c) (omega arith) in
            omega arith;
        here = between (t.key l) (t.key c) k (omega arith) (omega arith) home_l.0 home_l.1 d.meets d.at;
        before = between (t.key l) (t.key c - 1) k (omega arith) (omega arith) home_l.0 home_l.1 d.meets d.at;
      })
      (cases_lt k (t.key l))

  -- either side of the new record is that of the new leaf or that of the old one
  pub which : (r : ℕ) → r < 2 → (r ≡ sn) ⊎ (r ≡ so)
  which r lt = dite (ℕ_discrete r sn) inl (λ ne. let a = side_low k (t.key c) in let b = side_low (t.key l) (t.key c) in
      let e = keys.apart in inr (omega arith))

  pub link_else : (n r : ℕ) → IsNumber z n → r < 2 → n ≢ p → t'.link n r ≡ t.link n r
  link_else n r number lt ne = d.wired.links n r number lt (λ at. ne at.0)

  pub link_new : t'.link c sn ≡ 16 * m + 8
  link_new = link_else c sn is_c (side_low k (t.key c)) (λ e. p_not_c (sym e)) ∙ d.to_new

  pub link_old : t'.link c so ≡ 16 * l + 8
  link_old = link_else c so is_c (side_low (t.key l) (t.key c)) (λ e. p_not_c (sym e)) ∙ d.to_old

  pub link_bare : (r : ℕ) → r < 2 → t'.link m r ≡ 0
  link_bare r lt = link_else m r is_m lt (λ e. p_not_m (sym e)) ∙ d.bare r lt

  -- what a record in use is now
  data Is (n : ℕ) : Type 0 where
    is_new : n ≡ c → Is n
    is_leaf : n ≡ m → Is n
    is_old : n ≢ c → n ≢ m → t'.state n ≡ t.state n → Is n

  what : (n : ℕ) → Is n
  what n = dite (ℕ_discrete n c) is_new (λ ne. dite (ℕ_discrete n m) is_leaf (λ ne'. is_old ne ne' (d.others n ne ne')))

  children_on : (n : ℕ) → IsNumber z n → HasChildren t n → HasChildren t' n
  children_on n number f r lt = ⊎_elim
      (λ (at : (n ≡ p) × (r ≡ s)). λ e. let now : t'.link n r ≡ 16 * c = ap (λ (x : ℕ). t'.link x r) at.0
      ∙ (ap (t'.link p) at.1 ∙ d.wired.there) in
      let some : 1 ≤ c = is_c.0 in omega arith)
      (λ (ne : (n ≡ p) × (r ≡ s) → ⊥). λ e. f r lt (sym (ap target (d.wired.links n r number lt ne)) ∙ e)) (is_there n r p s)

  none_on : (n : ℕ) → IsNumber z n → HasNone t n → HasNone t' n
  none_on n number f r lt = let ne : n ≢ p = λ (e : n ≡ p). d.parent.children s d.low (subst (HasNone t) e f s d.low) in
      ap target (link_else n r number lt ne) ∙ f r lt

  children_c : HasChildren t' c
  children_c r lt e = ⊎_elim
      (λ (at : r ≡ sn). let now : t'.link c r ≡ 16 * m + 8 = ap (t'.link c) at
      ∙ link_new in let some : 1 ≤ m = is_m.0 in omega arith)
      (λ (at : r ≡ so). let now : t'.link c r ≡ 16 * l + 8 = ap (t'.link c) at
      ∙ link_old in let some : 1 ≤ l = leaf_l.number.0 in omega arith)
      (which r lt)

  none_m : HasNone t' m
  none_m r lt = ap target (link_bare r lt)

  -- an edge as it is now
  data Edge (n r : ℕ) : Type 0 where
    at : n ≡ p → r ≡ s → t'.link n r ≡ 16 * c → Edge n r
    new : n ≡ c → r ≡ sn → t'.link n r ≡ 16 * m + 8 → Edge n r
    old : n ≡ c → r ≡ so → t'.link n r ≡ 16 * l + 8 → Edge n r
    else_ : Internal z t n → ((n ≡ p) × (r ≡ s) → ⊥) → t'.link n r ≡ t.link n r → Edge n r

  internal_was : (n : ℕ) → Internal z t' n → n ≢ c → Internal z t n
  internal_was n i ne = go (what n)
    where
      go : Is n → Internal z t n
      go (is_new e) = absurd (ne e)
      go (is_leaf e) = absurd (i.children 0 (omega arith) (ap (λ (x : ℕ). target (t'.link x 0)) e ∙ none_m 0 (omega arith)))
      go (is_old nc nm same) = let on : t.state n ≡ attached = sym same ∙ i.on in record {
        number = i.number;
        on = on;
        children = ⊎_elim (λ (f : HasChildren t n). f) (λ (f : HasNone t n). absurd (i.children 0 (omega arith)
            (none_on n i.number f 0 (omega arith))))
            (tree.sort n i.number (is_linked (t.state n) on));
      }

  leaf_was : (n : ℕ) → Leaf z t' n → n ≢ m → Leaf z t n
  leaf_was n i ne = go (what n)
    where
      go : Is n → Leaf z t n
      go (is_new e) = absurd (children_c 0 (omega arith) (ap (λ (x : ℕ). target (t'.link x 0)) (sym e) ∙ i.none 0 (omega arith)))
      go (is_leaf e) = absurd (ne e)
      go (is_old nc nm same) = let on : t.state n ≡ attached = sym same ∙ i.on in record {
        number = i.number;
        on = on;
        none = ⊎_elim (λ (f : HasChildren t n). absurd (children_on n i.number f 0 (omega arith) (i.none 0 (omega arith)))) (λ
            (f : HasNone t n). f)
            (tree.sort n i.number (is_linked (t.state n) on));
      }

  edge_at : (n r : ℕ) → Internal z t' n → r < 2 → Edge n r
  edge_at n r i lt = dite (ℕ_discrete n c)
      (λ e. ⊎_elim (λ (on : r ≡ sn). new e on (ap (λ (x : ℕ). t'.link x r) e ∙ (ap (t'.link c) on ∙ link_new)))
      (λ (on : r ≡ so). old e on (ap (λ (x : ℕ). t'.link x r) e ∙ (ap (t'.link c) on ∙ link_old))) (which r lt))
      (λ ne. ⊎_elim
      (λ (e : (n ≡ p) × (r ≡ s)). at e.0 e.1 (ap (λ (x : ℕ). t'.link x r) e.0 ∙ (ap (t'.link p) e.1 ∙ d.wired.there)))
      (λ (e : (n ≡ p) × (r ≡ s) → ⊥). else_ (internal_was n i ne) e (d.wired.links n r i.number lt e)) (is_there n r p s))

  child_used : (n r : ℕ) → Internal z t n → r < 2 → IsNumber z (target (t.link n r)) × IsUsed (t.state (target (t.link n r)))
  child_used n r i lt = let on = child_on z t sane tree n r i lt in (on.0, is_used (t.state (target (t.link n r))) on.1)

  -- the leaf at the edge was at no other
  not_old : (n r x : ℕ) → Internal z t n → r < 2 → ((n ≡ p) × (r ≡ s) → ⊥) → x ≡ t.link n r → target x ≢ l
  not_old n r x i lt ne same e = let one = tree.once n r p s i lt d.parent d.low (ap target (sym same) ∙ e) in ne (one.0, one.1)

  once_go : (n r q y : ℕ) → r < 2 → y < 2 → Edge n r → Edge q y → target (t'.link n r) ≡ target (t'.link q y) → (n ≡ q) × (r ≡ y)
  once_go n r q y lr ly (at a b w) (at a' b' w') e = (a ∙ sym a', b ∙ sym b')
  once_go n r q y lr ly (at a b w) (new a' b' w') e = absurd (d.numbers.2 (omega arith))
  once_go n r q y lr ly (at a b w) (old a' b' w') e = absurd (not_c l (is_used (t.state l) leaf_l.on) (omega arith))
  once_go n r q y lr ly (at a b w) (else_ i ne w') e = let c_is : target (t.link q y) ≡ c = sym (ap target w') ∙ (sym e
      ∙ (ap target w ∙ target_16 c)) in
      absurd (not_c (target (t.link q y)) (child_used q y i ly).1 c_is)
  once_go n r q y lr ly (new a b w) (at a' b' w') e = absurd (d.numbers.2 (omega arith))
  once_go n r q y lr ly (new a b w) (new a' b' w') e = (a ∙ sym a', b ∙ sym b')
  once_go n r q y lr ly (new a b w) (old a' b' w') e = absurd (not_m l (is_used (t.state l) leaf_l.on) (omega arith))
  once_go n r q y lr ly (new a b w) (else_ i ne w') e = let m_is : target (t.link q y) ≡ m = sym (ap target w') ∙ (sym e
      ∙ (ap target w ∙ target_word m 8 (omega arith))) in
      absurd (not_m (target (t.link q y)) (child_used q y i ly).1 m_is)
  once_go n r q y lr ly (old a b w) (at a' b' w') e = absurd (not_c l (is_used (t.state l) leaf_l.on) (omega arith))
  once_go n r q y lr ly (old a b w) (new a' b' w') e = absurd (not_m l (is_used (t.state l) leaf_l.on) (omega arith))
  once_go n r q y lr ly (old a b w) (old a' b' w') e = (a ∙ sym a', b ∙ sym b')
  once_go n r q y lr ly (old a b w) (else_ i ne w') e = absurd (not_old q y (t'.link q y) i ly ne w' (sym e ∙ (ap target w
      ∙ target_word l 8 (omega arith))))
  once_go n r q y lr ly (else_ i ne w) (at a' b' w') e = let c_is : target (t.link n r) ≡ c = sym (ap target w) ∙ (e
      ∙ (ap target w' ∙ target_16 c)) in
      absurd (not_c (target (t.link n r)) (child_used n r i lr).1 c_is)
  once_go n r q y lr ly (else_ i ne w) (new a' b' w') e = let m_is : target (t.link n r) ≡ m = sym (ap target w) ∙ (e
      ∙ (ap target w' ∙ target_word m 8 (omega arith))) in
      absurd (not_m (target (t.link n r)) (child_used n r i lr).1 m_is)
  once_go n r q y lr ly (else_ i ne w) (old a' b' w') e = absurd (not_old n r (t'.link n r) i lr ne w (e ∙ (ap target w'
      ∙ target_word l 8 (omega arith))))
  once_go n r q y lr ly (else_ i ne w) (else_ j ne' w') e = tree.once n r q y i lr j ly (sym (ap target w) ∙ (e ∙ ap target w'))

  meets_on : (x n : ℕ) → Meets t x n → Meets t' x n
  meets_on x n e = meets_same z t sane tree t' (λ x i. d.wired.keys x i.number) (λ q r i lt inner. let ne : (q ≡ p) × (r ≡ s)
      → ⊥ = λ (y : (q ≡ p) × (r ≡ s)).
      let leaf = d.leaf in let bad : leaf_bit (t.link p s) ≡ 0 = sym (ap (λ (v : ℕ). leaf_bit (t.link v r)) y.0
      ∙ ap (λ (v : ℕ). leaf_bit (t.link p v)) y.1) ∙ inner in omega arith in
      let same = d.wired.links q r i.number lt ne in (ap leaf_bit same ∙ inner, ap target same)) x n e

  -- the walks that came over the edge come to the new record
  meets_c : (x : ℕ) → Meets t x p → side x (t.key p) ≡ s → Meets t' x c
  meets_c x e on = let here : edge t' x p ≡ 16 * c = ap (λ (v : ℕ). t'.link p (side x v)) (d.wired.keys p d.parent.number)
      ∙ (ap (t'.link p) on ∙ d.wired.there) in
      down (meets_on x p e) (omega arith) (omega arith)

  edge_new : edge t' k c ≡ 16 * m + 8
  edge_new = ap (λ (v : ℕ). t'.link c (side k v)) (d.wired.keys c is_c) ∙ link_new

  edge_old : edge t' (t.key l) c ≡ 16 * l + 8
  edge_old = ap (λ (v : ℕ). t'.link c (side (t.key l) v)) (d.wired.keys c is_c) ∙ link_old

  -- a leaf but the one that was at the edge is still at the end of the walk that ended there
  end_else : (x q : ℕ) → Meets t x q → target (edge t x q) ≢ l → edge t' x q ≡ edge t x q
  end_else x q e ne = let i = meets_internal z t sane tree x q e in
      ap (λ (v : ℕ). t'.link q (side x v)) (d.wired.keys q i.number) ∙ d.wired.links q (side x (t.key q)) i.number (side_low x
      (t.key q))
      (λ y. ne (ap (λ (v : ℕ). target (t.link v (side x (t.key q)))) y.0 ∙ ap (λ (v : ℕ). target (t.link p v)) y.1))

  low_number : (n : ℕ) → 1 ≤ n → n ≤ 5 → IsNumber z n
  low_number n some few = let many = sane.records in (some, omega arith)

  key_on : (n x : ℕ) → 1 ≤ n → n ≤ 5 → t.key n ≡ x → t'.key n ≡ x
  key_on n x some few is = d.wired.keys n (low_number n some few) ∙ is

  -- the edges of R, and the right one of S, are those to sentinels, and S has no leaf for a pair on its right
  fixed : (n r x : ℕ) → 1 ≤ n → n ≤ 5 → r < 2 → t.link n r ≡ x → ((n ≡ p) × (r ≡ s) → ⊥) → t'.link n r ≡ x
  fixed n r x some few lt is ne = d.wired.links n r (low_number n some few) lt ne ∙ is

  on_low : (n : ℕ) → 1 ≤ n → n ≤ 5 → t'.state n ≡ attached
  on_low n some few = let on = tree.sentinels.on n some few in let used = is_used (t.state n) on in
      d.others n (not_c n used) (not_m n used) ∙ on

  not_root : p ≢ 1
  not_root e = let keys_are = tree.sentinels.keys in let key1 : t.key p ≡ 18446744073709551615 = ap t.key e
      ∙ keys_are.0 in let small = d.pair in
      let left : s ≡ 0 = sym d.at ∙ side_left k (t.key p) (omega arith) in
      let link : t.link p s ≡ 32 = ap (λ (x : ℕ). t.link x s) e ∙ (ap (t.link 1) left
      ∙ tree.sentinels.left_of_root) in let leaf = d.leaf in omega arith

  not_s : (p ≡ 2) × (s ≡ 1) → ⊥
  not_s e = let keys_are = tree.sentinels.keys in let key2 : t.key p ≡ 18446744073709551614 = ap t.key e.0
      ∙ keys_are.1 in let small = d.pair in
      let left : s ≡ 0 = sym d.at ∙ side_left k (t.key p) (omega arith) in let right = e.1 in omega arith

  sort_on : (n : ℕ) → IsNumber z n → IsLinked (t'.state n) → HasChildren t' n ⊎ HasNone t' n
  sort_on n number linked = go (what n)
    where
      go : Is n → HasChildren t' n ⊎ HasNone t' n
      go (is_new e) = inl (subst (HasChildren t') (sym e) children_c)
      go (is_leaf e) = inr (subst (HasNone t') (sym e) none_m)
      go (is_old nc nm same) = ⊎_elim (λ (f : HasChildren t n). inl (children_on n number f)) (λ (f : HasNone t n). inr
          (none_on n number f))
          (tree.sort n number (subst IsLinked same linked))

  leads_on : (P : ℕ → Type 0) (b n r : ℕ) → IsNumber z n → IsLinked (t'.state n) → r < 2 → IsEdge (t'.link n r) b
      → (b ≡ 0 → P c) → (b ≡ 1 → P m) → (b ≡ 1 → P l)
      → ((x y : ℕ) → IsNumber z x → IsLinked (t.state x) → y < 2 → IsEdge (t.link x y) b → IsNumber z (target (t.link x y))
      → P (target (t.link x y)))
      → P (target (t'.link n r))
  leads_on P b n r number linked lt e at_c at_m at_l each = go (what n)
    where
      go : Is n → P (target (t'.link n r))
      go (is_new same) = ⊎_elim
          (λ (on : r ≡ sn). let w : t'.link n r ≡ 16 * m + 8 = ap (λ (x : ℕ). t'.link x r) same ∙ (ap (t'.link c) on
          ∙ link_new) in let bit = e.1 in
          let to : m ≡ target (t'.link n r) = omega arith in subst P to (at_m (omega arith)))
          (λ (on : r ≡ so). let w : t'.link n r ≡ 16 * l + 8 = ap (λ (x : ℕ). t'.link x r) same ∙ (ap (t'.link c) on
          ∙ link_old) in let bit = e.1 in
          let to : l ≡ target (t'.link n r) = sym (ap target w ∙ target_word l 8 (omega arith)) in subst P to (at_l (sym bit
          ∙ (ap leaf_bit w ∙ omega arith))))
          (which r lt)
      go (is_leaf same) = absurd (e.2 (ap (λ (x : ℕ). target (t'.link x r)) same ∙ none_m r lt))
      go (is_old nc nm st) = ⊎_elim
          (λ (y : (n ≡ p) × (r ≡ s)). let w : t'.link n r ≡ 16 * c = ap (λ (x : ℕ). t'.link x r) y.0 ∙ (ap (t'.link p) y.1
          ∙ d.wired.there) in let bit = e.1 in
          let to : c ≡ target (t'.link n r) = omega arith in subst P to (at_c (omega arith)))
          (λ (ne : (n ≡ p) × (r ≡ s) → ⊥). let same = d.wired.links n r number lt ne in
          let was : IsEdge (t.link n r) b = subst (λ (x : ℕ). IsEdge x b) same e in
          let l' = subst IsLinked st linked in
          subst (λ (x : ℕ). P (target x)) (sym same) (each n r number l' lt was (sane.used n r number lt (linked_used
          (t.state n) l') was.0 was.2).0))
          (is_there n r p s)

  leaf_home_on : (n : ℕ) → Leaf z t' n → Behind t' n
  leaf_home_on n leaf = dite (ℕ_discrete n m)
      (λ e. let key : t'.key n ≡ k = ap t'.key e ∙ (d.wired.keys m is_m ∙ d.leaf_key) in record {
        parent = c;
        meets = subst (λ (x : ℕ). Meets t' x c) (sym key) (meets_c k d.meets d.at);
        leaf = ap (λ (x : ℕ). leaf_bit (edge t' x c)) key ∙ (ap leaf_bit edge_new ∙ omega arith);
        to = ap (λ (x : ℕ). target (edge t' x c)) key ∙ (ap target edge_new ∙ (target_word m 8 (omega arith) ∙ sym e));
      })
      (λ ne. dite (ℕ_discrete n l)
      (λ e. let key : t'.key n ≡ t.key l = d.wired.keys n leaf.number ∙ ap t.key e in record {
        parent = c;
        meets = subst (λ (x : ℕ). Meets t' x c) (sym key) (meets_c (t.key l) home_l.0 home_l.1);
        leaf = ap (λ (x : ℕ). leaf_bit (edge t' x c)) key ∙ (ap leaf_bit edge_old ∙ omega arith);
        to = ap (λ (x : ℕ). target (edge t' x c)) key ∙ (ap target edge_old ∙ (target_word l 8 (omega arith) ∙ sym e));
      })
      (λ ne'. let key = d.wired.keys n leaf.number in let b = tree.leaf_home n (leaf_was n leaf ne) in
      let same = end_else (t.key n) b.parent b.meets (λ y. ne' (sym b.to ∙ y)) in record {
        parent = b.parent;
        meets = subst (λ (x : ℕ). Meets t' x b.parent) (sym key) (meets_on (t.key n) b.parent b.meets);
        leaf = ap (λ (x : ℕ). leaf_bit (edge t' x b.parent)) key ∙ (ap leaf_bit same ∙ b.leaf);
        to = ap (λ (x : ℕ). target (edge t' x b.parent)) key ∙ (ap target same ∙ b.to);
      }))

  internal_home_on : (n : ℕ) → Internal z t' n → (1 ≤ t'.key n) × Meets t' (t'.key n) n × Meets t' (t'.key n - 1) n
  internal_home_on n i = subst (λ (x : ℕ). (1 ≤ x) × Meets t' x n × Meets t' (x - 1) n) (sym (d.wired.keys n i.number)) (dite
      (ℕ_discrete n c)
      (λ e. subst (λ (x : ℕ). (1 ≤ t.key x) × Meets t' (t.key x) x × Meets t' (t.key x - 1) x) (sym e)
      (keys.positive, meets_c (t.key c) keys.here.0 keys.here.1, meets_c (t.key c - 1) keys.before.0 keys.before.1))
      (λ ne. let h = tree.internal_home n (internal_was n i ne) in (h.0, meets_on (t.key n) n h.1, meets_on (t.key n - 1) n h.2)))

  pub tree_published : SearchTree z t'
  tree_published = record {
    sentinels = let was = tree.sentinels in record {
      head = λ h lt. d.wired.head h lt ∙ was.head h lt;
      on = on_low;
      keys = (
        key_on 1 _ (omega arith) (omega arith) was.keys.0,
        key_on 2 _ (omega arith) (omega arith) was.keys.1,
        key_on 3 _ (omega arith) (omega arith) was.keys.2,
        key_on 4 _ (omega arith) (omega arith) was.keys.3,
        key_on 5 _
            (omega arith) (omega arith) was.keys.4,
      );
      left_of_root = fixed 1 0 32 (omega arith) (omega arith) (omega arith) was.left_of_root (λ y. not_root (sym y.0));
      right_of_root = fixed 1 1 88 (omega arith) (omega arith) (omega arith) was.right_of_root (λ y. not_root (sym y.0));
      right_of_s = fixed 2 1 72 (omega arith) (omega arith) (omega arith) was.right_of_s (λ y. not_s (sym y.0, sym y.1));
      leaf3 = none_on 3 (low_number 3 (omega arith) (omega arith)) was.leaf3;
    };
    sort = sort_on;
    to_leaf = λ n r number linked lt e. leads_on (HasNone t') 1 n r number linked lt e (λ bad. absurd (omega arith))
        (λ is. none_m) (λ is. none_on l leaf_l.number leaf_l.none)
        (λ x y num link low is to. none_on (target (t.link x y)) to (tree.to_leaf x y num link low is));
    to_internal = λ n r number linked lt e. leads_on (HasChildren t') 0 n r number linked lt e (λ is. children_c)
        (λ bad. absurd (omega arith)) (λ bad. absurd (omega arith))
        (λ x y num link low is to. children_on (target (t.link x y)) to (tree.to_internal x y num link low is));
    bare = λ n r leaf lt. dite (ℕ_discrete n m) (λ e. ap (λ (x : ℕ). t'.link x r) e ∙ link_bare r lt)
        (λ ne. let was = leaf_was n leaf ne in link_else n r leaf.number lt (λ e. d.parent.children s d.low (subst
        (HasNone t) e was.none s d.low)) ∙ tree.bare n r was lt);
    rooted = λ n r i lt e. rooted_go n r lt (edge_at n r i lt) e;
    once = λ n r q y i lr j ly e. once_go n r q y lr ly (edge_at n r i lr) (edge_at q y j ly) e;
    flagged = λ n r i lt flag. flagged_go n r lt (edge_at n r i lt) flag;
    tagged = λ n r i lt tag. tagged_go n r i.number lt (edge_at n r i lt) tag;
    unflagged = λ n r number u lt e. unflagged_go n r number (what n) u lt e;
    frozen = λ n r number linked off children lt. frozen_go n r number (what n) linked off children lt;
    leaf_home = leaf_home_on;
    internal_home = internal_home_on;
  }
    where
      root_used : IsUsed (t.state 1)
      root_used = is_used (t.state 1) (tree.sentinels.on 1 (omega arith) (omega arith))

      unflagged_go : (n r : ℕ) → IsNumber z n → Is n → IsUsed (t'.state n) → r < 2 → IsEdge (t'.link n r) 0
          → flag_bit (t'.link n r) ≡ 0
      unflagged_go n r number (is_new e) u lt edge_is = ⊎_elim
          (λ (at : r ≡ sn). let now : t'.link n r ≡ 16 * m + 8 = ap (λ (x : ℕ). t'.link x r) e ∙ (ap (t'.link c) at
          ∙ link_new) in let one = edge_is.1 in absurd (omega arith))
          (λ (at : r ≡ so). let now : t'.link n r ≡ 16 * l + 8 = ap (λ (x : ℕ). t'.link x r) e ∙ (ap (t'.link c) at
          ∙ link_old) in let one = edge_is.1 in absurd (omega arith))
          (which r lt)
      unflagged_go n r number (is_leaf e) u lt edge_is = absurd (edge_is.2 (ap target (ap (λ (x : ℕ). t'.link x r) e
          ∙ link_bare r lt)))
      unflagged_go n r number (is_old nc nm same) u lt edge_is = ⊎_elim
          (λ (at : (n ≡ p) × (r ≡ s)). let now : t'.link n r ≡ 16 * c = ap (λ (x : ℕ). t'.link x r) at.0
          ∙ (ap (t'.link p) at.1 ∙ d.wired.there) in omega arith)
          (λ (ne : (n ≡ p) × (r ≡ s) → ⊥). let link = d.wired.links n r number lt ne in
          ap flag_bit link ∙ tree.unflagged n r number (subst IsUsed same u) lt (subst (λ (w : ℕ). IsEdge w 0) link edge_is))
          (is_there n r p s)

      frozen_go : (n r : ℕ) → IsNumber z n → Is n → IsLinked (t'.state n) → t'.state n ≢ attached → HasChildren t' n → r < 2
          → IsFrozen (t'.link n r)
      frozen_go n r number (is_new e) linked off children lt = absurd (off (ap t'.state e ∙ d.now.0))
      frozen_go n r number (is_leaf e) linked off children lt = absurd (off (ap t'.state e ∙ d.now.1))
      frozen_go n r number (is_old nc nm same) linked off children lt = let off' : t.state n ≢ attached = λ e. off (same
          ∙ e) in let linked' = subst IsLinked same linked in
          let np : n ≢ p = λ e. off' (ap t.state e ∙ d.parent.on) in
          let was : HasChildren t n = ⊎_elim (λ (f : HasChildren t n). f) (λ (f : HasNone t n). absurd (children 0
          (omega arith) (none_on n number f 0 (omega arith))))
          (tree.sort n number linked') in
          subst IsFrozen (sym (link_else n r number lt np)) (tree.frozen n r number linked' off' was lt)

      rooted_go : (n r : ℕ) → r < 2 → Edge n r → target (t'.link n r) ≢ 1
      rooted_go n r lt (at a b w) e = not_c 1 root_used (omega arith)
      rooted_go n r lt (new a b w) e = not_m 1 root_used (omega arith)
      rooted_go n r lt (old a b w) e = tree.rooted p s d.parent d.low (sym (ap target w ∙ target_word l 8 (omega arith)) ∙ e)
      rooted_go n r lt (else_ i ne w) e = tree.rooted n r i lt (sym (ap target w) ∙ e)

      flagged_go : (n r : ℕ) → r < 2 → Edge n r → flag_bit (t'.link n r) ≡ 1 → (leaf_bit (t'.link n r) ≡ 1)
          × (t'.key (target (t'.link n r)) < inf0)
      flagged_go n r lt (at a b w) flag = absurd (omega arith)
      flagged_go n r lt (new a b w) flag = absurd (omega arith)
      flagged_go n r lt (old a b w) flag = let bad : flag_bit (16 * l + 8) ≡ 1 = sym (ap flag_bit w)
          ∙ flag in absurd (omega arith)
      flagged_go n r lt (else_ i ne w) flag = let f = tree.flagged n r i lt (sym (ap flag_bit w) ∙ flag) in (
        ap leaf_bit w ∙ f.0,
        subst (λ (x : ℕ). x < inf0) (sym (ap (λ (x : ℕ). t'.key (target x)) w
            ∙ d.wired.keys (target (t.link n r)) (child_used n r i lt).0)) f.1,
      )

      tagged_go : (n r : ℕ) → IsNumber z n → r < 2 → Edge n r → tag_bit (t'.link n r) ≡ 1 → flag_bit (t'.link n (across r)) ≡ 1
      tagged_go n r number lt (at a b w) tag = absurd (omega arith)
      tagged_go n r number lt (new a b w) tag = absurd (omega arith)
      tagged_go n r number lt (old a b w) tag = let bad : tag_bit (16 * l + 8) ≡ 1 = sym (ap tag_bit w)
          ∙ tag in absurd (omega arith)
      tagged_go n r number lt (else_ i ne w) tag = let f = tree.tagged n r i lt (sym (ap tag_bit w) ∙ tag) in ⊎_elim
          (λ (y : (n ≡ p) × (across r ≡ s)). let plain = d.plain in
          let bad : flag_bit (t.link p s) ≡ 1 = sym (ap (λ (x : ℕ). flag_bit (t.link x (across r))) y.0
          ∙ ap (λ (x : ℕ). flag_bit (t.link p x)) y.1) ∙ f in absurd (omega arith))
          (λ (y : (n ≡ p) × (across r ≡ s) → ⊥). ap flag_bit (d.wired.links n (across r) number (across_low r) y) ∙ f)
          (is_there n (across r) p s)

  -- the key of the new leaf was absent
  pub absent : (map : List Pair) → Mapped z t map → find map k ≡ None
  absent map have = ⊎_elim (λ (none : find map k ≡ None). none)
      (λ (some : (v : ℕ) × (find map k ≡ Some v)). let r = have.records k some.0 some.1 in
      let leaf : leaf_bit (edge t k p) ≡ 1 = ap (λ (x : ℕ). leaf_bit (t.link p x)) d.at ∙ d.leaf in
      let same = one_end t k r.parent p r.meets r.leaf d.meets leaf in
      absurd (d.other (ap (λ (x : ℕ). t.key (target (t.link p x))) (sym d.at)
      ∙ (ap (λ (x : ℕ). t.key (target (edge t k x))) (sym same) ∙ r.key))))
      (option_cases (find map k))

  -- and its pair is in the map now
  pub mapped_published : (map : List Pair) → Mapped z t map → Mapped z t' (put map k (t.value m))
  mapped_published map have = record {
    sorted = RisesFrom-put map 0 k (t.value m) have.sorted (omega arith) (absent map have);
    pairs = λ n r i lt leaf plain low. pairs_go n r lt (edge_at n r i lt) leaf plain low;
    records = λ x v is. dite (ℕ_discrete x k)
        (λ e. subst (Stored t') (sym e) record {
          parent = c;
          meets = meets_c k d.meets d.at;
          leaf = ap leaf_bit edge_new ∙ omega arith;
          plain = ap flag_bit edge_new ∙ omega arith;
          key = ap (λ (y : ℕ). t'.key (target y)) edge_new ∙ (ap t'.key (target_word m 8 (omega arith))
              ∙ (d.wired.keys m is_m ∙ d.leaf_key));
          low = d.pair;
        })
        (λ ne. let r = have.records x v (sym (find_put_else map k (t.value m) x ne)
        ∙ is) in let i = meets_internal z t sane tree x r.parent r.meets in dite (ℕ_discrete (target (edge t x r.parent)) l)
        (λ e. let key : x ≡ t.key l = sym r.key ∙ ap t.key e in subst (Stored t') (sym key) record {
          parent = c;
          meets = meets_c (t.key l) home_l.0 home_l.1;
          leaf = ap leaf_bit edge_old ∙ omega arith;
          plain = ap flag_bit edge_old ∙ omega arith;
          key = ap (λ (y : ℕ). t'.key (target y)) edge_old ∙ (ap t'.key (target_word l 8 (omega arith))
              ∙ d.wired.keys l leaf_l.number);
          low = subst (λ (y : ℕ). y < inf0) key r.low;
        })
        (λ other. let same = end_else x r.parent r.meets other in record {
          parent = r.parent;
          meets = meets_on x r.parent r.meets;
          leaf = ap leaf_bit same ∙ r.leaf;
          plain = ap flag_bit same ∙ r.plain;
          key = ap (λ (y : ℕ). t'.key (target y)) same ∙ (d.wired.keys (target (edge t x r.parent)) (child_used r.parent
              (side x (t.key r.parent)) i (side_low x (t.key r.parent))).0 ∙ r.key);
          low = r.low;
        }));
  }
    where
      -- what stands in a leaf
      at_leaf : (x y : ℕ) → x ≡ y → IsNumber z y → (t'.key x ≡ t.key y) × (t'.value x ≡ t.value y)
      at_leaf x y e number = (ap t'.key e ∙ d.wired.keys y number, ap t'.value e ∙ d.wired.values y number)

      pairs_go : (n r : ℕ) → r < 2 → Edge n r → leaf_bit (t'.link n r) ≡ 1 → flag_bit (t'.link n r) ≡ 0
          → t'.key (target (t'.link n r)) < inf0
          → find (put map k (t.value m)) (t'.key (target (t'.link n r))) ≡ Some (t'.value (target (t'.link n r)))
      pairs_go n r lt (at a b w) leaf plain low = absurd (omega arith)
      pairs_go n r lt (new a b w) leaf plain low = let is = at_leaf (target (t'.link n r)) m (ap target w
          ∙ target_word m 8 (omega arith)) is_m in
          ap (find (put map k (t.value m))) (is.0 ∙ d.leaf_key) ∙ (find_put map k (t.value m) (absent map have)
          ∙ ap Some (sym is.1))
      pairs_go n r lt (old a b w) leaf plain low = let is = at_leaf (target (t'.link n r)) l (ap target w
          ∙ target_word l 8 (omega arith)) leaf_l.number in
          ap (find (put map k (t.value m))) is.0 ∙ (find_put_else map k (t.value m) (t.key l) d.other
          ∙ (have.pairs p s d.parent d.low d.leaf d.plain (subst (λ (y : ℕ). y < inf0) is.0 low) ∙ ap Some (sym is.1)))
      pairs_go n r lt (else_ i ne w) leaf plain low = let x : ℕ = target (t.link n r) in
          let is = at_leaf (target (t'.link n r)) x (ap target w) (child_used n r i lt).0 in
          let leaf' : leaf_bit (t.link n r) ≡ 1 = sym (ap leaf_bit w) ∙ leaf in
          let other : t.key x ≢ k = λ (e : t.key x ≡ k). let one = one_leaf z t sane tree k p n r d.meets (ap (λ
          (y : ℕ). leaf_bit (t.link p y)) d.at ∙ d.leaf) i lt leaf' e in
          ne (one.0, one.1 ∙ d.at) in
          ap (find (put map k (t.value m))) is.0 ∙ (find_put_else map k (t.value m) (t.key x) other
          ∙ (have.pairs n r i lt leaf' (sym (ap flag_bit w) ∙ plain) (subst (λ (y : ℕ). y < inf0) is.0 low) ∙ ap Some (sym is.1)))

  pub onward_published : Onward z t t'
  onward_published = record {
    ways = λ n r number used used' lt valid. ⊎_elim
        (λ (y : (n ≡ p) × (r ≡ s)). inr (
          subst (Internal z t) (sym y.0) d.parent,
          ap t'.state y.0
              ∙ (d.others p p_not_c p_not_m ∙ d.parent.on),
        ))
        (λ (ne : (n ≡ p) × (r ≡ s) → ⊥). let same = d.wired.links n r number lt ne in
        inl record {
          valid = sym (ap invalid_bit same) ∙ valid;
          to = ap target same;
          leaf = ap leaf_bit same;
          flag = ap
              flag_bit same;
        })
        (is_there n r p s);
    keys = λ n number used used'. d.wired.keys n number;
    values = λ n number used used'. d.wired.values n number;
    meets = λ x n e on. meets_on x n e;
    was = λ n used on. sym (d.others n (not_c n used) (not_m n used)) ∙ on;
    children = λ n r number used used' lt some. ⊎_elim
        (λ (y : (n ≡ p) × (r ≡ s)). λ e. let w : t'.link n r ≡ 16 * c = ap (λ (x : ℕ). t'.link x r) y.0 ∙ (ap (t'.link p) y.1
        ∙ d.wired.there) in
        let one : 1 ≤ c = is_c.0 in omega arith)
        (λ (ne : (n ≡ p) × (r ≡ s) → ⊥). λ e. some (sym (ap target (d.wired.links n r number lt ne)) ∙ e)) (is_there n r p s);
  }
