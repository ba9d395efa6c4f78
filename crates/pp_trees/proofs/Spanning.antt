-- The way through a tree from left to right: the records of which the right side is still to come, and the keys that an edge has.
use Rattle.std.proofs.Common.{◌≡◌, ◌⊎◌, inl, inr, ⊎_elim, ℕ, ◌-◌, ◌<◌, ◌≤◌, List, [], ◌∷◌}
use Rattle.std.proofs.Common.{refl, sym, ap, ◌∙◌, subst, arith}
use Rattle.std.proofs.lemmas.Bool.{cases_lt}
use Rattle.pp_link.specs.declared.layout.Sizes.{Sizes}
use Rattle.pp_link.specs.Links.{target, flag_bit, leaf_bit}
use Rattle.pp_trees.specs.Trees.{Heap, side, edge, Internal, Leaf, Meets, root, down, inf0, inf2, Sane, SearchTree}
use Rattle.pp_trees.specs.Gathering.{LiveLeaf}
use Rattle.pp_trees.proofs.Walking.{side_left, side_right, side_low, root_internal, child_internal, child_leaf}
use Rattle.pp_trees.proofs.Walking.{meets_internal, home_edge, one_end}
use Rattle.pp_trees.proofs.Searching.{child, over_side}

-- the key from which on the walks leave what is below the top of the stack
abbrev pub bound : Heap → List ℕ → ℕ
bound t [] = 18446744073709551616
bound t (n ∷ ns) = t.key n

-- The left side of n is being visited, and its right side is still to come: n is on the walks of all keys from lo up to hi.
pub record OnStack (z : Sizes) (t : Heap) (lo n hi : ℕ) : Type 0 where
  pub internal : Internal z t n
  pub falls : t.key n < hi
  pub comes : (k : ℕ) → lo ≤ k → k < hi → Meets t k n
  pub only : (k : ℕ) → k < 18446744073709551616 → Meets t k n → k < hi

abbrev pub Stacked : Sizes → Heap → ℕ → List ℕ → Type 0
Stacked z t lo [] = Unit {0}
Stacked z t lo (n ∷ ns) = OnStack z t lo n (bound t ns) × Stacked z t lo ns

-- the walks that come over the edge (n, s) are those of the keys from lo up to hi
pub record Spans (z : Sizes) (t : Heap) (n s lo hi : ℕ) : Type 0 where
  pub internal : Internal z t n
  pub low : s < 2
  pub some : lo < hi
  pub comes : (k : ℕ) → lo ≤ k → k < hi → Meets t k n × (side k (t.key n) ≡ s)
  pub only : (k : ℕ) → k < 18446744073709551616 → Meets t k n → side k (t.key n) ≡ s → (lo ≤ k) × (k < hi)

pub is_left : (k key : ℕ) → side k key ≡ 0 → k < key
is_left k key e = ⊎_elim (λ (lt : k < key). lt) (λ (le : key ≤ k). let r = side_right k key le in
    absurd (omega arith)) (cases_lt k key)

pub is_right : (k key : ℕ) → side k key ≡ 1 → key ≤ k
is_right k key e = ⊎_elim (λ (lt : k < key). let l = side_left k key lt in
    absurd (omega arith)) (λ (le : key ≤ k). le) (cases_lt k key)

pub stacked_later : (z : Sizes) (t : Heap) (lo lo' : ℕ) (ns : List ℕ) → lo ≤ lo' → Stacked z t lo ns → Stacked z t lo' ns
stacked_later z t lo lo' [] le st = tt
stacked_later z t lo lo' (n ∷ ns) le st = let e = st.0 in (
  record {
    internal = e.internal;
    falls = e.falls;
    comes = λ k a b. e.comes k
        (omega arith) b;
    only = e.only;
  },
  stacked_later z t lo lo' ns le st.1,
)

module _ (z : Sizes) (t : Heap) (sane : Sane z t) (tree : SearchTree z t) where
  pub came_over : (n s k : ℕ) → Internal z t n → s < 2 → Meets t k (target (t.link n s)) → Meets t k n × (side k (t.key n) ≡ s)
  came_over n s k i lt m = over_side z t sane tree n s i lt k (target (t.link n s)) (child refl) m

  -- on the right of the root there is a leaf
  right_leaf : (k p : ℕ) → p ≡ 1 → inf2 ≤ k → leaf_bit (edge t k p) ≡ 0 → ⊥
  right_leaf k p e le inner = let keys = tree.sentinels.keys in let key : t.key p ≡ inf2 = ap t.key e ∙ keys.0 in
      let at : side k (t.key p) ≡ 1 = side_right k (t.key p) (omega arith) in
      let link : t.link p (side k (t.key p)) ≡ 88 = ap (t.link p) at ∙ (ap (λ (x : ℕ). t.link x 1) e
      ∙ tree.sentinels.right_of_root) in omega arith

  meets_low : (k : ℕ) (n : ℕ) → Meets t k n → (n ≡ 1) ⊎ (k < inf2)
  meets_low k n (root e) = inl e
  meets_low k n (down {n = p} m inner to) = inr (⊎_elim
      (λ (e : p ≡ 1). ⊎_elim (λ (lt : k < inf2). lt) (λ (le : inf2 ≤ k). absurd (right_leaf k p e le inner)) (cases_lt k inf2))
      (λ (lt : k < inf2). lt) (meets_low k p m))

  pub internal_low : (n : ℕ) → Internal z t n → t.key n < 18446744073709551616
  internal_low n i = ⊎_elim (λ (e : n ≡ 1). let keys = tree.sentinels.keys in let key : t.key n ≡ inf2 = ap t.key e
      ∙ keys.0 in omega arith)
      (λ (lt : t.key n < inf2). omega arith) (meets_low (t.key n) n (tree.internal_home n i).1)

  pub leaf_low : (n s : ℕ) → Internal z t n → s < 2 → leaf_bit (t.link n s) ≡ 1
      → t.key (target (t.link n s)) < 18446744073709551616
  leaf_low n s i lt leaf = let l : ℕ = target (t.link n s) in let h = home_edge z t sane tree n s i lt leaf in ⊎_elim
      (λ (e : n ≡ 1). ⊎_elim (λ (lt : t.key l < inf2). omega arith)
      (λ (le : inf2 ≤ t.key l). let keys = tree.sentinels.keys in let key : t.key n ≡ inf2 = ap t.key e ∙ keys.0 in
      let at : s ≡ 1 = sym h.1 ∙ side_right (t.key l) (t.key n) (omega arith) in
      let link : t.link n s ≡ 88 = ap (t.link n) at ∙ (ap (λ (x : ℕ). t.link x 1) e ∙ tree.sentinels.right_of_root) in
      let five : l ≡ 5 = ap target link in let last : t.key l ≡ inf2 = ap t.key five ∙ keys.4 in omega arith)
      (cases_lt (t.key l) inf2))
      (λ (lt : t.key l < inf2). omega arith) (meets_low (t.key l) n h.0)

  pub started : Stacked z t 0 (1 ∷ []) × Spans z t 1 0 0 (t.key 1)
  started = let keys = tree.sentinels.keys in let key : t.key 1 ≡ inf2 = keys.0 in let i = root_internal z t sane tree in (
    (record { internal = i; falls = omega arith; comes = λ k a b. root refl; only = λ k small m. small }, tt),
    record {
      internal = i;
      low = omega arith;
      some = omega arith;
      comes = λ k a b. (root refl, side_left k (t.key 1) b);
      only = λ k small m at. (omega arith, is_left k (t.key 1) at);
    },
  )

  -- down an edge to an internal record
  pub pushed : (n s lo : ℕ) (ns : List ℕ) → Spans z t n s lo (bound t ns) → Stacked z t lo ns → leaf_bit (t.link n s) ≡ 0
      → Stacked z t lo (target (t.link n s) ∷ ns) × Spans z t (target (t.link n s)) 0 lo (t.key (target (t.link n s)))
      × (t.key (target (t.link n s)) < bound t ns)
  pushed n s lo ns sp st inner = (
    (record { internal = i; falls = falls; comes = meet; only = λ k small m. (at k small m).1 }, st),
    record {
      internal = i;
      low = omega arith;
      some = let below = was_below in let one = home.0 in omega arith;
      comes = λ k a b. (meet k a (let f = falls in omega arith), side_left k (t.key c) b);
      only = λ k small m on. ((at k small m).0, is_left k (t.key c) on);
    },
    falls,
  )
    where
      c : ℕ
      c = target (t.link n s)

      i : Internal z t (target (t.link n s))
      i = child_internal z t sane tree n s sp.internal sp.low inner

      home : (1 ≤ t.key (target (t.link n s))) × Meets t (t.key (target (t.link n s))) (target (t.link n s))
          × Meets t (t.key (target (t.link n s)) - 1) (target (t.link n s))
      home = tree.internal_home (target (t.link n s)) i

      at : (k : ℕ) → k < 18446744073709551616 → Meets t k (target (t.link n s)) → (lo ≤ k) × (k < bound t ns)
      at k small m = let o = came_over n s k sp.internal sp.low m in sp.only k small o.0 o.1

      falls : t.key (target (t.link n s)) < bound t ns
      falls = (at (t.key (target (t.link n s))) (internal_low (target (t.link n s)) i) home.1).1

      was_below : lo ≤ t.key (target (t.link n s)) - 1
      was_below = (at (t.key (target (t.link n s)) - 1) (let small = internal_low (target (t.link n s)) i in
          omega arith) home.2).0

      meet : (k : ℕ) → lo ≤ k → k < bound t ns → Meets t k (target (t.link n s))
      meet k a b = let over = sp.comes k a b in down over.0 (ap (λ (r : ℕ). leaf_bit (t.link n r)) over.1
          ∙ inner) (ap (λ (r : ℕ). target (t.link n r)) (sym over.1))

  -- on to the right side of the record on the top
  pub popped : (lo r : ℕ) (ns : List ℕ) → lo ≤ t.key r → Stacked z t lo (r ∷ ns) → Stacked z t (t.key r) ns
      × Spans z t r 1 (t.key r) (bound t ns)
  popped lo r ns le st = let e = st.0 in (
    stacked_later z t lo (t.key r) ns le st.1,
    record {
      internal = e.internal;
      low = omega arith;
      some = e.falls;
      comes = λ k a b. (e.comes k (omega arith) b, side_right k (t.key r) a);
      only = λ k small m at. (is_right k (t.key r) at, e.only k small m);
    },
  )

  -- a live leaf with one of the keys of an edge to a leaf is that leaf, and the edge has no FLAG
  pub only_leaf : (n s lo hi q : ℕ) → Spans z t n s lo hi → leaf_bit (t.link n s) ≡ 1 → LiveLeaf t q → lo ≤ t.key q → t.key q < hi
      → (q ≡ target (t.link n s)) × (flag_bit (t.link n s) ≡ 0)
  only_leaf n s lo hi q sp leaf l a b = let over = sp.comes (t.key q) a b in
      let same : l.parent ≡ n = one_end t (t.key q) l.parent n l.meets l.leaf over.0 (ap (λ (r : ℕ). leaf_bit
      (t.link n r)) over.1 ∙ leaf) in
      let word : edge t (t.key q) l.parent ≡ t.link n s = ap (λ (x : ℕ). edge t (t.key q) x) same ∙ ap (t.link n) over.1 in
      (sym l.to ∙ ap target word, sym (ap flag_bit word) ∙ l.plain)

  -- the leaf behind an edge without FLAG is live, and its key is one of the edge's
  pub live_leaf : (n s : ℕ) → Internal z t n → s < 2 → leaf_bit (t.link n s) ≡ 1 → flag_bit (t.link n s) ≡ 0
      → LiveLeaf t (target (t.link n s))
  live_leaf n s i lt leaf plain = let h = home_edge z t sane tree n s i lt leaf in let word = ap (t.link n) h.1 in record {
    parent = n;
    meets = h.0;
    leaf = ap leaf_bit word ∙ leaf;
    plain = ap flag_bit word ∙ plain;
    to = ap target word;
  }

  pub leaf_within : (n s lo hi : ℕ) → Spans z t n s lo hi → leaf_bit (t.link n s) ≡ 1 → (lo ≤ t.key (target (t.link n s)))
      × (t.key (target (t.link n s)) < hi)
  leaf_within n s lo hi sp leaf = let h = home_edge z t sane tree n s sp.internal sp.low leaf in
      sp.only (t.key (target (t.link n s))) (leaf_low n s sp.internal sp.low leaf) h.0 h.1

  -- a live leaf has no children
  pub live_is_leaf : (l : ℕ) → LiveLeaf t l → Leaf z t l
  live_is_leaf l live = let p = live.parent in
      subst (Leaf z t) live.to (child_leaf z t sane tree p (side (t.key l) (t.key p)) (meets_internal z t sane tree
      (t.key l) p live.meets) (side_low (t.key l) (t.key p)) live.leaf)

  pub live_low : (l : ℕ) → LiveLeaf t l → t.key l < 18446744073709551616
  live_low l live = let p = live.parent in let s : ℕ = side (t.key l) (t.key p) in
      subst (λ (x : ℕ). t.key x < 18446744073709551616) live.to (leaf_low p s (meets_internal z t sane tree
      (t.key l) p live.meets) (side_low (t.key l) (t.key p)) live.leaf)

  -- the sentinel leaves are live
  sentinel_live : (l : ℕ) → Leaf z t l → inf0 ≤ t.key l → LiveLeaf t l
  sentinel_live l leaf high = let b = tree.leaf_home l leaf in let p = b.parent in let s = side (t.key l) (t.key p) in record {
    parent = p;
    meets = b.meets;
    leaf = b.leaf;
    plain = ⊎_elim (λ (e : flag_bit (t.link p s) ≡ 0). e)
        (λ (e : flag_bit (t.link p s) ≡ 1). let bad = (tree.flagged p s (meets_internal z t sane tree (t.key l) p b.meets)
        (side_low (t.key l) (t.key p)) e).1 in
        let same : t.key (target (t.link p s)) ≡ t.key l = ap t.key b.to in absurd (omega arith))
        (bit (t.link p s));
    to = b.to;
  }
    where
      bit : (w : ℕ) → (flag_bit w ≡ 0) ⊎ (flag_bit w ≡ 1)
      bit w = ⊎_elim (λ (a : flag_bit w < 1). inl (omega arith)) (λ (a : 1 ≤ flag_bit w). inr (omega arith)) (cases_lt
          (flag_bit w) 1)

  pub sentinels_live : LiveLeaf t 3 × LiveLeaf t 4 × LiveLeaf t 5
  sentinels_live = let many = sane.records in let keys = tree.sentinels.keys in let r = root_internal z t sane tree in
      let sn = tree.sentinels in
      let left = sn.left_of_root in let right = sn.right_of_root in let mid = sn.right_of_s in
      let two : Internal z t 2 = subst (Internal z t) (ap target left) (child_internal z t sane tree 1 0 r (omega arith)
      (omega arith)) in
      let four : Leaf z t 4 = subst (Leaf z t) (ap target mid) (child_leaf z t sane tree 2 1 two (omega arith) (omega arith)) in
      let five : Leaf z t 5 = subst (Leaf z t) (ap target right) (child_leaf z t sane tree 1 1 r (omega arith) (omega arith)) in
      let three : Leaf z t 3 = record {
        number = (omega arith, omega arith);
        on = sn.on 3 (omega arith)
            (omega arith);
        none = sn.leaf3;
      } in
      let k3 = keys.2 in let k4 = keys.3 in let k5 = keys.4 in
      (sentinel_live 3 three (omega arith), sentinel_live 4 four (omega arith), sentinel_live 5 five (omega arith))
