-- A call that stands at a record while another pass steps, and the steps of its own seek.
use Rattle.std.proofs.Common.{◌≡◌, ◌≢◌, ◌⊎◌, inl, inr, ⊎_elim, ℕ, ◌<◌, ◌≤◌, cond, eqb, List, length, Option, Some, None}
use Rattle.std.proofs.Common.{refl, sym, ap, ◌∙◌, subst, arith}
use Rattle.pp_link.specs.declared.layout.Sizes.{Sizes}
use Rattle.pp_link.specs.Links.{target, flag_bit, invalid_bit, leaf_bit}
use Rattle.pp_link.specs.Places.{IsNumber}
use Rattle.pp_model.specs.declared.Change.{Change}
use Rattle.pp_model.specs.FiniteMap.{find}
use Rattle.pp_model.specs.History.{after, contents_of}
use Rattle.pp_model.proofs.Histories.{after_all}
use Rattle.pp_rule.specs.States.{attached, IsUsed, IsLinked}
use Rattle.pp_trees.specs.Trees.{Heap, side, edge, Internal, Meets, root, IsEdge, Comes, there, over, answer}
use Rattle.pp_trees.specs.Trees.{Finds, ends, goes, inf0, Sane, SearchTree, Mapped, IsRight, Standing}
use Rattle.pp_trees.proofs.Walking.{side_low, meets_back, comes_meets, finds_contents, meets_internal}

-- a link that can be followed now could be followed before, and leads where it led
pub record SameWay (w w' : ℕ) : Type 0 where
  pub valid : invalid_bit w ≡ 0
  pub to : target w' ≡ target w
  pub leaf : leaf_bit w' ≡ leaf_bit w
  pub flag : flag_bit w' ≡ flag_bit w

-- What a step has to show for the walks of the other passes: only links of attached records change for a walk, and the range of a
-- record only widens while it is attached.
pub record Onward (z : Sizes) (t t' : Heap) : Type 0 where
  pub ways : (n s : ℕ) → IsNumber z n → IsUsed (t.state n) → IsUsed (t'.state n) → s < 2 → invalid_bit (t'.link n s) ≡ 0
      → SameWay (t.link n s) (t'.link n s) ⊎ (Internal z t n × (t'.state n ≡ attached))
  pub keys : (n : ℕ) → IsNumber z n → IsUsed (t.state n) → IsUsed (t'.state n) → t'.key n ≡ t.key n
  pub values : (n : ℕ) → IsNumber z n → IsUsed (t.state n) → IsUsed (t'.state n) → t'.value n ≡ t.value n
  pub meets : (k n : ℕ) → Meets t k n → t'.state n ≡ attached → Meets t' k n
  pub was : (n : ℕ) → IsUsed (t.state n) → t'.state n ≡ attached → t.state n ≡ attached
  pub children : (n s : ℕ) → IsNumber z n → IsUsed (t.state n) → IsUsed (t'.state n) → s < 2 → target (t.link n s) ≢ 0
      → target (t'.link n s) ≢ 0

-- the log grew
pub record Grown (log log' : List Change) : Type 0 where
  pub longer : length log ≤ length log'
  pub same : (p : ℕ) → p ≤ length log → after log' p ≡ after log p

pub answer_same : (t t' : Heap) (k w w' : ℕ) → t'.key (target w') ≡ t.key (target w)
    → t'.value (target w') ≡ t.value (target w) → flag_bit w' ≡ flag_bit w
    → answer t' k w' ≡ answer t k w
answer_same t t' k w w' key value flag =
    ap (λ (x : ℕ). cond (eqb x k) (cond (eqb (flag_bit w') 0) (Some (t'.value (target w'))) None) None) key
    ∙ (ap (λ (x : ℕ). cond (eqb (t.key (target w)) k) (cond (eqb x 0) (Some (t'.value (target w'))) None) None) flag
    ∙ ap (λ (x : ℕ). cond (eqb (t.key (target w)) k) (cond (eqb (flag_bit w) 0) (Some x) None) None) value)

module _ (z : Sizes) (t t' : Heap) (k : ℕ) (sane : Sane z t) (sane' : Sane z t') (tree' : SearchTree z t')
    (on : Onward z t t') where
  -- every attached record on the walk from n is on the root's walk
  abbrev pub Rooted : ℕ → Type 0
  Rooted n = (m : ℕ) → Comes t k m n → t.state m ≡ attached → Meets t k m

  -- A walk finds what it found before, or what a walk from the root finds now.
  pub finds_on : (a : Option ℕ) (n : ℕ) → Rooted n → IsNumber z n → IsUsed (t.state n) → IsUsed (t'.state n) → Finds t' k a n
      → Finds t k a n ⊎ Finds t' k a 1
  finds_on a n rooted number used used' (ends e is) = let lt = side_low k (t.key n) in let key = on.keys n number used used' in
      let at : edge t' k n ≡ t'.link n (side k (t.key n)) = ap (λ (x : ℕ). t'.link n (side k x)) key in
      let e' : IsEdge (t'.link n (side k (t.key n))) 1 = subst (λ (w : ℕ). IsEdge w 1) at e in ⊎_elim
      (λ (same : SameWay (edge t k n) (t'.link n (side k (t.key n)))).
      let some : target (edge t k n) ≢ 0 = λ (nil : target (edge t k n) ≡ 0). e'.2 (same.to ∙ nil) in
      let x = sane.used n (side k (t.key n)) number lt used same.valid some in
      let x' = sane'.used n (side k (t.key n)) number lt used' e'.0 e'.2 in
      let use' : IsUsed (t'.state (target (edge t k n))) = subst (λ (m : ℕ). IsUsed (t'.state m)) same.to x'.1 in
      inl (ends (same.valid, sym same.leaf ∙ e'.1, some) (is ∙ (ap (answer t' k) at
      ∙ answer_same t t' k (edge t k n) (t'.link n (side k (t.key n)))
      (ap t'.key same.to ∙ on.keys (target (edge t k n)) x.0 x.1 use') (ap t'.value same.to
      ∙ on.values (target (edge t k n)) x.0 x.1 use') same.flag))))
      (λ (here : Internal z t n × (t'.state n ≡ attached)). inr (meets_back z t' sane' tree' k a n
      (on.meets k n (rooted n (there refl) here.0.on) here.1) (ends e is)))
      (on.ways n (side k (t.key n)) number used used' lt e'.0)
  finds_on a n rooted number used used' (goes e f) = let lt = side_low k (t.key n) in let key = on.keys n number used used' in
      let at : edge t' k n ≡ t'.link n (side k (t.key n)) = ap (λ (x : ℕ). t'.link n (side k x)) key in
      let e' : IsEdge (t'.link n (side k (t.key n))) 0 = subst (λ (w : ℕ). IsEdge w 0) at e in ⊎_elim
      (λ (same : SameWay (edge t k n) (t'.link n (side k (t.key n)))).
      let some : target (edge t k n) ≢ 0 = λ (nil : target (edge t k n) ≡ 0). e'.2 (same.to ∙ nil) in
      let is_edge : IsEdge (edge t k n) 0 = (same.valid, sym same.leaf ∙ e'.1, some) in
      let x = sane.used n (side k (t.key n)) number lt used same.valid some in
      let x' = sane'.used n (side k (t.key n)) number lt used' e'.0 e'.2 in
      let go : target (edge t' k n) ≡ target (edge t k n) = ap target at ∙ same.to in ⊎_elim
      (λ (was : Finds t k a (target (edge t' k n))). inl (goes is_edge (subst (Finds t k a) go was))) inr
      (finds_on a (target (edge t' k n)) (λ m c there_on. rooted m (over is_edge (subst (Comes t k m) go c)) there_on)
      (subst (IsNumber z) (sym go) x.0) (subst (λ (m : ℕ). IsUsed (t.state m)) (sym go) x.1) (subst (λ (m : ℕ). IsUsed
      (t'.state m)) (ap target (sym at)) x'.1) f))
      (λ (here : Internal z t n × (t'.state n ≡ attached)). inr (meets_back z t' sane' tree' k a n
      (on.meets k n (rooted n (there refl) here.0.on) here.1) (goes e f)))
      (on.ways n (side k (t.key n)) number used used' lt e'.0)

  -- and still every attached record on it is on the root's walk
  pub comes_on : (m : ℕ) (n : ℕ) → Rooted n → IsNumber z n → IsUsed (t.state n) → IsUsed (t'.state n) → t'.state m ≡ attached
      → Comes t' k m n → Meets t' k m
  comes_on m n rooted number used used' now (there e) = let on_n : t'.state n ≡ attached = ap t'.state e ∙ now in
      subst (Meets t' k) e (on.meets k n (rooted n (there refl) (on.was n used on_n)) on_n)
  comes_on m n rooted number used used' now (over e c) = let lt = side_low k (t.key n) in let key = on.keys n number used used' in
      let at : edge t' k n ≡ t'.link n (side k (t.key n)) = ap (λ (x : ℕ). t'.link n (side k x)) key in
      let e' : IsEdge (t'.link n (side k (t.key n))) 0 = subst (λ (w : ℕ). IsEdge w 0) at e in ⊎_elim
      (λ (same : SameWay (edge t k n) (t'.link n (side k (t.key n)))).
      let some : target (edge t k n) ≢ 0 = λ (nil : target (edge t k n) ≡ 0). e'.2 (same.to ∙ nil) in
      let is_edge : IsEdge (edge t k n) 0 = (same.valid, sym same.leaf ∙ e'.1, some) in
      let x = sane.used n (side k (t.key n)) number lt used same.valid some in
      let x' = sane'.used n (side k (t.key n)) number lt used' e'.0 e'.2 in
      let go : target (edge t' k n) ≡ target (edge t k n) = ap target at ∙ same.to in
      comes_on m (target (edge t' k n)) (λ m c there_on. rooted m (over is_edge (subst (Comes t k m) go c)) there_on)
      (subst (IsNumber z) (sym go) x.0) (subst (λ (m : ℕ). IsUsed (t.state m)) (sym go) x.1) (subst (λ (m : ℕ). IsUsed
      (t'.state m)) (ap target (sym at)) x'.1) now c)
      (λ (here : Internal z t n × (t'.state n ≡ attached)). comes_meets t' k m n (over e c) (on.meets k n (rooted n
      (there refl) here.0.on) here.1))
      (on.ways n (side k (t.key n)) number used used' lt e'.0)

  -- So a call that stands at a record goes on standing there.
  pub standing_on : (log log' : List Change) (start n : ℕ) → Grown log log' → Mapped z t' (contents_of log') → k < inf0
      → start ≤ length log
      → IsNumber z n → IsUsed (t.state n) → IsUsed (t'.state n) → Standing t log start k n → Standing t' log' start k n
  standing_on log log' start n grown map low since number used used' s = record {
    children = λ r lt. on.children n r number used used' lt (s.children r lt);
    right = λ a f. ⊎_elim
        (λ (was : Finds t k a n). let r = s.right a was in let within = r.1.1 in let longer = grown.longer in
        (r.0, (r.1.0, omega arith, ap (λ m. find m k) (grown.same r.0 within) ∙ r.1.2)))
        (λ (now : Finds t' k a 1). let longer = grown.longer in (
          length log',
          (
            omega arith,
            omega arith,
            ap (λ m. find m k) (after_all log')
                ∙ sym (finds_contents z t' sane' tree' (contents_of log') k a map low now),
          ),
        ))
        (finds_on a n s.rooted number used used' f);
    rooted = λ m c now. comes_on m n s.rooted number used used' now c;
  }

-- The steps of a seek of one's own.
module _ (z : Sizes) (t : Heap) (log : List Change) (start k : ℕ) (sane : Sane z t) (tree : SearchTree z t) where
  -- At the head nothing need be known: the first load leads to the root.
  pub stands_at_root : Mapped z t (contents_of log) → k < inf0 → start ≤ length log → Standing t log start k 1
  stands_at_root map low since = record {
    children = (meets_internal z t sane tree k 1 (root refl)).children;
    right = λ a f. (
      length log,
      (
        since,
        omega arith,
        ap (λ m. find m k) (after_all log)
            ∙ sym (finds_contents z t sane tree (contents_of log) k a map low f),
      ),
    );
    rooted = λ m c on. comes_meets t k m 1 c (root refl);
  }

  -- a confirming load of an edge to an internal record
  pub stands_below : (n : ℕ) → IsNumber z n → IsLinked (t.state n) → Standing t log start k n → IsEdge (edge t k n) 0
      → Standing t log start k (target (edge t k n))
  stands_below n number linked s e = record {
    children = tree.to_internal n (side k (t.key n)) number linked (side_low k (t.key n)) e;
    right = λ a f. s.right a (goes e f);
    rooted = λ m c on. s.rooted m (over e c) on;
  }

  -- a confirming load of an edge to a leaf
  pub right_at_leaf : (n : ℕ) → Standing t log start k n → IsEdge (edge t k n) 1 → IsRight log start k (answer t k (edge t k n))
  right_at_leaf n s e = s.right (answer t k (edge t k n)) (ends e refl)
