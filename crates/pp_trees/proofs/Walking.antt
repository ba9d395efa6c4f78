-- What walks find: one thing alone, and from the root what the map says.
use Rattle.std.proofs.Common.{◌≡◌, ◌≢◌, ◌⊎◌, inl, inr, ⊎_elim, ℕ, zero, suc, ◌<◌, ◌≤◌, Bool, true, false, cond, eqb}
use Rattle.std.proofs.Common.{List, Option, Some, None, refl, sym, ap, ◌∙◌, subst, arith, ne_eqb, eq-eqb}
use Rattle.std.proofs.lemmas.Bool.{cases_lt, lt-ltb, le-ltb}
use Rattle.std.proofs.Math.Decide.{ℕ_discrete}
use mathlib.Core.Logic.{dite}
use Rattle.pp_link.specs.declared.layout.Sizes.{Sizes}
use Rattle.pp_link.specs.Links.{target, flag_bit, leaf_bit}
use Rattle.pp_link.specs.Places.{IsNumber}
use Rattle.pp_model.specs.declared.Pair.{Pair}
use Rattle.pp_model.specs.FiniteMap.{find}
use Rattle.pp_rule.specs.States.{RecordState, attached, IsUsed, IsLinked}
use Rattle.pp_trees.specs.Trees.{Heap, side, across, edge, Internal, Leaf, Meets, root, down, IsEdge, Comes, there, over, answer}
use Rattle.pp_trees.specs.Trees.{Finds, ends, goes, inf0, Sane, SearchTree, Mapped}

pub side_left : (k key : ℕ) → k < key → side k key ≡ 0
side_left k key lt = ap (λ (b : Bool). cond b 0 1) (lt-ltb k key lt)

pub side_right : (k key : ℕ) → key ≤ k → side k key ≡ 1
side_right k key le = ap (λ (b : Bool). cond b 0 1) (le-ltb k key le)

pub side_low : (k key : ℕ) → side k key < 2
side_low k key = ⊎_elim (λ (lt : k < key). let e = side_left k key lt in omega arith) (λ
    (le : key ≤ k). let e = side_right k key le in omega arith)
    (cases_lt k key)

-- what two keys have on one side, every key between them has there
pub side_between : (i x j key : ℕ) → i ≤ x → x ≤ j → side i key ≡ side j key → side x key ≡ side i key
side_between i x j key low high e = ⊎_elim
    (λ (lt : j < key). side_left x key (omega arith) ∙ sym (side_left i key (omega arith)))
    (λ (le : key ≤ j). ⊎_elim
    (λ (lt : i < key). let a = side_left i key lt in let b = side_right j key le in absurd (omega arith))
    (λ (ge : key ≤ i). side_right x key (omega arith) ∙ sym (side_right i key ge)) (cases_lt i key))
    (cases_lt j key)

pub each_side : (P : ℕ → Type 0) → P 0 → P 1 → (s : ℕ) → s < 2 → P s
each_side P left right zero lt = left
each_side P left right (suc zero) lt = right
each_side P left right (suc (suc s)) lt = absurd (omega arith)

pub across_low : (s : ℕ) → across s < 2
across_low zero = omega arith
across_low (suc s) = omega arith

pub across_back : (s : ℕ) → s < 2 → across (across s) ≡ s
across_back s lt = each_side (λ r. across (across r) ≡ r) refl refl s lt

pub across_else : (s r : ℕ) → s < 2 → r < 2 → r ≢ s → r ≡ across s
across_else zero zero ls lr ne = absurd (ne refl)
across_else zero (suc r) ls lr ne = omega arith
across_else (suc s) zero ls lr ne = refl
across_else (suc s) (suc r) ls lr ne = absurd (ne (omega arith))

pub across_apart : (s : ℕ) → across s ≢ s
across_apart zero e = omega arith
across_apart (suc s) e = omega arith

pub is_linked : (s : RecordState) → s ≡ attached → IsLinked s
is_linked s e = subst IsLinked (sym e) tt

pub is_used : (s : RecordState) → s ≡ attached → IsUsed s
is_used s e = subst IsUsed (sym e) tt

pub option_cases : (o : Option ℕ) → (o ≡ None) ⊎ ((v : ℕ) × (o ≡ Some v))
option_cases None = inl refl
option_cases (Some v) = inr (v, refl)

-- the answer at an edge is the value of the leaf, or none
pub answer_some : (t : Heap) (k w : ℕ) → t.key (target w) ≡ k → flag_bit w ≡ 0 → answer t k w ≡ Some (t.value (target w))
answer_some t k w key plain = ap (λ (b : Bool). cond b (cond (eqb (flag_bit w) 0) (Some (t.value (target w))) None) None)
    (eq-eqb (t.key (target w)) k key)
    ∙ ap (λ (b : Bool). cond b (Some (t.value (target w))) None) (eq-eqb (flag_bit w) 0 plain)

pub answer_other : (t : Heap) (k w : ℕ) → t.key (target w) ≢ k → answer t k w ≡ None
answer_other t k w ne = ap (λ (b : Bool). cond b (cond (eqb (flag_bit w) 0) (Some (t.value (target w))) None) None) (ne_eqb
    (t.key (target w)) k ne)

pub answer_flagged : (t : Heap) (k w : ℕ) → flag_bit w ≢ 0 → answer t k w ≡ None
answer_flagged t k w ne = either (eqb (t.key (target w)) k)
  where
    none : cond (eqb (flag_bit w) 0) (Some (t.value (target w))) None ≡ None
    none = ap (λ (b : Bool). cond b (Some (t.value (target w))) None) (ne_eqb (flag_bit w) 0 ne)

    either : (b : Bool) → cond b (cond (eqb (flag_bit w) 0) (Some (t.value (target w))) None) None ≡ None
    either true = none
    either false = refl

pub answer_cases : (t : Heap) (k w : ℕ)
    → ((t.key (target w) ≡ k) × (flag_bit w ≡ 0) × (answer t k w ≡ Some (t.value (target w)))) ⊎ (answer t k w ≡ None)
answer_cases t k w = dite (ℕ_discrete (t.key (target w)) k)
    (λ key. dite (ℕ_discrete (flag_bit w) 0) (λ plain. inl (key, plain, answer_some t k w key plain)) (λ ne. inr
    (answer_flagged t k w ne)))
    (λ ne. inr (answer_other t k w ne))

-- A walk ends over an edge of e.
data EndsAt (t : Heap) (k e : ℕ) : ℕ → Type 0 where
  at_end : {n : ℕ} → n ≡ e → leaf_bit (edge t k n) ≡ 1 → EndsAt t k e n
  further : {n : ℕ} → leaf_bit (edge t k n) ≡ 0 → EndsAt t k e (target (edge t k n)) → EndsAt t k e n

pub finds_once : (t : Heap) (k : ℕ) (a b : Option ℕ) (n : ℕ) → Finds t k a n → Finds t k b n → a ≡ b
finds_once t k a b n (ends e is) (ends e' is') = is ∙ sym is'
finds_once t k a b n (ends e is) (goes e' f') = let x = e.1 in let y = e'.1 in absurd (omega arith)
finds_once t k a b n (goes e f) (ends e' is') = let x = e.1 in let y = e'.1 in absurd (omega arith)
finds_once t k a b n (goes e f) (goes e' f') = finds_once t k a b (target (edge t k n)) f f'

ends_once : (t : Heap) (k e e' : ℕ) (n : ℕ) → EndsAt t k e n → EndsAt t k e' n → e ≡ e'
ends_once t k e e' n (at_end is leaf) (at_end is' leaf') = sym is ∙ is'
ends_once t k e e' n (at_end is leaf) (further inner f) = absurd (omega arith)
ends_once t k e e' n (further inner f) (at_end is leaf) = absurd (omega arith)
ends_once t k e e' n (further inner f) (further inner' f') = ends_once t k e e' (target (edge t k n)) f f'

ends_back : (t : Heap) (k e : ℕ) (n : ℕ) → Meets t k n → EndsAt t k e n → EndsAt t k e 1
ends_back t k e n (root is) f = subst (EndsAt t k e) is f
ends_back t k e n (down {n = p} m inner to) f = ends_back t k e p m (further inner (subst (EndsAt t k e) to f))

-- the root's walk has one end
pub one_end : (t : Heap) (k n m : ℕ) → Meets t k n → leaf_bit (edge t k n) ≡ 1 → Meets t k m → leaf_bit (edge t k m) ≡ 1 → n ≡ m
one_end t k n m at leaf at' leaf' = ends_once t k n m 1 (ends_back t k n n at (at_end refl leaf)) (ends_back t k m m at'
    (at_end refl leaf'))

pub finds_end : (t : Heap) (k : ℕ) (a : Option ℕ) (n : ℕ) → Finds t k a n → Meets t k n
    → (e : ℕ) × (Meets t k e × (leaf_bit (edge t k e) ≡ 1) × (a ≡ answer t k (edge t k e)))
finds_end t k a n (ends e is) m = (n, (m, e.1, is))
finds_end t k a n (goes e f) m = finds_end t k a (target (edge t k n)) f (down m e.1 refl)

-- a walk from a record on the root's walk comes to records on the root's walk
pub comes_meets : (t : Heap) (k m : ℕ) (n : ℕ) → Comes t k m n → Meets t k n → Meets t k m
comes_meets t k m n (there e) r = subst (Meets t k) e r
comes_meets t k m n (over e c) r = comes_meets t k m (target (edge t k n)) c (down r e.1 refl)

module _ (z : Sizes) (t : Heap) (sane : Sane z t) (tree : SearchTree z t) where
  pub root_internal : Internal z t 1
  root_internal = let many = sane.records in record {
    number = (omega arith, omega arith);
    on = tree.sentinels.on 1 (omega arith) (omega arith);
    children = each_side (λ s. target (t.link 1 s) ≢ 0) (λ e. let l = tree.sentinels.left_of_root in omega arith)
        (λ e. let l = tree.sentinels.right_of_root in omega arith);
  }

  -- the edges of an attached internal record can be followed, and lead to attached records
  pub edge_of : (n s : ℕ) → Internal z t n → s < 2 → (b : ℕ) → leaf_bit (t.link n s) ≡ b → IsEdge (t.link n s) b
  edge_of n s i lt b is = ((sane.leads n s i.number lt i.on).valid, is, i.children s lt)

  pub child_on : (n s : ℕ) → Internal z t n → s < 2 → IsNumber z (target (t.link n s))
      × (t.state (target (t.link n s)) ≡ attached)
  child_on n s i lt = ⊎_elim (λ (nil : target (t.link n s) ≡ 0). absurd (i.children s lt nil))
      (λ (on : IsNumber z (target (t.link n s)) × (t.state (target (t.link n s)) ≡ attached)). on)
      (sane.leads n s i.number lt i.on).to

  pub child_internal : (n s : ℕ) → Internal z t n → s < 2 → leaf_bit (t.link n s) ≡ 0 → Internal z t (target (t.link n s))
  child_internal n s i lt inner = let on = child_on n s i lt in
      record {
        number = on.0;
        on = on.1;
        children = tree.to_internal n s i.number (is_linked (t.state n) i.on) lt
            (edge_of n s i lt 0 inner);
      }

  pub child_leaf : (n s : ℕ) → Internal z t n → s < 2 → leaf_bit (t.link n s) ≡ 1 → Leaf z t (target (t.link n s))
  child_leaf n s i lt leaf = let on = child_on n s i lt in
      record {
        number = on.0;
        on = on.1;
        none = tree.to_leaf n s i.number (is_linked (t.state n) i.on) lt
            (edge_of n s i lt 1 leaf);
      }

  pub meets_internal : (k : ℕ) (n : ℕ) → Meets t k n → Internal z t n
  meets_internal k n (root e) = subst (Internal z t) (sym e) root_internal
  meets_internal k n (down {n = p} m inner to) = subst (Internal z t) (sym to)
      (child_internal p (side k (t.key p)) (meets_internal k p m) (side_low k (t.key p)) inner)

  -- what a walk finds from a record on the root's walk, the root's walk finds
  pub meets_back : (k : ℕ) (a : Option ℕ) (n : ℕ) → Meets t k n → Finds t k a n → Finds t k a 1
  meets_back k a n (root e) f = subst (Finds t k a) e f
  meets_back k a n (down {n = p} m inner to) f = let i = meets_internal k p m in
      meets_back k a p m (goes (edge_of p (side k (t.key p)) i (side_low k (t.key p)) 0 inner) (subst (Finds t k a) to f))

  -- the root's walks that come to a record are those of the keys of a range
  pub meets_between : (i x j : ℕ) (n : ℕ) → i ≤ x → x ≤ j → Meets t i n → Meets t j n → Meets t x n
  meets_between i x j n low high (root e) m' = root e
  meets_between i x j n low high (down {n = p} m inner to) (root e) = absurd (tree.rooted p (side i (t.key p))
      (meets_internal i p m) (side_low i (t.key p)) (sym to ∙ e))
  meets_between i x j n low high (down {n = p} m inner to) (down {n = q} m' inner' to') =
      let one = tree.once p (side i (t.key p)) q (side j (t.key q)) (meets_internal i p m) (side_low i (t.key p))
      (meets_internal j q m') (side_low j (t.key q))
      (sym to ∙ to') in
      let same : side i (t.key p) ≡ side j (t.key p) = one.1 ∙ ap (λ (r : ℕ). side j (t.key r)) (sym one.0) in
      let at : side x (t.key p) ≡ side i (t.key p) = side_between i x j (t.key p) low high same in
      down (meets_between i x j p low high m (subst (Meets t j) (sym one.0) m')) (ap (λ (s : ℕ). leaf_bit (t.link p s)) at
      ∙ inner)
      (to ∙ ap (λ (s : ℕ). target (t.link p s)) (sym at))

  -- the walk for the key of a leaf comes over the edge that leads to it
  pub home_edge : (n s : ℕ) → Internal z t n → s < 2 → leaf_bit (t.link n s) ≡ 1
      → Meets t (t.key (target (t.link n s))) n × (side (t.key (target (t.link n s))) (t.key n) ≡ s)
  home_edge n s i lt leaf = let l : ℕ = target (t.link n s) in let b = tree.leaf_home l (child_leaf n s i lt leaf) in
      let p = b.parent in
      let one = tree.once p (side (t.key l) (t.key p)) n s (meets_internal (t.key l) p b.meets) (side_low (t.key l)
      (t.key p)) i lt b.to in
      (subst (Meets t (t.key l)) one.0 b.meets, ap (λ (r : ℕ). side (t.key l) (t.key r)) (sym one.0) ∙ one.1)

  -- a leaf on the root's walk for its key is the one at its end
  pub one_leaf : (k n m r : ℕ) → Meets t k n → leaf_bit (edge t k n) ≡ 1 → Internal z t m → r < 2 → leaf_bit (t.link m r) ≡ 1
      → t.key (target (t.link m r)) ≡ k → (m ≡ n) × (r ≡ side k (t.key n))
  one_leaf k n m r at leaf i lt leaf' key = let h = home_edge m r i lt leaf' in
      let at' : Meets t k m = subst (λ (x : ℕ). Meets t x m) key h.0 in
      let on : side k (t.key m) ≡ r = ap (λ (x : ℕ). side x (t.key m)) (sym key) ∙ h.1 in
      let same : m ≡ n = one_end t k m n at' (ap (λ (s : ℕ). leaf_bit (t.link m s)) on ∙ leaf') at leaf in
      (same, sym on ∙ ap (λ (x : ℕ). side k (t.key x)) same)

  -- what a walk from the root finds is what the map says
  pub finds_contents : (m : List Pair) (k : ℕ) (a : Option ℕ) → Mapped z t m → k < inf0 → Finds t k a 1 → a ≡ find m k
  finds_contents m k a map low f = let end = finds_end t k a 1 f (root refl) in let p = end.0 in let w = edge t k p in ⊎_elim
      (λ (y : (t.key (target w) ≡ k) × (flag_bit w ≡ 0) × (answer t k w ≡ Some (t.value (target w)))).
      let have = map.pairs p (side k (t.key p)) (meets_internal k p end.1.0) (side_low k (t.key p)) end.1.1 y.1 (subst (λ
      (x : ℕ). x < inf0) (sym y.0) low) in
      end.1.2 ∙ (y.2 ∙ (sym have ∙ ap (find m) y.0)))
      (λ (none : answer t k w ≡ None). ⊎_elim
      (λ (gone : find m k ≡ None). end.1.2 ∙ (none ∙ sym gone))
      (λ (have : (v : ℕ) × (find m k ≡ Some v)). let s = map.records k have.0 have.1 in let q = s.parent in
      let same : q ≡ p = one_end t k q p s.meets s.leaf end.1.0 end.1.1 in
      let some = subst (λ (r : ℕ). answer t k (edge t k r) ≡ Some (t.value (target (edge t k r)))) same (answer_some t k
      (edge t k q) s.key s.plain) in
      absurd cc)
      (option_cases (find m k)))
      (answer_cases t k w)

  -- where the edges to internal records stay, the root's walk comes where it came
  pub meets_same : (t' : Heap) → ((n : ℕ) → Internal z t n → t'.key n ≡ t.key n)
      → ((n s : ℕ) → Internal z t n → s < 2 → leaf_bit (t.link n s) ≡ 0 → (leaf_bit (t'.link n s) ≡ 0)
      × (target (t'.link n s) ≡ target (t.link n s)))
      → (k : ℕ) (n : ℕ) → Meets t k n → Meets t' k n
  meets_same t' keys same k n (root e) = root e
  meets_same t' keys same k n (down {n = p} m inner to) = let i = meets_internal k p m in
      let on = same p (side k (t.key p)) i (side_low k (t.key p)) inner in
      let at : side k (t'.key p) ≡ side k (t.key p) = ap (side k) (keys p i) in
      down (meets_same t' keys same k p m) (ap (λ (s : ℕ). leaf_bit (t'.link p s)) at ∙ on.0) (to ∙ (sym on.1
      ∙ ap (λ (s : ℕ). target (t'.link p s)) (sym at)))
