-- The opening meets the rule of the tree.
use Rattle.std.proofs.Common.{◌≡◌, ◌≢◌, inl, inr, ⊎_elim, ℕ, zero, suc, ◌+◌, ◌-◌, ◌%◌, ◌<◌, ◌≤◌, Bool, true, false, cond, eqb}
use Rattle.std.proofs.Common.{List, []}
use Rattle.std.proofs.Common.{refl, sym, ap, ◌∙◌, subst, arith, eq-eqb}
use Rattle.std.proofs.lemmas.Bool.{cases_lt}
use Rattle.std.proofs.Math.Bool.{false≢true}
use Rattle.pp_link.specs.declared.layout.Sizes.{Sizes}
use Rattle.pp_link.specs.Links.{target, flag_bit, tag_bit, invalid_bit, leaf_bit}
use Rattle.pp_link.specs.Places.{IsNumber}
use Rattle.pp_model.specs.declared.Change.{Change}
use Rattle.pp_model.specs.declared.Placed.{Placed}
use Rattle.pp_model.specs.History.{contents_of, Sound, Stands}
use Rattle.pp_rule.specs.declared.views.LoggedStep.{LoggedStep}
use Rattle.pp_rule.specs.declared.views.WalkSlot.{WalkSlot}
use Rattle.pp_rule.specs.Lists.{IsIn, Once}
use Rattle.pp_rule.proofs.Put.{in_nil}
use Rattle.pp_rule.specs.Orders.{log_of, placed_by}
use Rattle.pp_rule.specs.Views.{slot}
use Rattle.pp_rule.specs.States.{RecordState, attached, owned, IsUsed, IsLinked}
use Rattle.pp_rule.specs.Opening.{opening_words, dealt, OpensInto}
use Rattle.pp_rule.specs.Laws.{Freezes, HeadsOpen, LinksOpen, MetAtOpening}
use Rattle.pp_rule.proofs.OpeningWords.{opening_head, opening_field}
use Rattle.pp_rule.proofs.OpeningOrder.{no_log, no_placed}
use Rattle.pp_trees.specs.Trees.{Heap, heap, side, HasChildren, HasNone, Internal, Leaf, Meets, root, down, IsEdge, Behind}
use Rattle.pp_trees.specs.Trees.{inf0, inf1, inf2, root_head, SearchTree, Mapped}
use Rattle.pp_trees.specs.Searches.{TreeOwn, Searches, Trees}
use Rattle.pp_trees.specs.Sentinels.{sentinel_key, sentinel_field, fresh_own, has_mark}
use Rattle.pp_trees.proofs.Walking.{side_left, side_right, each_side}

pub tree_fits : 5 ≤ 8
tree_fits = omega arith

pub tree_sided : (1 ≤ 2) × (2 ≤ 2)
tree_sided = (omega arith, omega arith)

pub tree_heads_open : HeadsOpen 5 root_head
tree_heads_open zero = record { small = omega arith; valid = refl; to = omega arith }
tree_heads_open (suc h) = record { small = omega arith; valid = refl; to = omega arith }

-- what is true of the five sentinels is true of each number up to 5
each_of_five : (P : ℕ → Type 0) → P 1 → P 2 → P 3 → P 4 → P 5 → (n : ℕ) → 1 ≤ n → n ≤ 5 → P n
each_of_five P a b c d e zero some_is low = absurd (omega arith)
each_of_five P a b c d e (suc zero) some_is low = a
each_of_five P a b c d e (suc (suc zero)) some_is low = b
each_of_five P a b c d e (suc (suc (suc zero))) some_is low = c
each_of_five P a b c d e (suc (suc (suc (suc zero)))) some_is low = d
each_of_five P a b c d e (suc (suc (suc (suc (suc zero))))) some_is low = e
each_of_five P a b c d e (suc (suc (suc (suc (suc (suc n)))))) some_is low = absurd (omega arith)

opens_one : (w : ℕ) → w ≤ 95 → invalid_bit w ≡ 0 → OpensInto 5 w
opens_one w low valid = record { small = omega arith; valid = valid; to = omega arith }

pub tree_links_open : LinksOpen 2 5 sentinel_field
tree_links_open n s some_is low lt = each_of_five (λ n. (s : ℕ) → s < 2 → OpensInto 5 (sentinel_field n (2 + s)))
    (each_side (λ s. OpensInto 5 (sentinel_field 1 (2 + s))) (opens_one 32 (omega arith) refl) (opens_one 88 (omega arith) refl))
    (each_side (λ s. OpensInto 5 (sentinel_field 2 (2 + s))) (opens_one 56 (omega arith) refl) (opens_one 72 (omega arith) refl))
    (each_side (λ s. OpensInto 5 (sentinel_field 3 (2 + s))) (opens_one 0 (omega arith) refl) (opens_one 0 (omega arith) refl))
    (each_side (λ s. OpensInto 5 (sentinel_field 4 (2 + s))) (opens_one 0 (omega arith) refl) (opens_one 0 (omega arith) refl))
    (each_side (λ s. OpensInto 5 (sentinel_field 5 (2 + s))) (opens_one 0 (omega arith) refl) (opens_one 0 (omega arith) refl))
    n some_is low s lt

pub tree_freezes : Freezes has_mark
tree_freezes w mark none = false≢true (sym (ap (λ (b : Bool). cond b false true) (eq-eqb (w % 4) 0 none)) ∙ mark)

-- the records as they open
pub record Opens (z : Sizes) (t : Heap) : Type 0 where
  pub records : 8 ≤ z.records
  pub head : (h : ℕ) → h < z.heads → t.head h ≡ root_head h
  pub key : (n : ℕ) → 1 ≤ n → n ≤ 5 → t.key n ≡ sentinel_key n
  pub link : (n s : ℕ) → 1 ≤ n → n ≤ 5 → s < 2 → t.link n s ≡ sentinel_field n (2 + s)
  pub on : (n : ℕ) → 1 ≤ n → n ≤ 5 → t.state n ≡ attached
  pub free : (n : ℕ) → IsNumber z n → 5 < n → (p : ℕ) × (t.state n ≡ owned p)

owned_unlinked : (s : RecordState) (p : ℕ) → s ≡ owned p → IsLinked s → ⊥
owned_unlinked s p e linked = subst IsLinked e linked

module _ (z : Sizes) (t : Heap) (o : Opens z t) where
  -- a record that is attached or in hand is a sentinel
  few : (n : ℕ) → IsNumber z n → IsLinked (t.state n) → n ≤ 5
  few n number linked = ⊎_elim (λ (more : 5 < n). let f = o.free n number more in
      absurd (owned_unlinked (t.state n) f.0 f.1 linked)) (λ (le : n ≤ 5). le) (cases_lt 5 n)

  -- what is in use is a sentinel too
  linked_used : (n : ℕ) → IsNumber z n → IsUsed (t.state n) → IsLinked (t.state n)
  linked_used n number used = ⊎_elim (λ (more : 5 < n). let f = o.free n number more in absurd (subst IsUsed f.1 used))
      (λ (le : n ≤ 5). subst IsLinked (sym (o.on n number.0 le)) tt) (cases_lt 5 n)

  linked_on : (n : ℕ) → IsNumber z n → t.state n ≡ attached → n ≤ 5
  linked_on n number on = few n number (subst IsLinked (sym on) tt)

  l10 : t.link 1 0 ≡ 32
  l10 = o.link 1 0 (omega arith) (omega arith) (omega arith)

  l11 : t.link 1 1 ≡ 88
  l11 = o.link 1 1 (omega arith) (omega arith) (omega arith)

  l20 : t.link 2 0 ≡ 56
  l20 = o.link 2 0 (omega arith) (omega arith) (omega arith)

  l21 : t.link 2 1 ≡ 72
  l21 = o.link 2 1 (omega arith) (omega arith) (omega arith)

  -- the leaves' links are nil
  bare : (n s : ℕ) → 3 ≤ n → n ≤ 5 → s < 2 → t.link n s ≡ 0
  bare n s from to lt = o.link n s (omega arith) to lt ∙ each_of_five (λ n. 3 ≤ n → sentinel_field n (2 + s) ≡ 0)
      (λ f. absurd (omega arith)) (λ f. absurd (omega arith))
      (λ f. each_side (λ s. sentinel_field 3 (2 + s) ≡ 0) refl refl s lt)
      (λ f. each_side (λ s. sentinel_field 4 (2 + s) ≡ 0) refl refl s lt)
      (λ f. each_side (λ s. sentinel_field 5 (2 + s) ≡ 0) refl refl s lt) n (omega arith) to from

  none_at : (n : ℕ) → 3 ≤ n → n ≤ 5 → HasNone t n
  none_at n from to s lt = let e = bare n s from to lt in omega arith

  some_at : (n : ℕ) → 1 ≤ n → n ≤ 2 → HasChildren t n
  some_at n from to = ⊎_elim
      (λ (lt : n < 2). subst (HasChildren t) (let e : 1 ≡ n = omega arith in e)
      (each_side (λ s. target (t.link 1 s) ≢ 0) (λ e. let l = l10 in omega arith) (λ e. let l = l11 in omega arith)))
      (λ (ge : 2 ≤ n). subst (HasChildren t) (let e : 2 ≡ n = omega arith in e)
      (each_side (λ s. target (t.link 2 s) ≢ 0) (λ e. let l = l20 in omega arith) (λ e. let l = l21 in omega arith)))
      (cases_lt n 2)

  internal_two : (n : ℕ) → Internal z t n → n ≤ 2
  internal_two n i = ⊎_elim (λ (lt : 2 < n). absurd (i.children 0 (omega arith) (none_at n (omega arith)
      (linked_on n i.number i.on) 0 (omega arith)))) (λ (le : n ≤ 2). le) (cases_lt 2 n)

  leaf_three : (n : ℕ) → Leaf z t n → 3 ≤ n
  leaf_three n l = ⊎_elim (λ (lt : n < 3). absurd (some_at n l.number.0 (omega arith) 0 (omega arith) (l.none 0
      (omega arith)))) (λ (le : 3 ≤ n). le) (cases_lt n 3)

  -- what is true of the four edges
  each_edge : (P : ℕ → ℕ → ℕ → Type 0) → P 1 0 32 → P 1 1 88 → P 2 0 56 → P 2 1 72 → (n s : ℕ) → 1 ≤ n → n ≤ 2 → s < 2
      → P n s (t.link n s)
  each_edge P a b c d zero s from to lt = absurd (omega arith)
  each_edge P a b c d (suc zero) zero from to lt = subst (P 1 0) (sym l10) a
  each_edge P a b c d (suc zero) (suc zero) from to lt = subst (P 1 1) (sym l11) b
  each_edge P a b c d (suc (suc zero)) zero from to lt = subst (P 2 0) (sym l20) c
  each_edge P a b c d (suc (suc zero)) (suc zero) from to lt = subst (P 2 1) (sym l21) d
  each_edge P a b c d (suc (suc (suc n))) s from to lt = absurd (omega arith)
  each_edge P a b c d (suc zero) (suc (suc s)) from to lt = absurd (omega arith)
  each_edge P a b c d (suc (suc zero)) (suc (suc s)) from to lt = absurd (omega arith)

  -- no edge has FLAG or TAG; those to leaves lead to 3, 4 and 5, and the other one to 2
  abbrev Plain : ℕ → ℕ → ℕ → Type 0
  Plain n s w = (flag_bit w ≡ 0) × (tag_bit w ≡ 0) × (2 ≤ target w) × (target w ≤ 5) × (leaf_bit w ≡ 1 → 3 ≤ target w)
      × (leaf_bit w ≡ 0 → target w ≡ 2)

  plain : (n s : ℕ) → 1 ≤ n → n ≤ 2 → s < 2 → Plain n s (t.link n s)
  plain = each_edge Plain
      (refl, refl, omega arith, omega arith, λ e. absurd (omega arith), λ e. refl)
      (refl, refl, omega arith, omega arith, λ e. omega arith, λ e. absurd (omega arith))
      (refl, refl, omega arith, omega arith, λ e. omega arith, λ e. absurd (omega arith))
      (refl, refl, omega arith, omega arith, λ e. omega arith, λ e. absurd (omega arith))

  -- its number and its side by its target
  abbrev from : ℕ → ℕ
  from c = cond (eqb c 2) 1 (cond (eqb c 5) 1 2)

  abbrev by : ℕ → ℕ
  by c = cond (eqb c 2) 0 (cond (eqb c 3) 0 1)

  coded : (n s : ℕ) → 1 ≤ n → n ≤ 2 → s < 2 → (n ≡ from (target (t.link n s))) × (s ≡ by (target (t.link n s)))
  coded = each_edge (λ n s w. (n ≡ from (target w)) × (s ≡ by (target w))) (refl, refl) (refl, refl) (refl, refl) (refl, refl)

  at_two : (k : ℕ) → k < inf2 → Meets t k 2
  at_two k lt = let key : t.key 1 ≡ inf2 = o.key 1 (omega arith) (omega arith) in
      let on : side k (t.key 1) ≡ 0 = side_left k (t.key 1) (omega arith) in
      let word : t.link 1 (side k (t.key 1)) ≡ 32 = ap (t.link 1) on ∙ l10 in
      down (root refl) (ap leaf_bit word) (sym (ap target word))

  leaf_home : (l : ℕ) → 3 ≤ l → l ≤ 5 → Behind t l
  leaf_home l from to = each_of_five (λ l. 3 ≤ l → Behind t l) (λ f. absurd (omega arith)) (λ f. absurd (omega arith))
      (λ f. let k : t.key 3 ≡ inf0 = o.key 3 (omega arith) (omega arith) in
      let key : t.key 2 ≡ inf1 = o.key 2 (omega arith) (omega arith) in
      let word : t.link 2 (side (t.key 3) (t.key 2)) ≡ 56 = ap (t.link 2) (side_left (t.key 3) (t.key 2) (omega arith)) ∙ l20 in
      record { parent = 2; meets = at_two (t.key 3) (omega arith); leaf = ap leaf_bit word; to = ap target word })
      (λ f. let k : t.key 4 ≡ inf1 = o.key 4 (omega arith) (omega arith) in
      let key : t.key 2 ≡ inf1 = o.key 2 (omega arith) (omega arith) in
      let word : t.link 2 (side (t.key 4) (t.key 2)) ≡ 72 = ap (t.link 2) (side_right (t.key 4) (t.key 2) (omega arith)) ∙ l21 in
      record { parent = 2; meets = at_two (t.key 4) (omega arith); leaf = ap leaf_bit word; to = ap target word })
      (λ f. let k : t.key 5 ≡ inf2 = o.key 5 (omega arith) (omega arith) in
      let key : t.key 1 ≡ inf2 = o.key 1 (omega arith) (omega arith) in
      let word : t.link 1 (side (t.key 5) (t.key 1)) ≡ 88 = ap (t.link 1) (side_right (t.key 5) (t.key 1) (omega arith)) ∙ l11 in
      record { parent = 1; meets = root refl; leaf = ap leaf_bit word; to = ap target word })
      l (omega arith) to from

  internal_home : (n : ℕ) → 1 ≤ n → n ≤ 2 → (1 ≤ t.key n) × Meets t (t.key n) n × Meets t (t.key n - 1) n
  internal_home n from to = ⊎_elim
      (λ (lt : n < 2). let e : 1 ≡ n = omega arith in subst (λ (n : ℕ). (1 ≤ t.key n) × Meets t (t.key n) n
      × Meets t (t.key n - 1) n) e
      (let key : t.key 1 ≡ inf2 = o.key 1 (omega arith) (omega arith) in (omega arith, root refl, root refl)))
      (λ (ge : 2 ≤ n). let e : 2 ≡ n = omega arith in subst (λ (n : ℕ). (1 ≤ t.key n) × Meets t (t.key n) n
      × Meets t (t.key n - 1) n) e
      (let key : t.key 2 ≡ inf1 = o.key 2 (omega arith) (omega arith) in (
        omega arith,
        at_two (t.key 2) (omega arith),
        at_two
            (t.key 2 - 1) (omega arith),
      )))
      (cases_lt n 2)

  -- an edge that can be followed is one of an internal record
  edge_two : (n s b : ℕ) → IsNumber z n → IsLinked (t.state n) → s < 2 → IsEdge (t.link n s) b → n ≤ 2
  edge_two n s b number linked lt e = ⊎_elim (λ (more : 2 < n). absurd (e.2 (none_at n (omega arith)
      (few n number linked) s lt))) (λ (le : n ≤ 2). le) (cases_lt 2 n)

  pub opening_tree : SearchTree z t
  opening_tree = record {
    sentinels = record {
      head = o.head;
      on = o.on;
      keys = (
        o.key 1 (omega arith) (omega arith),
        o.key 2 (omega arith) (omega arith),
        o.key 3 (omega arith)
            (omega arith),
        o.key 4 (omega arith) (omega arith),
        o.key 5 (omega arith) (omega arith),
      );
      left_of_root = l10;
      right_of_root = l11;
      right_of_s = l21;
      leaf3 = none_at 3 (omega arith) (omega arith);
    };
    sort = λ n number linked. ⊎_elim (λ (more : 2 < n). inr (none_at n (omega arith) (few n number linked))) (λ
        (le : n ≤ 2). inl (some_at n number.0 le)) (cases_lt 2 n);
    to_leaf = λ n s number linked lt e. let p = plain n s number.0 (edge_two n s 1 number linked lt e) lt in
        none_at (target (t.link n s)) (p.4 e.1) p.3;
    to_internal = λ n s number linked lt e. let p = plain n s number.0 (edge_two n s 0 number linked lt e) lt in
        some_at (target (t.link n s)) (let two = p.2 in omega arith) (let two = p.5 e.1 in omega arith);
    bare = λ n s l lt. bare n s (leaf_three n l) (linked_on n l.number l.on) lt;
    rooted = λ n s i lt e. let two = (plain n s i.number.0 (internal_two n i) lt).2 in omega arith;
    once = λ n s m r i ls j lr e. let a = coded n s i.number.0 (internal_two n i) ls in
        let b = coded m r j.number.0 (internal_two m j) lr in
        (a.0 ∙ (ap from e ∙ sym b.0), a.1 ∙ (ap by e ∙ sym b.1));
    flagged = λ n s i lt f. let none = (plain n s i.number.0 (internal_two n i) lt).0 in absurd (omega arith);
    tagged = λ n s i lt f. let none = (plain n s i.number.0 (internal_two n i) lt).1 in absurd (omega arith);
    unflagged = λ n s number used lt e. (plain n s number.0 (edge_two n s 0 number (linked_used n number used) lt e) lt).0;
    frozen = λ n s number linked off children lt. absurd (off (o.on n number.0 (few n number linked)));
    leaf_home = λ n l. leaf_home n (leaf_three n l) (linked_on n l.number l.on);
    internal_home = λ n i. internal_home n i.number.0 (internal_two n i);
  }

  -- there are no pairs
  pub opening_mapped : Mapped z t []
  opening_mapped = record {
    sorted = tt;
    pairs = λ n s i lt leaf plain_is low. let p = plain n s i.number.0 (internal_two n i) lt in
        let high = sentinel_high (target (t.link n s)) (p.4 leaf) p.3 in absurd (omega arith);
    records = λ k v e. absurd cc;
  }
    where
      sentinel_high : (l : ℕ) → 3 ≤ l → l ≤ 5 → inf0 ≤ t.key l
      sentinel_high l from to = each_of_five (λ l. 3 ≤ l → inf0 ≤ t.key l) (λ f. absurd (omega arith)) (λ f. absurd (omega arith))
          (λ f. let k : t.key 3 ≡ inf0 = o.key 3 (omega arith) (omega arith) in omega arith)
          (λ f. let k : t.key 4 ≡ inf1 = o.key 4 (omega arith) (omega arith) in omega arith)
          (λ f. let k : t.key 5 ≡ inf2 = o.key 5 (omega arith) (omega arith) in omega arith) l (omega arith) to from

no_change : Sound []
no_change p c e = absurd cc

no_calls : (p : ℕ) → Stands [] p []
no_calls p = record { each = λ n s e. absurd cc; rising = λ i j s u lt e f. absurd cc; all = refl }

not_five : (n : ℕ) → n ≡ 5 → n < 5 → ⊥
not_five n e lt = omega arith

idle : (z : Sizes) (t : Heap) (p : ℕ) (slots : ℕ → WalkSlot) → Searches z t [] p slots fresh_own []
idle z t p slots = record {
  stands = no_calls p;
  since = omega arith;
  earlier = λ e i x at. absurd (false≢true e);
  seated = record {
    held = λ lt. absurd (omega arith);
    since = λ lt. absurd (omega arith);
    pair = λ lt. absurd (omega arith);
    standing = λ lt. absurd (omega arith);
    flag = λ lt f. absurd (omega arith);
    beside = λ lt f. absurd (omega arith);
    top_held = λ lt. absurd (omega arith);
    joined = λ lt. absurd (omega arith);
    intact = λ lt on. absurd (omega arith);
  };
}

fresh_is : (own : TreeOwn) (z : Sizes) (p : ℕ) → (dealt 5 own z p).own ≡ own
unfolding dealt
fresh_is own z p = refl

pub tree_opened : MetAtOpening {E = Change} {A = Placed} {W = TreeOwn} 2
    (λ z words g. Trees z words g) 5 root_head sentinel_field fresh_own
tree_opened z g within low b o = record {
  sound = subst Sound (sym log) no_change;
  own_changes = λ s i. absurd (in_nil s (subst (λ (l : List (LoggedStep Change Placed)). IsIn s l) o.order i));
  tree = opening_tree z t opens;
  mapped = subst (λ (l : List Change). Mapped z t (contents_of l)) (sym log) (opening_mapped z t opens);
  remains = record {
    once = λ p lt. subst Once (sym (none_left p lt)) (λ k l x y at there e. cc);
    listed = λ n s i lt f. absurd (let y = plain z t opens n s i.number.0 (internal_two z t opens n i) lt in
        let none = y.0 in omega arith);
    flagged = λ one p l lt i on. absurd (in_nil l (subst (λ (ls : List ℕ). IsIn l ls) (none_left p lt) i));
  };
  each = λ p lt. let own : (g.of p).own ≡ fresh_own = ap (λ q. q.own) (o.of p lt) ∙ fresh_is fresh_own z p in
      subst (λ (l : List Change). Searches z t l p (slot (g.of p)) (g.of p).own (placed_by p g.order)) (sym log)
      (subst (λ (m : List Placed). Searches z t [] p (slot (g.of p)) (g.of p).own m) (sym (no_placed p g.order o.order))
      (subst (λ (w : TreeOwn). Searches z t [] p (slot (g.of p)) w []) (sym own) (idle z t p (slot (g.of p)))));
}
  where
    none_left : (p : ℕ) → p < z.passes → (g.of p).own.left ≡ []
    none_left p lt = ap (λ q. q.own.left) (o.of p lt) ∙ ap (λ (w : TreeOwn). w.left) (fresh_is fresh_own z p)

    t : Heap
    t = heap z (opening_words 5 root_head sentinel_field z) g.status

    log : log_of g.order ≡ []
    log = no_log g.order o.order

    opens : Opens z (heap z (opening_words 5 root_head sentinel_field z) g.status)
    opens = record {
      records = b.within.some_records;
      head = λ h lt. opening_head 5 root_head sentinel_field z h lt;
      key = λ n from to. opening_field 5 root_head sentinel_field z n 0 from to (omega arith);
      link = λ n s from to lt. opening_field 5 root_head sentinel_field z n (2 + s) from to (omega arith);
      on = λ n from to. o.sentinels_are n (from, let most = b.within.some_records in omega arith) to;
      free = λ n number more. o.others_are n number more;
    }
