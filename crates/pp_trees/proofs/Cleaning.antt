-- As many records of a tree are attached as a map of its pairs has live ones exactly where no edge that can be reached has FLAG.
use Rattle.std.proofs.Common.{◌≡◌, ◌≢◌, ⊎_elim, ℕ, ◌+◌, ◌*◌, ◌<◌, ◌≤◌, List, [], ◌∷◌, ◌++◌, map, length}
use Rattle.std.proofs.Common.{Some, None, refl, sym, ap, ◌∙◌, subst, arith, length-append}
use Rattle.std.proofs.lemmas.Bool.{cases_lt, cases_eq}
use Rattle.std.proofs.lemmas.List.{length-map}
use Rattle.std.proofs.Math.Decide.{ℕ_discrete}
use mathlib.Core.Logic.{dite}
use Rattle.pp_link.specs.declared.layout.Sizes.{Sizes}
use Rattle.pp_link.specs.Links.{target, flag_bit}
use Rattle.pp_link.specs.Places.{IsNumber, IsWithin}
use Rattle.pp_link.specs.Words.{cell_word}
use Rattle.pp_model.specs.declared.Pair.{Pair}
use Rattle.pp_model.specs.FiniteMap.{find, keys_of}
use Rattle.pp_model.specs.History.{contents_of}
use Rattle.pp_model.specs.Lists.{RisesFrom}
use Rattle.pp_rule.specs.Causes.{CountsAttached}
use Rattle.pp_rule.specs.Lists.{IsIn, OnceBy, Once}
use Rattle.pp_rule.specs.Orders.{log_of}
use Rattle.pp_rule.specs.Reached.{Reached}
use Rattle.pp_rule.specs.Rule.{Base}
use Rattle.pp_rule.specs.States.{attached}
use Rattle.pp_rule.proofs.Cleanly.{opens_clean}
use Rattle.pp_rule.proofs.Lone.{led_number}
use Rattle.pp_rule.proofs.Put.{in_nil, in_first, in_later, in_cases, in_left, in_right, in_either}
use Rattle.pp_rule.proofs.Reaching.{reached_attached}
use Rattle.pp_rule.proofs.Without.{once_cons, once_append, once_head, once_tail}
use Rattle.pp_rule.proofs.Occurrences.{fits_in}
use Rattle.pp_trees.specs.Clean.{IsBare}
use Rattle.pp_trees.specs.Gathering.{LiveLeaf}
use Rattle.pp_trees.specs.Lone.{tree_opens}
use Rattle.pp_trees.specs.Searches.{TreeState, Trees}
use Rattle.pp_trees.specs.Sentinels.{sentinel_field, fresh_own}
use Rattle.pp_trees.specs.Trees.{Heap, heap, side, edge, HasChildren, HasNone, Internal, Leaf, inf0, inf1, inf2, Sane, SearchTree}
use Rattle.pp_trees.specs.Trees.{root_head, Stored, Mapped}
use Rattle.pp_trees.proofs.Below.{below, tips, twice, IsOn, root_on, on_below, once_below, keys_once, all_below, all_tips, each_tip}
use Rattle.pp_trees.proofs.Heaps.{sane_of}
use Rattle.pp_trees.proofs.Opens.{tree_heads_open, tree_links_open, tree_opened}
use Rattle.pp_trees.proofs.Reaching.{tree_reached}
use Rattle.pp_trees.proofs.Rising.{find_here, find_else}
use Rattle.pp_trees.proofs.Spanning.{leaf_low, sentinels_live, live_is_leaf}
use Rattle.pp_trees.proofs.Walking.{is_linked, side_low, meets_internal, child_leaf, one_leaf}

module _ {A : Type 0} (f : A → ℕ) where
  in_map : (x : A) (xs : List A) → IsIn x xs → IsIn (f x) (map f xs)
  in_map x [] i = absurd (in_nil x i)
  in_map x (y ∷ ys) i = ⊎_elim (λ (e : x ≡ y). subst (λ (z : A). IsIn (f z) (f y ∷ map f ys)) (sym e) (in_first (f y) (map f ys)))
      (λ (j : IsIn x ys). in_later (f x) (f y) (map f ys) (in_map x ys j)) (in_cases x y ys i)

  map_in : (k : ℕ) (xs : List A) → IsIn k (map f xs) → (x : A) × (IsIn x xs × (f x ≡ k))
  map_in k [] i = absurd (in_nil k i)
  map_in k (y ∷ ys) i = ⊎_elim (λ (e : k ≡ f y). (y, (in_first y ys, sym e)))
      (λ (j : IsIn k (map f ys)). let r = map_in k ys j in (r.0, (in_later r.0 y ys r.1.0, r.1.1))) (in_cases k (f y) (map f ys) i)

  once_map : (xs : List A) → OnceBy f xs → Once (map f xs)
  once_map [] o = λ i j x y at_i at_j e. absurd (in_nil x (i, at_i))
  once_map (y ∷ ys) o = once_cons (λ k. k) (f y) (map f ys)
      (λ k i e. let r = map_in k ys i in once_head f y ys o r.0 r.1.0 (r.1.1 ∙ e)) (once_map ys (once_tail f y ys o))

-- the keys of a map are those that it finds
key_found : (m : List Pair) (k : ℕ) → IsIn k (keys_of m) → (v : ℕ) × (find m k ≡ Some v)
key_found [] k i = absurd (in_nil k i)
key_found (p ∷ m) k i = ⊎_elim (λ (e : p.key ≡ k). (p.value, find_here p m k e))
    (λ (ne : p.key ≢ k). let r = key_found m k (⊎_elim (λ (e : k ≡ p.key). absurd (ne (sym e))) (λ (j : IsIn k (keys_of m)). j)
    (in_cases k p.key (keys_of m) i)) in (r.0, find_else p m k ne ∙ r.1))
    (cases_eq p.key k)

found_key : (m : List Pair) (k v : ℕ) → find m k ≡ Some v → IsIn k (keys_of m)
found_key [] k v e = absurd (nothing e)
  where
    nothing : None ≡ Some v → ⊥
    nothing e = absurd cc
found_key (p ∷ m) k v e = ⊎_elim
    (λ (same : p.key ≡ k). subst (λ (x : ℕ). IsIn x (p.key ∷ keys_of m)) same (in_first p.key (keys_of m)))
    (λ (ne : p.key ≢ k). in_later k p.key (keys_of m) (found_key m k v (sym (find_else p m k ne) ∙ e)))
    (cases_eq p.key k)

rises_least : (low : ℕ) (ks : List ℕ) → RisesFrom low ks → (k : ℕ) → IsIn k ks → low ≤ k
rises_least low [] r k i = absurd (in_nil k i)
rises_least low (x ∷ ks) r k i = let least = r.0 in ⊎_elim (λ (e : k ≡ x). omega arith)
    (λ (j : IsIn k ks). let rest = rises_least (x + 1) ks r.1 k j in omega arith) (in_cases k x ks i)

rises_once : (low : ℕ) (ks : List ℕ) → RisesFrom low ks → Once ks
rises_once low [] r = λ i j x y at_i at_j e. absurd (in_nil x (i, at_i))
rises_once low (x ∷ ks) r = once_cons (λ k. k) x ks (λ k i e. let rest = rises_least (x + 1) ks r.1 k i in omega arith)
    (rises_once (x + 1) ks r.1)

long_keys : (m : List Pair) → length (keys_of m) ≡ length m
long_keys [] = refl
long_keys (p ∷ m) = let rest = long_keys m in omega arith

abbrev sentinel_keys : List ℕ
sentinel_keys = inf0 ∷ inf1 ∷ inf2 ∷ []

in_sentinels : (k : ℕ) → IsIn k sentinel_keys → (inf0 ≤ k) × (k ≤ inf2)
in_sentinels k i = ⊎_elim (λ (e : k ≡ inf0). (omega arith, omega arith)) (λ (j : IsIn k (inf1 ∷ inf2 ∷ [])). ⊎_elim
    (λ (e : k ≡ inf1). (omega arith, omega arith)) (λ (l : IsIn k (inf2 ∷ [])). ⊎_elim
    (λ (e : k ≡ inf2). (omega arith, omega arith)) (λ (none : IsIn k []). absurd (in_nil k none)) (in_cases k inf2 [] l))
    (in_cases k inf1 (inf2 ∷ []) j)) (in_cases k inf0 (inf1 ∷ inf2 ∷ []) i)

sentinels_in : (k : ℕ) → inf0 ≤ k → k < 18446744073709551616 → IsIn k sentinel_keys
sentinels_in k low high = dite (ℕ_discrete k inf0)
    (λ e. subst (λ (x : ℕ). IsIn x sentinel_keys) (sym e) (in_first inf0 (inf1 ∷ inf2 ∷ [])))
    (λ ne. in_later k inf0 (inf1 ∷ inf2 ∷ []) (dite (ℕ_discrete k inf1)
    (λ e. subst (λ (x : ℕ). IsIn x (inf1 ∷ inf2 ∷ [])) (sym e) (in_first inf1 (inf2 ∷ [])))
    (λ ne'. in_later k inf1 (inf2 ∷ []) (let e : inf2 ≡ k = omega arith in subst (λ (x : ℕ). IsIn x (inf2 ∷ [])) e (in_first inf2 [])))))

once_sentinels : Once sentinel_keys
once_sentinels = rises_once inf0 sentinel_keys (omega arith, (omega arith, (omega arith, tt)))

module _ (z : Sizes) (t : Heap) (sane : Sane z t) (tree : SearchTree z t) (m : List Pair) (mapped : Mapped z t m) where
  abbrev all_leaves : List ℕ
  all_leaves = tips t.link (z.records + 1) 1

  abbrev leaf_keys : List ℕ
  leaf_keys = map t.key all_leaves

  abbrev live_keys : List ℕ
  live_keys = keys_of m ++ sentinel_keys

  long_live : length live_keys ≡ length m + 3
  long_live = length-append (keys_of m) sentinel_keys ∙ ap (λ (n : ℕ). n + 3) (long_keys m)

  -- where the walk for a key of the map ends
  stored : (k : ℕ) → IsIn k (keys_of m) → Stored t k
  stored k i = let f = key_found m k i in mapped.records k f.0 f.1

  once_live : Once live_keys
  once_live = once_append (λ k. k) (keys_of m) sentinel_keys (rises_once 0 (keys_of m) mapped.sorted) once_sentinels
      (λ x y i j e. let below = (stored x i).low in let above = (in_sentinels y j).0 in omega arith)

  leaf_key : (l : ℕ) → Leaf z t l → IsIn (t.key l) leaf_keys
  leaf_key l leaf = in_map t.key l all_leaves (all_tips z t sane tree l leaf)

  -- each of them is the key of a leaf
  live_keyed : (k : ℕ) → IsIn k live_keys → IsIn k leaf_keys
  live_keyed k i = ⊎_elim
      (λ (j : IsIn k (keys_of m)). let s = stored k j in let p : ℕ = s.parent in
      subst (λ (x : ℕ). IsIn x leaf_keys) s.key (leaf_key (target (edge t k p)) (child_leaf z t sane tree p (side k (t.key p))
      (meets_internal z t sane tree k p s.meets) (side_low k (t.key p)) s.leaf)))
      (λ (j : IsIn k sentinel_keys). sentinel_keyed k j)
      (in_either k (keys_of m) sentinel_keys i)
    where
      here : (k l : ℕ) → t.key l ≡ k → LiveLeaf t l → IsIn k leaf_keys
      here k l e live = subst (λ (x : ℕ). IsIn x leaf_keys) e (leaf_key l (live_is_leaf z t sane tree l live))

      sentinel_keyed : (k : ℕ) → IsIn k sentinel_keys → IsIn k leaf_keys
      sentinel_keyed k j = let live = sentinels_live z t sane tree in let keys = tree.sentinels.keys in ⊎_elim
          (λ (e : k ≡ inf0). here k 3 (keys.2 ∙ sym e) live.0)
          (λ (rest : IsIn k (inf1 ∷ inf2 ∷ [])). ⊎_elim (λ (e : k ≡ inf1). here k 4 (keys.3 ∙ sym e) live.1)
          (λ (last : IsIn k (inf2 ∷ [])). ⊎_elim (λ (e : k ≡ inf2). here k 5 (keys.4 ∙ sym e) live.2)
          (λ (none : IsIn k []). absurd (in_nil k none)) (in_cases k inf2 [] last))
          (in_cases k inf1 (inf2 ∷ []) rest))
          (in_cases k inf0 (inf1 ∷ inf2 ∷ []) j)

  -- so there are at least as many leaves
  pub many_leaves : length m + 3 ≤ length all_leaves
  many_leaves = let fits = fits_in live_keys leaf_keys once_live live_keyed in let long = long_live in
      let leaves = length-map all_leaves t.key in omega arith

  -- and one more where an edge has FLAG
  pub more_leaves : (n s : ℕ) → Internal z t n → s < 2 → flag_bit (t.link n s) ≡ 1 → length m + 4 ≤ length all_leaves
  more_leaves n s i lt flag = let l : ℕ = target (t.link n s) in let f = tree.flagged n s i lt flag in
      let apart : (k : ℕ) → IsIn k live_keys → k ≡ t.key l → ⊥ = λ k j e. ⊎_elim
      (λ (here : IsIn k (keys_of m)). let st = stored k here in
      let same = one_leaf z t sane tree k st.parent n s st.meets st.leaf i lt f.0 (sym e) in
      let word : edge t k st.parent ≡ t.link n s = ap (λ (x : ℕ). t.link x (side k (t.key st.parent))) (sym same.0)
      ∙ ap (t.link n) (sym same.1) in
      let plain : flag_bit (t.link n s) ≡ 0 = ap flag_bit (sym word) ∙ st.plain in omega arith)
      (λ (there : IsIn k sentinel_keys). let above = (in_sentinels k there).0 in let pair = f.1 in omega arith)
      (in_either k (keys_of m) sentinel_keys j) in
      let fits = fits_in (t.key l ∷ live_keys) leaf_keys (once_cons (λ k. k) (t.key l) live_keys apart once_live)
      (λ k j. ⊎_elim (λ (e : k ≡ t.key l). subst (λ (x : ℕ). IsIn x leaf_keys) (sym e) (leaf_key l (child_leaf z t sane tree n s i lt f.0)))
      (live_keyed k) (in_cases k (t.key l) live_keys j)) in
      let long = long_live in let leaves = length-map all_leaves t.key in omega arith

  -- Where none has, there are no more.
  pub few_leaves : ((n s : ℕ) → Internal z t n → s < 2 → flag_bit (t.link n s) ≡ 0) → length all_leaves ≤ length m + 3
  few_leaves bare = let fits = fits_in leaf_keys live_keys (once_map t.key all_leaves (keys_once z t sane tree (z.records + 1) 1
      (root_on z t sane tree))) (λ k i. let x = map_in t.key k all_leaves i in
      subst (λ (y : ℕ). IsIn y live_keys) x.1.1 (keyed x.0 (each_tip z t sane tree x.0 x.1.0))) in
      let long = long_live in let leaves = length-map all_leaves t.key in omega arith
    where
      keyed : (l : ℕ) → Leaf z t l → IsIn (t.key l) live_keys
      keyed l leaf = let b = tree.leaf_home l leaf in let p : ℕ = b.parent in let s : ℕ = side (t.key l) (t.key p) in
          let i = meets_internal z t sane tree (t.key l) p b.meets in let lt = side_low (t.key l) (t.key p) in
          let high : t.key l < 18446744073709551616 = subst (λ (x : ℕ). t.key x < 18446744073709551616) b.to
          (leaf_low z t sane tree p s i lt b.leaf) in ⊎_elim
          (λ (low : t.key l < inf0). in_left (t.key l) (keys_of m) sentinel_keys (found_key m (t.key l) (t.value l)
          (subst (λ (x : ℕ). find m (t.key x) ≡ Some (t.value x)) b.to (mapped.pairs p s i lt b.leaf (bare p s i lt)
          (subst (λ (x : ℕ). t.key x < inf0) (sym b.to) low)))))
          (λ (above : inf0 ≤ t.key l). in_right (t.key l) (keys_of m) sentinel_keys (sentinels_in (t.key l) above high))
          (cases_lt (t.key l) inf0)

-- the attached records, by the words
abbrev pub tree_records : Sizes → List ℕ → List ℕ
tree_records z words = below (λ n s. cell_word words z n (2 + s)) (z.records + 1) 1

-- and the leaves among them
abbrev pub tree_leaves : Sizes → List ℕ → List ℕ
tree_leaves z words = tips (λ n s. cell_word words z n (2 + s)) (z.records + 1) 1

module _ (z : Sizes) (words : List ℕ) (g : TreeState) (b : Base 2 z words g) (trees : Trees z words g) where
  abbrev t : Heap
  t = heap z words g.status

  sane : Sane z (heap z words g.status)
  sane = sane_of z words g b

  pub records_on : (n : ℕ) → IsIn n (tree_records z words) → IsOn z (heap z words g.status) n
  records_on n i = on_below z t sane trees.tree (z.records + 1) 1 n (root_on z t sane trees.tree) i

  pub records_once : Once (tree_records z words)
  records_once = once_below z t sane trees.tree (z.records + 1) 1 (root_on z t sane trees.tree)

  pub records_all : (n : ℕ) → IsNumber z n → g.status n ≡ attached → IsIn n (tree_records z words)
  records_all n number on = all_below z t sane trees.tree n (number, on)

  -- an edge of an attached internal record can be reached
  bare_edges : IsBare z words → (n s : ℕ) → Internal z t n → s < 2 → flag_bit (t.link n s) ≡ 0
  bare_edges bare n s i lt = bare n s i.number lt (tree_reached z words g n b trees i.number i.on)

  twice_records : length (tree_records z words) + 1 ≡ 2 * length (tree_leaves z words)
  twice_records = twice (λ n s. cell_word words z n (2 + s)) (z.records + 1) 1

  -- As many are attached as there are live ones, if no edge that can be reached has FLAG.
  pub records_count : IsBare z words → length (tree_records z words) ≡ 2 * length (contents_of (log_of g.order)) + 5
  records_count bare = let m : List Pair = contents_of (log_of g.order) in let double = twice_records in
      let many : length m + 3 ≤ length (tree_leaves z words) = many_leaves z t sane trees.tree m trees.mapped in
      let few : length (tree_leaves z words) ≤ length m + 3 = few_leaves z t sane trees.tree m trees.mapped (bare_edges bare) in omega arith

  -- Where as many records are attached as there are live ones, no edge has FLAG.
  pub clean_bare : CountsAttached (Reached 2 z words) (2 * length (contents_of (log_of g.order)) + 5) → IsBare z words
  clean_bare c n s number lt reached = let m : List Pair = contents_of (log_of g.order) in
      let on = reached_attached 2 z words g b n number reached in let count = c.count_is in
      let fits = fits_in (tree_records z words) c.numbers records_once
      (λ k i. let o = records_on k i in c.all k o.0.0 (tree_reached z words g k b trees o.0 o.1)) in
      let double = twice_records in
      dite (ℕ_discrete (flag_bit (t.link n s)) 0) (λ e. e)
      (λ ne. let flag = one_bit (t.link n s) ne in
      let more : length m + 4 ≤ length (tree_leaves z words) = more_leaves z t sane trees.tree m trees.mapped n s (inner on flag) lt flag in
      absurd (omega arith))
    where
      one_bit : (w : ℕ) → flag_bit w ≢ 0 → flag_bit w ≡ 1
      one_bit w ne = omega arith

      -- a record with a flagged edge is no leaf
      inner : g.status n ≡ attached → flag_bit (t.link n s) ≡ 1 → Internal z t n
      inner on flag = ⊎_elim
          (λ (c : HasChildren t n). record { number = number; on = on; children = c })
          (λ (none : HasNone t n). let nil : t.link n s ≡ 0 = trees.tree.bare n s record { number = number; on = on; none = none } lt in
          absurd (omega arith))
          (trees.tree.sort n number (is_linked (g.status n) on))

  -- a number that can be reached is that of a record
  reached_number : (n : ℕ) → 1 ≤ n → Reached 2 z words n → IsNumber z n
  reached_number n some r = led_number 2 z words g b n (λ e. omega arith) r

  -- If no edge has FLAG, as many records are attached as there are live ones.
  pub bare_clean : IsBare z words → CountsAttached (Reached 2 z words) (2 * length (contents_of (log_of g.order)) + 5)
  bare_clean bare = record {
    numbers = tree_records z words;
    count_is = records_count bare;
    once = records_once;
    each = λ n i. let o = records_on n i in (o.0.0, tree_reached z words g n b trees o.0 o.1);
    all = λ n some r. let number = reached_number n some r in records_all n number (reached_attached 2 z words g b n number r);
  }

-- A tree opens clean.
pub clean_open : (z : Sizes) → IsWithin z → CountsAttached (Reached 2 z (tree_opens z)) 5
clean_open z within = opens_clean 2 5 root_head sentinel_field fresh_own z (λ z words g. Trees z words g) (omega arith) within
    (let many = within.some_records in omega arith) tree_heads_open tree_links_open tree_opened tree_reached
