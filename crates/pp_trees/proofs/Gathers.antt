-- Gathering over the words of a table, with the stack as a list of entries.
use Rattle.std.proofs.Common.{◌≡◌, ◌≢◌, ◌⊎◌, inl, inr, ⊎_elim, ℕ, ◌+◌, ◌-◌, ◌*◌, ◌<◌, ◌≤◌, Bool, true, false, cond, eqb, List}
use Rattle.std.proofs.Common.{[], ◌∷◌, ◌++◌, length, map, reverse, take, get_or, ltb}
use Rattle.std.proofs.Common.{sym, ap, ◌∙◌, subst, arith, eq-eqb, ne_eqb, append-nil, length-append}
use Rattle.std.proofs.lemmas.Bool.{cases_eq, eqb-true, eqb-false}
use Rattle.std.proofs.lemmas.List.{reverse-append, map-append, length-reverse, length-map, take_more}
use Rattle.std.proofs.Common.{length-take-le}
use Rattle.pp_link.specs.declared.layout.Sizes.{Sizes}
use Rattle.pp_link.specs.declared.link.Link.{Link}
use Rattle.pp_link.specs.Links.{target, flag_bit, leaf_bit, link_of}
use Rattle.pp_link.specs.Places.{IsNumber}
use Rattle.pp_link.specs.Words.{cell_word}
use Rattle.pp_model.specs.declared.Pair.{Pair}
use Rattle.pp_model.specs.FiniteMap.{pair}
use Rattle.pp_rule.specs.Lists.{IsIn, Once}
use Rattle.pp_rule.specs.States.{RecordState, attached, IsSmall}
use Rattle.pp_rule.proofs.Put.{in_nil, in_cases, get_at}
use Rattle.pp_rule.proofs.Without.{once_cons}
use Rattle.pp_base.proofs.Numbered.{bounded}
use Rattle.pp_trees.specs.Trees.{Heap, heap, Internal, Meets, root, down, Sane, SearchTree}
use Rattle.pp_trees.specs.Gathering.{closed, LiveLeaf, PartsTwo, IsGathered, HoldsTree, own_pairs, pairs_in, with_leaf}
use Rattle.pp_trees.proofs.Walking.{root_internal, meets_internal}
use Rattle.pp_trees.proofs.Spanning.{bound, Stacked, live_is_leaf, internal_low}
use Rattle.pp_trees.proofs.Visiting.{Visited, pairs_append}
use Rattle.pp_trees.proofs.Passing.{Ahead, Done, ahead_first, ahead_pushed, done_flagged, done_first, done_next, ahead_fresh}
use Rattle.pp_trees.proofs.Passing.{ahead_same, gathered}

-- the records on the stack, from the top down
abbrev pub numbers : List Pair → List ℕ
numbers stack = reverse (map (λ (p : Pair). p.key) stack)

pub numbers_more : (stack : List Pair) (p : Pair) → numbers (stack ++ p ∷ []) ≡ p.key ∷ numbers stack
numbers_more stack p = ap reverse (map-append (λ (p : Pair). p.key) stack (p ∷ []))
    ∙ reverse-append (map (λ (p : Pair). p.key) stack) (p.key ∷ [])

pub numbers_length : (stack : List Pair) → length (numbers stack) ≡ length stack
numbers_length stack = length-reverse (map (λ (p : Pair). p.key) stack) ∙ length-map stack (λ (p : Pair). p.key)

-- ---- there is room

module _ (z : Sizes) (t : Heap) (sane : Sane z t) (tree : SearchTree z t) where
  on_stack : (lo : ℕ) (ns : List ℕ) → Stacked z t lo ns → (m : ℕ) → IsIn m ns → IsNumber z m × (bound t ns ≤ t.key m)
  on_stack lo [] st m i = absurd (in_nil m i)
  on_stack lo (n ∷ ns) st m i = ⊎_elim (λ (e : m ≡ n). (
    subst (IsNumber z)
        (sym e) st.0.internal.number,
    let key : t.key m ≡ t.key n = ap t.key e in omega arith,
  ))
      (λ (i' : IsIn m ns). let rest = on_stack lo ns st.1 m i' in let falls = st.0.falls in let le = rest.1 in
      (rest.0, omega arith)) (in_cases m n ns i)

  stack_once : (lo : ℕ) (ns : List ℕ) → Stacked z t lo ns → Once ns
  stack_once lo [] st = λ i j x y at there e. absurd (in_nil x (i, at))
  stack_once lo (n ∷ ns) st = once_cons (λ n. n) n ns
      (λ x i e. let le = (on_stack lo ns st.1 x i).1 in let falls = st.0.falls in
      let key : t.key x ≡ t.key n = ap t.key e in omega arith) (stack_once lo ns st.1)

  pub stack_fits : (lo : ℕ) (ns : List ℕ) → Stacked z t lo ns → length ns ≤ z.records
  stack_fits lo ns st = bounded z.records ns (stack_once lo ns st) (λ m i. (on_stack lo ns st m i).0)

  pub live_number : (n : ℕ) → LiveLeaf t n ⊎ PartsTwo t n → IsNumber z n
  live_number n is = ⊎_elim (λ (l : LiveLeaf t n). (live_is_leaf z t sane tree n l).number)
      (λ (p : PartsTwo t n). (meets_internal z t sane tree (t.key p.low) n p.parts.first).number) is

  pub live_fits : (live : List ℕ) (top lo : ℕ) → Visited t live top lo → length live ≤ z.records
  live_fits live top lo v = bounded z.records live v.once (λ m i. live_number m (v.live_is m i).0)

-- ---- a walk sees no state

module _ (z : Sizes) (words : List ℕ) (s s' : ℕ → RecordState) where
  meets_still : (k : ℕ) (n : ℕ) → Meets (heap z words s) k n → Meets (heap z words s') k n
  meets_still k n (root e) = root e
  meets_still k n (down {n = p} m inner to) = down (meets_still k p m) inner to

  leaf_still : (l : ℕ) → LiveLeaf (heap z words s) l → LiveLeaf (heap z words s') l
  leaf_still l live = record {
    parent = live.parent;
    meets = meets_still
        (cell_word words z l 0) live.parent live.meets;
    leaf = live.leaf;
    plain = live.plain;
    to = live.to;
  }

module _ (z : Sizes) (words : List ℕ) (s s' : ℕ → RecordState) where
  parts_still : (n : ℕ) → PartsTwo (heap z words s) n → PartsTwo (heap z words s') n
  parts_still n p = record {
    low = p.low;
    high = p.high;
    neighbours = record {
      low = leaf_still z words s s' p.low p.neighbours.low;
      high = leaf_still z words s s' p.high p.neighbours.high;
      rise = p.neighbours.rise;
      none_between = λ m live over under. p.neighbours.none_between m (leaf_still z words s' s m live) over under;
    };
    parts = record {
      first = meets_still z words s s' (cell_word words z p.low 0) n p.parts.first;
      second = meets_still z words s s' (cell_word words z p.high 0) n p.parts.second;
      apart = p.parts.apart;
    };
  }

pub gathered_still : (z : Sizes) (words : List ℕ) (s s' : ℕ → RecordState) (contents : List Pair) (live : List ℕ)
    → IsGathered (heap z words s) contents live → IsGathered (heap z words s') contents live
gathered_still z words s s' contents live g = record {
  live_is = λ n i. ⊎_elim (λ (l : LiveLeaf (heap z words s) n). inl (leaf_still z words s s' n l)) (λ (p : PartsTwo
      (heap z words s) n). inr (parts_still z words s s' n p)) (g.live_is n i);
  leaves = λ l is. g.leaves l (leaf_still z words s' s l is);
  partings = λ n p. g.partings n (parts_still z words s' s n p);
  once = g.once;
  count = g.count;
  rise = g.rise;
  pairs_are = λ k v e. let x = g.pairs_are k v e in (x.0, (leaf_still z words s s' x.0 x.1.0, x.1.1, x.1.2, x.1.3));
  pairs = λ l is low. g.pairs l (leaf_still z words s' s l is) low;
}

-- ---- the steps over the words

-- the link is that of the edge that is to be visited next
pub record AheadAt (z : Sizes) (words : List ℕ) (link : Link) (stack : List Pair) (live : List ℕ)
    (lo base parting : ℕ) : Type 0 where
  pub holds : HoldsTree z words
  pub n : ℕ
  pub s : ℕ
  pub link_is : link ≡ link_of (cell_word words z n (2 + s))
  pub ahead : Ahead z (heap z words holds.state) live (numbers stack) n s lo base parting

pub record DoneAt (z : Sizes) (words : List ℕ) (stack : List Pair) (live : List ℕ) (lo base parting : ℕ) : Type 0 where
  pub holds : HoldsTree z words
  pub done : Done z (heap z words holds.state) live (numbers stack) lo base parting

-- a number that falls from each edge to the next
abbrev pub remaining : Sizes → List ℕ → ℕ → List Pair → ℕ
remaining z words lo stack = (18446744073709551616 - lo) * 36893488147419103232 + bound (closed z words) (numbers stack)

leaf_is : (link : Link) (w : ℕ) → link ≡ link_of w → link.leaf ≡ true → leaf_bit w ≡ 1
leaf_is link w is e = eqb-true (leaf_bit w) 1 (sym (ap (λ (l : Link). l.leaf) is) ∙ e)

inner_is : (link : Link) (w : ℕ) → link ≡ link_of w → link.leaf ≡ false → leaf_bit w ≡ 0
inner_is link w is e = let ne = eqb-false (leaf_bit w) 1 (sym (ap (λ (l : Link). l.leaf) is) ∙ e) in omega arith

plain_is : (link : Link) (w : ℕ) → link ≡ link_of w → link.flag ≡ false → flag_bit w ≡ 0
plain_is link w is e = let ne = eqb-false (flag_bit w) 1 (sym (ap (λ (l : Link). l.flag) is) ∙ e) in omega arith

flagged_is : (link : Link) (w : ℕ) → link ≡ link_of w → link.flag ≡ true → flag_bit w ≢ 0
flagged_is link w is e none = let one = eqb-true (flag_bit w) 1 (sym (ap (λ (l : Link). l.flag) is) ∙ e) in omega arith

-- an internal record can be read
pub record Readable (z : Sizes) (words : List ℕ) (n : ℕ) : Type 0 where
  pub number : IsNumber z n
  pub left : IsSmall (cell_word words z n 2)
  pub right : IsSmall (cell_word words z n 3)

readable : (z : Sizes) (words : List ℕ) (h : HoldsTree z words) (n : ℕ) → Internal z (heap z words h.state) n → Readable z words n
readable z words h n i = record {
  number = i.number;
  left = (h.sane.leads n 0 i.number (omega arith) i.on).small;
  right = (h.sane.leads n 1 i.number (omega arith) i.on).small;
}

pub root_readable : (z : Sizes) (words : List ℕ) → HoldsTree z words → Readable z words 1
root_readable z words h = readable z words h 1 (root_internal z (heap z words h.state) h.sane h.tree)

pub at_first : (z : Sizes) (words : List ℕ) (link : Link) (stack : List Pair) (live : List ℕ) → HoldsTree z words
    → link ≡ link_of (cell_word words z 1 2)
    → stack ≡ pair 1 0 ∷ [] → live ≡ [] → AheadAt z words link stack live 0 0 0
at_first z words link stack live h is one none = record {
  holds = h;
  n = 1;
  s = 0;
  link_is = is;
  ahead = subst (λ (x : List Pair). Ahead z (heap z words h.state) live (numbers x) 1 0 0 0 0) (sym one)
      (subst (λ (x : List ℕ). Ahead z (heap z words h.state) x (1 ∷ []) 1 0 0 0 0) (sym none) (ahead_first z
      (heap z words h.state) h.sane h.tree));
}

module _ (z : Sizes) (words : List ℕ) (link : Link) (stack : List Pair) (live : List ℕ) (lo base parting : ℕ)
    (a : AheadAt z words link stack live lo base parting) where
  abbrev here : ℕ
  here = cell_word words z a.n (2 + a.s)

  to_is : link.number ≡ target here
  to_is = ap (λ (l : Link). l.number) a.link_is

  down_at : link.leaf ≡ false → Ahead z (heap z words a.holds.state) live
      (link.number ∷ numbers stack) link.number 0 lo base parting
      × (cell_word words z link.number 0 < bound (heap z words a.holds.state) (numbers stack))
  down_at inner = subst (λ (c : ℕ). Ahead z (heap z words a.holds.state) live (c ∷ numbers stack) c 0 lo base parting
      × (cell_word words z c 0 < bound (heap z words a.holds.state) (numbers stack))) (sym to_is)
      (ahead_pushed z (heap z words a.holds.state) a.holds.sane a.holds.tree live
      (numbers stack) a.n a.s lo base parting a.ahead (inner_is link here a.link_is inner))

  pub down_readable : link.leaf ≡ false → Readable z words link.number
  down_readable inner = readable z words a.holds link.number (down_at inner).0.spans.internal

  pub down_room : link.leaf ≡ false → length stack < z.records
  down_room inner = let fits = stack_fits z (heap z words a.holds.state) a.holds.sane a.holds.tree lo
      (link.number ∷ numbers stack) (down_at inner).0.stacked in
      let same = numbers_length stack in omega arith

  pub at_down : link.leaf ≡ false → (next : Link) (more : List Pair) → next ≡ link_of (cell_word words z link.number 2)
      → more ≡ stack ++ pair link.number 0 ∷ []
      → AheadAt z words next more live lo base parting × (remaining z words lo more < remaining z words lo stack)
  at_down inner next more is grown = let d = down_at inner in let ns : numbers more ≡ link.number ∷ numbers stack = ap numbers
      grown ∙ numbers_more stack (pair link.number 0) in (
        record {
          holds = a.holds;
          n = link.number;
          s = 0;
          link_is = is;
          ahead = subst (λ (x : List ℕ). Ahead z (heap z words a.holds.state) live x link.number 0 lo base parting) (sym ns) d.0;
        },
        let falls = d.1 in let new : bound (closed z words) (numbers more) ≡ cell_word words z link.number 0 = ap (bound
            (closed z words)) ns in less falls new,
      )
    where
      less : cell_word words z link.number 0 < bound (closed z words) (numbers stack)
          → bound (closed z words) (numbers more) ≡ cell_word words z link.number 0
          → remaining z words lo more < remaining z words lo stack
      less falls new = omega arith

  pub at_flagged : link.leaf ≡ true → link.flag ≡ true → DoneAt z words stack live lo base parting
  at_flagged leaf flag = record {
    holds = a.holds;
    done = done_flagged z (heap z words a.holds.state) a.holds.sane a.holds.tree live
        (numbers stack) a.n a.s lo base parting a.ahead
        (leaf_is link here a.link_is leaf) (flagged_is link here a.link_is flag);
  }

  pub at_live : link.leaf ≡ true → link.flag ≡ false → DoneAt z words stack (with_leaf live parting link.number) lo
      (length stack) parting
  at_live leaf plain = subst (λ (x : ℕ). DoneAt z words stack (with_leaf live parting x) lo (length stack) parting) (sym to_is)
      (subst (λ (x : ℕ). DoneAt z words stack (with_leaf live parting (target here)) lo x parting) (numbers_length stack) record {
        holds = a.holds;
        done = ⊎_elim
            (λ (none : parting ≡ 0). subst (λ (b : Bool). Done z (heap z words a.holds.state) (cond b
            (live ++ target here ∷ []) ((live ++ parting ∷ []) ++ target here ∷ [])) (numbers stack) lo (length
            (numbers stack)) parting)
            (sym (eq-eqb parting 0 none)) (done_first z (heap z words a.holds.state) a.holds.sane a.holds.tree live
            (numbers stack) a.n a.s lo base parting a.ahead
            (leaf_is link here a.link_is leaf) (plain_is link here a.link_is plain) none))
            (λ (some : parting ≢ 0). subst (λ (b : Bool). Done z (heap z words a.holds.state) (cond b
            (live ++ target here ∷ []) ((live ++ parting ∷ []) ++ target here ∷ [])) (numbers stack) lo (length
            (numbers stack)) parting)
            (sym (ne_eqb parting 0 some)) (done_next z (heap z words a.holds.state) a.holds.sane a.holds.tree live
            (numbers stack) a.n a.s lo base parting a.ahead
            (leaf_is link here a.link_is leaf) (plain_is link here a.link_is plain) some))
            (cases_eq parting 0);
      })

pub done_room : (z : Sizes) (words : List ℕ) (stack : List Pair) (live : List ℕ) (lo base parting : ℕ)
    → DoneAt z words stack live lo base parting → length live ≤ z.records
done_room z words stack live lo base parting d = live_fits z (heap z words d.holds.state) d.holds.sane d.holds.tree live
    d.done.top (bound (heap z words d.holds.state) (numbers stack)) d.done.visited

module _ (z : Sizes) (words : List ℕ) (stack rest : List Pair) (p : Pair) (live : List ℕ) (lo base parting : ℕ)
    (d : DoneAt z words stack live lo base parting) (is : stack ≡ rest ++ p ∷ []) where
  abbrev Now : List ℕ → Type 0
  Now ns = Done z (heap z words d.holds.state) live ns lo base parting

  now : Now (p.key ∷ numbers rest)
  now = subst Now (ap numbers is ∙ numbers_more rest p) d.done

  pub up_readable : Readable z words p.key
  up_readable = readable z words d.holds p.key now.stacked.0.internal

  up_less : remaining z words (cell_word words z p.key 0) rest < remaining z words lo stack
  up_less = less now.below now.stacked.0.falls (small now.stacked.0.internal) (ap (bound (closed z words)) (ap numbers is
      ∙ numbers_more rest p))
      (most (numbers rest) now.stacked.1)
    where
      small : Internal z (heap z words d.holds.state) p.key → cell_word words z p.key 0 < 18446744073709551616
      small i = internal_low z (heap z words d.holds.state) d.holds.sane d.holds.tree p.key i

      most : (ns : List ℕ) → Stacked z (heap z words d.holds.state) lo ns → bound (closed z words) ns ≤ 18446744073709551616
      most [] st = omega arith
      most (n ∷ ns) st = let lt : cell_word words z n 0 < 18446744073709551616 = internal_low z
          (heap z words d.holds.state) d.holds.sane d.holds.tree n st.0.internal in omega arith

      less : lo < cell_word words z p.key 0 → cell_word words z p.key 0 < bound (closed z words) (numbers rest)
          → cell_word words z p.key 0 < 18446744073709551616
          → bound (closed z words) (numbers stack) ≡ cell_word words z p.key 0
          → bound (closed z words) (numbers rest) ≤ 18446744073709551616
          → remaining z words (cell_word words z p.key 0) rest < remaining z words lo stack
      less a b c e f = omega arith

  pub at_fresh : length rest < base → (next : Link) (low : ℕ) → next ≡ link_of (cell_word words z p.key 3)
      → low ≡ cell_word words z p.key 0
      → AheadAt z words next rest live low (length rest) p.key × (remaining z words low rest < remaining z words lo stack)
  at_fresh few next low next_is low_is = subst (λ (x : ℕ). AheadAt z words next rest live x (length rest) p.key
      × (remaining z words x rest < remaining z words lo stack)) (sym low_is) (
        subst (λ (x : ℕ). AheadAt z words next rest live (cell_word words z p.key 0) x p.key) (numbers_length rest) record {
          holds = d.holds;
          n = p.key;
          s = 1;
          link_is = next_is;
          ahead = ahead_fresh z (heap z words d.holds.state) d.holds.sane d.holds.tree live
              (numbers rest) p.key lo base parting now (let same = numbers_length rest in omega arith);
        },
        up_less,
      )

  pub at_same : base ≤ length rest → (next : Link) (low : ℕ) → next ≡ link_of (cell_word words z p.key 3)
      → low ≡ cell_word words z p.key 0
      → AheadAt z words next rest live low base parting × (remaining z words low rest < remaining z words lo stack)
  at_same many next low next_is low_is = subst (λ (x : ℕ). AheadAt z words next rest live x base parting
      × (remaining z words x rest < remaining z words lo stack)) (sym low_is) (
        record {
          holds = d.holds;
          n = p.key;
          s = 1;
          link_is = next_is;
          ahead = ahead_same z (heap z words d.holds.state) d.holds.sane d.holds.tree live
              (numbers rest) p.key lo base parting now (let same = numbers_length rest in omega arith);
        },
        up_less,
      )

pub at_end : (z : Sizes) (words : List ℕ) (stack : List Pair) (live : List ℕ) (lo base parting : ℕ)
    → DoneAt z words stack live lo base parting → stack ≡ []
    → IsGathered (closed z words) (pairs_in (closed z words) live) live
at_end z words stack live lo base parting d none = gathered_still z words d.holds.state (λ n. attached) (pairs_in
    (closed z words) live) live
    (gathered z (heap z words d.holds.state) d.holds.sane d.holds.tree live lo base parting
    (subst (λ (x : List Pair). Done z (heap z words d.holds.state) live (numbers x) lo base parting) none d.done))

-- ---- where the branches of the loop join

abbrev pub LeafStep : Link → List Pair → List ℕ → ℕ → ℕ → List ℕ → ℕ → Type 0
LeafStep link stack live base parting live' base' =
    ((link.flag ≡ false) × (live' ≡ with_leaf live parting link.number) × (base' ≡ length stack)) ⊎ ((link.flag ≡ true)
    × (live' ≡ live) × (base' ≡ base))

abbrev pub UpStep : List Pair → Pair → ℕ → ℕ → ℕ → ℕ → Type 0
UpStep rest p base parting base' parting' =
    ((length rest < base) × (base' ≡ length rest) × (parting' ≡ p.key)) ⊎ ((base ≤ length rest) × (base' ≡ base)
    × (parting' ≡ parting))

pub at_leaf : (z : Sizes) (words : List ℕ) (link : Link) (stack : List Pair) (live : List ℕ) (lo base parting : ℕ)
    → AheadAt z words link stack live lo base parting
    → link.leaf ≡ true → (live' : List ℕ) (base' : ℕ)
    → LeafStep link stack live base parting live' base' → DoneAt z words stack live' lo base' parting
at_leaf z words link stack live lo base parting a leaf live' base' how = ⊎_elim
    (λ (x : (link.flag ≡ false) × (live' ≡ with_leaf live parting link.number) × (base' ≡ length stack)).
    subst (λ (l : List ℕ). DoneAt z words stack l lo base' parting) (sym x.1) (subst (λ (b : ℕ). DoneAt z words stack
    (with_leaf live parting link.number) lo b parting) (sym x.2)
    (at_live z words link stack live lo base parting a leaf x.0)))
    (λ (x : (link.flag ≡ true) × (live' ≡ live) × (base' ≡ base)).
    subst (λ (l : List ℕ). DoneAt z words stack l lo base' parting) (sym x.1) (subst (λ
    (b : ℕ). DoneAt z words stack live lo b parting) (sym x.2)
    (at_flagged z words link stack live lo base parting a leaf x.0)))
    how

pub at_up : (z : Sizes) (words : List ℕ) (stack rest : List Pair) (p : Pair) (live : List ℕ) (lo base parting : ℕ)
    → DoneAt z words stack live lo base parting
    → stack ≡ rest ++ p ∷ [] → (next : Link) (low base' parting' : ℕ) → next ≡ link_of (cell_word words z p.key 3)
    → low ≡ cell_word words z p.key 0
    → UpStep rest p base parting base' parting' → AheadAt z words next rest live low base' parting'
    × (remaining z words low rest < remaining z words lo stack)
at_up z words stack rest p live lo base parting d is next low base' parting' next_is low_is how = ⊎_elim
    (λ (x : (length rest < base) × (base' ≡ length rest) × (parting' ≡ p.key)). let a = at_fresh z words stack rest p live lo
    base parting d is x.0 next low next_is low_is in (
      subst (λ (b : ℕ). AheadAt z words next rest live low b parting') (sym x.1) (subst (λ
          (c : ℕ). AheadAt z words next rest live low (length rest) c) (sym x.2) a.0),
      a.1,
    ))
    (λ (x : (base ≤ length rest) × (base' ≡ base) × (parting' ≡ parting)). let a = at_same z words stack rest p live lo base
    parting d is x.0 next low next_is low_is in (
      subst (λ (b : ℕ). AheadAt z words next rest live low b parting') (sym x.1) (subst (λ
          (c : ℕ). AheadAt z words next rest live low base c) (sym x.2) a.0),
      a.1,
    ))
    how

-- ---- the pairs of the listed records

readable_on : (z : Sizes) (words : List ℕ) (h : HoldsTree z words) (n : ℕ) → IsNumber z n → h.state n ≡ attached
    → Readable z words n
readable_on z words h n number on = record {
  number = number;
  left = (h.sane.leads n 0 number (omega arith) on).small;
  right = (h.sane.leads n 1 number (omega arith) on).small;
}

pub listed_readable : (z : Sizes) (words : List ℕ) (contents : List Pair) (live : List ℕ) → HoldsTree z words
    → IsGathered (closed z words) contents live
    → (n : ℕ) → IsIn n live → Readable z words n
listed_readable z words contents live h g n i = let t : Heap = heap z words h.state in
    let own = gathered_still z words (λ n. attached) h.state contents live g in ⊎_elim
    (λ (l : LiveLeaf t n). let leaf = live_is_leaf z t h.sane h.tree n l in readable_on z words h n leaf.number leaf.on)
    (λ (p : PartsTwo t n). let inner = meets_internal z t h.sane h.tree (t.key p.low) n p.parts.first in
    readable_on z words h n inner.number inner.on)
    (own.live_is n i)

pub listed_few : (z : Sizes) (words : List ℕ) (contents : List Pair) (live : List ℕ) → HoldsTree z words
    → IsGathered (closed z words) contents live → length live ≤ z.records
listed_few z words contents live h g = bounded z.records live g.once (λ m i.
    (listed_readable z words contents live h g m i).number)

own_few : (t : Heap) (n : ℕ) → length (own_pairs t n) ≤ 1
own_few t n = by (eqb (target (t.link n 0)) 0) (ltb (t.key n) 18446744073709551613)
  where
    by : (a b : Bool) → length (cond a (cond b (pair (t.key n) (t.value n) ∷ []) []) []) ≤ 1
    by true true = omega arith
    by true false = omega arith
    by false b = omega arith

pub pairs_few : (t : Heap) (ns : List ℕ) → length (pairs_in t ns) ≤ length ns
pairs_few t [] = omega arith
pairs_few t (n ∷ ns) = let one = own_few t n in let rest = pairs_few t ns in
    let sum = length-append (own_pairs t n) (pairs_in t ns) in omega arith

pub pairs_take : (t : Heap) (ns : List ℕ) (i : ℕ) → i < length ns → pairs_in t (take (i + 1) ns) ≡ pairs_in t
    (take i ns) ++ own_pairs t (get_or ns i 0)
pairs_take t ns i lt = ap (pairs_in t) (take_more_one ns i lt) ∙ (pairs_append t (take i ns) (get_or ns i 0 ∷ [])
    ∙ ap (λ (m : List Pair). pairs_in t (take i ns) ++ m) (append-nil (own_pairs t (get_or ns i 0))))
  where
    take_more_one : (ns : List ℕ) (i : ℕ) → i < length ns → take (i + 1) ns ≡ take i ns ++ get_or ns i 0 ∷ []
    take_more_one ns i lt = take_more ns i 0 lt

module _ (z : Sizes) (words : List ℕ) (contents : List Pair) (live items : List ℕ) (h : HoldsTree z words) (g : IsGathered
    (closed z words) contents live) (same : items ≡ live) where
  pub item_readable : (i : ℕ) → i < length items → Readable z words (get_or items i 0)
  item_readable i lt = listed_readable z words contents live h g (get_or items i 0) (subst (IsIn (get_or items i 0)) same
      (i, get_at items i 0 lt))

  pub item_room : (i : ℕ) (pairs : List Pair) → i < length items → pairs ≡ pairs_in (closed z words) (take i items)
      → length pairs < z.records
  item_room i pairs lt is = let few = pairs_few (closed z words) (take i items) in
      let short = length-take-le i items (omega arith) in let many = listed_few z words contents live h g in
      let long : length items ≡ length live = ap length same in let e : length pairs ≡ length (pairs_in (closed z words)
      (take i items)) = ap length is in omega arith
