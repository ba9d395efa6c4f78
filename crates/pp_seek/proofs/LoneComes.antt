-- A pass alone comes to the internal record behind an edge: the second load finds the word of the first one, and the record's key lies
-- between the bounds.
use Rattle.std.proofs.Common.{◌≡◌, ◌≢◌, ◌⊎◌, inl, inr, ⊎_elim, ℕ, ◌+◌, ◌-◌, ◌<◌, ◌≤◌, Bool, true, false, cond, [], ◌∷◌, ◌++◌}
use Rattle.std.proofs.Common.{length, get_or, Some, refl, sym, ap, ◌∙◌, subst, arith, eq-eqb}
use Rattle.std.proofs.lemmas.Bool.{cases_lt, lt-ltb, le-ltb}
use Rattle.std.proofs.Math.Bool.{false≢true}
use Rattle.std.specs.Prelude.{nat_lt}
use Rattle.pp_link.specs.declared.layout.Sizes.{Sizes}
use Rattle.pp_link.specs.Links.{bit, word_of, target, tag_bit, leaf_bit}
use Rattle.pp_link.specs.Places.{IsNumber, cell_place}
use Rattle.pp_link.specs.Words.{cell_word}
use Rattle.pp_model.specs.Calls.{key_of}
use Rattle.pp_rule.specs.Orders.{stores, confirm_step, read_step}
use Rattle.pp_rule.specs.declared.views.Halves.{Halves}
use Rattle.pp_rule.specs.declared.views.WalkSlot.{WalkSlot}
use Rattle.pp_rule.specs.Views.{slot}
use Rattle.pp_rule.specs.States.{attached}
use Rattle.pp_rule.specs.Rule.{Base}
use Rattle.pp_rule.specs.Reached.{Reached, by_link, SameReached}
use Rattle.pp_rule.specs.Steps.{MadeQuietStep, holding}
use Rattle.pp_rule.proofs.Slots.{slot_here, slot_else}
use Rattle.pp_base.specs.Sources.{side_number}
use Rattle.pp_trees.specs.declared.own.TreeOwn.{TreeOwn}
use Rattle.pp_trees.specs.declared.own.Passed.{Passed}
use Rattle.pp_trees.specs.Trees.{Heap, heap, side, Internal, Meets}
use Rattle.pp_trees.specs.Searches.{TreePass, TreeState, Trees}
use Rattle.pp_trees.specs.Gathering.{closed}
use Rattle.pp_trees.specs.Edges.{TreeView}
use Rattle.pp_trees.specs.Seeks.{came_over}
use Rattle.pp_trees.specs.Lone.{words_of as seen_words, Sees}
use Rattle.pp_trees.proofs.Walking.{side_left, side_right, child_internal}
use Rattle.pp_edges.proofs.Splicing.{side_two}
use Rattle.pp_seek.specs.declared.seek.Spot.{Spot}
use Rattle.pp_seek.specs.declared.turn.Next.{Next}
use Rattle.pp_seek.specs.Trails.{Trail}
use Rattle.pp_seek.specs.Keeping.{IsOf, KeepsOnly}
use Rattle.pp_seek.specs.Seeking.{words_of, further_spot, IsNear}
use Rattle.pp_seek.specs.Lone.{GoesBy, LoneAbove, LoneSpot, LoneNext}
use Rattle.pp_seek.proofs.Going.{word_used}
use Rattle.pp_seek.proofs.Coming.{tag_of}
use Rattle.pp_seek.proofs.Letting.{is_of}
use Rattle.pp_seek.proofs.LoneCalm.{finds_there, calm_step, trail_same}
use Rattle.pp_seek.proofs.Lone.{run_of, cell_is, state_at, state_less, sane_at, held_at, edge_plain, meets_up, meets_state}
use Rattle.pp_seek.proofs.Lone.{meets_then}
use Rattle.pp_seek.proofs.LoneSpots.{lone_stays, word_stays}
use Rattle.pp_seek.proofs.LoneNear.{spot_internal}

-- What stands where a seek has announced the record behind an edge.
module _ (z : Sizes) (k : ℕ) (s : Spot) (n : Next) (v : TreeView) (sv : Sees z v) (near : IsNear v.known k s n) (l : LoneNext z s n v) where
  -- the second load doesn't find another word
  pub second_same : (kind second : ℕ) (known : TreePass) (v1 : TreeView) → Sees z v1
      → MadeQuietStep kind (cell_place z (slot v.known s.word).named (2 + side_number n.side)) second second known v v1
      → stores kind ≡ false → second ≡ word_of n.link
  second_same kind second known v1 s1 made silent = finds_there z l.spot.lone.one known v v1 sv.low made (run_of z v1 s1) silent
      ∙ l.edge.stands

  module _ (g : TreeState) (b : Base 2 z (seen_words z v) g) (tr : Trees z (seen_words z v) g) (is : g.of v.known.number ≡ v.known) where
    here_internal : Internal z (heap z (seen_words z v) g.status) (slot v.known s.word).named
    here_internal = spot_internal z n.word s v sv near.stands l.spot.lone g b tr is

    -- the edge
    link_is : cell_word (seen_words z v) z (slot v.known s.word).named (2 + side_number n.side) ≡ word_of n.link
    link_is = sym (cell_is z (seen_words z v) (slot v.known s.word).named (2 + side_number n.side)) ∙ l.edge.stands

    key_here : cell_word (seen_words z v) z (slot v.known s.word).named 0 ≡ s.key
    key_here = (held_at z v sv g b tr is s.word near.stands.low near.stands.held).key ∙ sym near.stands.key_is

    -- a root's walk that comes to the record behind it goes by the seek's way
    behind : (x : ℕ) → Meets (heap z (seen_words z v) g.status) x (target (word_of n.link))
        → GoesBy z (seen_words z v) (slot v.known s.word).named s.key (side (key_of v.known.own.call) s.key) x
    behind x m = let t : Heap = heap z (seen_words z v) g.status in
        let up = meets_up z t (sane_at z v sv g b tr is) tr.tree x (slot v.known s.word).named (side_number n.side) here_internal
        (side_two n.side) (subst (λ (w : ℕ). Meets t x (target w)) (sym link_is) m) in (
          meets_state z (seen_words z v) g.status (λ m. attached) x (slot v.known s.word).named up.0,
          ap (side x) (sym key_here) ∙ (up.1 ∙ (near.side_is ∙ ap (λ (c : ℕ). side c s.key) (sym near.call_is))),
        )

  -- no edge has TAG
  pub next_tag : tag_bit (word_of n.link) ≡ 0
  next_tag = state_at z v sv l.spot.lone.one (tag_bit (word_of n.link)) 0 (λ g b tr is. ap tag_bit (sym (link_is g b tr is))
      ∙ (edge_plain z v sv g b tr is l.spot.lone (slot v.known s.word).named (side_number n.side) (here_internal g b tr is)
      (side_two n.side)).1)

  pub here_number : IsNumber z (slot v.known s.word).named
  here_number = let n : ℕ = (slot v.known s.word).named in (
    (let more : 0 < n = state_less z v sv l.spot.lone.one 0 n (λ g b tr is.
        let some = (here_internal g b tr is).number.0 in omega arith) in omega arith),
    (let less : n < z.records + 1 = state_less z v sv l.spot.lone.one n (z.records + 1) (λ g b tr is.
        let most = (here_internal g b tr is).number.1 in omega arith) in omega arith),
  )

  -- the record behind the edge can be reached
  pub next_reached : Reached 2 z (seen_words z v) (target (word_of n.link))
  next_reached = by_link (slot v.known s.word).named (side_number n.side) here_number (side_two n.side)
      (ap target (sym (cell_is z (seen_words z v) (slot v.known s.word).named (2 + side_number n.side)) ∙ l.edge.stands))
      (l.spot.lone.held s.word near.stands.low near.stands.held)

-- The second load found the same word: the call stands at the record, and its key was read.
module _ (z : Sizes) (k : ℕ) (s : Spot) (n : Next) (first leaf key here read_place : ℕ) (value : Halves)
    (v v1 v2 : TreeView) (sv : Sees z v) (s1 : Sees z v1) (near : IsNear v.known k s n) (l : LoneNext z s n v)
    (five : length v.known.walk ≡ 5) (first_is : first ≡ word_of n.link) (inner : leaf_bit (word_of n.link) ≡ 0)
    (made : MadeQuietStep confirm_step (cell_place z (slot v.known s.word).named (2 + side_number n.side)) first first
    (came_over n.word (side_number n.side) first leaf key value v.known) v v1)
    (read : MadeQuietStep read_step read_place here here v1.known v1 v2) (here_is : here ≡ (slot v1.known n.word).key) where
  known1 : v1.known ≡ came_over n.word (side_number n.side) first leaf key value v.known
  known1 = ap (λ (u : TreeView). u.known) made.is

  known2 : v2.known ≡ v1.known
  known2 = ap (λ (u : TreeView). u.known) read.is

  there1 : slot v1.known n.word ≡ holding (target first) key value
  there1 = slot_here v.known v1.known n.word (holding (target first) key value) (ap (λ (q : TreePass). q.walk) known1)
      (let low = near.low in omega arith)

  same1 : SameReached 2 z (seen_words z v) (seen_words z v1)
  same1 = calm_step z l.spot.lone.one v v1 sv.low refl made (run_of z v1 s1) refl

  -- an internal record is behind the edge
  next_internal : (g : TreeState) → Base 2 z (seen_words z v) g → Trees z (seen_words z v) g → g.of v.known.number ≡ v.known
      → Internal z (heap z (seen_words z v) g.status) (target (word_of n.link))
  next_internal g b tr is = let t : Heap = heap z (seen_words z v) g.status in
      let link = link_is z k s n v sv near l g b tr is in
      subst (λ (w : ℕ). Internal z t (target w)) link
      (child_internal z t (sane_at z v sv g b tr is) tr.tree (slot v.known s.word).named (side_number n.side)
      (here_internal z k s n v sv near l g b tr is) (side_two n.side) (ap leaf_bit link ∙ inner))

  -- the key that was read is the record's
  key_read : (g : TreeState) → Base 2 z (seen_words z v) g → Trees z (seen_words z v) g → g.of v.known.number ≡ v.known
      → cell_word (seen_words z v) z (target (word_of n.link)) 0 ≡ here
  key_read g b tr is = let m : ℕ = target (word_of n.link) in let i = next_internal g b tr is in
      state_at z v1 s1 l.spot.lone.one (cell_word (seen_words z v) z m 0) here (λ g' b' tr' is'.
      let h = held_at z v1 s1 g' b' tr' is' n.word near.low (ap (λ (x : WalkSlot). x.held) there1) in
      sym (same1.cells m 0 i.number (omega arith) (next_reached z k s n v sv near l))
      ∙ (ap (λ (x : ℕ). cell_word (seen_words z v1) z x 0) (sym (ap (λ (x : WalkSlot). x.named) there1 ∙ ap target first_is))
      ∙ (h.key ∙ sym here_is)))

  -- it lies between the bounds
  bounded : (g : TreeState) → Base 2 z (seen_words z v) g → Trees z (seen_words z v) g → g.of v.known.number ≡ v.known
      → (s.low ≤ here) × (here < s.high)
  bounded g b tr is = let m : ℕ = target (word_of n.link) in let t : Heap = heap z (seen_words z v) g.status in
      let home = tr.tree.internal_home m (next_internal g b tr is) in
      subst (λ (x : ℕ). (s.low ≤ x) × (x < s.high)) (key_read g b tr is)
      (l.spot.between (t.key m) home.0 (behind z k s n v sv near l g b tr is (t.key m) home.1)
      (behind z k s n v sv near l g b tr is (t.key m - 1) home.2))

  pub inside : (here < s.low) ⊎ (s.high ≤ here) → ⊥
  inside out = let low : s.low < here + 1 = state_less z v sv l.spot.lone.one s.low (here + 1) (λ g b tr is.
      let below = (bounded g b tr is).0 in omega arith) in
      let high : here < s.high = state_less z v sv l.spot.lone.one here s.high (λ g b tr is. (bounded g b tr is).1) in
      ⊎_elim (λ (a : here < s.low). absurd (omega arith)) (λ (a : s.high ≤ here). absurd (omega arith)) out

  -- where the seek stands then, over an edge without TAG
  abbrev spot_plain : Spot
  spot_plain = record {
    word = n.word;
    key = here;
    low = cond (nat_lt k here) s.low (here + 1);
    high = cond (nat_lt k here) here s.high;
    above = Some (record { ancestor = s.word; side = n.side; successor = n.link; top = n.word });
  }

  tag_off : n.link.tag ≡ false
  tag_off = by n.link.tag (sym (tag_of n.link) ∙ next_tag z k s n v sv near l)
    where
      by : (b : Bool) → bit b ≡ 0 → b ≡ false
      by true e = let bad : 1 ≡ 0 = e in absurd (omega arith)
      by false e = refl

  abbrev spot_by : Bool → Spot
  spot_by tag = record {
    word = n.word;
    key = here;
    low = cond (nat_lt k here) s.low (here + 1);
    high = cond (nat_lt k here) here s.high;
    above = cond tag s.above (Some (record { ancestor = s.word; side = n.side; successor = n.link; top = n.word }));
  }

  spot_is : further_spot s n k here ≡ spot_plain
  spot_is = ap spot_by tag_off

  spot_apart : s.word ≢ n.word
  spot_apart e = near.other (subst (IsOf (words_of s)) e (word_used s))

  there2 : slot v2.known n.word ≡ holding (target first) key value
  there2 = ap (λ (q : TreePass). slot q n.word) known2 ∙ there1

  spot2 : slot v2.known s.word ≡ slot v.known s.word
  spot2 = ap (λ (q : TreePass). slot q s.word) known2
      ∙ slot_else v.known v1.known n.word (holding (target first) key value) (ap (λ (q : TreePass). q.walk) known1) s.word spot_apart

  own2 : v2.known.own ≡ record v.known.own { at = n.word; top = n.word; path = []; flag = 2 }
  own2 = let c : Passed = record {
    number = (slot v.known v.known.own.at).named;
    side = side_number n.side;
    word = first;
    leaf = leaf;
  } in ap (λ (q : TreePass). q.own) (known2 ∙ known1)
      ∙ ap (λ (b : Bool). cond b (record v.known.own { at = n.word; top = n.word; path = []; flag = 2 })
      (record v.known.own { at = n.word; path = v.known.own.path ++ c ∷ []; flag = 2 }))
      (eq-eqb (tag_bit first) 0 (ap tag_bit first_is ∙ next_tag z k s n v sv near l))

  module _ (v3 : TreeView) (s3 : Sees z v3) (keeps : KeepsOnly (words_of (further_spot s n k here)) 5 v2 v3) (trail : Trail v v3) where
    same3 : SameReached 2 z (seen_words z v) (seen_words z v3)
    same3 = trail_same z v v3 l.spot.lone.one sv.low trail (run_of z v3 s3)

    kept : KeepsOnly (record { first = n.word; second = s.word; third = n.word }) 5 v2 v3
    kept = subst (λ (x : Spot). KeepsOnly (words_of x) 5 v2 v3) spot_is keeps

    own3 : v3.known.own ≡ record v.known.own { at = n.word; top = n.word; path = []; flag = 2 }
    own3 = kept.own (inl (ap (λ (o : TreeOwn). o.at) own2)) (λ low. inl (ap (λ (o : TreeOwn). o.top) own2)) ∙ own2

    there3 : slot v3.known n.word ≡ holding (target first) key value
    there3 = kept.kept n.word (inl refl) ∙ there2

    spot3 : slot v3.known s.word ≡ slot v.known s.word
    spot3 = kept.kept s.word (inr (inl refl)) ∙ spot2

    named3 : (slot v3.known n.word).named ≡ target (word_of n.link)
    named3 = ap (λ (x : WalkSlot). x.named) there3 ∙ ap target first_is

    -- what it holds could be reached
    held3 : (j : ℕ) → j < 5 → (slot v3.known j).held ≡ true → Reached 2 z (seen_words z v) (slot v3.known j).named
    held3 j low on = ⊎_elim (λ (used : IsOf (record { first = n.word; second = s.word; third = n.word }) j). ⊎_elim at_next
        (λ (y : (j ≡ s.word) ⊎ (j ≡ n.word)). ⊎_elim at_spot at_next y) used)
        (λ (out : IsOf (record { first = n.word; second = s.word; third = n.word }) j → ⊥).
        absurd (false≢true (sym (kept.emptied j low out).free ∙ on)))
        (is_of (record { first = n.word; second = s.word; third = n.word }) j)
      where
        at_next : j ≡ n.word → Reached 2 z (seen_words z v) (slot v3.known j).named
        at_next e = subst (Reached 2 z (seen_words z v)) (sym (ap (λ (i : ℕ). (slot v3.known i).named) e ∙ named3))
            (next_reached z k s n v sv near l)

        at_spot : j ≡ s.word → Reached 2 z (seen_words z v) (slot v3.known j).named
        at_spot e = subst (Reached 2 z (seen_words z v))
            (sym (ap (λ (i : ℕ). (slot v3.known i).named) e ∙ ap (λ (x : WalkSlot). x.named) spot3))
            (l.spot.lone.held s.word near.stands.low near.stands.held)

    above3 : LoneAbove z n.word (record { ancestor = s.word; side = n.side; successor = n.link; top = n.word }) v3
    above3 = record {
      top = refl;
      path = ap (λ (o : TreeOwn). o.path) own3;
      leads = sym named3;
      edge = record {
        one = l.spot.lone.one;
        stands = ap (λ (x : WalkSlot). get_or (seen_words z v3) (cell_place z x.named (2 + side_number n.side)) 0) spot3
            ∙ (word_stays z v v3 sv s3 same3 l.spot.lone s.word near.stands.low near.stands.held n.side ∙ l.edge.stands);
      };
    }

    -- a walk that goes by the seek's way from the new record did so from the old one
    way_back : (g' : TreeState) → Base 2 z (seen_words z v3) g' → Trees z (seen_words z v3) g' → (g : TreeState)
        → Base 2 z (seen_words z v) g → Trees z (seen_words z v) g → g.of v.known.number ≡ v.known → (x : ℕ)
        → Meets (closed z (seen_words z v3)) x (slot v3.known n.word).named
        → GoesBy z (seen_words z v) (slot v.known s.word).named s.key (side (key_of v.known.own.call) s.key) x
    way_back g' b' tr' g b tr is x m = behind z k s n v sv near l g b tr is x
        (meets_state z (seen_words z v) (λ i. attached) g.status x (target (word_of n.link))
        (subst (λ (i : ℕ). Meets (closed z (seen_words z v)) x i) named3
        (meets_then z v3 s3 l.spot.lone.one (seen_words z v) same3 g' b' tr' x (slot v3.known n.word).named m)))

    side3 : side (key_of v3.known.own.call) here ≡ side k here
    side3 = ap (λ (o : TreeOwn). side (key_of o.call) here) own3 ∙ ap (λ (c : ℕ). side c here) near.call_is

    between3 : (x : ℕ) → 1 ≤ x → GoesBy z (seen_words z v3) (slot v3.known n.word).named here (side (key_of v3.known.own.call) here) x
        → GoesBy z (seen_words z v3) (slot v3.known n.word).named here (side (key_of v3.known.own.call) here) (x - 1)
        → (cond (nat_lt k here) s.low (here + 1) ≤ x) × (x < cond (nat_lt k here) here s.high)
    between3 x least at at_less = ⊎_elim
        (λ (less : k < here). subst (λ (b : Bool). (cond b s.low (here + 1) ≤ x) × (x < cond b here s.high)) (sym (lt-ltb k here less))
        (low_then, left less))
        (λ (more : here ≤ k). subst (λ (b : Bool). (cond b s.low (here + 1) ≤ x) × (x < cond b here s.high)) (sym (le-ltb k here more))
        (right more, high_then)) (cases_lt k here)
      where
        low_then : s.low ≤ x
        low_then = let more : s.low < x + 1 = state_less z v3 s3 l.spot.lone.one s.low (x + 1) (λ g' b' tr' is'.
            state_less z v sv l.spot.lone.one s.low (x + 1) (λ g b tr is. let below = (l.spot.between x least
            (way_back g' b' tr' g b tr is x at.0) (way_back g' b' tr' g b tr is (x - 1) at_less.0)).0 in omega arith)) in omega arith

        high_then : x < s.high
        high_then = state_less z v3 s3 l.spot.lone.one x s.high (λ g' b' tr' is'.
            state_less z v sv l.spot.lone.one x s.high (λ g b tr is. (l.spot.between x least
            (way_back g' b' tr' g b tr is x at.0) (way_back g' b' tr' g b tr is (x - 1) at_less.0)).1))

        left : k < here → x < here
        left less = ⊎_elim (λ (lt : x < here). lt) (λ (ge : here ≤ x). let a = side_right x here ge in
            let b = side_left k here less in let c = at.1 ∙ side3 in absurd (omega arith)) (cases_lt x here)

        right : here ≤ k → here + 1 ≤ x
        right more = ⊎_elim (λ (lt : x - 1 < here). let a = side_left (x - 1) here lt in
            let b = side_right k here more in let c = at_less.1 ∙ side3 in absurd (omega arith))
            (λ (ge : here ≤ x - 1). omega arith) (cases_lt (x - 1) here)

    pub lone_comes : LoneSpot z (further_spot s n k here) v3
    lone_comes = subst (λ (x : Spot). LoneSpot z x v3) (sym spot_is) record {
      lone = lone_stays z v v3 sv s3 same3 l.spot.lone held3;
      over = above3;
      between = between3;
    }
