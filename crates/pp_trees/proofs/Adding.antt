-- The exchange with which an insert takes effect: an internal record with a leaf is put at an edge.
use Rattle.std.proofs.Common.{◌≡◌, ◌≢◌, ◌⊎◌, inl, inr, ⊎_elim, ℕ, zero, suc, ◌+◌, ◌*◌, ◌%◌, ◌<◌, ◌≤◌, true, false, List, []}
use Rattle.std.proofs.Common.{◌∷◌, ◌++◌, length, get_or, set, None}
use Rattle.std.proofs.Common.{refl, sym, ap, ap₂, ◌∙◌, subst, arith, set-set}
use Rattle.std.proofs.Math.Decide.{ℕ_discrete}
use mathlib.Core.Logic.{dite}
use mathlib.Core.Option.{some}
use lib.ListN.{get_elem?}
use Rattle.pp_link.specs.declared.layout.Sizes.{Sizes}
use Rattle.pp_link.specs.Links.{target, invalid_bit}
use Rattle.pp_link.specs.Places.{IsNumber, cell_place}
use Rattle.pp_link.specs.Words.{cell_word}
use Rattle.pp_model.specs.declared.Change.{Change}
use Rattle.pp_model.specs.declared.Placed.{Placed}
use Rattle.pp_model.specs.declared.Call.{Call}
use Rattle.pp_model.specs.declared.Call.TheVariants.{Insert}
use Rattle.pp_model.specs.declared.Reply.TheVariants.{Added}
use Rattle.pp_model.specs.Lists.{AtEach}
use Rattle.pp_model.specs.FiniteMap.{find, put as put_pair}
use Rattle.pp_model.specs.Calls.{key_of, reply, reply_at, map_after_at, changes}
use Rattle.pp_model.specs.History.{contents_of, Sound, Stands, change_of}
use Rattle.pp_model.proofs.Histories.{contents_push, sound_change, stands_change}
use Rattle.pp_rule.specs.Lists.{IsIn, remove_at, without}
use Rattle.pp_rule.specs.Orders.{log_of, placed_by}
use Rattle.pp_rule.specs.declared.views.LoggedStep.{LoggedStep}
use Rattle.pp_rule.specs.declared.views.PassState.{PassState}
use Rattle.pp_rule.specs.declared.views.WalkSlot.{WalkSlot}
use Rattle.pp_rule.specs.Views.{slot}
use Rattle.pp_rule.specs.States.{RecordState, attached, owned, PoolState, IsUsed, Held, Leads}
use Rattle.pp_rule.specs.Rule.{Base, Reads}
use Rattle.pp_rule.specs.Steps.{entry}
use Rattle.pp_rule.specs.Detach.{IsFreeLink}
use Rattle.pp_rule.specs.Looks.{StillHeld}
use Rattle.pp_rule.proofs.Put.{put, put_here, put_else, put_each}
use Rattle.pp_rule.proofs.Stepping.{after_step}
use Rattle.pp_rule.proofs.Histories.{log_snoc, placed_here}
use Rattle.pp_rule.proofs.Publishing.{base_published, removed_in}
use Rattle.pp_trees.specs.Trees.{Heap, heap, side, Internal, Leaf, Meets, there, Sane, SearchTree, Mapped, Remains, Published}
use Rattle.pp_trees.specs.Trees.{inf0}
use Rattle.pp_trees.specs.Edges.{MayPublish, published_pass}
use Rattle.pp_trees.specs.Searches.{TreePass, TreeState, Searches, Trees}
use Rattle.pp_trees.proofs.Walking.{side_left, side_right, side_low, child_leaf, is_used}
use Rattle.std.proofs.lemmas.Bool.{cases_lt}
use Rattle.pp_trees.proofs.Publishing.{tree_published, mapped_published, absent, target_16, target_word}
use Rattle.pp_trees.proofs.Steady.{Lasting, lasting_published, seated_on}
use Rattle.pp_rule.proofs.Learnt.{value_by, never_learnt}
use Rattle.pp_trees.proofs.Heaps.{sane_of, rewired_of}
use Rattle.pp_trees.proofs.Remaining.{remains_published}
use Rattle.pp_trees.proofs.Stepping.{grown_more, holder_attached, trees_stepped}

-- what is true of every pool doesn't speak of the order, and speaks of the passes and the states one by one
pub base_moved : {E A W : Type 0} (sides : ℕ) (z : Sizes) (words words' : List ℕ) (g g' : PoolState E A W) → words ≡ words'
    → ((p : ℕ) → g.of p ≡ g'.of p)
    → g.status ≡ g'.status → Base sides z words g → Base sides z words' g'
base_moved {E} {A} {W} sides z words words' g g' w of status b = again
    (subst (λ (x : List ℕ × (ℕ → PassState W) × (ℕ → RecordState)). Base sides z x.0
    (record { of = x.1; order = g'.order; status = x.2 }))
    (λ i. (w i, λ p. of p i, status i)) (renamed b))
  where
    renamed : Base sides z words g → Base sides z words (record { of = g.of; order = g'.order; status = g.status })
    renamed b = record {
      within = b.within;
      two = b.two;
      wide = b.wide;
      numbers = b.numbers;
      privates = b.privates;
      hazards =
          b.hazards;
      links = b.links;
      shelves = b.shelves;
      chains = b.chains;
      scans = b.scans;
    }

    again : Base sides z words' (record { of = g'.of; order = g'.order; status = g'.status }) → Base sides z words' g'
    again b = b

-- the pass after the leaf left it
abbrev without_leaf : ℕ → TreePass → TreePass
without_leaf i q = record q { owned = remove_at i q.owned }

mod_four : (w : ℕ) → w % 16 ≡ 8 → w % 4 ≡ 0
mod_four w e = omega arith

module _ (z : Sizes) (words : List ℕ) (g : TreeState) (q : TreePass) (place k v first : ℕ) (b : Base 2 z words g)
    (tr : Trees z words g)
    (pass : q.number < z.passes) (is : g.of q.number ≡ q) (may : MayPublish z q place k v first)
    (found : get_or words place 0 ≡ first) where
  abbrev t : Heap
  t = heap z words g.status

  abbrev p : ℕ
  p = (slot q q.own.at).named

  abbrev s : ℕ
  s = may.side_is

  abbrev m : ℕ
  m = may.d_leaf.number

  abbrev c : ℕ
  c = may.d_inner.number

  abbrev l : ℕ
  l = (slot q may.leaf).named

  abbrev n : ℕ
  n = length (placed_by q.number g.order)

  abbrev pub change : Change
  change = change_of q.number (n + 1) (Insert k v)

  abbrev pub settled : Placed
  settled = record { call = Insert k v; reply = Added; place = length (log_of g.order) + 1 }

  abbrev pub after : TreePass
  after = published_pass may.i_leaf may.i_inner m c q

  abbrev pub status' : ℕ → RecordState
  status' = put (put g.status m attached) c attached

  abbrev pub step : LoggedStep Change Placed
  step = entry 20 place first (16 * c) (change ∷ []) (settled ∷ []) g.order after

  abbrev pub g' : TreeState
  g' = after_step g after status' step

  abbrev words' : List ℕ
  words' = set words place (16 * c)

  abbrev t' : Heap
  t' = heap z words' status'

  sane : Sane z t
  sane = sane_of z words g b

  held_of : (j : ℕ) → j < 5 → (slot q j).held ≡ true → Held z words g.status (slot q j)
  held_of j lt = subst (λ (v : TreePass). (slot v j).held ≡ true → Held z words g.status (slot v j)) is
      (b.hazards.held q.number j pass lt)

  mine : Searches z t (log_of g.order) q.number (slot q) q.own (placed_by q.number g.order)
  mine = subst (λ (v : TreePass). Searches z t (log_of g.order) q.number (slot v) v.own (placed_by q.number g.order)) is
      (tr.each q.number pass)

  low : s < 2
  low = subst (λ (x : ℕ). x < 2) (sym may.side_of) (side_low k (slot q q.own.at).key)

  held_p : Held z words g.status (slot q q.own.at)
  held_p = held_of q.own.at may.at (mine.seated.held may.at)

  held_l : Held z words g.status (slot q may.leaf)
  held_l = held_of may.leaf may.leaf_low may.leaf_held

  link_is : t.link p s ≡ first
  unfolding cell_word
  link_is = ap (λ (x : ℕ). get_or words x 0) (sym may.place_is) ∙ found

  l_is : target (t.link p s) ≡ l
  l_is = ap target link_is ∙ may.leaf_is

  some_l : target (t.link p s) ≢ 0
  some_l e = let one = held_l.number.0 in let y = l_is in omega arith

  parent : Internal z t p
  parent = let plain = may.plain in let y = link_is in holder_attached z words g b tr.tree (slot q q.own.at) s held_p low
      (omega arith) some_l

  key_l : t.key (target (t.link p s)) ≡ (slot q may.leaf).key
  key_l = ap t.key l_is ∙ held_l.key

  -- the private records
  in_leaf : IsIn may.d_leaf (g.of q.number).owned
  in_leaf = (may.i_leaf, ap (λ (v : TreePass). get_elem? v.owned may.i_leaf) is ∙ may.owned_leaf)

  was_inner : (i : ℕ) × ((i ≢ may.i_leaf) × (get_elem? q.owned i ≡ some may.d_inner))
  was_inner = removed_in may.i_leaf q.owned may.d_inner (may.i_inner, may.owned_inner)

  in_inner : IsIn may.d_inner (g.of q.number).owned
  in_inner = (was_inner.0, ap (λ (v : TreePass). get_elem? v.owned was_inner.0) is ∙ was_inner.1.1)

  own_m : IsNumber z m × (g.status m ≡ owned q.number)
  own_m = b.numbers.owned_to q.number may.d_leaf pass in_leaf

  own_c : IsNumber z c × (g.status c ≡ owned q.number)
  own_c = b.numbers.owned_to q.number may.d_inner pass in_inner

  c_not_m : c ≢ m
  unfolding was_inner in_inner in_leaf
  c_not_m e = was_inner.1.0 (b.numbers.owned_once q.number pass was_inner.0 may.i_leaf may.d_inner may.d_leaf in_inner.1
      in_leaf.1 e)

  unused : (x : ℕ) → g.status x ≡ owned q.number → IsUsed (t.state x) → ⊥
  unused x e u = subst IsUsed e u

  reads_m : Reads z words may.d_leaf
  reads_m = b.privates.reads q.number may.d_leaf pass in_leaf

  reads_c : Reads z words may.d_inner
  reads_c = b.privates.reads q.number may.d_inner pass in_inner

  pair_key : k < inf0
  pair_key = subst (λ (c : Call). key_of c < inf0) may.call (mine.seated.pair may.at)

  sd_of : (key x y : ℕ) → (s : ℕ) → s ≡ side key x → s ≡ side key y → side key x ≡ side key y
  sd_of key x y s e e' = sym e ∙ e'

  word_l : first ≡ 16 * l + 8
  word_l = let plain = may.plain in let to = may.leaf_is in omega arith

  published : Published z t t' p s k c m
  published = let plain = may.plain in let y = link_is in record {
    wired = rewired_of z words g.status status' p s (16 * c) place b.wide parent.number low may.place_is;
    parent = parent;
    low = low;
    leaf = omega arith;
    plain = omega arith;
    free = omega arith;
    meets = subst (λ (c : Call). Meets t (key_of c) p) may.call ((mine.seated.standing may.at).rooted p (there refl) parent.on);
    at = ap (side k) held_p.key ∙ sym may.side_of;
    pair = pair_key;
    other = λ e. may.other (sym key_l ∙ e);
    numbers = (own_c.0, own_m.0, c_not_m);
    unused = (unused c own_c.1, unused m own_m.1);
    now = (
      put_here (put g.status m attached) c attached,
      put_else (put g.status m attached) c attached m (λ e. c_not_m
          (sym e)) ∙ put_here g.status m attached,
    );
    others = λ x nc nm. put_else (put g.status m attached) c attached x nc ∙ put_else g.status m attached x nm;
    leaf_key = reads_m.key ∙ may.leaf_fields.0;
    bare = bare_m;
    greater = (
      (λ lt. reads_c.key ∙ ((may.below (subst (λ (x : ℕ). k < x) key_l lt)).0 ∙ sym key_l)),
      (λ lt. reads_c.key
          ∙ (may.above (subst (λ (x : ℕ). x < k) key_l lt)).0),
    );
    to_new = ⊎_elim (λ (lt : k < (slot q may.leaf).key). let f = may.below lt in
        ap (t.link c) (side_left k (t.key c) (subst (λ (x : ℕ). k < x) (sym (reads_c.key ∙ f.0)) lt)) ∙ (reads_c.left ∙ f.1))
        (λ (le : (slot q may.leaf).key ≤ k). let ne = may.other in let lt : (slot q may.leaf).key < k = omega arith in
        let f = may.above lt in
        ap (t.link c) (side_right k (t.key c) (subst (λ (x : ℕ). x ≤ k) (sym (reads_c.key ∙ f.0)) (omega arith)))
        ∙ (reads_c.right ∙ f.2))
        (cases_lt k (slot q may.leaf).key);
    to_old = subst (λ (x : ℕ). t.link c (side x (t.key c)) ≡ 16 * target (t.link p s) + 8) (sym key_l) (subst (λ
        (x : ℕ). t.link c (side (slot q may.leaf).key (t.key c)) ≡ 16 * x + 8) (sym l_is)
        (⊎_elim (λ (lt : k < (slot q may.leaf).key). let f = may.below lt in
        ap (t.link c) (side_right (slot q may.leaf).key (t.key c) (subst (λ (x : ℕ). x ≤ (slot q may.leaf).key) (sym
        (reads_c.key ∙ f.0)) (omega arith))) ∙ (reads_c.right ∙ (f.2 ∙ word_l)))
        (λ (le : (slot q may.leaf).key ≤ k). let ne = may.other in let lt : (slot q may.leaf).key < k = omega arith in
        let f = may.above lt in
        ap (t.link c) (side_left (slot q may.leaf).key (t.key c) (subst (λ (x : ℕ). (slot q may.leaf).key < x) (sym
        (reads_c.key ∙ f.0)) lt)) ∙ (reads_c.left ∙ (f.1 ∙ word_l)))
        (cases_lt k (slot q may.leaf).key)));
  }
    where
      bare_m : (r : ℕ) → r < 2 → t.link m r ≡ 0
      bare_m zero lt = reads_m.left ∙ may.leaf_fields.2
      bare_m (suc zero) lt = reads_m.right ∙ may.leaf_fields.3
      bare_m (suc (suc r)) lt = absurd (omega arith)

  same_cell : (x f : ℕ) → IsNumber z x → f < 5 → cell_place z x f ≡ place → (x ≡ p) × (f ≡ 2 + s)
  same_cell x f number lt e = let n0 = number.0 in let a0 = parent.number.0 in let two = low in
      let both : cell_place z x f ≡ cell_place z p (2 + s) = e ∙ may.place_is in (omega arith, omega arith)

  free_link : IsFreeLink z g place
  free_link = let plain = may.plain in record {
    high = let at = may.place_is in let n0 = parent.number.0 in let n1 = parent.number.1 in let two = low in
        (omega arith, omega arith);
    holder = λ x f number lt e. let same = same_cell x f number lt e in let at = same.1 in let two = low in
        (omega arith, omega arith, ap g.status same.0 ∙ parent.on);
    unlearnt = λ r i y below lt on at e. let h = b.hazards.held r i below lt on in let u = h.learnt y at in let two = u.0 in
        let same = same_cell (slot (g.of r) i).named (2 + y.0) h.number (omega arith) e in
        let side_same : y.0 ≡ s = let s1 = same.1 in omega arith in
        let now : cell_word words z (slot (g.of r) i).named (2 + y.0) ≡ first = ap (λ (x : ℕ). cell_word words z x
        (2 + y.0)) same.0 ∙ (ap (λ (x : ℕ). cell_word words z p (2 + x)) side_same ∙ link_is) in
        never_learnt y.1 (cell_word words z (slot (g.of r) i).named (2 + y.0)) u.1 u.2 (ap (λ (x : ℕ). x % 4) now
        ∙ mod_four first plain);
  }

  -- First the leaf alone is published at the place, and then the internal record above it and the old leaf.
  abbrev g1 : TreeState
  g1 = after_step g (without_leaf may.i_leaf q) (put g.status m attached) step

  abbrev words1 : List ℕ
  words1 = set words place (16 * m + 8)

  base1 : Base 2 z words1 g1
  base1 = base_published 2 z words g q (without_leaf may.i_leaf q) may.i_leaf may.d_leaf place
      (16 * m + 8) step b pass is may.owned_leaf
      record {
        rest = record {
          number = refl;
          sizes = refl;
          retired_are = refl;
          walk = refl;
          frontier = refl;
          chains = refl;
          scan = refl;
        };
        owned = refl;
      }
      record {
        place_is = free_link;
        small = may.small.0;
        valid = omega arith;
        to = target_word m 8 (omega arith);
        leads = λ r lt. subst (Leads z g.status) (sym (published.bare r lt)) record {
          small = omega arith;
          valid = refl;
          to =
              inl refl;
        };
      }

  p_not_m : p ≢ m
  p_not_m e = unused m own_m.1 (subst (λ (x : ℕ). IsUsed (t.state x)) e (is_used (t.state p) parent.on))

  p_not_c : p ≢ c
  p_not_c e = unused c own_c.1 (subst (λ (x : ℕ). IsUsed (t.state x)) e (is_used (t.state p) parent.on))

  c_words : (r : ℕ) → r < 2 → cell_word words1 z c (2 + r) ≡ t.link c r
  c_words r lt = (rewired_of z words g.status g.status p s (16 * m + 8) place b.wide parent.number low may.place_is).links c r
      own_c.0 lt (λ at. p_not_c (sym at.0))

  m_on : put g.status m attached m ≡ attached
  m_on = put_here g.status m attached

  l_leaf : Leaf z t l
  l_leaf = subst (Leaf z t) l_is (child_leaf z t sane tr.tree p s parent low published.leaf)

  l_on : put g.status m attached l ≡ attached
  l_on = put_else g.status m attached l (λ e. unused m own_m.1 (subst (λ (x : ℕ). IsUsed (t.state x)) e (is_used
      (t.state l) l_leaf.on))) ∙ l_leaf.on

  leads_m : Leads z (put g.status m attached) (16 * m + 8)
  leads_m = record {
    small = may.small.0;
    valid = omega arith;
    to = inr (subst (λ (x : ℕ). IsNumber z x × (put g.status m attached x ≡ attached)) (sym (target_word m 8 (omega arith)))
        (own_m.0, m_on));
  }

  leads_l : Leads z (put g.status m attached) first
  leads_l = let w = sane.leads p s parent.number low parent.on in let y = link_is in record {
    small = subst (λ (x : ℕ). x < 68719476736) link_is w.small;
    valid = sym (ap invalid_bit link_is) ∙ w.valid;
    to = inr (subst (λ (x : ℕ). IsNumber z x × (put g.status m attached x ≡ attached)) (sym may.leaf_is) (l_leaf.number, l_on));
  }

  leads_c : (r : ℕ) → r < 2 → Leads z (put g.status m attached) (cell_word words1 z c (2 + r))
  leads_c r lt = subst (Leads z (put g.status m attached)) (sym (c_words r lt)) (go r lt)
    where
      ordered : (k < (slot q may.leaf).key) ⊎ ((slot q may.leaf).key < k)
      ordered = ⊎_elim inl (λ (le : (slot q may.leaf).key ≤ k). let ne = may.other in
          inr (omega arith)) (cases_lt k (slot q may.leaf).key)

      go : (r : ℕ) → r < 2 → Leads z (put g.status m attached) (t.link c r)
      go zero lt = ⊎_elim (λ (y : k < (slot q may.leaf).key). subst (Leads z (put g.status m attached)) (sym (reads_c.left
          ∙ (may.below y).1)) leads_m)
          (λ (y : (slot q may.leaf).key < k). subst (Leads z (put g.status m attached)) (sym (reads_c.left
          ∙ (may.above y).1)) leads_l) ordered
      go (suc zero) lt = ⊎_elim (λ (y : k < (slot q may.leaf).key). subst (Leads z (put g.status m attached)) (sym
          (reads_c.right ∙ (may.below y).2)) leads_l)
          (λ (y : (slot q may.leaf).key < k). subst (Leads z (put g.status m attached)) (sym (reads_c.right
          ∙ (may.above y).2)) leads_m) ordered
      go (suc (suc r)) lt = absurd (omega arith)

  base2 : Base 2 z (set words1 place (16 * c)) (after_step g1 after (put (put g.status m attached) c attached) step)
  base2 = base_published 2 z words1 g1 (without_leaf may.i_leaf q) after may.i_inner may.d_inner place
      (16 * c) step base1 pass (put_here g.of q.number (without_leaf may.i_leaf q)) may.owned_inner
      record {
        rest = record {
          number = refl;
          sizes = refl;
          retired_are = refl;
          walk = refl;
          frontier = refl;
          chains = refl;
          scan = refl;
        };
        owned = refl;
      }
      record {
        place_is = record {
          high = free_link.high;
          holder = λ x f number lt e. let same = same_cell x f number lt e in let at = same.1 in let two = low in (
            omega arith,
            omega arith,
            put_else g.status m attached x (λ y. p_not_m (sym same.0 ∙ y)) ∙ (ap g.status same.0
                ∙ parent.on),
          );
          unlearnt = λ r. put_each (λ (r : ℕ) (v : TreePass). (i : ℕ) (y : ℕ × ℕ) → r < z.passes → i < 5
              → (slot v i).held ≡ true → IsIn y (slot v i).learnt
              → cell_place z (slot v i).named (2 + y.0) ≢ place) g.of q.number (without_leaf may.i_leaf q)
              (λ i y below lt on at. subst (λ (v : TreePass). (slot v i).held ≡ true → IsIn y (slot v i).learnt
              → cell_place z (slot v i).named (2 + y.0) ≢ place) is
              (free_link.unlearnt q.number i y below lt) on at)
              (λ r other i y below lt on at. free_link.unlearnt r i y below lt on at) r;
        };
        small = may.small.1;
        valid = omega arith;
        to = target_16 c;
        leads = leads_c;
      }

  pub base_added : Base 2 z words' g'
  base_added = base_moved 2 z (set words1 place (16 * c)) words' (after_step g1 after (put
      (put g.status m attached) c attached) step) g' (set-set words place (16 * m + 8) (16 * c))
      (λ r. dite (ℕ_discrete r q.number)
      (λ e. ap (put g1.of q.number after) e ∙ (put_here g1.of q.number after ∙ (sym (put_here g.of q.number after)
      ∙ ap (put g.of q.number after) (sym e))))
      (λ ne. put_else g1.of q.number after r ne ∙ (put_else g.of q.number (without_leaf may.i_leaf q) r ne
      ∙ sym (put_else g.of q.number after r ne)))) refl base2

  log_is : log_of g'.order ≡ log_of g.order ++ change ∷ []
  log_is = log_snoc g.order step

  none_yet : find (contents_of (log_of g.order)) k ≡ None
  none_yet = absent z t t' p s k c m sane tr.tree published (contents_of (log_of g.order)) tr.mapped

  contents_is : contents_of (log_of g'.order) ≡ put_pair (contents_of (log_of g.order)) k (t.value m)
  contents_is = ap contents_of log_is ∙ (contents_push (log_of g.order) change
      ∙ (ap (map_after_at (contents_of (log_of g.order)) (Insert k v)) none_yet
      ∙ ap (put_pair (contents_of (log_of g.order)) k) (sym (ap₂ value_by reads_m.value reads_m.high ∙ may.leaf_fields.1))))

  pub trees_added : Trees z words' g'
  trees_added = let b' = base_added in let sane' = sane_of z words' g' b' in
      let tree' : SearchTree z t' = tree_published z t t' p s k c m sane tr.tree published in
      let map : Mapped z t' (contents_of (log_of g'.order)) = subst (Mapped z t') (sym contents_is)
      (mapped_published z t t' p s k c m sane tr.tree published (contents_of (log_of g.order)) tr.mapped) in
      let lasting : Lasting z t t' = lasting_published z t t' sane tr.tree p s k c m published in
      let remains : Remains z t' (λ r. (g'.of r).own.left) = remains_published z t t' p s k c m sane tr.tree published q.number
      (λ r. (g.of r).own.left) (λ r. (g'.of r).own.left) pass
      (ap (λ (v : TreePass). v.own.left) (put_here g.of q.number after)
      ∙ ap (λ (v : TreePass). without c (without m v.own.left)) (sym is))
      (λ r ne. ap (λ (v : TreePass). v.own.left) (put_else g.of q.number after r ne)) tr.remains in
      let replies : reply (contents_of (log_of g.order)) (Insert k v) ≡ Added = ap (reply_at (Insert k v)) none_yet in
      trees_stepped z words words' g q after status' step b b' tr pass refl only_change
      (subst Sound (sym log_is) (sound_change (log_of g.order) change tr.sound
      (ap changes replies))) tree' map remains lasting record {
        stands = subst (λ (l : List Change). Stands l q.number (placed_by q.number g'.order)) (sym log_is)
            (subst (Stands (log_of g.order ++ change ∷ []) q.number) (sym (placed_here g.order step)) (stands_change
            (log_of g.order) q.number (placed_by q.number g.order) settled mine.stands refl replies refl));
        since = let s = mine.since in let more = (grown_more (log_of g.order) (log_of g'.order)
            (change ∷ []) log_is).longer in omega arith;
        earlier = λ on i x at. absurd (false_true on);
        seated = seated_on z t t' (log_of g.order) (log_of g'.order) sane sane' tree' lasting (grown_more (log_of g.order)
            (log_of g'.order) (change ∷ []) log_is) map
            (slot q) (slot q) q.own after.own
            (λ j lt held still. let h = held_of j lt held in let h' = b'.hazards.held q.number j pass lt in record {
              number = h.number;
              used = h.used;
              used' = (subst (λ (v : TreePass). (slot v j).held ≡ true → Held z words' status' (slot v j))
                  (put_here g.of q.number after) h' held).used;
            })
            record {
              call = refl;
              start = refl;
              flag = refl;
              beside = refl;
              at = λ lt. (refl, self (slot q q.own.at) (mine.seated.held lt));
              top = λ lt. (refl, refl, self (slot q q.own.top) (mine.seated.top_held lt));
            } mine.seated;
      }
    where
      false_true : false ≡ true → ⊥
      false_true e = cc

      only_change : AtEach (change ∷ []) (λ i c. c.caller ≡ q.number)
      only_change zero c e = cc
      only_change (suc i) c e = absurd cc

      self : (w : WalkSlot) → w.held ≡ true → StillHeld w w
      self w h = record { held = h; named = refl; key = refl; value = refl; learnt = λ l i. i }
