-- What the turns after a seek make of a pass.
use Rattle.std.specs.Prelude.{◌&&◌}
use Rattle.std.proofs.Common.{◌≡◌, ℕ, zero, suc, ◌+◌, ◌*◌, ◌/◌, ◌%◌, ◌<◌, ◌≤◌, Bool, true, false, cond, List, []}
use Rattle.std.proofs.Common.{◌∷◌, ◌++◌, length, bit_or}
use Rattle.std.proofs.Common.{refl, sym, ap, ◌∙◌, subst, ⊎_elim, inl, inr, arith, append-nil, map}
use Rattle.std.proofs.Math.ListN.{length-map}
use Rattle.std.specs.Prelude.{◌||◌, nat_eq}
use Rattle.std.proofs.Math.Decide.{ℕ_discrete}
use mathlib.Core.Logic.{dite}
use Rattle.atomic_table.specs.declared.shared.Seat.{Seat}
use Rattle.pp_link.specs.declared.layout.Sizes.{Sizes}
use Rattle.pp_link.specs.declared.link.Link.{Link}
use Rattle.pp_link.specs.Links.{word_of, bit, target, flag_bit, tag_bit, invalid_bit, leaf_bit}
use Rattle.pp_link.specs.Places.{cell_place, frontier_place}
use Rattle.pp_model.specs.declared.Call.{Call}
use Rattle.pp_model.specs.declared.Reply.TheVariants.{Took}
use Rattle.pp_model.specs.Calls.{key_of}
use Rattle.pp_rule.specs.Lists.{IsIn}
use Rattle.pp_rule.specs.declared.views.Chain.{Chain}
use Rattle.pp_rule.specs.Opening.{opening_words}
use Rattle.pp_rule.specs.Orders.{clear_step, write_step}
use Rattle.pp_rule.specs.Steps.{MadeQuietStep, clearing}
use Rattle.pp_rule.specs.Views.{slot, value_of}
use Rattle.pp_rule.proofs.Made.{placed_after, known_after, order_begins}
use Rattle.pp_rule.proofs.Histories.{begins_through}
use Rattle.pp_rule.proofs.Put.{in_right, in_first}
use Rattle.pp_rule.proofs.Tagging.{tag_set}
use Rattle.pp_base.specs.declared.source.Place.{Place}
use Rattle.pp_base.specs.declared.source.Place.TheVariants.{Head, Walk}
use Rattle.pp_base.specs.declared.source.Side.{Side}
use Rattle.pp_base.specs.declared.source.Side.TheVariants.{Left, Right}
use Rattle.pp_base.specs.Named.{NamedStep, guards, unguards, detaches, misses, Made}
use Rattle.pp_base.specs.declared.purse.Purse.{Purse}
use Rattle.pp_base.specs.Passes.{known, view, in_hand_of, IsAtRest}
use Rattle.pp_base.specs.Sources.{side_number, source_place, learning_at}
use Rattle.pp_calls.proofs.Growing.{stepped_made}
use Rattle.pp_calls.proofs.Remaining.{stands_one, stands_made}
use Rattle.pp_detached.specs.Gone.{AreGone}
use Rattle.pp_purse.specs.Steps.{is_purse_step, PurseSteps}
use Rattle.pp_purse.proofs.Stretches.{none_made, flushed_purse}
use Rattle.pp_unlink.specs.Unlinking.{MayFlush, Exchanges, Misses}
use Rattle.pp_hazard.specs.Reading.{ReadValue}
use Rattle.pp_edges.specs.Edging.{Missed, Removes, HasPathInHand}
use Rattle.pp_seek.specs.declared.seek.Sought.{Sought}
use Rattle.pp_seek.specs.Trails.{SameRest, reads}
use Rattle.pp_seek.specs.Seeking.{IsSought}
use Rattle.pp_unlink.specs.Invalidation.{Flushed}
use Rattle.pp_rule.specs.Steps.{learning, with_walk}
use Rattle.pp_seek.proofs.Trailing.{rest_by}
use Rattle.pp_seek.proofs.Going.{learning_own}
use Rattle.pp_trees.specs.declared.own.TreeOwn.{TreeOwn}
use Rattle.pp_trees.specs.declared.own.Passed.{Passed}
use Rattle.pp_trees.specs.Trees.{side, across, root_head}
use Rattle.pp_trees.specs.Sentinels.{sentinel_field, has_mark}
use Rattle.pp_trees.specs.Searches.{TreePass, forget_word, tree_chain}
use Rattle.pp_trees.specs.Edges.{TreeView, flagged_pass, tagged_pass, Tags}
use Rattle.pp_trees.proofs.Seeking.{joined_more}
use Rattle.pp_turns.specs.Turns.{Unplaced, Struck}
use Rattle.pp_turns.proofs.Placing.{struck_at, struck_later, unplaced_on, unplaced_made}
use Rattle.pp_turns.proofs.Stretches.{steps_named}
use Rattle.pp_tree_turns.specs.Turning.{Names}
use Rattle.pp_tree_turns.specs.Exchanging.{OnPath, FlagsNext, TagsNext, SplicesNext, MissesEdge, flags, FlagsLeaf, TagsEdge}
use Rattle.pp_tree_turns.specs.Exchanging.{AreAside, MissesPath, TakesPath}
use Rattle.pp_tree_turns.proofs.Seeks.{step_names, names_both}

-- a step at which nothing took effect and no call was placed
pub quiet_names : {kind place word left : ℕ} {known : TreePass} (v w : TreeView) → MadeQuietStep kind place word left known v w
    → known.number ≡ v.known.number → Names (record { kind = kind; place = place; word = word } ∷ []) v w
quiet_names v w made number = step_names v w made number (λ own stands. stands_one v w made number own stands)

pub quiet_unplaced : {kind place word left : ℕ} {known : TreePass} (v w : TreeView) → MadeQuietStep kind place word left known v w
    → known.number ≡ v.known.number → Unplaced v w
quiet_unplaced v w made number = placed_after _ _ _ _ _ _ _ v w made number ∙ append-nil _

pub missed_edge : (z : Sizes) (place first found : ℕ) (v w : TreeView) → 17 * z.passes < place → Missed place first found v w
    → MissesEdge z v w
missed_edge z place first found v w far m = record {
  place = place;
  far = far;
  found = found;
  names = quiet_names v w m.made refl;
  known = known_after _ _ _ _ _ _ _ v w m.made;
  unplaced = quiet_unplaced v w m.made refl;
}

-- the place of an edge of the parent
pub parent_place : (z : Sizes) (q : TreePass) (at : Place) (side : Side) → at ≡ Walk q.own.at
    → source_place z q at side ≡ cell_place z (slot q q.own.at).named (2 + side_number side)
parent_place z q at side is = ap (λ (p : Place). source_place z q p side) is

pub parent_far : (z : Sizes) (q : TreePass) (at : Place) (side : Side) → at ≡ Walk q.own.at
    → 17 * z.passes < source_place z q at side
parent_far z q at side is = let e = parent_place z q at side is in omega arith

-- the value of the leaf that was flagged
pub flags_leaf : (z : Sizes) (s : Sought) (place value : ℕ) (v : TreeView) (b w : Seat Unit TreeView) → FlagsNext v.known s
    → Removes place (word_of s.edge) v (view b) → ReadValue z s.word value b w → value ≡ value_of (slot (known b) s.word).value
    → FlagsLeaf z v.known.own.call s value v (view w)
flags_leaf z s place value v b w may r read value_is = record {
  place = place;
  low = read.low;
  high = read.high;
  names = names_both (flags place (word_of s.edge) ∷ []) (reads (cell_place z n 1) read.low ∷ reads (cell_place z n 4) read.high ∷ [])
      v (view b) (view w) (step_names v (view b) r.made refl (λ own stands. r.stands))
      (names_both (reads (cell_place z n 1) read.low ∷ []) (reads (cell_place z n 4) read.high ∷ []) (view b) (view read.middle) (view w)
      (subst (λ (m : ℕ). Names (reads (cell_place z m 1) read.low ∷ []) (view b) (view read.middle)) named
      (quiet_names (view b) (view read.middle) read.first.made refl))
      (subst (λ (m : ℕ). Names (reads (cell_place z m 4) read.high ∷ []) (view read.middle) (view w)) named2
      (quiet_names (view read.middle) (view w) read.second.made refl)));
  known = known_after _ _ _ _ _ _ _ (view read.middle) (view w) read.second.made
      ∙ (known_after _ _ _ _ _ _ _ (view b) (view read.middle) read.first.made ∙ known1);
  struck = struck_later v.known.own.call (Took value) v (view b) (view w) number
      (begins_through (view w).order (view read.middle).order (view b).order
      (order_begins _ _ _ _ _ _ _ (view read.middle) (view w) read.second.made)
      (order_begins _ _ _ _ _ _ _ (view b) (view read.middle) read.first.made))
      struck_here (unplaced_on (view b) (view read.middle) (view w) middle_number
      (quiet_unplaced (view b) (view read.middle) read.first.made refl)
      (quiet_unplaced (view read.middle) (view w) read.second.made refl));
}
  where
    n : ℕ
    n = target (word_of s.edge)

    raw1 : known b ≡ flagged_pass (side (key_of v.known.own.call) (slot v.known v.known.own.at).key) n v.known
    raw1 = known_after _ _ _ _ _ _ _ v (view b) r.made

    known1 : known b ≡ flagged_pass (side_number s.side) n v.known
    known1 = raw1 ∙ ap (λ (x : ℕ). flagged_pass x n v.known) (sym may.sought.side_is)

    number : (known b).number ≡ v.known.number
    number = ap (λ (q : TreePass). q.number) raw1

    middle_number : (known read.middle).number ≡ (known b).number
    middle_number = ap (λ (q : TreePass). q.number) (known_after _ _ _ _ _ _ _ (view b) (view read.middle) read.first.made)

    slot1 : slot (known b) s.word ≡ slot v.known s.word
    slot1 = ap (λ (q : TreePass). slot q s.word) raw1

    named : (slot (known b) s.word).named ≡ n
    named = ap (λ x. x.named) slot1 ∙ may.sought.leaf_is

    named2 : (slot (known read.middle) s.word).named ≡ n
    named2 = ap (λ (q : TreePass). (slot q s.word).named) (known_after _ _ _ _ _ _ _ (view b) (view read.middle) read.first.made) ∙ named

    -- the leaf that the call held has this value
    same_value : value_of (slot v.known r.leaf).value ≡ value
    same_value = ap value_of (sym (r.values s.word record {
      low = may.sought.leaf.0;
      held = may.sought.leaf.1;
      leads = sym may.sought.leaf_is;
    }) ∙ ap (λ x. x.value) (sym slot1)) ∙ sym value_is

    struck_here : Struck v.known.own.call (Took value) v (view b)
    struck_here = subst (λ (x : ℕ). Struck v.known.own.call (Took x) v (view b)) same_value
        (struck_at v.known.own.call (Took (value_of (slot v.known r.leaf).value)) _ v (view b) refl refl r.made)

-- What a seek ended at, as the way to the parent.
pub sought_path : (q : TreePass) (k : ℕ) (s : Sought) → IsSought q k s → OnPath q s
sought_path q k s i = record {
  ancestor = i.ancestor;
  ancestor_is = i.ancestor_is;
  ancestor_held = i.ancestor_held;
  plain = i.plain;
  some = i.some;
  top = i.top;
  leads = i.leads;
  last = i.last;
  joined = i.joined;
  ends = i.ends;
  parent = i.parent;
  parent_is = i.parent_is;
  parent_held = i.parent_held;
  word = i.leaf.0;
}

-- it stays where FLAG is set
pub path_flagged : (q q' : TreePass) (s : Sought) (sd n : ℕ) → q' ≡ flagged_pass sd n q → OnPath q s → OnPath q' s
path_flagged q q' s sd n is p = subst (λ (x : TreePass). OnPath x s) (sym is) record {
  ancestor = p.ancestor;
  ancestor_is = p.ancestor_is;
  ancestor_held = p.ancestor_held;
  plain = p.plain;
  some = p.some;
  top = p.top;
  leads = p.leads;
  last = p.last;
  joined = p.joined;
  ends = p.ends;
  parent = p.parent;
  parent_is = p.parent_is;
  parent_held = p.parent_held;
  word = p.word;
}

pub across_twice : (n : ℕ) → n < 2 → across (across n) ≡ n
across_twice zero lt = refl
across_twice (suc zero) lt = refl
across_twice (suc (suc n)) lt = absurd (omega arith)

pub side_two : (side : Side) → side_number side < 2
side_two Left = omega arith
side_two Right = omega arith

-- after its flag the call tags the other edge
pub tags_after_flag : (z : Sizes) (call : Call) (s : Sought) (side : Side) (value : ℕ) (v w : TreeView) → FlagsNext v.known s
    → FlagsLeaf z call s value v w → side_number side ≡ across (side_number s.side) → TagsNext w.known s side
tags_after_flag z call s side value v w may f is = record {
  path = path_flagged v.known w.known s (side_number s.side) (target (word_of s.edge)) f.known
      (sought_path v.known (key_of v.known.own.call) s may.sought);
  read = inl (ap (λ (q : TreePass). q.own.flag) f.known ∙ (sym (across_twice (side_number s.side) (side_two s.side)) ∙ ap across (sym is)));
}

-- a seek that ended at an edge with FLAG, and at one with TAG
pub tags_beside : (q : TreePass) (k : ℕ) (s : Sought) (side : Side) → IsSought q k s → flag_bit (word_of s.edge) ≡ 1
    → side_number side ≡ across (side_number s.side) → TagsNext q s side
tags_beside q k s side i on is = record {
  path = sought_path q k s i;
  read = inl (i.flag on ∙ (sym (across_twice (side_number s.side) (side_two s.side)) ∙ ap across (sym is)));
}

pub tags_again : (q : TreePass) (k : ℕ) (s : Sought) → IsSought q k s → tag_bit (word_of s.edge) ≡ 1 → TagsNext q s s.side
tags_again q k s i on = record {
  path = sought_path q k s i;
  read = inr (word_of s.edge, (on, i.tag on));
}

-- a word with TAG set
pub record IsTagged (w w' : ℕ) : Type 0 where
  pub to : target w ≡ target w'
  pub leaf : leaf_bit w ≡ leaf_bit w'
  pub flag : flag_bit w ≡ flag_bit w'
  pub tag : tag_bit w' ≡ 1

pub tagged_word : (w : ℕ) → IsTagged w (bit_or w 2)
tagged_word w = ⊎_elim
    (λ (y : (tag_bit w ≡ 1) × (bit_or w 2 ≡ w)). record {
      to = sym (ap target y.1);
      leaf = sym (ap leaf_bit y.1);
      flag = sym (ap flag_bit y.1);
      tag = ap tag_bit y.1 ∙ y.0;
    })
    (λ (y : (tag_bit w ≡ 0) × (bit_or w 2 ≡ w + 2)). subst (IsTagged w) (sym y.1) (more y.0))
    (tag_set w)
  where
    more : tag_bit w ≡ 0 → IsTagged w (w + 2)
    more off = record { to = omega arith; leaf = omega arith; flag = omega arith; tag = omega arith }

module _ (z : Sizes) (s : Sought) (side : Side) (place found : ℕ) (v w : TreeView) (may : TagsNext v.known s side)
    (t : Tags place (side_number side) found v w) where
  abbrev tagged : Passed
  tagged = record {
    number = (slot v.known v.known.own.at).named;
    side = side_number side;
    word = bit_or found 2;
    leaf = t.leaf;
  }

  tagged_known : w.known ≡ tagged_pass tagged v.known
  tagged_known = known_after _ _ _ _ _ _ _ v w t.made

  pub tags_there : TagsEdge found v w
  tags_there = record {
    place = place;
    names = quiet_names v w t.made refl;
    unplaced = quiet_unplaced v w t.made refl;
    same = record {
      call = ap (λ (q : TreePass). q.own.call) tagged_known;
      start = ap (λ (q : TreePass). q.own.start) tagged_known;
      going = ap (λ (q : TreePass). q.own.going) tagged_known;
      left = ap (λ (q : TreePass). q.own.left) tagged_known;
    };
    rest = subst (SameRest v.known) (sym tagged_known) (rest_by v.known _ _);
    flag = ap (λ (q : TreePass). q.own.flag) tagged_known;
    beside = ap (λ (q : TreePass). q.own.beside) tagged_known;
  }

  pub splices_next : (sibling : Link) → word_of sibling ≡ found → SplicesNext z w.known s side sibling
  splices_next sibling is = subst (λ (q : TreePass). SplicesNext z q s side sibling) (sym tagged_known)
      (let p = may.path in let e = tagged_word found in record {
        ancestor = p.ancestor;
        ancestor_is = p.ancestor_is;
        word = p.word;
        may = record {
          word_low = p.ancestor_held.0;
          held = p.ancestor_held.1;
          plain = p.plain;
          some = p.some;
          top = p.top;
          leads = sym p.leads;
          before = v.known.own.path;
          last = tagged;
          path_is = refl;
          joined = joined_more (word_of s.successor) p.last v.known.own.path tagged p.joined p.ends e.tag;
          word = v.known.own.at;
          parent_is = p.parent_is;
          parent_held = (p.parent, p.parent_held);
          parent_named = refl;
          side_is = refl;
          sibling_is = (ap target is ∙ e.to, ap leaf_bit is ∙ e.leaf, ap flag_bit is ∙ e.flag);
        };
        beside = λ on. (tagged, (in_right tagged v.known.own.path (tagged ∷ []) (in_first tagged []), inr (sym (t.beside on))));
      })

-- The steps of a splice.
pub flush_names : (z : Sizes) (v b : TreeView) → length v.known.chains ≤ 4 → MayFlush 2 z v b
    → (names : List NamedStep) × PurseSteps z names v b
flush_names z v b few f = dite (ℕ_discrete (length v.known.chains) 4) (λ full. flushed_purse 2 z 4 v b (f.full full))
    (λ ne. ([], none_made z v b (f.few (omega arith))))

-- the pass owns the same records then
flushed_owned : (z : Sizes) (n : ℕ) (v w : TreeView) → Flushed 2 z n v w → w.known.owned ≡ v.known.owned
flushed_owned z zero v w is = ap (λ (u : TreeView). u.known.owned) is
flushed_owned z (suc n) v w (u, (first, rest)) = flushed_owned z n u w rest ∙ ap (λ (q : TreePass). q.owned) first.known

flush_owned : (z : Sizes) (v b : TreeView) → length v.known.chains ≤ 4 → MayFlush 2 z v b → b.known.owned ≡ v.known.owned
flush_owned z v b few f = dite (ℕ_discrete (length v.known.chains) 4) (λ full. flushed_owned z 4 v b (f.full full))
    (λ ne. ap (λ (u : TreeView). u.known.owned) (f.few (omega arith)))

learning_owned : (i sd word : ℕ) (q : TreePass) → (learning has_mark i sd word q).owned ≡ q.owned
learning_owned i sd word q = by (has_mark word && (slot q i).held)
  where
    by : (b : Bool) → (cond b (with_walk i (record (slot q i) { learnt = (sd, word) ∷ (slot q i).learnt }) q) q).owned ≡ q.owned
    by true = refl
    by false = refl

purse_aside : (z : Sizes) (names : List NamedStep) → ((s : NamedStep) → IsIn s names → is_purse_step z s ≡ true) → AreAside z names
purse_aside z names each = record {
  each = λ s i. ap (λ (b : Bool). b || (nat_eq s.kind clear_step || nat_eq s.kind write_step)) (each s i);
}

pub made_names : (names : List NamedStep) (v w : TreeView) → Made names v w → Names names v w
made_names names v w m = record {
  stepped = stepped_made names v w m;
  named = steps_named names v w m;
  stands = λ own stands. stands_made names v w m own stands;
}

pub misses_path : (z : Sizes) (at : Place) (from : Side) (first new found : ℕ) (v w : TreeView) → length v.known.chains ≤ 4
    → 17 * z.passes < source_place z v.known at from
    → Misses 2 z has_mark tree_chain at from first new v w found → MissesPath z v w
misses_path z at from first new found v w few far m = let f = flush_names z v m.between few m.flushed in
    let own : m.between.known.own ≡ v.known.own = f.1.own in record {
      flush = f.0;
      aside = purse_aside z f.0 f.1.each;
      place = source_place z v.known at from;
      far = far;
      found = found;
      guard = frontier_place z v.known.number m.guard;
      number = target new;
      names = names_both f.0 then v m.between w (made_names f.0 v m.between f.1.made) (made_names then m.between w m.steps);
      unplaced = unplaced_on v m.between w (made_names f.0 v m.between f.1.made).stepped.number (unplaced_made f.0 v m.between f.1.made)
          (unplaced_made then m.between w m.steps);
      own = ap (λ (q : TreePass). q.own) m.known ∙ (learning_at_own at from found m.between.known ∙ own);
      owned = ap (λ (q : TreePass). q.owned) m.known ∙ (learning_at_owned at from found m.between.known
          ∙ flush_owned z v m.between few m.flushed);
    }
  where
    then : List NamedStep
    then = guards (frontier_place z v.known.number m.guard) (target new) ∷ misses (source_place z v.known at from) found
        ∷ unguards (frontier_place z v.known.number m.guard) ∷ []

    learning_at_own : (p : Place) (sd : Side) (word : ℕ) (q : TreePass) → (learning_at has_mark p sd word q).own ≡ q.own
    learning_at_own (Head h) sd word q = refl
    learning_at_own (Walk i) sd word q = learning_own i (side_number sd) word q

    learning_at_owned : (p : Place) (sd : Side) (word : ℕ) (q : TreePass) → (learning_at has_mark p sd word q).owned ≡ q.owned
    learning_at_owned (Head h) sd word q = refl
    learning_at_owned (Walk i) sd word q = learning_owned i (side_number sd) word q

pub takes_path : (z : Sizes) (at : Place) (from : Side) (first new i place : ℕ) (v b w : TreeView) → length v.known.chains ≤ 4
    → Exchanges 2 z has_mark tree_chain at from first new v b → HasPathInHand v.known.own.path b
    → MadeQuietStep clear_step place 0 0 (clearing forget_word i b.known) b w
    → AreGone 2 z (opening_words 5 root_head sentinel_field z) w → TakesPath z v w
takes_path z at from first new i place v b w few x hand cleared gone = let f = flush_names z v x.between few x.flushed in
    let own : b.known.own ≡ v.known.own = ap (λ (q : TreePass). q.own) x.known ∙ f.1.own in
    let known = known_after _ _ _ _ _ _ _ b w cleared in
    let first_part = made_names f.0 v x.between f.1.made in
    let then : List NamedStep = guards (frontier_place z v.known.number x.guard) (target new)
    ∷ detaches (source_place z v.known at from) first ∷ [] in
    let second = made_names then x.between b x.steps in
    let third = quiet_names b w cleared refl in record {
      flush = f.0;
      aside = purse_aside z f.0 f.1.each;
      place = source_place z v.known at from;
      word = first;
      guard = frontier_place z v.known.number x.guard;
      number = target new;
      cleared = place;
      names = names_both f.0 (then ++ record { kind = clear_step; place = place; word = 0 } ∷ []) v x.between w first_part
          (names_both then (record { kind = clear_step; place = place; word = 0 } ∷ [])
          x.between b w second third);
      unplaced = unplaced_on v x.between w first_part.stepped.number (unplaced_made f.0 v x.between f.1.made)
          (unplaced_on x.between b w second.stepped.number (unplaced_made then x.between b x.steps) (quiet_unplaced b w cleared refl));
      same = record {
        call = ap (λ (q : TreePass). q.own.call) known ∙ ap (λ (o : TreeOwn). o.call) own;
        start = ap (λ (q : TreePass). q.own.start) known ∙ ap (λ (o : TreeOwn). o.start) own;
        going = ap (λ (q : TreePass). q.own.going) known ∙ ap (λ (o : TreeOwn). o.going) own;
        left = ap (λ (q : TreePass). q.own.left) known ∙ ap (λ (o : TreeOwn). o.left) own;
      };
      owned = ap (λ (q : TreePass). q.owned) known ∙ (ap (λ (q : TreePass). q.owned) x.known ∙ flush_owned z v x.between few x.flushed);
      gone = λ n taken. gone.gone hand.chain n (subst (λ (cs : List Chain). IsIn hand.chain cs)
          (sym (ap (λ (q : TreePass). q.chains) known ∙ hand.newest)) (in_right hand.chain hand.others (hand.chain ∷ [])
          (in_first hand.chain []))) (hand.all n taken);
    }

-- a pass has at most four chains in hand
pub few_chains : (q : TreePass) (p : Purse) → map in_hand_of q.chains ≡ p.chains.items → length p.chains.items ≤ 4
    → length q.chains ≤ 4
few_chains q p is few = let same = ap (λ l. length l) is in let long = length-map q.chains in_hand_of in omega arith

pub walk_far : (z : Sizes) (q : TreePass) (at : Place) (i : ℕ) (side : Side) → at ≡ Walk i → 17 * z.passes < source_place z q at side
walk_far z q at i side is = subst (λ (p : Place). 17 * z.passes < source_place z q p side) (sym is) (omega arith)

-- INVALID in a link's word
pub invalid_of : (l : Link) → invalid_bit (word_of l) ≡ bit l.invalid
invalid_of l = go l.number (bit l.leaf) (bit l.invalid) (bit l.tag) (bit l.flag) (low l.leaf) (low l.invalid) (low l.tag) (low l.flag)
  where
    low : (b : Bool) → bit b ≤ 1
    low true = omega arith
    low false = omega arith

    go : (n l i t f : ℕ) → l ≤ 1 → i ≤ 1 → t ≤ 1 → f ≤ 1 → (16 * n + 8 * l + 4 * i + 2 * t + f) / 4 % 2 ≡ i
    go n l i t f a b c d = omega arith

-- a pass at rest may clear a walk word
pub rest_cleared : (i place : ℕ) (v w : TreeView) (p p' : Purse) → p' ≡ p
    → MadeQuietStep clear_step place 0 0 (clearing forget_word i v.known) v w → IsAtRest v.known p → IsAtRest w.known p'
rest_cleared i place v w p p' same made r = subst (λ (u : Purse). IsAtRest w.known u) (sym same)
    (subst (λ (q : TreePass). IsAtRest q p) (sym (known_after _ _ _ _ _ _ _ v w made)) record {
      scan = r.scan;
      spent = r.spent;
      frontier = r.frontier;
    })
