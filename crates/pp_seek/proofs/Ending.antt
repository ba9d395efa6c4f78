-- A seek that tries to end at a leaf.
use Rattle.std.proofs.Common.{◌≡◌, ◌≢◌, inl, inr, ℕ, ◌+◌, ◌<◌, Bool, true, false, cond}
use Rattle.std.proofs.Common.{List, [], ◌∷◌, length, Option, Some}
use Rattle.std.proofs.Common.{refl, sym, ap, ◌∙◌, subst, arith, eq-eqb}
use Rattle.std.specs.Prelude.{nat_eq}
use Rattle.pp_link.specs.declared.layout.Sizes.{Sizes}
use Rattle.pp_link.specs.Links.{word_of, target, flag_bit, leaf_bit}
use Rattle.pp_link.specs.Places.{cell_place}
use Rattle.pp_model.specs.Calls.{key_of, reply_at, changes}
use Rattle.pp_rule.specs.Lists.{IsIn}
use Rattle.pp_rule.specs.Orders.{read_step}
use Rattle.pp_rule.specs.declared.views.Halves.{Halves}
use Rattle.pp_rule.specs.declared.views.WalkSlot.{WalkSlot}
use Rattle.pp_rule.specs.Views.{slot}
use Rattle.pp_rule.specs.Steps.{MadeQuietStep, holding}
use Rattle.pp_rule.proofs.Slots.{slot_here, slot_else}
use Rattle.pp_base.specs.declared.source.Place.TheVariants.{Walk}
use Rattle.pp_base.specs.Sources.{side_number}
use Rattle.pp_trees.specs.declared.own.TreeOwn.{TreeOwn}
use Rattle.pp_trees.specs.declared.own.Passed.{Passed}
use Rattle.pp_trees.specs.Trees.{side, IsEdge}
use Rattle.pp_trees.specs.TaggedPaths.{Joined}
use Rattle.pp_trees.specs.Searches.{TreePass}
use Rattle.pp_trees.specs.Edges.{TreeView, end_step}
use Rattle.pp_trees.specs.Seeks.{found_at, ended_pass, Ended, MayCome}
use Rattle.pp_seek.specs.declared.seek.Above.{Above}
use Rattle.pp_seek.specs.declared.seek.Spot.{Spot}
use Rattle.pp_seek.specs.declared.seek.Sought.{Sought}
use Rattle.pp_seek.specs.declared.turn.Next.{Next}
use Rattle.pp_seek.specs.declared.turn.Down.{Down}
use Rattle.pp_seek.specs.declared.turn.Down.TheVariants as downs
use Rattle.pp_seek.specs.Trails.{SameRest, Trail, Clears, reads}
use Rattle.pp_seek.specs.Keeping.{IsOf}
use Rattle.pp_seek.specs.Seeking.{words_by, words_of, IsAbove, Over, IsNear, Backs, SecondOther, MovesThere, EndedAt, Ends}
use Rattle.pp_seek.proofs.Trailing.{trail_none, trail_one, trail_both, front_cleared, rest_by}
use Rattle.pp_seek.proofs.Letting.{call_by}
use Rattle.pp_seek.proofs.Going.{word_used, go_after}
use Rattle.pp_seek.proofs.Further.{step_trail}

-- the second load found another word
module _ (z : Sizes) (k : ℕ) (s : Spot) (n : Next) (second : ℕ) (v v1 v2 : TreeView)
    (made : MadeQuietStep end_step (cell_place z (slot v.known s.word).named (2 + side_number n.side)) second second v.known v v1)
    (other : second ≢ word_of n.link) where
  end_trail : Trail v v1
  end_trail = step_trail end_step (cell_place z (slot v.known s.word).named (2 + side_number n.side)) second v.known v v1
      (inr refl) (rest_by v.known _ _) made

  same_known : v1.known ≡ v.known
  same_known = ap (λ (u : TreeView). u.known) made.is

  seconds : (c : Clears v1 v2) → SecondOther z s n v (trail_both v v1 v2 end_trail c.trail).steps
  unfolding end_trail step_trail trail_one
  seconds c = record {
    kind = end_step;
    second = second;
    saw = front_cleared (record {
      kind = end_step;
      place = cell_place z (slot v.known s.word).named (2 + side_number n.side);
      word = second;
    } ∷ []) v v1 v2 end_trail c refl;
    which = inr refl;
    other = other;
  }

  loses : Clears v1 v2 → MovesThere z s n v v2
  loses c = (record { trail = trail_both v v1 v2 end_trail c.trail; cause = inl (seconds c) }, seconds c)

  pub ended_back : (d : Down) → Backs s v1 v2 d → EndedAt z k s n v v2 d
  ended_back downs.Moved b = (record { stands = b.0.stands; own = b.0.own ∙ ap (λ (q : TreePass). q.own) same_known }, loses b.1)
  ended_back downs.Broken b = (
    go_after v v1 v2 (call_by v.known.own v1.known.own (ap (λ (q : TreePass). q.own) same_known)) b.0,
    (loses b.1).0,
  )
  ended_back (downs.Came next) b = absurd b
  ended_back (downs.Ended sought) b = absurd b

pub by_bool : {X : Type 0} (c : Bool) → (c ≡ false → X) → (c ≡ true → X) → X
by_bool true a b = b refl
by_bool false a b = a refl

-- what the pass knows once its seek has ended
pub ended_known : (i sd place first key : ℕ) (value : Halves) (v w : TreeView) → Ended i sd place first key value v w
    → (going : Bool) × (w.known ≡ ended_pass i sd first key value going v.known)
ended_known i sd place first key value v w t = by_bool v.known.own.going
    (λ off. (false, ap (λ (u : TreeView). u.known) (t.again off).made.is))
    (λ on. by_bool (changes (reply_at v.known.own.call (found_at (key_of v.known.own.call) key value first)))
    (λ idle. (false, ap (λ (u : TreeView). u.known) (t.settled on idle).made.is))
    (λ change. (true, ap (λ (u : TreeView). u.known) (t.effect on change).made.is)))

-- the leaf is held
pub ended_held : (i sd place first key : ℕ) (value : Halves) (v w : TreeView) → i < 5 → length v.known.walk ≡ 5
    → Ended i sd place first key value v w
    → (slot w.known i).held ≡ true
ended_held i sd place first key value v w low five t = let e = ended_known i sd place first key value v w t in
    ap (λ (x : WalkSlot). x.held) (slot_here v.known w.known i (holding (target first) key value) (ap (λ
    (q : TreePass). q.walk) e.1) (omega arith))

-- what a seek ends at from there
abbrev pub reached : Spot → Above → Next → Bool → Sought
reached s above n equal = record {
  ancestor = Walk above.ancestor;
  ancestor_side = above.side;
  successor = above.successor;
  parent = Walk s.word;
  side = n.side;
  edge = n.link;
  word = n.word;
  equal = equal;
}

-- the second load found the same word
pub ends_there : (z : Sizes) (k : ℕ) (s : Spot) (above : Above) (n : Next) (first key here read_place : ℕ) (value : Halves)
    (equal : Bool) (v v1 v2 : TreeView) → IsNear v.known k s n
    → s.above ≡ Some above → length v.known.walk ≡ 5 → first ≡ word_of n.link → leaf_bit (word_of n.link) ≡ 1
    → Ended n.word (side_number n.side) (cell_place z (slot v.known s.word).named (2 + side_number n.side)) first key value v v1
    → MadeQuietStep read_step read_place here here v1.known v1 v2 → here ≡ (slot v1.known n.word).key → equal ≡ nat_eq here k
    → (e : Ends z k (reached s above n equal) v v2) × ((e.until.steps ≡ []) × (n.link ≡ n.link)
    × ((read : ℕ) × (e.then.steps ≡ reads read (slot v2.known n.word).key ∷ [])))
unfolding trail_none step_trail trail_one
ends_there z k s above n first key here read_place value equal v v1 v2 near above_is five first_is leaf ended read here_is
    equal_is = (
      record {
        is = record {
          ancestor = above.ancestor;
          ancestor_is = refl;
          ancestor_held = (
            o.ancestor_low,
            ap (λ (x : WalkSlot). x.held) (else_ above.ancestor (λ e. out (inr (inl (sym e)))))
                ∙ o.ancestor_held,
          );
          ancestor_side_is = o.side_is ∙ (ap (λ (x : ℕ). side x (slot v.known above.ancestor).key) near.call_is
              ∙ ap (side k) (ap (λ (x : WalkSlot). x.key) (sym (else_ above.ancestor (λ e. out (inr (inl (sym e))))))));
          plain = o.plain;
          some = o.some;
          top = subst (λ (x : ℕ). x < 5) (sym top_is) o.top_low;
          top_held = subst (λ (x : ℕ). (slot v2.known x).held ≡ true) (sym top_is) (ap (λ (x : WalkSlot). x.held) top_same
              ∙ o.top_held);
          leads = o.leads ∙ (ap (λ (x : WalkSlot). x.named) (sym top_same) ∙ ap (λ (x : ℕ). (slot v2.known x).named) (sym top_is));
          last = o.last;
          joined = subst (λ (cs : List Passed). Joined (word_of above.successor) cs o.last) (sym (ap (λ
              (w : TreeOwn). w.path) own2)) o.joined;
          ends = spot_named ∙ o.ends;
          parent = subst (λ (x : ℕ). x < 5) (sym at_is) near.stands.low;
          parent_is = ap Walk (sym at_is);
          parent_held = subst (λ (x : ℕ). (slot v2.known x).held ≡ true) (sym at_is) (ap (λ (x : WalkSlot). x.held) spot_same
              ∙ near.stands.held);
          side_is = near.side_is ∙ ap (side k) (near.stands.key_is ∙ (ap (λ (x : WalkSlot). x.key) (sym spot_same)
              ∙ ap (λ (x : ℕ). (slot v2.known x).key) (sym at_is)));
          edge = (near.valid, leaf, near.some);
          small = near.small;
          leaf = (near.low, ap (λ (x : WalkSlot). x.held) there);
          leaf_is = ap (λ (x : WalkSlot). x.named) there ∙ ap target first_is;
          equal = equal_is ∙ ap (λ (x : ℕ). nat_eq x k) (here_is ∙ ap (λ (q : TreePass). (slot q n.word).key) (sym known2));
          flag = λ one. ap (λ (w : TreeOwn). w.flag) own2 ∙ ap (λ (b : Bool). cond b (side_number n.side) 2) (eq-eqb
              (flag_bit first) 1 (ap flag_bit first_is ∙ one));
          beside = ap (λ (w : TreeOwn). w.beside) own2 ∙ ap target first_is;
          tag = λ one. subst (λ (x : ℕ). IsIn {A = ℕ × ℕ} (side_number n.side, word_of n.link) (slot v2.known x).learnt) (sym at_is)
              (subst (λ (x : WalkSlot). IsIn {A = ℕ × ℕ} (side_number n.side, word_of n.link) x.learnt) (sym spot_same)
              (near.learnt one));
        };
        last = v;
        ended = v1;
        until = trail_none v;
        own = refl;
        value = value;
        ends = subst (λ (x : ℕ). Ended n.word (side_number n.side) (cell_place z x (2 + side_number n.side)) (word_of n.link)
            (slot v2.known n.word).key value v v1) (sym spot_named)
            (subst (λ (x : ℕ). Ended n.word (side_number n.side) (cell_place z (slot v.known s.word).named (2 + side_number n.side))
            (word_of n.link) x value v v1)
            (ap (λ (x : WalkSlot). x.key) (sym there))
            (subst (λ (x : ℕ). Ended n.word (side_number n.side) (cell_place z (slot v.known s.word).named
            (2 + side_number n.side)) x key value v v1) first_is ended));
        value_is = ap (λ (x : WalkSlot). x.value) there;
        then = step_trail read_step read_place here v1.known v1 v2 (inl (omega arith, omega arith)) (rest_by v1.known _ _) read;
        still = ap (λ (q : TreePass). q.own) known2;
        rest = subst (SameRest v.known) (sym (known2 ∙ known1)) (rest_by v.known _ _);
      },
      (
        refl,
        refl,
        (
          read_place,
          ap (λ (x : ℕ). reads read_place x ∷ []) (here_is
              ∙ ap (λ (q : TreePass). (slot q n.word).key) (sym known2)),
        ),
      ),
    )
  where
    o : IsAbove v.known s.word above
    o = subst (Over v.known s.word) above_is near.stands.over

    out : IsOf (words_by s.word (Some above)) n.word → ⊥
    out = subst (λ (a : Option Above). IsOf (words_by s.word a) n.word → ⊥) above_is near.other

    e : (going : Bool) × (v1.known ≡ ended_pass n.word (side_number n.side) first key value going v.known)
    e = ended_known n.word (side_number n.side) (cell_place z (slot v.known s.word).named
        (2 + side_number n.side)) first key value v v1 ended

    known1 : v1.known ≡ ended_pass n.word (side_number n.side) first key value e.0 v.known
    known1 = e.1

    known2 : v2.known ≡ v1.known
    known2 = ap (λ (u : TreeView). u.known) read.is

    own2 : v2.known.own ≡ record v.known.own {
      going = e.0;
      flag = cond (nat_eq (flag_bit first) 1) (side_number n.side) 2;
      beside = target first;
    }
    own2 = ap (λ (q : TreePass). q.own) (known2 ∙ known1)

    at_is : v2.known.own.at ≡ s.word
    at_is = ap (λ (w : TreeOwn). w.at) own2 ∙ near.stands.at

    top_is : v2.known.own.top ≡ above.top
    top_is = ap (λ (w : TreeOwn). w.top) own2 ∙ o.top

    there : slot v2.known n.word ≡ holding (target first) key value
    there = ap (λ (q : TreePass). slot q n.word) known2
        ∙ slot_here v.known v1.known n.word (holding (target first) key value) (ap (λ (q : TreePass). q.walk) known1)
        (let low = near.low in omega arith)

    else_ : (j : ℕ) → j ≢ n.word → slot v2.known j ≡ slot v.known j
    else_ j ne = ap (λ (q : TreePass). slot q j) known2
        ∙ slot_else v.known v1.known n.word (holding (target first) key value) (ap (λ (q : TreePass). q.walk) known1) j ne

    spot_same : slot v2.known s.word ≡ slot v.known s.word
    spot_same = else_ s.word (λ e. near.other (subst (IsOf (words_of s)) e (word_used s)))

    spot_named : (slot v2.known v2.known.own.at).named ≡ (slot v.known s.word).named
    spot_named = ap (λ (x : ℕ). (slot v2.known x).named) at_is ∙ ap (λ (x : WalkSlot). x.named) spot_same

    top_same : slot v2.known above.top ≡ slot v.known above.top
    top_same = else_ above.top (λ e. out (inr (inr (sym e))))

-- the leaf behind the edge may be confirmed
pub may_end : (z : Sizes) (k : ℕ) (s : Spot) (n : Next) (first : ℕ) (q : TreePass) → IsNear q k s n → first ≡ word_of n.link
    → leaf_bit (word_of n.link) ≡ 1
    → MayCome z q n.word (side_number n.side) (cell_place z (slot q s.word).named (2 + side_number n.side)) first 1
may_end z k s n first q near first_is leaf = record {
  low = near.low;
  free = near.free;
  named = near.named ∙ ap target (sym first_is);
  at = subst (λ (x : ℕ). x < 5) (sym near.stands.at) near.stands.low;
  side_is = near.side_is ∙ (ap (λ (x : ℕ). side x s.key) (sym near.call_is) ∙ ap (side (key_of q.own.call)) (near.stands.key_is
      ∙ ap (λ (x : ℕ). (slot q x).key) (sym near.stands.at)));
  place_is = ap (λ (x : ℕ). cell_place z (slot q x).named (2 + side_number n.side)) (sym near.stands.at);
  edge = subst (λ (w : ℕ). IsEdge w 1) (sym first_is) (near.valid, leaf, near.some);
}
