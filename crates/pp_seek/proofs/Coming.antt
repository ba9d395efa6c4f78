-- What the parts of a turn of a seek come to.
use Rattle.std.proofs.Common.{◌≡◌, ◌≢◌, inl, inr, ⊎_elim, ℕ, ◌+◌, ◌*◌, ◌/◌, ◌%◌, ◌<◌, ◌≤◌, Bool, true, false, cond}
use Rattle.std.proofs.Common.{List, [], ◌∷◌, length, Option, Some}
use Rattle.std.proofs.Common.{refl, sym, ap, ◌∙◌, subst, arith}
use Rattle.std.specs.Prelude.{nat_lt}
use Rattle.pp_link.specs.declared.layout.Sizes.{Sizes}
use Rattle.pp_link.specs.declared.link.Link.{Link}
use Rattle.pp_link.specs.Links.{bit, word_of, target, flag_bit, tag_bit, invalid_bit, leaf_bit}
use Rattle.pp_link.specs.Places.{cell_place, head_place}
use Rattle.pp_model.specs.Calls.{key_of}
use Rattle.pp_rule.specs.Lists.{IsIn}
use Rattle.pp_rule.specs.States.{IsSmall}
use Rattle.pp_rule.specs.Orders.{announce_step}
use Rattle.pp_rule.specs.declared.views.WalkSlot.{WalkSlot}
use Rattle.pp_rule.specs.Views.{slot, naming}
use Rattle.pp_rule.specs.Steps.{MadeQuietStep, with_walk, learning}
use Rattle.pp_rule.proofs.Slots.{slot_here, slot_else}
use Rattle.pp_base.specs.declared.source.Side.{Side}
use Rattle.pp_base.specs.Sources.{side_number}
use Rattle.pp_base.specs.Named.{NamedStep, loads, announces, confirms}
use Rattle.pp_trees.specs.declared.own.TreeOwn.{TreeOwn}
use Rattle.pp_trees.specs.Trees.{side, IsEdge}
use Rattle.pp_trees.specs.Searches.{TreePass}
use Rattle.pp_trees.specs.Sentinels.{has_mark}
use Rattle.pp_trees.specs.Edges.{TreeView}
use Rattle.pp_trees.specs.Seeks.{Looks}
use Rattle.pp_seek.specs.declared.seek.Spot.{Spot}
use Rattle.pp_seek.specs.declared.turn.Next.{Next}
use Rattle.pp_seek.specs.declared.turn.Down.{Down}
use Rattle.pp_seek.specs.declared.turn.Down.TheVariants as downs
use Rattle.pp_seek.specs.Trails.{Trail, Clears, IsEmpty, reads}
use Rattle.pp_seek.specs.Keeping.{IsOf}
use Rattle.pp_seek.specs.Seeking.{words_of, StandsIn, LetsAllGo, Near}
use Rattle.pp_seek.specs.Seeking.{IsBroken, FoundOther, Loses, Moves}
use Rattle.pp_seek.specs.Seeking.{SecondOther, KeyOutside, LosesThere, MovesThere, CameOn}
use Rattle.pp_seek.specs.Seeking.{EndedAt, LookedDown, SeeksAt, StaysThere, WasLost}
use Rattle.pp_model.specs.declared.Call.{Call}
use Rattle.pp_seek.proofs.Staying.{learning_rest}
use Rattle.pp_seek.proofs.Trailing.{trail_one, trail_both, both_names, front_behind, front_cleared, rest_by, rest_both}
use Rattle.pp_seek.proofs.Letting.{call_by, call_on}
use Rattle.pp_seek.proofs.Going.{SameHeld, word_used, stands_on, learning_held, learning_own, learnt_tag, empty_same}
use Rattle.pp_seek.proofs.Going.{go_after}

-- the bits of a link's word
pub tag_of : (l : Link) → tag_bit (word_of l) ≡ bit l.tag
tag_of l = go l.number (bit l.leaf) (bit l.invalid) (bit l.tag) (bit l.flag) (low l.leaf) (low l.invalid) (low l.tag) (low l.flag)
  where
    low : (b : Bool) → bit b ≤ 1
    low true = omega arith
    low false = omega arith

    go : (n l i t f : ℕ) → l ≤ 1 → i ≤ 1 → t ≤ 1 → f ≤ 1 → (16 * n + 8 * l + 4 * i + 2 * t + f) / 2 % 2 ≡ t
    go n l i t f a b c d = omega arith

pub leaf_of : (l : Link) → leaf_bit (word_of l) ≡ bit l.leaf
leaf_of l = go l.number (bit l.leaf) (bit l.invalid) (bit l.tag) (bit l.flag) (low l.leaf) (low l.invalid) (low l.tag) (low l.flag)
  where
    low : (b : Bool) → bit b ≤ 1
    low true = omega arith
    low false = omega arith

    go : (n l i t f : ℕ) → l ≤ 1 → i ≤ 1 → t ≤ 1 → f ≤ 1 → (16 * n + 8 * l + 4 * i + 2 * t + f) / 8 % 2 ≡ l
    go n l i t f a b c d = omega arith

held_then : (a b c : WalkSlot) → SameHeld a b → c ≡ b → SameHeld a c
held_then a b c x e = record {
  named = ap (λ (s : WalkSlot). s.named) e ∙ x.named;
  held = ap (λ (s : WalkSlot). s.held) e ∙ x.held;
  key = ap (λ (s : WalkSlot). s.key) e ∙ x.key;
}

-- the first load of an edge
load_trail : (sd place first : ℕ) (v v1 : TreeView) → Looks sd place first v v1 → Trail v v1
load_trail sd place first v v1 t = let r = learning_rest has_mark v.known.own.at sd first v.known in
    trail_one (loads place first) (learning has_mark v.known.own.at sd first v.known) v v1 (inl (omega arith, omega arith)) r
    t.loaded.made

load_names : (sd place first : ℕ) (v v1 : TreeView) (t : Looks sd place first v v1)
    → (load_trail sd place first v v1 t).steps ≡ loads place first ∷ []
unfolding load_trail trail_one
load_names sd place first v v1 t = refl

load_own : (sd place first : ℕ) (v v1 : TreeView) → Looks sd place first v v1 → v1.known.own ≡ v.known.own
load_own sd place first v v1 t = ap (λ (u : TreeView). u.known.own) t.loaded.made.is
    ∙ learning_own v.known.own.at sd first v.known

-- it found INVALID
pub broken : (z : Sizes) (sd place first : ℕ) (v v1 : TreeView) → Looks sd place first v v1 → head_place z 0 < place
    → invalid_bit first ≡ 1 → IsBroken z v v1
broken z sd place first v v1 t far bad = record {
  own = load_own sd place first v v1 t;
  trail = load_trail sd place first v v1 t;
  place = place;
  far = far;
  word = first;
  bad = bad;
  steps_are = load_names sd place first v v1 t;
}

-- it didn't, and the record that it leads to is announced
pub near : (z : Sizes) (k : ℕ) (s : Spot) (sd : Side) (first : ℕ) (link : Link) (word number place : ℕ) (v v1 v2 : TreeView)
    → StandsIn v.known s
    → key_of v.known.own.call ≡ k → side_number sd ≡ side k s.key → length v.known.walk ≡ 5 → length v1.known.walk ≡ 5
    → Looks (side_number sd) (cell_place z (slot v.known s.word).named (2 + side_number sd)) first v v1
    → word_of link ≡ first → invalid_bit first ≡ 0
    → word < 5 → (IsOf (words_of s) word → ⊥) → number ≡ target first
    → MadeQuietStep announce_step place number number (with_walk word (naming number) v1.known) v1 v2
    → Near z k s (record { side = sd; link = link; word = word }) v v2
unfolding trail_one
near z k s sd first link word number place v v1 v2 st call side_is five five1 t word_is valid low out number_is made = record {
  near = record {
    call_is = ap (λ (o : TreeOwn). key_of o.call) own ∙ call;
    side_is = side_is;
    stands = stands_on 5 word v.known v2.known s own (λ j lt is. same j lt (λ e. out (subst (IsOf (words_of s)) e is)))
        (λ j lt never ne. empty_same (slot v.known j) (slot v2.known j) (same j lt ne) (st.empty j lt never
        (λ e. let five_is = e in omega arith))) st;
    low = low;
    other = out;
    named = ap (λ (x : WalkSlot). x.named) here ∙ (number_is ∙ sym (ap target word_is));
    free = ap (λ (x : WalkSlot). x.held) here;
    valid = ap invalid_bit word_is ∙ valid;
    small = subst IsSmall (sym word_is) t.loaded.small;
    some = λ e. t.some (sym (ap target word_is) ∙ e);
    unflagged = λ e. ap flag_bit word_is ∙ t.unflagged (subst (λ (w : ℕ). IsEdge w 0) word_is e);
    below_root = λ one left. word_is ∙ t.below_root (ap (λ (j : ℕ). (slot v.known j).named) st.at ∙ (sym spot_same.named
        ∙ one)) left;
    learnt = λ tag. subst (λ (x : WalkSlot). IsIn {A = ℕ × ℕ} (side_number sd, word_of link) x.learnt) (sym (else_ s.word
        (λ e. out (subst (IsOf (words_of s)) e (word_used s)))))
        (subst (λ (w : ℕ). IsIn {A = ℕ × ℕ} (side_number sd, w) (slot v1.known s.word).learnt) (sym word_is)
        (subst (λ (q : TreePass). IsIn {A = ℕ × ℕ} (side_number sd, first) (slot q s.word).learnt) (sym known1)
        (subst (λ (j : ℕ). IsIn {A = ℕ × ℕ} (side_number sd, first) (slot (learning has_mark v.known.own.at
        (side_number sd) first v.known) j).learnt) st.at
        (learnt_tag v.known.own.at (side_number sd) first v.known five at_low
        (ap (λ (j : ℕ). (slot v.known j).held) st.at ∙ st.held) (sym (ap tag_bit word_is) ∙ tag)))));
  };
  own = own;
  trail = trail_both v v1 v2 loaded announced;
  far = omega arith;
  announced = place;
  number = number;
  steps_are = both_names (loads (cell_place z (slot v.known s.word).named (2 + side_number sd)) first ∷ [])
      (announces place number ∷ []) v v1 v2 loaded announced
      (load_names (side_number sd) (cell_place z (slot v.known s.word).named (2 + side_number sd)) first v v1 t) refl
      ∙ (ap (λ (n : ℕ). loads (cell_place z n (2 + side_number sd)) first ∷ announces place number ∷ []) (sym spot_same.named)
      ∙ ap (λ (w : ℕ). loads (cell_place z (slot v2.known s.word).named (2 + side_number sd)) w ∷ announces place number ∷ [])
      (sym word_is));
}
  where
    loaded : Trail v v1
    loaded = load_trail (side_number sd) (cell_place z (slot v.known s.word).named (2 + side_number sd)) first v v1 t

    announced : Trail v1 v2
    announced = trail_one (record { kind = announce_step; place = place; word = number })
        (with_walk word (naming number) v1.known) v1 v2 (inl (omega arith, omega arith)) (rest_by v1.known _ _) made

    at_low : v.known.own.at < 5
    at_low = subst (λ (x : ℕ). x < 5) (sym st.at) st.low

    known1 : v1.known ≡ learning has_mark v.known.own.at (side_number sd) first v.known
    known1 = ap (λ (u : TreeView). u.known) t.loaded.made.is

    known2 : v2.known ≡ with_walk word (naming number) v1.known
    known2 = ap (λ (u : TreeView). u.known) made.is

    own : v2.known.own ≡ v.known.own
    own = ap (λ (q : TreePass). q.own) known2 ∙ load_own (side_number sd) (cell_place z (slot v.known s.word).named
        (2 + side_number sd)) first v v1 t

    here : slot v2.known word ≡ naming number
    here = slot_here v1.known v2.known word (naming number) (ap (λ (q : TreePass). q.walk) known2) (omega arith)

    else_ : (j : ℕ) → j ≢ word → slot v2.known j ≡ slot v1.known j
    else_ j ne = slot_else v1.known v2.known word (naming number) (ap (λ (q : TreePass). q.walk) known2) j ne

    same : (j : ℕ) → j < 5 → j ≢ word → SameHeld (slot v.known j) (slot v2.known j)
    same j lt ne = held_then (slot v.known j) (slot v1.known j) (slot v2.known j)
        (subst (λ (q : TreePass). SameHeld (slot v.known j) (slot q j)) (sym known1) (learning_held v.known.own.at
        (side_number sd) first v.known j five at_low)) (else_ j ne)

    spot_same : SameHeld (slot v.known s.word) (slot v2.known s.word)
    spot_same = same s.word st.low (λ e. out (subst (IsOf (words_of s)) e (word_used s)))

-- a turn that was lost at its first load
pub lost_first : (z : Sizes) (s : Spot) (v v1 v2 : TreeView) → IsBroken z v v1 → LetsAllGo v1 v2 → Clears v1 v2
    → LetsAllGo v v2 × Loses z s v v2
lost_first z s v v1 v2 b l c = (
  go_after v v1 v2 (call_by v.known.own v1.known.own b.own) l,
  record {
    trail = trail_both v v1 v2 b.trail c.trail;
    cause = inl record {
      place = b.place;
      far = b.far;
      word = b.word;
      bad = b.bad;
      front = front_cleared (loads b.place b.word ∷ []) v v1 v2 b.trail c b.steps_are;
    };
  },
)

-- a turn that was lost later
module _ (z : Sizes) (k : ℕ) (s : Spot) (n : Next) (v v1 v2 : TreeView) (a : Near z k s n v v1) where
  abbrev p : ℕ
  p = cell_place z (slot v1.known s.word).named (2 + side_number n.side)

  abbrev w : ℕ
  w = word_of n.link

  abbrev pre : List NamedStep
  pre = loads p w ∷ announces a.announced a.number ∷ []

  found_second : (l : Trail v1 v2) → SecondOther z s n v1 l.steps → FoundOther z (trail_both v v1 v2 a.trail l).steps
  found_second l o = record {
    place = p;
    far = a.far;
    kind = o.kind;
    which = o.which;
    first = w;
    valid = a.near.valid;
    second = o.second;
    other = o.other;
    announced = a.announced;
    number = a.number;
    front = front_behind pre (record { kind = o.kind; place = p; word = o.second } ∷ []) v v1 v2 a.trail l a.steps_are o.saw;
  }

  lost_later : LosesThere z s n v1 v2 → Loses z s v v2
  lost_later l = record {
    trail = trail_both v v1 v2 a.trail l.trail;
    cause = ⊎_elim (λ (o : SecondOther z s n v1 l.trail.steps). inr (inl (found_second l.trail o)))
        (λ (o : KeyOutside z s n v1 l.trail.steps). inr (inr record {
          place = p;
          far = a.far;
          first = w;
          valid = a.near.valid;
          announced = a.announced;
          number = a.number;
          read = o.read;
          key = o.key;
          outside = o.outside;
          front = front_behind pre (confirms p w ∷ reads o.read o.key ∷ []) v v1 v2 a.trail l.trail a.steps_are o.saw;
        })) l.cause;
  }

  moved_later : MovesThere z s n v1 v2 → Moves z s v v2
  moved_later l = (
    record { trail = trail_both v v1 v2 a.trail l.0.trail; cause = inr (inl (found_second l.0.trail l.1)) },
    found_second l.0.trail l.1,
  )

-- the second part of a turn after the first one
pub down_inner : (z : Sizes) (k : ℕ) (s : Spot) (n : Next) (v v1 v2 : TreeView) (d : Down) → Near z k s n v v1
    → CameOn z s n v1 v2 d → LookedDown z k s v v2 d
down_inner z k s n v v1 v2 downs.Moved a c = (
  record {
    stands = c.0.stands;
    own = c.0.own
        ∙ a.own;
  },
  moved_later z k s n v v1 v2 a c.1,
)
down_inner z k s n v v1 v2 downs.Broken a c = (
  go_after v v1 v2 (call_by v.known.own v1.known.own a.own) c.0,
  lost_later z k s n v v1 v2 a c.1,
)
down_inner z k s n v v1 v2 (downs.Came next) a c =
    let p : ℕ = cell_place z (slot v1.known s.word).named (2 + side_number n.side) in let w : ℕ = word_of n.link in (
      record {
        stands = c.0.stands;
        same = call_on v.known.own v1.known.own v2.known.own (call_by v.known.own v1.known.own a.own) c.0.same;
        between = c.0.between;
        low_is = c.0.low_is ∙ ap (λ (o : TreeOwn). cond (nat_lt (key_of o.call) next.key) s.low (next.key + 1)) a.own;
        high_is = c.0.high_is ∙ ap (λ (o : TreeOwn). cond (nat_lt (key_of o.call) next.key) next.key s.high) a.own;
        narrows = c.0.narrows;
        trail = trail_both v v1 v2 a.trail c.0.trail;
      },
      record {
        place = p;
        far = a.far;
        first = w;
        valid = a.near.valid;
        announced = a.announced;
        number = a.number;
        read = c.1.read;
        front = front_behind (loads p w ∷ announces a.announced a.number ∷ []) (confirms p w ∷ reads c.1.read next.key ∷ [])
            v v1 v2 a.trail c.0.trail a.steps_are c.1.front;
      },
    )
down_inner z k s n v v1 v2 (downs.Ended sought) a c = absurd c

pub down_leaf : (z : Sizes) (k : ℕ) (s : Spot) (n : Next) (v v1 v2 : TreeView) (d : Down) → Near z k s n v v1
    → EndedAt z k s n v1 v2 d → LookedDown z k s v v2 d
down_leaf z k s n v v1 v2 downs.Moved a c = (
  record {
    stands = c.0.stands;
    own = c.0.own
        ∙ a.own;
  },
  moved_later z k s n v v1 v2 a c.1,
)
down_leaf z k s n v v1 v2 downs.Broken a c = (
  go_after v v1 v2 (call_by v.known.own v1.known.own a.own) c.0,
  lost_later z k s n v v1 v2 a c.1,
)
down_leaf z k s n v v1 v2 (downs.Came next) a c = absurd c
down_leaf z k s n v v1 v2 (downs.Ended sought) a c =
    let p : ℕ = cell_place z (slot v1.known s.word).named (2 + side_number n.side) in (
      record {
        is = c.0.is;
        last = c.0.last;
        ended = c.0.ended;
        until = trail_both v v1 c.0.last a.trail c.0.until;
        then = c.0.then;
        own = c.0.own ∙ a.own;
        value = c.0.value;
        ends = c.0.ends;
        value_is = c.0.value_is;
        still = c.0.still;
        rest = rest_both v.known v1.known v2.known a.trail.rest c.0.rest;
      },
      record {
        place = p;
        far = a.far;
        announced = a.announced;
        number = a.number;
        read = c.1.2.0;
        first_is = both_names (loads p (word_of n.link) ∷ announces a.announced a.number ∷ []) [] v v1 c.0.last a.trail c.0.until
            a.steps_are c.1.0
            ∙ ap (λ (l : Link). loads p (word_of l) ∷ announces a.announced a.number ∷ []) (sym c.1.1);
        then_is = c.1.2.1;
      },
    )

-- a walk word that isn't in use is empty after the first load too
pub still_empty : (s : Spot) (sd place first : ℕ) (v v1 : TreeView) → StandsIn v.known s → length v.known.walk ≡ 5
    → Looks sd place first v v1
    → (j : ℕ) → j < 5 → (IsOf (words_of s) j → ⊥) → IsEmpty (slot v1.known j)
still_empty s sd place first v v1 st five t j low out = empty_same (slot v.known j) (slot v1.known j)
    (subst (λ (q : TreePass). SameHeld (slot v.known j) (slot q j)) (sym (ap (λ (u : TreeView). u.known) t.loaded.made.is))
    (learning_held v.known.own.at sd first v.known j five (subst (λ (x : ℕ). x < 5) (sym st.at) st.low)))
    (st.empty j low out (λ e. let five_is = e in omega arith))

-- a turn in which an edge had become another one leaves the seek where it stood
pub moved_turn : (z : Sizes) (call : Call) (fresh : Bool) (at : Option Spot) (s : Spot) (v w : TreeView) → at ≡ Some s
    → SeeksAt v.known call fresh at → StaysThere s v w × Moves z s v w → SeeksAt w.known call fresh at × WasLost z at at v w
moved_turn z call fresh at s v w is seeks m = subst (λ (o : Option Spot). SeeksAt v.known call fresh o
    → SeeksAt w.known call fresh o × WasLost z o o v w) (sym is)
    (λ r. (
      record { pair = r.pair; call_is = ap (λ (o : TreeOwn). o.call) m.0.own ∙ r.call_is; begun = r.begun; stands = m.0.stands },
      (m.1.0, inl (refl, m.1.1), call_by v.known.own w.known.own m.0.own),
    )) seeks
