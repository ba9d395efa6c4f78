-- The roles of the walk words, over the steps of a turn.
use Rattle.std.proofs.Common.{◌≡◌, ◌≢◌, ◌⊎◌, inl, inr, ℕ, ◌+◌, ◌<◌, ◌≤◌, Bool, true, false, cond, List, [], ◌∷◌, ◌++◌}
use Rattle.std.proofs.Common.{length, set, refl, sym, ap, ◌∙◌, subst, arith, true≢false, ltb, ltb-true, length-append}
use Rattle.std.proofs.Math.Decide.{ℕ_discrete}
use mathlib.Core.Logic.{dite}
use Rattle.pp_link.specs.declared.layout.Sizes.{Sizes}
use Rattle.pp_link.specs.Links.{target, flag_bit, invalid_bit}
use Rattle.pp_link.specs.Places.{cell_place}
use Rattle.pp_model.specs.declared.Call.{Call}
use Rattle.pp_model.specs.Calls.{key_of}
use Rattle.pp_rule.specs.declared.views.WalkSlot.{WalkSlot}
use Rattle.pp_rule.specs.declared.views.Halves.{Halves}
use Rattle.pp_rule.specs.Views.{slot}
use Rattle.pp_rule.specs.Steps.{holding}
use Rattle.pp_rule.specs.Lists.{IsIn}
use Rattle.pp_rule.proofs.Slots.{slot_here, slot_else}
use Rattle.pp_base.specs.declared.source.Place.{Place}
use Rattle.pp_base.specs.declared.source.Place.TheVariants.{Head, Walk as Word}
use Rattle.pp_base.specs.declared.source.Side.TheVariants.{Left}
use Rattle.pp_base.specs.Sources.{source_place, IsReadable}
use Rattle.pp_lists.specs.declared.own.ListOwn.{ListOwn}
use Rattle.pp_lists.specs.declared.own.Gathered.{Gathered}
use Rattle.pp_lists.specs.Walks.{bucket, Joined, done, more}
use Rattle.pp_lists.specs.Lists.{ListPass}
use Rattle.pp_lists.specs.Turns.{StandsAt, FindsLearnt, gathering}
use Rattle.pp_lists.specs.Turns.StandsAt.{on_head, on_record}
use Rattle.pp_walk.specs.Words.{IsEmpty, AllEmpty, Cleared, is_kept}
use Rattle.pp_walk.specs.Roles.{IsAnchor, HasGathered, nothing, chained, StandsOn, Walking, is_look}
use Rattle.pp_walk.specs.Parts.{Holds, word_in, GathersNone, BeginsAgain}
use Rattle.pp_walk.proofs.Clearing.{kept_is, kept_none}

word_once : (i j : ℕ) → Word i ≡ Word j → i ≡ j
word_once i j e = cc

-- nothing is gathered, or the first record of the chain is held
pub record Chains (q : ListPass) (anchor : Place) : Type 0 where
  pub none : q.own.first ≡ 5 → q.own.chain ≡ []
  pub few : q.own.first ≤ 5
  pub first_held : q.own.first < 5 → (slot q q.own.first).held ≡ true
  pub some_chain : q.own.first < 5 → q.own.chain ≢ []
  pub first_apart : q.own.first < 5 → anchor ≢ Word q.own.first

pub chains_of : (q : ListPass) (at anchor : Place) → HasGathered q at anchor → Chains q anchor
chains_of q at anchor (nothing first chain is) = record {
  none = λ _. chain;
  few = omega arith;
  first_held = λ lt. absurd (omega arith);
  some_chain = λ lt. absurd (omega arith);
  first_apart = λ lt. absurd (omega arith);
}
chains_of q at anchor (chained i link is low held apart first_apart some_made learnt flag joined) = record {
  none = λ e. absurd (omega arith);
  few = omega arith;
  first_held = λ _. held;
  some_chain = λ _. some_made;
  first_apart = λ _. first_apart;
}

-- where the call stands, whatever the other walk words have
pub record Standing (z : Sizes) (q : ListPass) (call : Call) (at anchor : Place) : Type 0 where
  pub going : q.own.going ≡ true
  pub call_is : q.own.call ≡ call
  pub anchored : IsAnchor z q (key_of call) anchor
  pub gathered : HasGathered q at anchor
  pub stands : StandsOn z q (key_of call) at

pub standing_of : (z : Sizes) (q : ListPass) (call : Call) (at anchor : Place) → Walking z q call at anchor → Standing z q call at anchor
standing_of z q call at anchor w = record {
  going = w.going;
  call_is = w.call_is;
  anchored = w.anchored;
  gathered = w.gathered;
  stands = w.stands;
}

pub readable : (z : Sizes) (q : ListPass) (call : Call) (at anchor : Place) → Standing z q call at anchor → IsReadable 1 z q at Left
readable z q call (Head h) anchor w = by w.gathered
  where
    by : HasGathered q (Head h) anchor → h < z.heads
    by (nothing _ _ is) = (subst (IsAnchor z q (key_of call)) is w.anchored).0
    by (chained i link is _ _ _ _ _ _ _ _) = absurd (let e : Head h ≡ Word i = is in cc)
readable z q call (Word i) anchor w = (w.stands.0, omega arith, w.stands.1)

pub stands_at : (z : Sizes) (q : ListPass) (call : Call) (at anchor : Place) → Standing z q call at anchor
    → StandsAt z q (key_of q.own.call) (source_place z q at Left)
stands_at z q call at anchor w = subst (λ (c : Call). StandsAt z q (key_of c) (source_place z q at Left)) (sym w.call_is)
    (by at w.gathered w.stands)
  where
    by : (at : Place) → HasGathered q at anchor → StandsOn z q (key_of call) at → StandsAt z q (key_of call) (source_place z q at Left)
    by (Head h) (nothing _ _ is) s = let a = subst (IsAnchor z q (key_of call)) is w.anchored in on_head h a.0 a.1 refl
    by (Head h) (chained i link is _ _ _ _ _ _ _ _) s = absurd (let e : Head h ≡ Word i = is in cc)
    by (Word i) g s = on_record (subst (λ (j : ℕ). j < 5) (sym s.2) s.0)
        (ap (λ (j : ℕ). cell_place z (slot q j).named 2) (sym s.2)) (ap (λ (j : ℕ). bucket z.heads (slot q j).key) s.2 ∙ s.3)
        (subst (λ (j : ℕ). ((slot q j).key < key_of call) ⊎ ((w : ℕ) × (IsIn (0, w) (slot q j).learnt × (flag_bit w ≡ 1)))) (sym s.2)
        (low g))
      where
        low : HasGathered q (Word i) anchor
            → ((slot q i).key < key_of call) ⊎ ((w : ℕ) × (IsIn (0, w) (slot q i).learnt × (flag_bit w ≡ 1)))
        low (nothing _ _ is) = inl (subst (IsAnchor z q (key_of call)) is w.anchored).2
        low (chained j link is _ _ _ _ _ learnt flag _) = let e : j ≡ i = word_once j i (sym is) in
            inr (link, (subst (λ (k : ℕ). IsIn (0, link) (slot q k).learnt) e learnt, flag))

-- What was gathered leads to where the link leads at which the call stands.
pub leads_next : (z : Sizes) (q : ListPass) (call : Call) (at anchor : Place) (found : ℕ) → q.sizes ≡ z → Walking z q call at anchor
    → FindsLearnt q (source_place z q at Left) found → q.own.first < 5 → Joined (slot q q.own.first).named q.own.chain (target found)
leads_next z q call at anchor found sizes w finds low = by at w.gathered w.stands finds
  where
    by : (at : Place) → HasGathered q at anchor → StandsOn z q (key_of call) at → FindsLearnt q (source_place z q at Left) found
        → Joined (slot q q.own.first).named q.own.chain (target found)
    by at (nothing none _ _) s f = absurd (omega arith)
    by (Head h) (chained i link is _ _ _ _ _ _ _ _) s f = absurd (let e : Head h ≡ Word i = is in cc)
    by (Word i) (chained j link is _ _ _ _ _ learnt _ joined) s f = let e : j ≡ i = word_once j i (sym is) in
        subst (λ (x : ℕ). Joined (slot q q.own.first).named q.own.chain x)
        (sym (f i link s.0 s.1 (ap (λ (y : Sizes). cell_place y (slot q i).named 2) (sym sizes))
        (subst (λ (k : ℕ). IsIn (0, link) (slot q k).learnt) e learnt))) joined

-- an anchor stays where its walk word does
pub anchor_on : (z : Sizes) (q q' : ListPass) (k : ℕ) (anchor : Place) → ((j : ℕ) → anchor ≡ Word j → slot q' j ≡ slot q j)
    → IsAnchor z q k anchor
    → IsAnchor z q' k anchor
anchor_on z q q' k (Head h) same a = a
anchor_on z q q' k (Word i) same a = let e = same i refl in (
  a.0,
  ap (λ (s : WalkSlot). s.held) e ∙ a.1,
  subst (λ (s : WalkSlot). s.key < k) (sym e) a.2,
  ap (λ (s : WalkSlot). bucket z.heads s.key) e ∙ a.3,
)

-- The walk stands as it did where one walk word that has no role has changed.
pub standing_on : (z : Sizes) (q q' : ListPass) (call : Call) (at anchor : Place) (w : ℕ) → Standing z q call at anchor → Word w ≢ at
    → Word w ≢ anchor
    → w ≢ q.own.first → ((j : ℕ) → j ≢ w → slot q' j ≡ slot q j) → q'.own.going ≡ q.own.going → q'.own.call ≡ q.own.call
    → q'.own.first ≡ q.own.first → q'.own.chain ≡ q.own.chain → ((i : ℕ) → q.own.at ≡ i → i ≢ w → q'.own.at ≡ i)
    → Standing z q' call at anchor
standing_on z q q' call at anchor w s ne_at ne_anchor ne_first others going same_call first chain stays = record {
  going = going ∙ s.going;
  call_is = same_call ∙ s.call_is;
  anchored = anchor_on z q q' (key_of call) anchor (λ j e. others j (λ f. ne_anchor (ap Word (sym f) ∙ sym e))) s.anchored;
  gathered = gathered_still s.gathered;
  stands = stands_still at ne_at s.stands;
}
  where
    stands_still : (at : Place) → Word w ≢ at → StandsOn z q (key_of call) at → StandsOn z q' (key_of call) at
    stands_still (Head h) ne x = x
    stands_still (Word i) ne x = let other : i ≢ w = (λ e. ne (ap Word (sym e))) in let e = others i other in (
      x.0,
      ap (λ (s : WalkSlot). s.held) e ∙ x.1,
      stays i x.2 other,
      ap (λ (s : WalkSlot). bucket z.heads s.key) e ∙ x.3,
    )

    gathered_still : HasGathered q at anchor → HasGathered q' at anchor
    gathered_still (nothing f c is) = nothing (first ∙ f) (chain ∙ c) is
    gathered_still (chained i link is low held apart first_apart some_made learnt flag joined) =
        let other : i ≢ w = (λ e. ne_at (ap Word (sym e) ∙ sym is)) in
        let f = others q.own.first (λ e. ne_first (sym e)) in
        let here : slot q' q'.own.first ≡ slot q q.own.first = ap (slot q') first ∙ f in
        chained i link is (subst (λ (k : ℕ). k < 5) (sym first) low) (ap (λ (s : WalkSlot). s.held) here ∙ held) apart
        (λ e. first_apart (e ∙ ap Word first)) (λ e. some_made (sym chain ∙ e))
        (subst (λ (s : WalkSlot). IsIn (0, link) s.learnt) (sym (others i other)) learnt) flag
        (subst (λ (s : WalkSlot). Joined s.named q'.own.chain (target link)) (sym here)
        (subst (λ (cs : List Gathered). Joined (slot q q.own.first).named cs (target link)) (sym chain) joined))

-- and where that word is empty again, all is as it was
pub walking_on : (z : Sizes) (q q' : ListPass) (call : Call) (at anchor : Place) (w : ℕ) → Walking z q call at anchor
    → Standing z q' call at anchor
    → IsEmpty (slot q' w) → ((j : ℕ) → j ≢ w → slot q' j ≡ slot q j) → q'.own.first ≡ q.own.first → Walking z q' call at anchor
walking_on z q q' call at anchor w s n empty others first = record {
  going = n.going;
  call_is = n.call_is;
  anchored = n.anchored;
  gathered = n.gathered;
  stands = n.stands;
  looks = λ l. first ∙ s.looks l;
  empty = λ j lt x y u. dite (ℕ_discrete j w) (λ e. subst (λ (k : ℕ). IsEmpty (slot q' k)) (sym e) empty)
      (λ ne. subst IsEmpty (sym (others j ne)) (s.empty j lt x y (λ e. u (e ∙ sym first))));
}

-- The next record is held in the walk word w, and all words without a role are cleared.
module _ (z : Sizes) (q q' r : ListPass) (call : Call) (at anchor : Place) (w n key : ℕ) (value : Halves)
    (s : Walking z q call at anchor) (low : w < 5)
    (ne_anchor : Word w ≢ anchor) (ne_first : w ≢ q.own.first) (here : slot q' w ≡ holding n key value)
    (others : (j : ℕ) → j ≢ w → slot q' j ≡ slot q j) (own : q'.own ≡ record q.own { at = w })
    (home : bucket z.heads key ≡ bucket z.heads (key_of call))
    (leads : q.own.first < 5 → Joined (slot q q.own.first).named q.own.chain n) (c : Cleared (word_in anchor) q.own.first w q' r) where
  keeps_w : is_kept (word_in anchor) q.own.first w w ≡ true
  keeps_w = kept_is (word_in anchor) q.own.first w w (inr (inr refl))

  keeps_first : is_kept (word_in anchor) q.own.first w q.own.first ≡ true
  keeps_first = kept_is (word_in anchor) q.own.first w q.own.first (inr (inl refl))

  slot_w : slot r w ≡ holding n key value
  slot_w = c.kept w keeps_w ∙ here

  slot_first : slot r q.own.first ≡ slot q q.own.first
  slot_first = c.kept q.own.first keeps_first ∙ others q.own.first (λ e. ne_first (sym e))

  first_q : q'.own.first ≡ q.own.first
  first_q = ap (λ (o : ListOwn). o.first) own

  same_gathered : (r.own.first ≡ q.own.first) × (r.own.chain ≡ q.own.chain)
  same_gathered = let g = c.gathered (subst (λ (f : ℕ). is_kept (word_in anchor) q.own.first w f ≡ true) (sym first_q) keeps_first) in
      (g.0 ∙ first_q, g.1 ∙ ap (λ (o : ListOwn). o.chain) own)

  anchor_word : (j : ℕ) → anchor ≡ Word j → slot r j ≡ slot q j
  anchor_word j e = c.kept j (kept_is (word_in anchor) q.own.first w j (inl (ap word_in (sym e)))) ∙ others j
      (λ f. ne_anchor (ap Word (sym f) ∙ sym e))

  r_first : slot r r.own.first ≡ slot q q.own.first
  r_first = ap (slot r) same_gathered.0 ∙ slot_first

  r_low : r.own.first < 5 → q.own.first < 5
  r_low lt = subst (λ (f : ℕ). f < 5) same_gathered.0 lt

  chains : Chains q anchor
  chains = chains_of q at anchor s.gathered

  not_kept : (j : ℕ) → j < 5 → Word j ≢ anchor → j ≢ r.own.first → j ≢ w → is_kept (word_in anchor) q.own.first w j ≡ false
  not_kept j lt x y u = kept_none (word_in anchor) q.own.first w j (by anchor x) (λ e. y (e ∙ sym same_gathered.0)) u
    where
      by : (p : Place) → Word j ≢ p → j ≢ word_in p
      by (Head h) x e = omega arith
      by (Word i) x e = x (ap Word e)

  pub holds_next : Holds z r call anchor w
  holds_next = record {
    going = c.going ∙ (ap (λ (o : ListOwn). o.going) own ∙ s.going);
    call_is = c.same.call ∙ (ap (λ (o : ListOwn). o.call) own ∙ s.call_is);
    anchored = anchor_on z q r (key_of call) anchor anchor_word s.anchored;
    low = low;
    held = ap (λ (x : WalkSlot). x.held) slot_w;
    stands = c.at (subst (λ (a : ℕ). is_kept (word_in anchor) q.own.first w a ≡ true) (sym (ap (λ (o : ListOwn). o.at) own)) keeps_w)
        ∙ ap (λ (o : ListOwn). o.at) own;
    home = ap (λ (x : WalkSlot). bucket z.heads x.key) slot_w ∙ home;
    looks = λ l. same_gathered.0 ∙ s.looks l;
    leads = λ lt. subst (λ (x : WalkSlot). Joined x.named r.own.chain (slot r w).named) (sym r_first)
        (subst (λ (x : WalkSlot). Joined (slot q q.own.first).named r.own.chain x.named) (sym slot_w)
        (subst (λ (cs : List Gathered). Joined (slot q q.own.first).named cs n) (sym same_gathered.1) (leads (r_low lt))));
    none = λ e. same_gathered.1 ∙ chains.none (sym same_gathered.0 ∙ e);
    few = subst (λ (f : ℕ). f ≤ 5) (sym same_gathered.0) chains.few;
    first_held = λ lt. ap (λ (x : WalkSlot). x.held) r_first ∙ chains.first_held (r_low lt);
    some_chain = λ lt e. chains.some_chain (r_low lt) (sym same_gathered.1 ∙ e);
    first_apart = λ lt. (λ e. chains.first_apart (r_low lt) (e ∙ ap Word same_gathered.0), λ e. ne_first (sym e ∙ same_gathered.0));
    apart = λ e. ne_anchor (sym e);
    empty = λ j lt x y u. c.empty j lt (not_kept j lt x y u);
  }

-- The pass still holds it where it only learnt more of that record.
pub holds_learnt : (z : Sizes) (q q' : ListPass) (call : Call) (anchor : Place) (w : ℕ) → Holds z q call anchor w → q'.own ≡ q.own
    → ((slot q' w).held ≡ (slot q w).held) × ((slot q' w).key ≡ (slot q w).key) × ((slot q' w).named ≡ (slot q w).named)
    → ((j : ℕ) → j ≢ w → slot q' j ≡ slot q j) → Holds z q' call anchor w
holds_learnt z q q' call anchor w h own here others = let first = ap (λ (o : ListOwn). o.first) own in
    let chain = ap (λ (o : ListOwn). o.chain) own in record {
      going = ap (λ (o : ListOwn). o.going) own ∙ h.going;
      call_is = ap (λ (o : ListOwn). o.call) own ∙ h.call_is;
      anchored = anchor_on z q q' (key_of call) anchor (λ j e. others j (λ f. h.apart (e ∙ ap Word f))) h.anchored;
      low = h.low;
      held = here.0 ∙ h.held;
      stands = ap (λ (o : ListOwn). o.at) own ∙ h.stands;
      home = ap (bucket z.heads) here.1 ∙ h.home;
      looks = λ l. first ∙ h.looks l;
      leads = λ lt. subst (λ (s : WalkSlot). Joined s.named q'.own.chain (slot q' w).named) (sym (still lt))
          (subst (λ (n : ℕ). Joined (slot q q.own.first).named q'.own.chain n) (sym here.2)
          (subst (λ (cs : List Gathered). Joined (slot q q.own.first).named cs (slot q w).named) (sym chain) (h.leads (r_low lt))));
      none = λ e. chain ∙ h.none (sym first ∙ e);
      few = subst (λ (f : ℕ). f ≤ 5) (sym first) h.few;
      first_held = λ lt. ap (λ (x : WalkSlot). x.held) (still lt) ∙ h.first_held (r_low lt);
      some_chain = λ lt e. h.some_chain (r_low lt) (sym chain ∙ e);
      first_apart = λ lt. (λ e. (h.first_apart (r_low lt)).0 (e ∙ ap Word first), λ e. (h.first_apart (r_low lt)).1 (sym first ∙ e));
      apart = h.apart;
      empty = λ j lt x y u. subst IsEmpty (sym (others j u)) (h.empty j lt x (λ e. y (e ∙ sym first)) u);
    }
  where
    r_low : q'.own.first < 5 → q.own.first < 5
    r_low lt = subst (λ (f : ℕ). f < 5) (ap (λ (o : ListOwn). o.first) own) lt

    still : q'.own.first < 5 → slot q' q'.own.first ≡ slot q q.own.first
    still lt = ap (slot q') (ap (λ (o : ListOwn). o.first) own) ∙ others q.own.first (h.first_apart (r_low lt)).1

-- The record in the walk word w is the anchor, and the call stands there. All other walk words are cleared.
pub anchors_at : (z : Sizes) (q r : ListPass) (call : Call) (w : ℕ) → q.own.going ≡ true → q.own.call ≡ call → w < 5
    → (slot q w).held ≡ true
    → q.own.at ≡ w → bucket z.heads (slot q w).key ≡ bucket z.heads (key_of call) → (slot q w).key < key_of call → q.own.first ≡ 5
    → q.own.chain ≡ []
    → Cleared w 5 5 q r → Walking z r call (Word w) (Word w) × GathersNone r.own × (slot r w ≡ slot q w)
anchors_at z q r call w going call_is low held at home less first chain c =
    let keeps : is_kept w 5 5 w ≡ true = kept_is w 5 5 w (inl refl) in let here = c.kept w keeps in let none = c.none first chain in (
      record {
        going = c.going ∙ going;
        call_is = c.same.call ∙ call_is;
        anchored = (
          low,
          ap (λ (s : WalkSlot). s.held) here ∙ held,
          subst (λ (s : WalkSlot). s.key < key_of call) (sym here) less,
          ap (λ (s : WalkSlot). bucket z.heads s.key) here ∙ home,
        );
        gathered = nothing none.0 none.1 refl;
        stands = (
          low,
          ap (λ (s : WalkSlot). s.held) here ∙ held,
          c.at (subst (λ (a : ℕ). is_kept w 5 5 a ≡ true) (sym at) keeps) ∙ at,
          ap (λ (s : WalkSlot). bucket z.heads s.key) here ∙ home,
        );
        looks = λ _. none.0;
        empty = λ j lt x y u. c.empty j lt (kept_none w 5 5 j (λ e. x (ap Word e)) (λ e. omega arith) (λ e. omega arith));
      },
      record { first = none.0; chain = none.1 },
      here,
    )

-- One more removed record is joined at the end.
pub joined_more : (n : ℕ) (cs : List Gathered) (c : Gathered) (x : ℕ) → Joined n cs x → x ≢ 0 → c.number ≡ x → flag_bit c.link ≡ 1
    → invalid_bit c.link ≡ 0 → Joined n (cs ++ c ∷ []) (target c.link)
joined_more n [] c x (done e) real is flag valid = more (λ z. real (sym e ∙ z)) (is ∙ sym e) flag valid (done refl)
joined_more n (d ∷ cs) c x (more some_at at flag' valid' rest) real is flag valid =
    more some_at at flag' valid' (joined_more (target d.link) cs c x rest real is flag valid)

-- The record that the pass holds joins what was gathered, and the call stands there.
module _ (z : Sizes) (q : ListPass) (call : Call) (anchor : Place) (w link : ℕ) (five : length q.walk ≡ 5) (h : Holds z q call anchor w)
    (real : (slot q w).named ≢ 0) (flag : flag_bit link ≡ 1) (valid : invalid_bit link ≡ 0) (changes : is_look call ≡ false) where
  abbrev more_learnt : WalkSlot
  more_learnt = record (slot q w) { learnt = (0, link) ∷ (slot q w).learnt }

  abbrev joining : Gathered
  joining = record { number = (slot q w).named; link = link }

  abbrev after_it : Bool → ListPass
  after_it b = record q {
    walk = set q.walk w more_learnt;
    own = record q.own { first = cond b q.own.first w; chain = cond b (q.own.chain ++ joining ∷ []) (joining ∷ []) };
  }

  here : (b : Bool) → slot (after_it b) w ≡ more_learnt
  here b = slot_here q (after_it b) w more_learnt refl (let low = h.low in omega arith)

  else_same : (b : Bool) (j : ℕ) → j ≢ w → slot (after_it b) j ≡ slot q j
  else_same b j ne = slot_else q (after_it b) w more_learnt refl j ne

  not_look : is_look call ≡ true → ⊥
  not_look l = true≢false (sym l ∙ changes)

  walks_by : (b : Bool) → ltb q.own.first 5 ≡ b → Walking z (after_it b) call (Word w) anchor
      × (length (after_it b).own.chain ≡ length q.own.chain + 1)
  walks_by true is = let low : q.own.first < 5 = ltb-true q.own.first 5 is in
      let other = (h.first_apart low).1 in let still = else_same true q.own.first other in (
        record {
          going = h.going;
          call_is = h.call_is;
          anchored = anchor_on z q (after_it true) (key_of call) anchor
              (λ j e. else_same true j (λ f. h.apart (e ∙ ap Word f))) h.anchored;
          gathered = chained w link refl low (ap (λ (s : WalkSlot). s.held) still ∙ h.first_held low) h.apart (h.first_apart low).0
              (not_none q.own.chain) (subst (λ (s : WalkSlot). IsIn (0, link) s.learnt) (sym (here true)) (0, refl)) flag
              (subst (λ (s : WalkSlot). Joined s.named (q.own.chain ++ joining ∷ []) (target link)) (sym still)
              (joined_more (slot q q.own.first).named q.own.chain joining (slot q w).named (h.leads low) real refl flag valid));
          stands = (
            h.low,
            ap (λ (s : WalkSlot). s.held) (here true) ∙ h.held,
            h.stands,
            ap (λ (s : WalkSlot). bucket z.heads s.key) (here true) ∙ h.home,
          );
          looks = λ l. absurd (not_look l);
          empty = λ j lt x y u. subst IsEmpty (sym (else_same true j (λ e. x (ap Word e)))) (h.empty j lt y u (λ e. x (ap Word e)));
        },
        length-append q.own.chain (joining ∷ []),
      )
    where
      not_none : (cs : List Gathered) → cs ++ joining ∷ [] ≢ []
      not_none cs e = let long = ap (λ (l : List Gathered). length l) e in let sum = length-append cs (joining ∷ []) in omega arith
  walks_by false is = let first : q.own.first ≡ 5 = (let few = h.few in
      let high : 5 ≤ q.own.first = Rattle.std.proofs.lemmas.Bool.ltb-false q.own.first 5 is in omega arith) in (
        record {
          going = h.going;
          call_is = h.call_is;
          anchored = anchor_on z q (after_it false) (key_of call) anchor
              (λ j e. else_same false j (λ f. h.apart (e ∙ ap Word f))) h.anchored;
          gathered = chained w link refl h.low (ap (λ (s : WalkSlot). s.held) (here false) ∙ h.held) h.apart h.apart
              (λ e. let long : 1 ≡ 0 = ap (λ (l : List Gathered). length l) e in omega arith)
              (subst (λ (s : WalkSlot). IsIn (0, link) s.learnt) (sym (here false)) (0, refl)) flag
              (subst (λ (s : WalkSlot). Joined s.named (joining ∷ []) (target link)) (sym (here false))
              (more real refl flag valid (done refl)));
          stands = (
            h.low,
            ap (λ (s : WalkSlot). s.held) (here false) ∙ h.held,
            h.stands,
            ap (λ (s : WalkSlot). bucket z.heads s.key) (here false) ∙ h.home,
          );
          looks = λ l. absurd (not_look l);
          empty = λ j lt x y u. subst IsEmpty (sym (else_same false j u)) (h.empty j lt y (λ e. omega arith) u);
        },
        (let none : length q.own.chain ≡ 0 = ap (λ (l : List Gathered). length l) (h.none first) in omega arith),
      )

  pub gathers_at : Walking z (gathering w link q) call (Word w) anchor × (length (gathering w link q).own.chain ≡ length q.own.chain + 1)
  gathers_at = walks_by (ltb q.own.first 5) refl

  pub gathers_key : (slot (gathering w link q) w).key ≡ (slot q w).key
  gathers_key = ap (λ (s : WalkSlot). s.key) (here (ltb q.own.first 5))

-- all walk words are cleared: nothing is gathered any more
pub lets_nothing : (q r : ListPass) → (q.own.first ≡ 5 → q.own.chain ≡ []) → q.own.first ≤ 5
    → (q.own.first < 5 → (slot q q.own.first).held ≡ true) → Cleared 5 5 5 q r → GathersNone r.own
lets_nothing q r none few held c = dite (ℕ_discrete q.own.first 5)
    (λ e. let n = c.none e (none e) in record { first = n.0; chain = n.1 })
    (λ ne. let lt : q.own.first < 5 = omega arith in let n = c.lost lt (kept_none 5 5 5 q.own.first ne ne ne) (held lt) in
    record { first = n.0; chain = n.1 })

pub all_empty : (q r : ListPass) → Cleared 5 5 5 q r → AllEmpty r
all_empty q r c j lt = c.empty j lt (kept_none 5 5 5 j (λ e. omega arith) (λ e. omega arith) (λ e. omega arith))

-- so the call begins again at its head
pub begins_again : (q r : ListPass) (call : Call) (anchor : Place) → q.own.going ≡ true → q.own.call ≡ call → Chains q anchor
    → Cleared 5 5 5 q r
    → BeginsAgain r call
begins_again q r call anchor going call_is chains c = record {
  going = c.going ∙ going;
  call_is = c.same.call ∙ call_is;
  empty = all_empty q r c;
  nothing = lets_nothing q r chains.none chains.few chains.first_held c;
}

pub chains_held : (z : Sizes) (q : ListPass) (call : Call) (anchor : Place) (w : ℕ) → Holds z q call anchor w → Chains q anchor
chains_held z q call anchor w h = record {
  none = h.none;
  few = h.few;
  first_held = h.first_held;
  some_chain = h.some_chain;
  first_apart = λ lt. (h.first_apart lt).0;
}
