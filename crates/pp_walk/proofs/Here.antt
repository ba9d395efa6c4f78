-- A walk at the record that it holds.
use Rattle.std.proofs.Common.{◌≡◌, ◌≢◌, inl, inr, ℕ, ◌+◌, ◌^◌, ◌<◌, ◌≤◌, Bool, true, false, cond, List, [], ◌∷◌, ◌++◌, length, Option}
use Rattle.std.proofs.Common.{set, refl, sym, ap, ◌∙◌, subst, arith}
use Rattle.std.specs.Prelude.{◌&&◌}
use Rattle.pp_link.specs.declared.layout.Sizes.{Sizes}
use Rattle.pp_link.specs.Links.{invalid_bit, flag_bit}
use Rattle.pp_link.specs.Places.{cell_place}
use Rattle.std.proofs.Math.Decide.{ℕ_discrete}
use mathlib.Core.Logic.{dite}
use Rattle.pp_model.specs.declared.Call.{Call}
use Rattle.pp_model.specs.declared.Placed.{Placed}
use Rattle.pp_model.specs.Calls.{key_of, reply_at, changes}
use Rattle.pp_model.specs.MapCalls.{placed}
use Rattle.pp_rule.specs.declared.views.WalkSlot.{WalkSlot}
use Rattle.pp_rule.specs.Orders.{load_step, read_step}
use Rattle.pp_rule.specs.Views.{slot}
use Rattle.pp_rule.specs.Steps.{MadeQuietStep, with_walk, ReadField, LoadedLink}
use Rattle.pp_rule.proofs.Slots.{slot_here, slot_else}
use Rattle.pp_rule.proofs.Made.{known_after}
use Rattle.pp_base.specs.declared.source.Place.{Place}
use Rattle.pp_base.specs.declared.source.Place.TheVariants.{Walk as Word}
use Rattle.pp_base.specs.declared.source.Side.TheVariants.{Left}
use Rattle.pp_base.specs.Sources.{learning_at}
use Rattle.pp_base.specs.Named.{NamedStep, loads}
use Rattle.pp_base.proofs.Named.{plain_one}
use Rattle.pp_lists.specs.declared.own.ListOwn.{ListOwn}
use Rattle.pp_lists.specs.declared.own.Gathered.{Gathered}
use Rattle.pp_lists.specs.Walks.{bucket, Joined}
use Rattle.pp_lists.specs.Lists.{ListPass, list_frozen}
use Rattle.pp_lists.specs.Turns.{ListView, with_own, resting, end_step, found_at, found_of, Ended, EndsWith, PassesBy, StopsAt, gathering}
use Rattle.pp_lists.specs.Turns.{anchored}
use Rattle.pp_lists.proofs.Losing.{finds_none, load_valid, load_invalid}
use Rattle.pp_walk.specs.declared.walk.Walk.{Walk}
use Rattle.pp_walk.specs.declared.walk.Came.{Came}
use Rattle.pp_walk.specs.declared.walk.Came.TheVariants.{Moved, Broken, Anchors, Gathers, Ends}
use Rattle.pp_walk.specs.Words.{IsEmpty, Cleared, SameCallOf, SameRest, HoldsNoMore}
use Rattle.pp_walk.specs.Roles.{is_look}
use Rattle.pp_walk.specs.Trod.{Quiet}
use Rattle.pp_walk.specs.Turns.{Answers}
use Rattle.pp_walk.specs.Parts.{Holds, SameOf, CameHere, Stopped, EndsAt, GathersAt, LosesAt}
use Rattle.pp_walk.proofs.Clearing.{cleared_names}
use Rattle.pp_walk.proofs.Counting.{lose_one, lose_more, lose_then, quiet_one, quiet_both, quiet_idle, same_through, rest_through}
use Rattle.pp_walk.proofs.Counting.{same_self, rest_self}
use Rattle.pp_walk.proofs.Standing.{holds_learnt, anchors_at, begins_again, chains_held, gathers_at, gathers_key, anchor_on}

-- what is held stays in the same words
holds_through : (a b c : ListPass) → HoldsNoMore a b → HoldsNoMore b c → HoldsNoMore a c
holds_through a b c x y j low on = let second = y j low on in let first = x j low second.0 in (first.0, second.1 ∙ first.1)

same_walk_names : (q q' : ListPass) → q'.walk ≡ q.walk → HoldsNoMore q q'
same_walk_names q q' walk j low on = let same : slot q' j ≡ slot q j = ap
    (λ (ws : List WalkSlot). Rattle.std.specs.Prelude.slice_index_or ws j Rattle.pp_rule.specs.Views.blank) walk in
    (ap (λ (s : WalkSlot). s.held) (sym same) ∙ on, ap (λ (s : WalkSlot). s.named) same)

-- more was learnt of a record
learnt_names : (q q' : ListPass) (w : ℕ) (s : WalkSlot) → q'.walk ≡ set q.walk w s → w < length q.walk
    → s.held ≡ (slot q w).held → s.named ≡ (slot q w).named → HoldsNoMore q q'
learnt_names q q' w s walk low held named j five on = dite (ℕ_discrete j w)
    (λ e. let here = slot_here q q' w s walk low in let at : slot q' j ≡ s = ap (slot q') e ∙ here in
    let back : slot q w ≡ slot q j = ap (slot q) (sym e) in (
      ap (λ (x : WalkSlot). x.held) (sym back) ∙ (sym held ∙ (ap (λ (x : WalkSlot). x.held) (sym at) ∙ on)),
      ap (λ (x : WalkSlot). x.named) at ∙ (named ∙ ap (λ (x : WalkSlot). x.named) back),
    ))
    (λ ne. let same : slot q' j ≡ slot q j = slot_else q q' w s walk j ne in
    (ap (λ (x : WalkSlot). x.held) (sym same) ∙ on, ap (λ (x : WalkSlot). x.named) same))

pub same_of : (v u w : ListView) → SameOf v u → SameOf u w → SameOf v w
same_of v u w a b = record {
  same = same_through v.known.own u.known.own w.known.own a.same b.same;
  rest = rest_through v.known u.known w.known a.rest b.rest;
  names = holds_through v.known u.known w.known a.names b.names;
}

pub same_known : (v u : ListView) → u.known ≡ v.known → SameOf v u
same_known v u is = record {
  same = subst (λ (q : ListPass). SameCallOf v.known.own q.own) (sym is) (same_self v.known.own);
  rest = subst (λ (q : ListPass). SameRest v.known q) (sym is) (rest_self v.known);
  names = same_walk_names v.known u.known (ap (λ (q : ListPass). q.walk) is);
}

same_cleared : (a b c : ℕ) (v u : ListView) → Cleared a b c v.known u.known → SameOf v u
same_cleared a b c v u d = record { same = d.same; rest = d.rest; names = cleared_names a b c v.known u.known d }

-- a load of a link without INVALID finds nothing, and one of a link with INVALID loses the turn
load_ok : (p link : ℕ) (known : ListPass) (v u : ListView) → known.number ≡ v.known.number → known.owned ≡ v.known.owned
    → invalid_bit link ≡ 0
    → MadeQuietStep load_step p link link known v u → Quiet 0 v u
load_ok p link known v u number owned ok made = quiet_one 0 (loads p link) v u (plain_one (loads p link) known v u number owned made)
    (λ sizes earlier. load_valid sizes earlier p link [] ok ∙ finds_none sizes (loads p link ∷ earlier)) refl

load_bad : (place p link : ℕ) (known : ListPass) (v u : ListView) → known.number ≡ v.known.number → known.owned ≡ v.known.owned
    → invalid_bit link ≡ 1
    → MadeQuietStep load_step p link link known v u → p ≡ place → LosesAt place v u
load_bad place p link known v u number owned bad made at =
    lose_one place (loads p link) v u (plain_one (loads p link) known v u number owned made)
    (λ sizes earlier. load_invalid sizes earlier p link bad) refl refl at bad

-- The key was read: nothing else changed.
pub read_quiet : (i f found p : ℕ) (v u : ListView) → ReadField i f found p v u → Quiet 0 v u
read_quiet i f found p v u r = let s : NamedStep = record { kind = read_step; place = p; word = found } in
    quiet_idle s v u record { load = λ e. omega arith; confirm = λ e. omega arith; miss = λ e. omega arith; mark = λ e. omega arith } refl
    (plain_one s v.known v u refl refl r.made)

pub read_known : (i f found p : ℕ) (v u : ListView) → ReadField i f found p v u → u.known ≡ v.known
read_known i f found p v u r = known_after read_step p found found [] [] v.known v u r.made

-- The steps before left what is known of the pass.
pub here_after : (z : Sizes) (walk : Walk) (w : ℕ) (v v1 u : ListView) (came : Came) → v1.known ≡ v.known → Quiet 0 v v1
    → CameHere z walk w v1 u came
    → CameHere z walk w v u came
here_after z walk w v v1 u Moved is quiet c = c
here_after z walk w v v1 u Broken is quiet c = (
  same_of v v1 u (same_known v v1 is) c.0,
  c.1,
  subst (λ (q : ListPass). LosesAt (cell_place z (slot q w).named 2) v u) is
      (lose_then (cell_place z (slot v1.known w).named 2) v v1 u quiet c.2),
)
here_after z walk w v v1 u (Anchors i) is quiet c = (
  same_of v v1 u (same_known v v1 is) c.0,
  record { walks = c.1.walks; nothing = c.1.nothing },
  quiet_both 0 0 0 refl v v1 u quiet c.2,
  c.3,
  (c.4.0 ∙ ap (λ (q : ListPass). (slot q w).key) is, c.4.1),
)
here_after z walk w v v1 u (Gathers i) is quiet c = (
  same_of v v1 u (same_known v v1 is) c.0,
  subst (λ (q : ListPass). GathersAt z walk.call walk.anchor i q.own u) is c.1,
  quiet_both 0 0 0 refl v v1 u quiet c.2,
  c.3,
  (c.4.0 ∙ ap (λ (q : ListPass). (slot q w).key) is, c.4.1),
)
here_after z walk w v v1 u (Ends i key link) is quiet c = (
  same_of v v1 u (same_known v v1 is) c.0,
  (
    c.1.0,
    (
      quiet_both 0 0 0 refl v v1 c.1.0 quiet c.1.1.0,
      subst (λ (q : ListPass). EndsAt z walk.call walk.anchor i key link q.own c.1.0 u) is c.1.1.1,
    ),
  ),
  c.2,
)

-- The walk stops at the record, whatever becomes of the call.
stopped_of : (z : Sizes) (q q' : ListPass) (call : Call) (anchor : Place) (w key link : ℕ) → q'.walk ≡ q.walk → q'.own.call ≡ q.own.call
    → q'.own.at ≡ q.own.at → q'.own.first ≡ q.own.first → q'.own.chain ≡ q.own.chain → Holds z q call anchor w → (slot q w).named ≢ 0
    → key ≡ (slot q w).key
    → key_of call ≤ key → invalid_bit link ≡ 0 → (is_look call ≡ false → flag_bit link ≡ 0) → Stopped z q' call anchor w key link
stopped_of z q q' call anchor w key link walk same_call same_at first chain h real key_is high valid unmarked = record {
  call_is = same_call ∙ h.call_is;
  anchored = anchor_on z q q' (key_of call) anchor (λ j _. each j) h.anchored;
  low = h.low;
  held = ap (λ (s : WalkSlot). s.held) (each w) ∙ h.held;
  stands = same_at ∙ h.stands;
  real = λ e. real (ap (λ (s : WalkSlot). s.named) (sym (each w)) ∙ e);
  key_is = key_is ∙ ap (λ (s : WalkSlot). s.key) (sym (each w));
  high = high;
  valid = valid;
  unmarked = unmarked;
  looks = λ l. first ∙ h.looks l;
  leads = λ lt. subst (λ (s : WalkSlot). Joined s.named q'.own.chain (slot q' w).named) (sym (ap (slot q') first ∙ each q.own.first))
      (subst (λ (s : WalkSlot). Joined (slot q q.own.first).named q'.own.chain s.named) (sym (each w))
      (subst (λ (cs : List Gathered). Joined (slot q q.own.first).named cs (slot q w).named) (sym chain) (h.leads (lower lt))));
  none = λ e. chain ∙ h.none (sym first ∙ e);
  few = subst (λ (f : ℕ). f ≤ 5) (sym first) h.few;
  first_held = λ lt. ap (λ (s : WalkSlot). s.held) (ap (slot q') first ∙ each q.own.first) ∙ h.first_held (lower lt);
  some_chain = λ lt e. h.some_chain (lower lt) (sym chain ∙ e);
  first_apart = λ lt. (λ e. (h.first_apart (lower lt)).0 (e ∙ ap Word first), λ e. (h.first_apart (lower lt)).1 (sym first ∙ e));
  apart = h.apart;
  empty = λ j lt x y u. subst IsEmpty (sym (each j)) (h.empty j lt x (λ e. y (e ∙ sym first)) u);
}
  where
    each : (j : ℕ) → slot q' j ≡ slot q j
    each j = ap (λ (ws : List WalkSlot). Rattle.std.specs.Prelude.slice_index_or ws j Rattle.pp_rule.specs.Views.blank) walk

    lower : q'.own.first < 5 → q.own.first < 5
    lower lt = subst (λ (f : ℕ). f < 5) first lt

module _ (z : Sizes) (walk : Walk) (w : ℕ) (v : ListView) (h : Holds z v.known walk.call walk.anchor w) where
  broken : (v2 u : ListView) → SameOf v v2 → Holds z v2.known walk.call walk.anchor w
      → LosesAt (cell_place z (slot v.known w).named 2) v v2 → Cleared 5 5 5 v2.known u.known
      → Quiet 0 v2 u
      → CameHere z walk w v u Broken
  broken v2 u same h2 lost c idles = (
    same_of v v2 u same (same_cleared 5 5 5 v2 u c),
    begins_again v2.known u.known walk.call walk.anchor h2.going h2.call_is (chains_held z v2.known walk.call walk.anchor w h2) c,
    lose_more (cell_place z (slot v.known w).named 2) v v2 u lost idles,
  )

  -- what is left where the left link of the record was loaded that a get stands at
  record Looked (p link : ℕ) (v2 : ListView) : Type 0 where
    holds : Holds z v2.known walk.call walk.anchor w
    same : SameOf v v2
    key : (slot v2.known w).key ≡ (slot v.known w).key
    known : ListPass
    number : known.number ≡ v.known.number
    owned : known.owned ≡ v.known.owned
    made : MadeQuietStep load_step p link link known v v2

  more_of : ℕ → WalkSlot
  more_of link = record (slot v.known w) { learnt = (0, link) ∷ (slot v.known w).learnt }

  looked : (p link : ℕ) (v2 : ListView) → length v.known.walk ≡ 5 → LoadedLink
      (learning_at list_frozen (Word w) Left link v.known) link p v v2
      → Looked p link v2
  unfolding more_of
  looked p link v2 five l = by (list_frozen link && (slot v.known w).held) l.made
    where
      by : (b : Bool) → MadeQuietStep load_step p link link (cond b (with_walk w (more_of link) v.known) v.known) v v2 → Looked p link v2
      by false made = let is = known_after load_step p link link [] [] v.known v v2 made in record {
        holds = subst (λ (q : ListPass). Holds z q walk.call walk.anchor w) (sym is) h;
        same = same_known v v2 is;
        key = ap (λ (q : ListPass). (slot q w).key) is;
        known = v.known;
        number = refl;
        owned = refl;
        made = made;
      }
      by true made = let is = known_after load_step p link link [] [] (with_walk w (more_of link) v.known) v v2 made in
          let walk_2 : v2.known.walk ≡ set v.known.walk w (more_of link) = ap (λ (q : ListPass). q.walk) is in
          let here = slot_here v.known v2.known w (more_of link) walk_2 (let low = h.low in omega arith) in record {
            holds = holds_learnt z v.known v2.known walk.call walk.anchor w h (ap (λ (q : ListPass). q.own) is)
                (ap (λ (s : WalkSlot). s.held) here, ap (λ (s : WalkSlot). s.key) here, ap (λ (s : WalkSlot). s.named) here)
                (λ j ne. slot_else v.known v2.known w (more_of link) walk_2 j ne);
            same = record {
              same = subst (λ (o : ListOwn). SameCallOf v.known.own o) (sym (ap (λ (q : ListPass). q.own) is)) (same_self v.known.own);
              rest = subst (λ (q : ListPass). SameRest v.known q) (sym is)
                  record { number = refl; sizes = refl; owned = refl; retired_are = refl; frontier = refl; chains = refl; scan = refl };
              names = learnt_names v.known v2.known w (more_of link) walk_2 (let low = h.low in omega arith) refl refl;
            };
            key = ap (λ (s : WalkSlot). s.key) here;
            known = with_walk w (more_of link) v.known;
            number = refl;
            owned = refl;
            made = made;
          }

  pub look_broken : (p link : ℕ) (v2 u : ListView) → length v.known.walk ≡ 5
      → LoadedLink (learning_at list_frozen (Word w) Left link v.known) link p v v2 → invalid_bit link ≡ 1 → Cleared 5 5 5 v2.known u.known
      → Quiet 0 v2 u → p ≡ cell_place z (slot v.known w).named 2 → CameHere z walk w v u Broken
  look_broken p link v2 u five l bad c idles at = let k = looked p link v2 five l in
      broken v2 u k.same k.holds (load_bad _ p link k.known v v2 k.number k.owned bad k.made at) c idles

  pub look_anchors : (p link : ℕ) (v2 u : ListView) → length v.known.walk ≡ 5
      → LoadedLink (learning_at list_frozen (Word w) Left link v.known) link p v v2 → invalid_bit link ≡ 0 → is_look walk.call ≡ true
      → (slot v.known w).key < key_of walk.call → (slot v.known w).key < 2 ^ 64 → Cleared w 5 5 v2.known u.known → Quiet 0 v2 u
      → CameHere z walk w v u (Anchors w)
  look_anchors p link v2 u five l ok look less small c idles = let k = looked p link v2 five l in let h2 = k.holds in
      let first = h2.looks look in
      let a = anchors_at z v2.known u.known walk.call w h2.going h2.call_is h2.low h2.held h2.stands h2.home
      (subst (λ (n : ℕ). n < key_of walk.call) (sym k.key) less) first (h2.none first) c in
      let key : (slot u.known w).key ≡ (slot v.known w).key = ap (λ (s : WalkSlot). s.key) a.2 ∙ k.key in (
        same_of v v2 u k.same (same_cleared w 5 5 v2 u c),
        record { walks = a.0; nothing = a.1 },
        quiet_both 0 0 0 refl v v2 u (load_ok p link k.known v v2 k.number k.owned ok k.made) idles,
        refl,
        (key, subst (λ (n : ℕ). n < 2 ^ 64) (sym key) small),
      )

  -- A walk ends with the load of this left link.
  ends_with : (p key link : ℕ) (u : ListView) → EndsWith v.known.own end_step p link (found_of v.known link) v u
      → (slot v.known w).named ≢ 0
      → key ≡ (slot v.known w).key → key_of walk.call ≤ key → invalid_bit link ≡ 0 → (is_look walk.call ≡ false → flag_bit link ≡ 0)
      → SameOf v u × EndsAt z walk.call walk.anchor w key link v.known.own v u
  ends_with p key link u e real key_is high valid unmarked = by (changes (reply_at v.known.own.call (found_of v.known link))) refl
    where
      known_is : (b : Bool) → changes (reply_at v.known.own.call (found_of v.known link)) ≡ b → ListOwn
      known_is true _ = v.known.own
      known_is false _ = resting v.known.own

      -- what was found, by the walk word
      found_is : (q : ListPass) → ((j : ℕ) → slot q j ≡ slot v.known j)
          → found_of v.known link ≡ found_at (key_of walk.call) (slot q w).key (slot q w).value link
      found_is q each = ap (λ (c : Call). found_at (key_of c) (slot v.known v.known.own.at).key
          (slot v.known v.known.own.at).value link) h.call_is
          ∙ (ap (λ (j : ℕ). found_at (key_of walk.call) (slot v.known j).key (slot v.known j).value link) h.stands
          ∙ ap (λ (s : WalkSlot). found_at (key_of walk.call) s.key s.value link) (sym (each w)))

      by : (b : Bool) → changes (reply_at v.known.own.call (found_of v.known link)) ≡ b
          → SameOf v u × EndsAt z walk.call walk.anchor w key link v.known.own v u
      by false c = let s = e.0 c in let calls : List Placed = placed v.known.own.call
          (reply_at v.known.own.call (found_of v.known link)) s.at ∷ [] in
          let is = known_after end_step p link link [] calls (with_own (resting v.known.own) v.known) v u s.made in
          let each : (j : ℕ) → slot u.known j ≡ slot v.known j = (λ j. ap (λ (q : ListPass). slot q j) is) in (
            record {
              same = subst (λ (q : ListPass). SameCallOf v.known.own q.own) (sym is) record { call = refl; start = refl; left = refl };
              rest = subst (λ (q : ListPass). SameRest v.known q) (sym is)
                  record { number = refl; sizes = refl; owned = refl; retired_are = refl; frontier = refl; chains = refl; scan = refl };
              names = same_walk_names v.known u.known (ap (λ (q : ListPass). q.walk) is);
            },
            record {
              stopped = stopped_of z v.known u.known walk.call walk.anchor w key link (ap (λ (q : ListPass). q.walk) is)
                  (ap (λ (q : ListPass). q.own.call) is) (ap (λ (q : ListPass). q.own.at) is) (ap (λ (q : ListPass). q.own.first) is)
                  (ap (λ (q : ListPass). q.own.chain) is) h real key_is
                  high valid unmarked;
              gathered = record { first = ap (λ (q : ListPass). q.own.first) is; chain = ap (λ (q : ListPass). q.own.chain) is };
              place = p;
              calls = calls;
              ends = record { known = with_own (resting v.known.own) v.known; number = refl; made = s.made };
              answers = subst (λ (a : Option ℕ). Answers v.known.own a calls u) (found_is u.known each) record {
                settled = λ _. (
                  ap (λ (q : ListPass). q.own.going) is,
                  record {
                    at = s.at;
                    since = s.since;
                    within = s.within;
                    right = s.right;
                    least = s.least;
                    calls_are = refl;
                    stands = s.stands;
                  },
                );
                goes_on = λ d. absurd (Rattle.std.proofs.Common.true≢false (sym d ∙ c));
              };
            },
          )
      by true c = let s = e.1 c in let is = known_after end_step p link link [] [] (with_own v.known.own v.known) v u s.0 in
          let each : (j : ℕ) → slot u.known j ≡ slot v.known j = (λ j. ap (λ (q : ListPass). slot q j) is) in (
            same_known v u is,
            record {
              stopped = stopped_of z v.known u.known walk.call walk.anchor w key link (ap (λ (q : ListPass). q.walk) is)
                  (ap (λ (q : ListPass). q.own.call) is) (ap (λ (q : ListPass). q.own.at) is) (ap (λ (q : ListPass). q.own.first) is)
                  (ap (λ (q : ListPass). q.own.chain) is) h real key_is
                  high valid unmarked;
              gathered = record { first = ap (λ (q : ListPass). q.own.first) is; chain = ap (λ (q : ListPass). q.own.chain) is };
              place = p;
              calls = [];
              ends = record { known = with_own v.known.own v.known; number = refl; made = s.0 };
              answers = subst (λ (a : Option ℕ). Answers v.known.own a [] u) (found_is u.known each) record {
                settled = λ d. absurd (Rattle.std.proofs.Common.true≢false (sym c ∙ d));
                goes_on = λ _. (ap (λ (q : ListPass). q.own.going) is ∙ h.going, refl, s.1);
              };
            },
          )

  pub end_broken : (p link : ℕ) (v2 u : ListView) → Ended p link v v2 → invalid_bit link ≡ 1 → Cleared 5 5 5 v2.known u.known
      → Quiet 0 v2 u
      → p ≡ cell_place z (slot v.known w).named 2 → CameHere z walk w v u Broken
  end_broken p link v2 u e bad c idles at = let made = e.invalid bad in let is = known_after load_step p link link [] [] v.known v v2 made
      in
      broken v2 u (same_known v v2 is) (subst (λ (q : ListPass). Holds z q walk.call walk.anchor w) (sym is) h)
      (load_bad _ p link v.known v v2 refl refl bad made at) c idles

  pub end_stops : (p key link : ℕ) (u : ListView) → Ended p link v u → (slot v.known w).named ≢ 0 → key ≡ (slot v.known w).key
      → key_of walk.call ≤ key → invalid_bit link ≡ 0 → is_look walk.call ≡ true → CameHere z walk w v u (Ends w key link)
  end_stops p key link u e real key_is high ok look = let x = ends_with p key link u (e.ended ok) real key_is high ok
      (λ n. absurd (Rattle.std.proofs.Common.true≢false (sym look ∙ n))) in
      (x.0, (v, (Rattle.pp_walk.proofs.Counting.quiet_none v, x.1)), refl)

  -- a removed record joins what was gathered
  gathers_here : (p link : ℕ) (u : ListView) → length v.known.walk ≡ 5 → MadeQuietStep load_step p link link (gathering w link v.known) v u
      → (slot v.known w).named ≢ 0 → (slot v.known w).key < 2 ^ 64 → invalid_bit link ≡ 0 → flag_bit link ≡ 1 → is_look walk.call ≡ false
      → CameHere z walk w v u (Gathers w)
  gathers_here p link u five made real small ok flag change = let is = known_after load_step p link link [] []
      (gathering w link v.known) v u made in
      let g = gathers_at z v.known walk.call walk.anchor w link five h real flag ok change in
      let key : (slot u.known w).key ≡ (slot v.known w).key = ap (λ (q : ListPass). (slot q w).key) is
      ∙ gathers_key z v.known walk.call walk.anchor w link five h real flag ok change in (
        record {
          same = subst (λ (q : ListPass). SameCallOf v.known.own q.own) (sym is) record { call = refl; start = refl; left = refl };
          rest = subst (λ (q : ListPass). SameRest v.known q) (sym is)
              record { number = refl; sizes = refl; owned = refl; retired_are = refl; frontier = refl; chains = refl; scan = refl };
          names = learnt_names v.known u.known w (record (slot v.known w) { learnt = (0, link) ∷ (slot v.known w).learnt })
              (ap (λ (q : ListPass). q.walk) is) (let low = h.low in omega arith) refl refl;
        },
        subst (λ (q : ListPass). Rattle.pp_walk.specs.Roles.Walking z q walk.call (Word w) walk.anchor
            → GathersAt z walk.call walk.anchor w v.known.own u) is
            (λ x. record {
              walks = x;
              first = ap (λ (q : ListPass). q.own.first) is;
              longer = ap (λ (q : ListPass). length q.own.chain) is ∙ g.1;
            }) g.0,
        load_ok p link (gathering w link v.known) v u refl refl ok made,
        refl,
        (key, subst (λ (n : ℕ). n < 2 ^ 64) (sym key) small),
      )

  pub pass_broken : (p link : ℕ) (v2 u : ListView) → PassesBy w p link v v2 → invalid_bit link ≡ 1 → Cleared 5 5 5 v2.known u.known
      → Quiet 0 v2 u
      → p ≡ cell_place z (slot v.known w).named 2 → CameHere z walk w v u Broken
  pass_broken p link v2 u e bad c idles at = let made = e.gathers.invalid bad in
      let is = known_after load_step p link link [] [] v.known v v2 made in
      broken v2 u (same_known v v2 is) (subst (λ (q : ListPass). Holds z q walk.call walk.anchor w) (sym is) h)
      (load_bad _ p link v.known v v2 refl refl bad made at) c idles

  pub stop_broken : (p link : ℕ) (v2 u : ListView) → StopsAt w p link v v2 → invalid_bit link ≡ 1 → Cleared 5 5 5 v2.known u.known
      → Quiet 0 v2 u
      → p ≡ cell_place z (slot v.known w).named 2 → CameHere z walk w v u Broken
  stop_broken p link v2 u e bad c idles at = let made = e.gathers.invalid bad in
      let is = known_after load_step p link link [] [] v.known v v2 made in
      broken v2 u (same_known v v2 is) (subst (λ (q : ListPass). Holds z q walk.call walk.anchor w) (sym is) h)
      (load_bad _ p link v.known v v2 refl refl bad made at) c idles

  pub pass_gathers : (p link : ℕ) (u : ListView) → length v.known.walk ≡ 5 → PassesBy w p link v u
      → (slot v.known w).named ≢ 0 → (slot v.known w).key < 2 ^ 64 → invalid_bit link ≡ 0 → flag_bit link ≡ 1 → is_look walk.call ≡ false
      → CameHere z walk w v u (Gathers w)
  pass_gathers p link u five e real small ok flag change = gathers_here p link u five (e.gathers.joins ok flag) real small ok flag change

  pub stop_gathers : (p link : ℕ) (u : ListView) → length v.known.walk ≡ 5 → StopsAt w p link v u
      → (slot v.known w).named ≢ 0 → (slot v.known w).key < 2 ^ 64 → invalid_bit link ≡ 0 → flag_bit link ≡ 1 → is_look walk.call ≡ false
      → CameHere z walk w v u (Gathers w)
  stop_gathers p link u five e real small ok flag change = gathers_here p link u five (e.gathers.joins ok flag) real small ok flag change

  pub pass_anchors : (p link : ℕ) (v2 u : ListView) → PassesBy w p link v v2 → invalid_bit link ≡ 0 → flag_bit link ≡ 0
      → (slot v.known w).key < key_of walk.call → (slot v.known w).key < 2 ^ 64 → Cleared w 5 5 v2.known u.known → Quiet 0 v2 u
      → CameHere z walk w v u (Anchors w)
  pass_anchors p link v2 u e ok plain less small c idles = let made = e.anchors ok plain in
      let is = known_after load_step p link link [] [] (with_own (anchored v.known.own) v.known) v v2 made in
      let each : (j : ℕ) → slot v2.known j ≡ slot v.known j = (λ j. ap (λ (q : ListPass). slot q j) is) in
      let a = anchors_at z v2.known u.known walk.call w (ap (λ (q : ListPass). q.own.going) is ∙ h.going)
      (ap (λ (q : ListPass). q.own.call) is ∙ h.call_is) h.low (ap (λ (s : WalkSlot). s.held) (each w) ∙ h.held)
      (ap (λ (q : ListPass). q.own.at) is ∙ h.stands) (ap (λ (s : WalkSlot). bucket z.heads s.key) (each w) ∙ h.home)
      (subst (λ (s : WalkSlot). s.key < key_of walk.call) (sym (each w)) less) (ap (λ (q : ListPass). q.own.first) is)
      (ap (λ (q : ListPass). q.own.chain) is) c in
      let key : (slot u.known w).key ≡ (slot v.known w).key = ap (λ (s : WalkSlot). s.key) (a.2 ∙ each w) in (
        same_of v v2 u record {
          same = subst (λ (q : ListPass). SameCallOf v.known.own q.own) (sym is) record { call = refl; start = refl; left = refl };
          rest = subst (λ (q : ListPass). SameRest v.known q) (sym is)
              record { number = refl; sizes = refl; owned = refl; retired_are = refl; frontier = refl; chains = refl; scan = refl };
          names = same_walk_names v.known v2.known (ap (λ (q : ListPass). q.walk) is);
        } (same_cleared w 5 5 v2 u c),
        record { walks = a.0; nothing = a.1 },
        quiet_both 0 0 0 refl v v2 u (load_ok p link (with_own (anchored v.known.own) v.known) v v2 refl refl ok made) idles,
        refl,
        (key, subst (λ (n : ℕ). n < 2 ^ 64) (sym key) small),
      )

  pub stop_stops : (p key link : ℕ) (u : ListView) → StopsAt w p link v u → (slot v.known w).named ≢ 0 → key ≡ (slot v.known w).key
      → key_of walk.call ≤ key → invalid_bit link ≡ 0 → flag_bit link ≡ 0 → CameHere z walk w v u (Ends w key link)
  stop_stops p key link u e real key_is high ok plain = let x = ends_with p key link u (e.ended ok plain) real key_is high ok
      (λ _. plain) in
      (x.0, (v, (Rattle.pp_walk.proofs.Counting.quiet_none v, x.1)), refl)
