-- Whole turns of a walk.
use Rattle.std.proofs.Common.{◌≡◌, ◌≢◌, ℕ, ◌+◌, ◌%◌, ◌^◌, ◌<◌, ◌≤◌, Bool, true, false, cond, nat_eq, nat_lt, List, [], ◌∷◌, ◌++◌}
use Rattle.std.proofs.Common.{length, inl, inr}
use Rattle.pp_walk.proofs.Clearing.{cleared_names}
use Rattle.std.proofs.Common.{Option, None, refl, sym, ap, ◌∙◌, subst, arith, true≢false, append-nil, ltb-true, eq-eqb}
use Rattle.std.specs.Prelude.{min}
use Rattle.std.proofs.Math.Decide.{ℕ_discrete}
use mathlib.Core.Logic.{dite}
use Rattle.pp_link.specs.declared.layout.Sizes.{Sizes}
use Rattle.pp_link.specs.Links.{target, invalid_bit, flag_bit}
use Rattle.pp_model.specs.declared.Call.{Call}
use Rattle.pp_model.specs.declared.Change.{Change}
use Rattle.pp_model.specs.declared.Placed.{Placed}
use Rattle.pp_model.specs.Pass.{MapSizes}
use Rattle.pp_model.specs.Calls.{key_of, reply_at, changes}
use Rattle.pp_rule.specs.declared.views.WalkSlot.{WalkSlot}
use Rattle.pp_rule.specs.declared.views.LoggedStep.{LoggedStep}
use Rattle.pp_rule.specs.Lists.{IsIn}
use Rattle.pp_rule.specs.Orders.{load_step}
use Rattle.pp_rule.specs.Views.{slot}
use Rattle.pp_rule.specs.Steps.{MadeStep}
use Rattle.pp_rule.proofs.Put.{in_left, in_one}
use Rattle.pp_rule.proofs.Made.{known_after}
use Rattle.pp_base.specs.declared.source.Place.{Place}
use Rattle.pp_base.specs.declared.source.Place.TheVariants.{Head, Walk as Word}
use Rattle.pp_base.specs.declared.source.Side.TheVariants.{Left}
use Rattle.pp_base.specs.Sources.{source_place}
use Rattle.pp_base.specs.Named.{NamedStep, loads, Made}
use Rattle.pp_base.proofs.Named.{plain_one}
use Rattle.pp_calls.specs.Steps.{Stepped, HasOwn, StandsThen}
use Rattle.pp_calls.proofs.Remaining.{stands_one, stands_made}
use Rattle.pp_lists.specs.declared.own.ListOwn.{ListOwn}
use Rattle.pp_lists.specs.Walks.{bucket, Joined}
use Rattle.pp_lists.specs.Lists.{ListPass}
use Rattle.pp_lists.specs.Turns.{ListView, with_own, resting, IsNil, end_step, found_at}
use Rattle.pp_lists.proofs.Losing.{onto, finds_append, idle_finds, load_valid, load_invalid, finds_none}
use Rattle.pp_walk.specs.declared.walk.Walk.{Walk}
use Rattle.pp_walk.specs.declared.walk.Turn.TheVariants.{On, Lost}
use Rattle.pp_walk.specs.declared.walk.Came.TheVariants.{Moved, Broken, Anchors, Gathers, Ends}
use Rattle.pp_walk.specs.Words.{IsEmpty, Cleared, SameCallOf, SameRest, HoldsBut}
use Rattle.pp_walk.specs.Roles.{IsWalk, Walking, Counts, nothing, most}
use Rattle.pp_walk.specs.Roles.{lower_of, StandsOn}
use Rattle.pp_walk.specs.Trod.{Quiet, RestOfTurn}
use Rattle.pp_walk.specs.Turns.{TurnsTo, Turned, Arrives, Answers}
use Rattle.pp_walk.specs.Parts.{LoadsFirst, BeginsAgain, CameOn, EndsAt, gathered_at, finding, SameBut}
use Rattle.pp_walk.proofs.Counting.{rest_through, same_self, writes_one, writes_none, writes_both}
use Rattle.pp_walk.proofs.Standing.{begins_again, chains_of, Chains, anchor_on}
use Rattle.pp_walk.proofs.Finding.{found_there, found_is, found_nil, plain_target}
use Rattle.pp_walk.proofs.Loading.{from_on}
use Rattle.pp_walk.proofs.Strands.{strand_one, strand_both, strand_made, trod_of}

-- the walk after the first load of a turn
abbrev pub started : Walk → Walk
started walk = record walk { fresh = false }

-- the walk at its head again
abbrev pub back_of : Walk → Walk
back_of walk = record walk { fresh = false; at = Head walk.head; anchor = Head walk.head; first = 5; chain = 0 }

abbrev pub anchored_at : ℕ → Walk → Walk
anchored_at w walk = record walk { at = Word w; anchor = Word w; first = 5; chain = 0 }

pub again_walk : (z : Sizes) (q : ListPass) (walk : Walk) → walk.head < z.heads → walk.head ≡ bucket z.heads (key_of walk.call)
    → BeginsAgain q walk.call → IsWalk z q (back_of walk)
again_walk z q walk low home b = record {
  low = low;
  home = home;
  under = (
    record {
      going = b.going;
      call_is = b.call_is;
      anchored = (low, home);
      gathered = nothing b.nothing.first b.nothing.chain refl;
      stands = tt;
      looks = λ _. b.nothing.first;
      empty = λ j lt _ _ _. b.empty j lt;
    },
    sym b.nothing.first,
    ap (λ (cs : List Rattle.pp_lists.specs.declared.own.Gathered.Gathered). min (length cs) most) (sym b.nothing.chain),
  );
}

own_before : (u w : ListView) → Stepped u w → HasOwn w.order → HasOwn u.order
own_before u w s own x i = own x (subst (λ (o : List (LoggedStep Change Placed)). IsIn x o) (sym s.order.1)
    (in_left x u.order s.order.0 i))

-- the steps of a turn whose first load found INVALID
rest_bad : (z : Sizes) (place first : ℕ) (u w : ListView) → invalid_bit first ≡ 1 → Quiet 0 u w → RestOfTurn z 1 place first u w
rest_bad z place first u w bad q = record {
  steps = q.steps;
  did = q.did;
  loses = λ sizes earlier. let all = finds_append sizes earlier (loads place first ∷ []) q.steps in
      let a = load_invalid sizes earlier place first bad in
      let b = q.loses sizes (loads place first ∷ earlier) in let more = onto_one place first earlier q.steps sizes in omega arith;
  writes = q.writes;
  why = λ _. inl bad;
}
  where
    onto_one : (place first : ℕ) (earlier steps : List NamedStep) (sizes : MapSizes)
        → Rattle.pp_lists.specs.Losses.finds sizes (onto (loads place first ∷ []) earlier) steps
        ≡ Rattle.pp_lists.specs.Losses.finds sizes (loads place first ∷ earlier) steps
    onto_one place first earlier steps sizes = refl

-- The first load, by which nothing was placed.
module _ (z : Sizes) (walk : Walk) (first : ℕ) (v u : ListView) (is : IsWalk z v.known walk) (l : LoadsFirst z walk first v u)
    (going : IsNil first → ⊥) where
  known_u : u.known ≡ with_own l.own v.known
  known_u = known_after load_step (source_place z v.known walk.at Left) first first [] [] (with_own l.own v.known) v u
      (l.reached.goes_on going)

  pub own_u : u.known.own ≡ l.own
  own_u = ap (λ (q : ListPass). q.own) known_u

  pub walks_u : Walking z u.known walk.call walk.at walk.anchor
  walks_u = l.walks u.known (ap (λ (q : ListPass). q.walk) known_u) (ap (λ (q : ListPass). q.sizes) known_u) own_u

  pub place_u : source_place z u.known walk.at Left ≡ source_place z v.known walk.at Left
  place_u = ap (λ (q : ListPass). source_place z q walk.at Left) known_u

  pub gathered_u : walk.first ≡ u.known.own.first
  gathered_u = l.gathered ∙ ap (λ (o : ListOwn). o.first) (sym own_u)

  pub counts_u : Counts u.known walk.chain
  counts_u = l.counts ∙ ap (λ (o : ListOwn). min (length o.chain) most) (sym own_u)

  pub leads_u : u.known.own.first < 5 → Joined (slot u.known u.known.own.first).named u.known.own.chain (target first)
  leads_u lt = subst (λ (q : ListPass). Joined (slot q q.own.first).named q.own.chain (target first)) (sym known_u)
      (l.leads (subst (λ (o : ListOwn). o.first < 5) own_u lt))

  rest_u : SameRest v.known u.known
  rest_u = subst (λ (q : ListPass). SameRest v.known q) (sym known_u)
      record { number = refl; sizes = refl; owned = refl; retired_are = refl; frontier = refl; chains = refl; scan = refl }

  call_u : (w : ListView) → SameCallOf u.known.own w.known.own → SameCallOf l.own w.known.own
  call_u w s = subst (λ (o : ListOwn). SameCallOf o w.known.own) own_u s

  -- the first load holds no other record
  names_u : (w : ListView) → HoldsBut (target first) u.known w.known → HoldsBut (target first) v.known w.known
  names_u w names = subst (λ (ws : List WalkSlot). HoldsBut (target first) (record u.known { walk = ws }) w.known)
      (ap (λ (q : ListPass). q.walk) known_u) names

  -- what the steps after it make of the turn
  pub turned_rest : (lost : ℕ) (w : ListView) → SameBut (target first) u w
      → RestOfTurn z lost (source_place z u.known walk.at Left) first u w → Turned z walk lost [] l.own v w
  unfolding trod_of
  turned_rest lost w s r = let place : ℕ = source_place z v.known walk.at Left in
      let rest : RestOfTurn z lost place first u w = subst (λ (p : ℕ). RestOfTurn z lost p first u w) place_u r in
      let steps : List NamedStep = loads place first ∷ rest.steps in
      let did : Made steps v w = (
        u,
        (
          plain_one (loads place first) (with_own l.own v.known) v u refl refl (l.reached.goes_on going),
          rest.did,
        ),
      ) in
      let after : Stepped u w = (strand_made rest.steps u w rest.did).stepped in record {
        from = from_on walk.fresh walk.call l.own v u w (ap (λ (q : ListPass). q.number) known_u) l.from after;
        same = call_u w s.same;
        rest = rest_through v.known u.known w.known rest_u s.rest;
        trod = trod_of lost steps [] v w (strand_made steps v w did) (omega arith) rest.loses
            (writes_one (loads place first) rest.steps refl rest.writes);
        first = first;
        behind = rest.steps;
        steps_are = refl;
        why = rest.why;
        some_next = λ _. going;
        names = names_u w s.names;
        stands = λ own st. stands_made steps v w did own st;
      }

  -- It came to the end of its walk.
  pub turned_end : (call : Call) (anchor : Place) (i key link : ℕ) (last w : ListView) → SameBut (target first) u w
      → RestOfTurn z 0 (source_place z u.known walk.at Left) first u last → (e : EndsAt z call anchor i key link u.known.own last w)
      → Turned z walk 0 e.calls l.own v w
  unfolding trod_of
  turned_end call anchor i key link last w s r e = let place : ℕ = source_place z v.known walk.at Left in
      let rest : RestOfTurn z 0 place first u last = subst (λ (p : ℕ). RestOfTurn z 0 p first u last) place_u r in
      let steps : List NamedStep = loads place first ∷ rest.steps in
      let stop : NamedStep = record { kind = end_step; place = e.place; word = link } in
      let did : Made steps v last = (
        u,
        (
          plain_one (loads place first) (with_own l.own v.known) v u refl refl (l.reached.goes_on going),
          rest.did,
        ),
      ) in
      let one = strand_one end_step e.place link link [] e.calls e.ends.known last w e.ends.made e.ends.number in
      let after : Stepped u w = (strand_both rest.steps (stop ∷ []) [] e.calls u last w
      (strand_made rest.steps u last rest.did) one).stepped in record {
        from = from_on walk.fresh walk.call l.own v u w (ap (λ (q : ListPass). q.number) known_u) l.from after;
        same = call_u w s.same;
        rest = rest_through v.known u.known w.known rest_u s.rest;
        trod = trod_of 0 (steps ++ stop ∷ []) e.calls v w (strand_both steps (stop ∷ []) [] e.calls v last w
            (strand_made steps v last did) one)
            (omega arith) (λ sizes earlier. let all = finds_append sizes earlier steps (stop ∷ []) in let a = rest.loses sizes earlier in
            let b = idle_finds sizes (onto steps earlier) (stop ∷ []) (λ t i. subst (λ (x : NamedStep).
            Rattle.pp_lists.proofs.Losing.IsIdleKind x.kind) (in_one t stop i) record {
              load = λ e. omega arith;
              confirm = λ e. omega arith;
              miss = λ e. omega arith;
              mark = λ e. omega arith;
            }) in omega arith)
            (writes_both steps (stop ∷ []) (writes_one (loads place first) rest.steps refl rest.writes)
            (writes_one stop [] refl writes_none));
        first = first;
        behind = rest.steps ++ stop ∷ [];
        steps_are = refl;
        why = λ lost. absurd (lost refl);
        some_next = λ lost _. lost refl;
        names = names_u w s.names;
        stands = λ own st. by (changes (reply_at u.known.own.call
            (found_at (key_of call) (slot w.known i).key (slot w.known i).value link))) refl own
            (stands_made steps v last did (own_before last w one.stepped own) st);
      }
    where
      by : (b : Bool) → changes (reply_at u.known.own.call (found_at (key_of call) (slot w.known i).key (slot w.known i).value link)) ≡ b
          → HasOwn w.order
          → StandsThen last → StandsThen w
      by false c own st = (e.answers.settled c).1.stands
      by true c own st = stands_one last w (subst (λ (cs : List Placed). MadeStep end_step e.place link link [] cs e.ends.known last w)
          (e.answers.goes_on c).1 e.ends.made) e.ends.number own st

  pub back_invalid : (w : ListView) → invalid_bit first ≡ 1 → Cleared 5 5 5 u.known w.known → Quiet 0 u w
      → TurnsTo z walk (back_of walk) v w Lost
  back_invalid w bad c q = let b = begins_again u.known w.known walk.call walk.anchor walks_u.going walks_u.call_is
      (chains_of u.known walk.at walk.anchor walks_u.gathered) c in record {
        goes = record {
          own = l.own;
          turned = turned_rest 1 w record {
            same = c.same;
            rest = c.rest;
            names = λ j five on. inr (cleared_names 5 5 5 u.known w.known c j five on);
          }
              (rest_bad z (source_place z u.known walk.at Left) first u w bad q);
          walks = again_walk z w.known walk is.low is.home b;
          under_way = refl;
        };
        again = λ _. (refl, b.empty);
      }

  -- each way to come on
  pub turn_moved : (w : ListView) → CameOn z (started walk) (source_place z u.known walk.at Left) first u w Moved
      → TurnsTo z walk (started walk) v w Lost
  turn_moved w c = record {
    goes = record {
      own = l.own;
      turned = turned_rest 1 w c.0 c.3;
      walks = record {
        low = is.low;
        home = is.home;
        under = (
          c.1,
          gathered_u ∙ sym c.2.first,
          counts_u ∙ ap (λ (cs : List Rattle.pp_lists.specs.declared.own.Gathered.Gathered). min (length cs) most)
              (sym c.2.chain),
        );
      };
      under_way = refl;
    };
    again = λ n. absurd (true≢false (sym c.4 ∙ n));
  }

  pub turn_broken : (w : ListView) → CameOn z (started walk) (source_place z u.known walk.at Left) first u w Broken
      → TurnsTo z walk (back_of walk) v w Lost
  turn_broken w c = record {
    goes = record {
      own = l.own;
      turned = turned_rest 1 w c.0 c.2;
      walks = again_walk z w.known walk is.low is.home c.1;
      under_way = refl;
    };
    again = λ _. (refl, c.1.empty);
  }

  lower_v : lower_of u.known walk.at ≡ lower_of v.known walk.at
  lower_v = ap (λ (q : ListPass). lower_of q walk.at) known_u

  pub turn_anchors : (i : ℕ) (w : ListView) → CameOn z (started walk) (source_place z u.known walk.at Left) first u w (Anchors i)
      → TurnsTo z walk (anchored_at i (started walk)) v w On
  turn_anchors i w c = record {
    goes = record {
      own = l.own;
      turned = turned_rest 0 w c.0 c.2;
      walks = record {
        low = is.low;
        home = is.home;
        under = (
          c.1.walks,
          sym c.1.nothing.first,
          ap (λ (cs : List Rattle.pp_lists.specs.declared.own.Gathered.Gathered). min (length cs) most)
              (sym c.1.nothing.chain),
        );
      };
      under_way = refl;
    };
    rises = subst (λ (n : ℕ). n < lower_of w.known (Word i)) lower_v c.3;
    low = c.4;
  }

  pub turn_gathers : (i : ℕ) (w : ListView) → CameOn z (started walk) (source_place z u.known walk.at Left) first u w (Gathers i)
      → TurnsTo z walk (gathered_at i (started walk)) v w On
  turn_gathers i w c = record {
    goes = record {
      own = l.own;
      turned = turned_rest 0 w c.0 c.2;
      walks = record { low = is.low; home = is.home; under = (c.1.walks, first_on, counts_on) };
      under_way = refl;
    };
    rises = subst (λ (n : ℕ). n < lower_of w.known (Word i)) lower_v c.3;
    low = c.4;
  }
    where
      chains : Chains u.known walk.anchor
      chains = chains_of u.known walk.at walk.anchor walks_u.gathered

      pick : (f : ℕ) → f ≤ 5 → cond (nat_eq f 5) i f ≡ cond (nat_lt f 5) f i
      pick f le = dite (ℕ_discrete f 5)
          (λ e. ap (λ (b : Bool). cond b i f) (eq-eqb f 5 e) ∙ sym (ap (λ (b : Bool). cond b f i) (ap (λ (x : ℕ). nat_lt x 5) e)))
          (λ ne. ap (λ (b : Bool). cond b i f) (Rattle.std.proofs.Common.ne_eqb f 5 ne)
          ∙ sym (ap (λ (b : Bool). cond b f i) (Rattle.std.proofs.lemmas.Bool.lt-ltb f 5 (omega arith))))

      first_on : cond (nat_eq walk.first 5) i walk.first ≡ w.known.own.first
      first_on = ap (λ (f : ℕ). cond (nat_eq f 5) i f) gathered_u ∙ (pick u.known.own.first chains.few ∙ sym c.1.first)

      counts_on : min (walk.chain + 1) most ≡ min (length w.known.own.chain) most
      counts_on = let a = counts_u in let b = c.1.longer in omega arith

  -- It ended at the record in the walk word i.
  pub turn_ends : (i key link n : ℕ) (equal marked : Bool) (w : ListView)
      → CameOn z (started walk) (source_place z u.known walk.at Left) first u w (Ends i key link) → n ≡ (slot w.known i).named
      → n < 4294967296
      → equal ≡ nat_eq key (key_of walk.call) → marked ≡ nat_eq (flag_bit link) 1
      → Arrives z walk (finding (started walk) w.known n i equal marked) v w
  unfolding turned_end
  turn_ends i key link n equal marked w c number small same marks = let last : ListView = c.1.0 in let e = c.1.1.1 in
      let s = e.stopped in record {
        own = l.own;
        calls = e.calls;
        turned = turned_end walk.call walk.anchor i key link last w c.0 c.1.1.0 e;
        found = found_there z w.known walk.call (started walk) i key link n equal marked s number small same
            (λ no. marks ∙ Rattle.std.proofs.Common.ne_eqb (flag_bit link) 1 (λ f. let plain = s.unmarked no in omega arith))
            (gathered_u ∙ sym e.gathered.first)
            (counts_u ∙ ap (λ (cs : List Rattle.pp_lists.specs.declared.own.Gathered.Gathered). min (length cs) most)
            (sym e.gathered.chain));
        answers = subst (λ (a : Option ℕ). Answers l.own a e.calls w)
            (found_is w.known walk.call (started walk) i key link n equal marked s.key_is same marks)
            (subst (λ (o : ListOwn). Answers o (found_at (key_of walk.call) (slot w.known i).key
            (slot w.known i).value link) e.calls w) own_u e.answers);
        end_is = plain_target n ∙ (number ∙ c.2);
        anchor_is = refl;
      }

-- It ended at nil, by its first load.
pub turn_nil : (z : Sizes) (walk : Walk) (first : ℕ) (v u : ListView) → IsWalk z v.known walk → LoadsFirst z walk first v u → IsNil first
    → Arrives z walk (finding (started walk) u.known 0 0 false false) v u
unfolding trod_of
turn_nil z walk first v u is l nil = by (changes (reply_at l.own.call None)) refl
  where
    q0 : ListPass
    q0 = with_own l.own v.known

    walks_0 : Walking z (with_own l.own v.known) walk.call walk.at walk.anchor
    walks_0 = l.walks (with_own l.own v.known) refl refl refl

    -- whatever was placed, if the list's part is the same but for whether the call walks
    made_so : (calls : List Placed) (then : ListOwn) → MadeStep load_step (source_place z v.known walk.at Left) first first [] calls
        (with_own then v.known) v u
        → SameCallOf l.own then → then.first ≡ l.own.first → then.chain ≡ l.own.chain → then.at ≡ l.own.at → Answers l.own None calls u
        → (HasOwn u.order → StandsThen v → StandsThen u) → Arrives z walk (finding (started walk) u.known 0 0 false false) v u
    made_so calls then made same same_first same_chain same_at answers stands = let place : ℕ = source_place z v.known walk.at Left in
        let known : u.known ≡ with_own then v.known = known_after load_step place first first [] calls (with_own then v.known) v u made in
        let each : (j : ℕ) → slot u.known j ≡ slot v.known j = (λ j. ap (λ (q : ListPass). slot q j) known) in
        let own : u.known.own ≡ then = ap (λ (q : ListPass). q.own) known in
        let first_is : u.known.own.first ≡ l.own.first = ap (λ (o : ListOwn). o.first) own ∙ same_first in
        let chain_is : u.known.own.chain ≡ l.own.chain = ap (λ (o : ListOwn). o.chain) own ∙ same_chain in
        let chains = chains_of (with_own l.own v.known) walk.at walk.anchor walks_0.gathered in
        let one = strand_one load_step place first first [] calls (with_own then v.known) v u made refl in record {
          own = l.own;
          calls = calls;
          turned = record {
            from = l.from;
            same = subst (λ (o : ListOwn). SameCallOf l.own o) (sym own) same;
            rest = subst (λ (q : ListPass). SameRest v.known q) (sym known)
                record { number = refl; sizes = refl; owned = refl; retired_are = refl; frontier = refl; chains = refl; scan = refl };
            trod = trod_of 0 (loads place first ∷ []) calls v u one (omega arith)
                (λ sizes earlier. load_valid sizes earlier place first [] nil.0 ∙ finds_none sizes (loads place first ∷ earlier))
                (writes_one (loads place first) [] refl writes_none);
            first = first;
            behind = [];
            steps_are = refl;
            why = λ lost. absurd (lost refl);
            some_next = λ lost _. lost refl;
            names = λ j five on. inr (ap (λ (s : WalkSlot). s.held) (sym (each j)) ∙ on, ap (λ (s : WalkSlot). s.named) (each j));
            stands = stands;
          };
          found = found_nil z u.known walk.call (started walk) (ap (λ (o : ListOwn). o.call) own ∙ (same.call ∙ l.call_is))
              (anchor_on z (with_own l.own v.known) u.known (key_of walk.call) walk.anchor (λ j _. each j) walks_0.anchored)
              record {
                none = λ e. chain_is ∙ chains.none (sym first_is ∙ e);
                few = subst (λ (f : ℕ). f ≤ 5) (sym first_is) chains.few;
                first_held = λ lt. ap (λ (s : WalkSlot). s.held) (ap (slot u.known) first_is ∙ each l.own.first)
                    ∙ chains.first_held (subst (λ (f : ℕ). f < 5) first_is lt);
                some_chain = λ lt e. chains.some_chain (subst (λ (f : ℕ). f < 5) first_is lt) (sym chain_is ∙ e);
                first_apart = λ lt e. chains.first_apart (subst (λ (f : ℕ). f < 5) first_is lt) (e ∙ ap Word first_is);
              }
              (λ lt. subst (λ (s : WalkSlot). Joined s.named u.known.own.chain 0) (sym (ap (slot u.known) first_is ∙ each l.own.first))
              (subst (λ (cs : List Rattle.pp_lists.specs.declared.own.Gathered.Gathered). Joined (slot v.known l.own.first).named cs 0)
              (sym chain_is)
              (subst (λ (n : ℕ). Joined (slot v.known l.own.first).named l.own.chain n) nil.1
              (l.leads (subst (λ (f : ℕ). f < 5) first_is lt)))))
              (λ look. first_is ∙ walks_0.looks look)
              (λ j lt x y t. subst IsEmpty (sym (each j)) (empty_0 j lt x (λ e. y (e ∙ sym first_is))
              (λ e. t (e ∙ sym (ap (λ (o : ListOwn). o.at) own ∙ same_at)))))
              (l.gathered ∙ sym first_is)
              (l.counts ∙ ap (λ (cs : List Rattle.pp_lists.specs.declared.own.Gathered.Gathered). min (length cs) most) (sym chain_is));
          answers = answers;
          end_is = plain_target 0 ∙ sym nil.1;
          anchor_is = refl;
        }
      where
        empty_0 : (j : ℕ) → j < 5 → Word j ≢ walk.anchor → j ≢ l.own.first → j ≢ l.own.at → IsEmpty (slot v.known j)
        empty_0 j lt x y t = walks_0.empty j lt (λ e. at_other walk.at e walks_0.stands) x y
          where
            at_other : (p : Place) → Word j ≡ p → StandsOn z (with_own l.own v.known) (key_of walk.call) p → ⊥
            at_other (Head h) e s = (let f : Word j ≡ Head h = e in cc)
            at_other (Word i) e s = let f : j ≡ i = (let g : Word j ≡ Word i = e in cc) in t (f ∙ sym s.2)

    by : (b : Bool) → changes (reply_at l.own.call None) ≡ b → Arrives z walk (finding (started walk) u.known 0 0 false false) v u
    by false c = let s = (l.reached.ended nil).0 c in
        made_so (Rattle.pp_model.specs.MapCalls.placed l.own.call (reply_at l.own.call None) s.at ∷ []) (resting l.own) s.made
        record { call = refl; start = refl; left = refl } refl refl refl record {
          settled = λ _. (
            ap (λ (q : ListPass). q.own.going) (known_after load_step (source_place z v.known walk.at Left) first first []
                (Rattle.pp_model.specs.MapCalls.placed l.own.call (reply_at l.own.call None) s.at ∷ [])
                (with_own (resting l.own) v.known) v u s.made),
            record {
              at = s.at;
              since = s.since;
              within = s.within;
              right = s.right;
              least = s.least;
              calls_are = refl;
              stands = s.stands;
            },
          );
          goes_on = λ d. absurd (true≢false (sym d ∙ c));
        } (λ own st. s.stands)
    by true c = let s = (l.reached.ended nil).1 c in let made = s.0 in
        made_so [] l.own made (same_self l.own) refl refl refl record {
          settled = λ d. absurd (true≢false (sym c ∙ d));
          goes_on = λ _. (
            ap (λ (q : ListPass). q.own.going) (known_after load_step (source_place z v.known walk.at Left) first first [] []
                (with_own l.own v.known) v u made) ∙ walks_0.going,
            refl,
            s.1,
          );
        } (λ own st. stands_one v u made refl own st)
