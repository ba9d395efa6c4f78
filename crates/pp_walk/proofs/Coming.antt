-- A try to hold the next record, over its steps.
use Rattle.std.proofs.Common.{◌≡◌, ◌≢◌, inl, inr, ℕ, ◌+◌, ◌<◌, Bool, true, false, cond, nat_eq, List, [], ◌∷◌, true≢false}
use mathlib.Core.Logic.{dite}
use Rattle.std.proofs.Math.Decide.{ℕ_discrete}
use Rattle.std.proofs.Common.{length, set, refl, sym, ap, ◌∙◌, subst, arith, ne_eqb}
use Rattle.pp_link.specs.declared.layout.Sizes.{Sizes}
use Rattle.pp_link.specs.Links.{target, invalid_bit}
use Rattle.pp_link.specs.Places.{cell_place}
use Rattle.pp_model.specs.declared.Call.{Call}
use Rattle.pp_model.specs.Calls.{key_of}
use Rattle.pp_rule.specs.declared.views.WalkSlot.{WalkSlot}
use Rattle.pp_rule.specs.declared.views.Halves.{Halves}
use Rattle.pp_rule.specs.Orders.{announce_step, clear_step, confirm_step}
use Rattle.pp_rule.specs.Views.{slot, naming}
use Rattle.pp_rule.specs.Steps.{MadeQuietStep, with_walk, clearing, holding}
use Rattle.pp_rule.proofs.Put.{in_first, in_right}
use Rattle.pp_rule.proofs.Slots.{slot_here, slot_else, five_after}
use Rattle.pp_rule.proofs.Made.{known_after}
use Rattle.pp_base.specs.declared.source.Place.{Place}
use Rattle.pp_base.specs.declared.source.Place.TheVariants.{Head, Walk as Word}
use Rattle.pp_base.specs.declared.source.Side.TheVariants.{Left}
use Rattle.pp_base.specs.Sources.{source_place, IsReadable}
use Rattle.pp_base.specs.Named.{announces, confirms, clears, MadeOne}
use Rattle.pp_base.proofs.Named.{plain_one}
use Rattle.pp_lists.specs.declared.own.ListOwn.{ListOwn}
use Rattle.pp_lists.specs.Walks.{bucket, Joined}
use Rattle.pp_lists.specs.Lists.{ListPass, list_forget}
use Rattle.pp_lists.specs.Turns.{ListView, StandsAt, Came, standing}
use Rattle.pp_lists.proofs.Losing.{confirmed_finds, moved_finds}
use Rattle.pp_walk.specs.declared.walk.Walk.{Walk}
use Rattle.pp_walk.specs.Words.{IsEmpty, Cleared, SameCallOf, SameRest}
use Rattle.pp_walk.specs.Roles.{Walking, StandsOn, lower_of}
use Rattle.pp_walk.specs.Trod.{Quiet}
use Rattle.pp_walk.specs.Parts.{HoldsNext, LosesNext, word_in}
use Rattle.pp_walk.proofs.Clearing.{cleared_names}
use Rattle.pp_walk.proofs.Counting.{writes_one, writes_none, rest_idle, same_through, rest_through, rest_of}
use Rattle.pp_walk.proofs.Standing.{Standing, standing_of, standing_on, walking_on, stands_at, readable, holds_next}

-- The number of the next record is announced in the walk word w.
module _ (z : Sizes) (v v1 : ListView) (walk : Walk) (w n p : ℕ) (five : length v.known.walk ≡ 5) (low : w < 5) (ne_at : Word w ≢ walk.at)
    (ne_anchor : Word w ≢ walk.anchor) (ne_first : w ≢ v.known.own.first) (s : Walking z v.known walk.call walk.at walk.anchor)
    (announced : MadeQuietStep announce_step p n n (with_walk w (naming n) v.known) v v1) where
  known_1 : v1.known ≡ with_walk w (naming n) v.known
  known_1 = known_after announce_step p n n [] [] (with_walk w (naming n) v.known) v v1 announced

  walk_1 : v1.known.walk ≡ set v.known.walk w (naming n)
  walk_1 = ap (λ (q : ListPass). q.walk) known_1

  own_1 : v1.known.own ≡ v.known.own
  own_1 = ap (λ (q : ListPass). q.own) known_1

  five_1 : length v1.known.walk ≡ 5
  five_1 = five_after v.known v1.known w (naming n) walk_1 five

  else_1 : (j : ℕ) → j ≢ w → slot v1.known j ≡ slot v.known j
  else_1 j ne = slot_else v.known v1.known w (naming n) walk_1 j ne

  here_1 : slot v1.known w ≡ naming n
  here_1 = slot_here v.known v1.known w (naming n) walk_1 (omega arith)

  sizes_1 : v1.known.sizes ≡ v.known.sizes
  sizes_1 = ap (λ (q : ListPass). q.sizes) known_1

  pub free_1 : (slot v1.known w).held ≡ false
  free_1 = ap (λ (s : WalkSlot). s.held) here_1

  pub named_1 : (slot v1.known w).named ≡ n
  named_1 = ap (λ (s : WalkSlot). s.named) here_1

  pub going_1 : v1.known.own.going ≡ true
  going_1 = ap (λ (o : ListOwn). o.going) own_1 ∙ s.going

  standing_1 : Standing z v1.known walk.call walk.at walk.anchor
  standing_1 = standing_on z v.known v1.known walk.call walk.at walk.anchor w
      (standing_of z v.known walk.call walk.at walk.anchor s) ne_at ne_anchor
      ne_first else_1 (ap (λ (o : ListOwn). o.going) own_1) (ap (λ (o : ListOwn). o.call) own_1) (ap (λ (o : ListOwn). o.first) own_1)
      (ap (λ (o : ListOwn). o.chain) own_1) (λ i e _. ap (λ (o : ListOwn). o.at) own_1 ∙ e)

  pub stands_1 : StandsAt z v1.known (key_of v1.known.own.call) (source_place z v1.known walk.at Left)
  stands_1 = stands_at z v1.known walk.call walk.at walk.anchor standing_1

  pub readable_1 : IsReadable 1 z v1.known walk.at Left
  readable_1 = readable z v1.known walk.call walk.at walk.anchor standing_1

  place_1 : source_place z v1.known walk.at Left ≡ source_place z v.known walk.at Left
  place_1 = by walk.at ne_at
    where
      by : (at : Place) → Word w ≢ at → source_place z v1.known at Left ≡ source_place z v.known at Left
      by (Head h) ne = refl
      by (Word i) ne = ap (λ (s : WalkSlot). cell_place z s.named 2) (else_1 i (λ e. ne (ap Word (sym e))))

  did_1 : MadeOne (announces p n) v v1
  did_1 = plain_one (announces p n) (with_walk w (naming n) v.known) v v1 refl refl announced

  rest_1 : SameRest v.known v1.known
  rest_1 = rest_of v.known v1.known (known_1 ∙ ap₂_walk)
    where
      ap₂_walk : with_walk w (naming n) v.known ≡ record v.known { walk = v1.known.walk; own = v1.known.own }
      ap₂_walk = ap (λ (ws : List WalkSlot). record v.known { walk = ws }) (sym walk_1)
          ∙ ap (λ (o : ListOwn). record v.known { walk = v1.known.walk; own = o }) (sym own_1)

  same_1 : SameCallOf v.known.own v1.known.own
  same_1 = record {
    call = ap (λ (o : ListOwn). o.call) own_1;
    start = ap (λ (o : ListOwn). o.start) own_1;
    left = ap
        (λ (o : ListOwn). o.left) own_1;
  }

  -- The link is as it was, and all words without a role are cleared.
  module _ (v2 u : ListView) (place first found : ℕ) (sizes_v : v.known.sizes ≡ z) (n_is : n ≡ target first)
      (place_is : place ≡ source_place z v1.known walk.at Left) (came : Came w first found place v1 v2) (hit : found ≡ first)
      (valid : invalid_bit first ≡ 0)
      (leads : v.known.own.first < 5 → Joined (slot v.known v.known.own.first).named v.known.own.chain (target first)) where
    abbrev key : ℕ
    key = (came.same hit).0

    abbrev value : Halves
    value = (came.same hit).1.0

    known_2 : v2.known ≡ standing w (target first) key value v1.known
    known_2 = known_after confirm_step place found found [] [] (standing w (target first) key value v1.known) v1 v2 (came.same hit).1.2

    walk_2 : v2.known.walk ≡ set v1.known.walk w (holding (target first) key value)
    walk_2 = ap (λ (q : ListPass). q.walk) known_2

    own_2 : v2.known.own ≡ record v.known.own { at = w }
    own_2 = ap (λ (q : ListPass). q.own) known_2 ∙ ap (λ (o : ListOwn). record o { at = w }) own_1

    here_2 : slot v2.known w ≡ holding (target first) key value
    here_2 = slot_here v1.known v2.known w (holding (target first) key value) walk_2 (let five = five_1 in omega arith)

    else_2 : (j : ℕ) → j ≢ w → slot v2.known j ≡ slot v.known j
    else_2 j ne = slot_else v1.known v2.known w (holding (target first) key value) walk_2 j ne ∙ else_1 j ne

    home : bucket z.heads key ≡ bucket z.heads (key_of walk.call)
    home = ap (λ (y : Sizes). bucket y.heads key) (sym (sizes_1 ∙ sizes_v)) ∙ ((came.same hit).1.1
        ∙ (ap (λ (y : Sizes). bucket y.heads (key_of v1.known.own.call)) (sizes_1 ∙ sizes_v)
        ∙ ap (λ (c : Call). bucket z.heads (key_of c)) (ap (λ (o : ListOwn). o.call) own_1 ∙ s.call_is)))

    rises_2 : lower_of v.known walk.at < (slot v2.known w).key + 1
    rises_2 = by walk.at ne_at s.stands place_is
      where
        by : (at : Place) → Word w ≢ at → StandsOn z v.known (key_of walk.call) at → place ≡ source_place z v1.known at Left
            → lower_of v.known at < (slot v2.known w).key + 1
        by (Head h) ne x e = omega arith
        by (Word j) ne x e = let still : slot v1.known j ≡ slot v.known j = else_1 j (λ y. ne (ap Word (sym y))) in
            let at_1 : v1.known.own.at ≡ j = ap (λ (o : ListOwn). o.at) own_1 ∙ x.2 in
            let up : (slot v1.known v1.known.own.at).key < (slot v2.known w).key = came.rises hit (subst (λ (k : ℕ). k < 5) (sym at_1) x.0)
            (e ∙ (ap (λ (y : Sizes). cell_place y (slot v1.known j).named 2) (sym (sizes_1 ∙ sizes_v))
            ∙ ap (λ (k : ℕ). cell_place v1.known.sizes (slot v1.known k).named 2) (sym at_1))) in
            let low_key : (slot v1.known v1.known.own.at).key ≡ (slot v.known j).key = ap (λ (k : ℕ). (slot v1.known k).key) at_1
            ∙ ap (λ (x : WalkSlot). x.key) still in omega arith

    pub holds_made : Cleared (word_in walk.anchor) v.known.own.first w v2.known u.known → Quiet 0 v2 u
        → HoldsNext z walk w (source_place z v.known walk.at Left) first v u
    holds_made c idles = record {
      holds = holds_next z v.known v2.known u.known walk.call walk.at walk.anchor w
          (target first) key value s low ne_anchor ne_first here_2 else_2 own_2
          home leads c;
      rises = subst (λ (x : WalkSlot). lower_of v.known walk.at < x.key + 1) (sym (c.kept w (Rattle.pp_walk.proofs.Clearing.kept_is
          (word_in walk.anchor) v.known.own.first w w (inr (inr refl))))) rises_2;
      gathered = (let g = c.gathered (Rattle.pp_walk.proofs.Clearing.kept_is (word_in walk.anchor) v.known.own.first w v2.known.own.first
          (inr (inl (ap (λ (o : ListOwn). o.first) own_2)))) in
          record { first = g.0 ∙ ap (λ (o : ListOwn). o.first) own_2; chain = g.1 ∙ ap (λ (o : ListOwn). o.chain) own_2 });
      same = same_through v.known.own v2.known.own u.known.own record {
        call = ap (λ (o : ListOwn). o.call) own_2;
        start = ap (λ (o : ListOwn). o.start) own_2;
        left = ap (λ (o : ListOwn). o.left) own_2;
      } c.same;
      rest = rest_through v.known v2.known u.known (rest_through v.known v1.known v2.known rest_1
          (subst (λ (q : ListPass). SameRest v1.known q) (sym known_2)
          record { number = refl; sizes = refl; owned = refl; retired_are = refl; frontier = refl; chains = refl; scan = refl })) c.rest;
      turn = rest_idle z 0 (source_place z v.known walk.at Left) first v v2 u record {
        steps = announces p (target first) ∷ confirms (source_place z v.known walk.at Left) first ∷ [];
        did = (
          v1,
          (
            subst (λ (m : ℕ). MadeOne (announces p m) v v1) n_is did_1,
            (
              v2,
              (
                subst (λ (k : ℕ). MadeOne (confirms k first) v1 v2) (place_is ∙ place_1)
                    (subst (λ (x : ℕ). MadeOne (confirms place x) v1 v2) hit
                    (plain_one (confirms place found) (standing w (target first) key value v1.known) v1 v2 refl refl (came.same hit).1.2)),
                refl,
              ),
            ),
          ),
        );
        loses = λ sizes earlier. confirmed_finds sizes earlier (source_place z v.known walk.at Left) first (target first) p valid;
        writes = writes_one (announces p (target first)) (confirms (source_place z v.known walk.at Left) first ∷ []) refl
            (writes_one (confirms (source_place z v.known walk.at Left) first) [] refl writes_none);
        why = λ lost. absurd (lost refl);
      } idles;
      named = ap (λ (x : WalkSlot). x.named) (c.kept w (Rattle.pp_walk.proofs.Clearing.kept_is
          (word_in walk.anchor) v.known.own.first w w (inr (inr refl)))) ∙ ap (λ (x : WalkSlot). x.named) here_2;
      names = λ j five on. (let was = cleared_names (word_in walk.anchor) v.known.own.first w v2.known u.known c j five on in
          dite (ℕ_discrete j w)
          (λ e. inl (was.1 ∙ ap (λ (x : WalkSlot). x.named) (ap (slot v2.known) e ∙ here_2)))
          (λ ne. inr (ap (λ (x : WalkSlot). x.held) (sym (else_2 j ne)) ∙ was.0, was.1 ∙ ap (λ (x : WalkSlot). x.named) (else_2 j ne))));
    }

  -- The link is another one, and the walk word is cleared again.
  module _ (v2 v3 : ListView) (place first found : ℕ) (n_is : n ≡ target first) (place_is : place ≡ source_place z v1.known walk.at Left)
      (came : Came w first found place v1 v2) (miss : found ≢ first) (valid : invalid_bit first ≡ 0)
      (cleared : MadeQuietStep clear_step p 0 0 (clearing list_forget w v2.known) v2 v3) where
    known_m : v2.known ≡ v1.known
    known_m = known_after confirm_step place found found [] [] v1.known v1 v2 (came.other miss)

    known_3 : v3.known ≡ clearing list_forget w v2.known
    known_3 = known_after clear_step p 0 0 [] [] (clearing list_forget w v2.known) v2 v3 cleared

    walk_3 : v3.known.walk ≡ set v1.known.walk w (naming 0)
    walk_3 = ap (λ (q : ListPass). q.walk) known_3 ∙ ap (λ (q : ListPass). set q.walk w (naming 0)) known_m

    own_3 : v3.known.own ≡ list_forget w v.known.own
    own_3 = ap (λ (q : ListPass). q.own) known_3 ∙ (ap (λ (q : ListPass). list_forget w q.own) known_m ∙ ap (list_forget w) own_1)

    else_3 : (j : ℕ) → j ≢ w → slot v3.known j ≡ slot v.known j
    else_3 j ne = slot_else v1.known v3.known w (naming 0) walk_3 j ne ∙ else_1 j ne

    empty_3 : IsEmpty (slot v3.known w)
    empty_3 = let here = slot_here v1.known v3.known w (naming 0) walk_3 (let five = five_1 in omega arith) in
        record { named = ap (λ (s : WalkSlot). s.named) here; free = ap (λ (s : WalkSlot). s.held) here }

    first_3 : v3.known.own.first ≡ v.known.own.first
    first_3 = ap (λ (o : ListOwn). o.first) own_3 ∙ ap (λ (b : Bool). cond b 5 v.known.own.first)
        (ne_eqb v.known.own.first w (λ e. ne_first (sym e)))

    chain_3 : v3.known.own.chain ≡ v.known.own.chain
    chain_3 = ap (λ (o : ListOwn). o.chain) own_3 ∙ ap (λ (b : Bool). cond b [] v.known.own.chain)
        (ne_eqb v.known.own.first w (λ e. ne_first (sym e)))

    standing_3 : Standing z v3.known walk.call walk.at walk.anchor
    standing_3 = standing_on z v.known v3.known walk.call walk.at walk.anchor w
        (standing_of z v.known walk.call walk.at walk.anchor s) ne_at ne_anchor
        ne_first else_3 (ap (λ (o : ListOwn). o.going) own_3) (ap (λ (o : ListOwn). o.call) own_3) first_3 chain_3
        (λ i e ne. ap (λ (o : ListOwn). o.at) own_3 ∙ (ap (λ (a : ℕ). cond (nat_eq a w) 5 a) e ∙ ap (λ (b : Bool). cond b 5 i)
        (ne_eqb i w ne)))

    pub loses_made : LosesNext z walk (source_place z v.known walk.at Left) first v v3
    loses_made = record {
      walks = walking_on z v.known v3.known walk.call walk.at walk.anchor w s standing_3 empty_3 else_3 first_3;
      gathered = record { first = first_3; chain = chain_3 };
      same = record {
        call = ap (λ (o : ListOwn). o.call) own_3;
        start = ap (λ (o : ListOwn). o.start) own_3;
        left = ap
            (λ (o : ListOwn). o.left) own_3;
      };
      rest = rest_through v.known v1.known v3.known rest_1 (rest_through v1.known v2.known v3.known
          (subst (λ (q : ListPass). SameRest v1.known q) (sym known_m) (Rattle.pp_walk.proofs.Counting.rest_self v1.known))
          (subst (λ (q : ListPass). SameRest v2.known q) (sym known_3)
          record { number = refl; sizes = refl; owned = refl; retired_are = refl; frontier = refl; chains = refl; scan = refl }));
      turn = record {
        steps = announces p (target first) ∷ confirms (source_place z v.known walk.at Left) found ∷ clears p ∷ [];
        did = (
          v1,
          (
            subst (λ (m : ℕ). MadeOne (announces p m) v v1) n_is did_1,
            (
              v2,
              (
                subst (λ (k : ℕ). MadeOne (confirms k found) v1 v2) (place_is ∙ place_1)
                    (plain_one (confirms place found) v1.known v1 v2 refl refl (came.other miss)),
                (v3, (plain_one (clears p) (clearing list_forget w v2.known) v2 v3 refl refl cleared, refl)),
              ),
            ),
          ),
        );
        loses = λ sizes earlier. moved_finds sizes earlier (source_place z v.known walk.at Left) first found (target first) p p valid miss;
        writes = writes_one (announces p (target first)) (confirms (source_place z v.known walk.at Left) found ∷ clears p ∷ []) refl
            (writes_one (confirms (source_place z v.known walk.at Left) found) (clears p ∷ []) refl
            (writes_one (clears p) [] refl writes_none));
        why = λ _. inr (inr record {
          step = confirms (source_place z v.known walk.at Left) found;
          inside = in_right (confirms (source_place z v.known walk.at Left) found) (announces p (target first) ∷ [])
              (confirms (source_place z v.known walk.at Left) found ∷ clears p ∷ [])
              (in_first (confirms (source_place z v.known walk.at Left) found) (clears p ∷ []));
          again = refl;
          at = refl;
          other = miss;
        });
      };
      names = λ j five on. dite (ℕ_discrete j w)
          (λ e. absurd (true≢false (sym on ∙ (ap (λ (k : ℕ). (slot v3.known k).held) e ∙ empty_3.free))))
          (λ ne. (ap (λ (x : WalkSlot). x.held) (sym (else_3 j ne)) ∙ on, ap (λ (x : WalkSlot). x.named) (else_3 j ne)));
    }
