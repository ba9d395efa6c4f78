-- A link of a head or of an attached record gets a word that leads to a private record: the record is published.
use Rattle.std.proofs.Common.{◌≡◌, ◌≢◌, ◌⊎◌, ℕ, zero, suc, ◌+◌, ◌<◌, true, List, [], ◌∷◌, ◌++◌, length, get_or, set}
use Rattle.std.proofs.Common.{refl, sym, ap, ap₂, ◌∙◌, subst, inl, inr, ⊎_elim, arith}
use Rattle.std.proofs.lemmas.List.{length-set}
use Rattle.std.proofs.Math.Decide.{ℕ_discrete}
use mathlib.Core.Logic.{dite}
use mathlib.Core.Option.{some, some-ne-none, some-injective}
use lib.ListN.{get_elem?}
use Rattle.pp_link.specs.declared.layout.Sizes.{Sizes}
use Rattle.pp_link.specs.Links.{target, invalid_bit}
use Rattle.pp_link.specs.Places.{IsNumber, head_place, cell_place}
use Rattle.pp_link.specs.Words.{frontier_word, shelf_word, head_word, cell_word}
use Rattle.pp_rule.specs.Lists.{IsIn, OnceBy, Once, remove_at}
use Rattle.pp_rule.specs.Orders.{LoggedStep}
use Rattle.pp_rule.specs.Views.{halves, WalkSlot, blank, PrivateRecord, PassState, slot}
use Rattle.pp_rule.specs.States.{RecordState, attached, in_hand, retired, owned, shelved, IsUsed, IsStateIn, PoolState}
use Rattle.pp_rule.specs.States.{IsSmall, Keeps, SameTarget, Leads, Leaves, Held}
use Rattle.pp_rule.specs.Rule.{number_of, Numbers, PrivateWords, Hazards, Links, Shelves, Chains, Scans, Base}
use Rattle.pp_rule.specs.Changes.{Gives, Publishes}
use Rattle.pp_rule.proofs.Put.{put, put_here, put_else, put_each, in_nil}
use Rattle.pp_rule.proofs.Without.{once_tail, once_head, once_cons}
use Rattle.pp_rule.proofs.FreeLinks.{LinkStored, link_stored}
use Rattle.pp_rule.proofs.Stepping.{after_step}
use Rattle.pp_rule.proofs.Chained.{leaves_on}
use Rattle.pp_rule.proofs.Frames.{SameUsed, content_used, same_content, reads_after, shelves_after, hazards_after, chains_after}
use Rattle.pp_rule.proofs.Frames.{Unscanned, scans_after}

module _ {A : Type 0} where
  -- what a list has without its entry at an index stood in it at another
  pub removed_in : (i : ℕ) (xs : List A) (y : A) → IsIn y (remove_at i xs) → (k : ℕ) × ((k ≢ i) × (get_elem? xs k ≡ some y))
  removed_in i [] y at = absurd (in_nil y at)
  removed_in zero (x ∷ xs) y (k, at) = (suc k, (λ (e : suc k ≡ 0). absurd (omega arith), at))
  removed_in (suc i) (x ∷ xs) y (zero, at) = (0, (λ (e : 0 ≡ suc i). absurd (omega arith), at))
  removed_in (suc i) (x ∷ xs) y (suc k, at) = let was = removed_in i xs y (k, at) in let other = was.1.0 in
      (suc was.0, (λ (e : suc was.0 ≡ suc i). other (omega arith), was.1.1))

  -- each entry at another index stays
  pub in_removed : (i : ℕ) (xs : List A) (k : ℕ) (y : A) → get_elem? xs k ≡ some y → k ≢ i → IsIn y (remove_at i xs)
  in_removed i [] k y at other = absurd (some-ne-none y (sym at))
  in_removed zero (x ∷ xs) zero y at other = absurd (other refl)
  in_removed zero (x ∷ xs) (suc k) y at other = (k, at)
  in_removed (suc i) (x ∷ xs) zero y at other = (0, at)
  in_removed (suc i) (x ∷ xs) (suc k) y at other = let on = in_removed i xs k y at (λ e. other (ap suc e)) in (suc on.0, on.1)

  pub once_removed : (f : A → ℕ) (i : ℕ) (xs : List A) → OnceBy f xs → OnceBy f (remove_at i xs)
  once_removed f i [] once = once
  once_removed f zero (x ∷ xs) once = once_tail f x xs once
  once_removed f (suc i) (x ∷ xs) once = once_cons f x (remove_at i xs)
      (λ y at same. let was = removed_in i xs y at in once_head f x xs once y (was.0, was.1.1) same)
      (once_removed f i xs (once_tail f x xs once))

module _ {E A W : Type 0} (sides : ℕ) (z : Sizes) (words : List ℕ) (g : PoolState E A W) (q q' : PassState W) (i : ℕ) (d : PrivateRecord)
    (place value : ℕ) (b : Base sides z words g) (pass : q.number < z.passes) (is : g.of q.number ≡ q) (at : get_elem? q.owned i ≡ some d)
    (gives : Gives i q q') (p : Publishes sides z words g d.number place value) where
  abbrev new : List ℕ
  new = set words place value

  -- the passes and the states after the step
  abbrev passes : ℕ → PassState W
  passes = put g.of q.number q'

  abbrev states : ℕ → RecordState
  states = put g.status d.number attached

  at_was : get_elem? (g.of q.number).owned i ≡ some d
  at_was = ap (λ (v : PassState W). get_elem? v.owned i) is ∙ at

  -- the record was private to the pass
  was_private : IsNumber z d.number × (g.status d.number ≡ owned q.number)
  was_private = b.numbers.owned_to q.number d pass (i, at_was)

  published : states d.number ≡ attached
  published = put_here g.status d.number attached

  -- a state that isn't that of the record stays, and one but attached was so
  stays_state : (n : ℕ) (s : RecordState) → g.status n ≡ s → s ≢ owned q.number → states n ≡ s
  stays_state n s state ne = put_else g.status d.number attached n (λ e. ne (sym state ∙ (ap g.status e ∙ was_private.1))) ∙ state

  was_state : (n : ℕ) (s : RecordState) → states n ≡ s → s ≢ attached → (n ≢ d.number) × (g.status n ≡ s)
  was_state n s state ne = let other : n ≢ d.number = λ e. ne (sym state ∙ (ap states e ∙ published)) in
      (other, sym (put_else g.status d.number attached n other) ∙ state)

  used_on : (n : ℕ) → IsUsed (g.status n) → IsUsed (states n)
  used_on = put_each (λ (n : ℕ) (s : RecordState). IsUsed (g.status n) → IsUsed s) g.status d.number attached (λ used. tt)
      (λ n other used. used)

  -- the words after the step
  stored : LinkStored z words g place value
  stored = link_stored z words g place value b.wide p.place_is

  hand_link : (n side r j : ℕ) → IsNumber z n → side < sides → g.status n ≡ in_hand r j
      → cell_word new z n (2 + side) ≡ cell_word words z n (2 + side)
  hand_link n side r j number lt state = let most = b.two in stored.unattached n (2 + side) (in_hand r j) number (omega arith) state
      (λ (e : in_hand r j ≡ attached). absurd cc)

  -- what the pass still owns, it owned, and it is another record
  was_owned : (r : ℕ) (e : PrivateRecord) → r < z.passes → IsIn e (passes r).owned → IsIn e (g.of r).owned × (e.number ≢ d.number)
  was_owned r e = put_each (λ (r : ℕ) (v : PassState W). r < z.passes → IsIn e v.owned → IsIn e (g.of r).owned × (e.number ≢ d.number))
      g.of q.number q'
      (λ low mine. let was = removed_in i q.owned e (subst (λ (l : List PrivateRecord). IsIn e l) gives.owned mine) in
      let old : get_elem? (g.of q.number).owned was.0 ≡ some e = ap (λ (v : PassState W). get_elem? v.owned was.0) is ∙ was.1.1 in
      ((was.0, old), λ same. was.1.0 (b.numbers.owned_once q.number low was.0 i e d old at_was same)))
      (λ r other low his. (
        his,
        λ same. let bad : owned r ≡ owned q.number = sym (b.numbers.owned_to r e low his).1
            ∙ (ap g.status same ∙ was_private.1) in other cc,
      )) r

  -- each other record stays with its pass
  still_owned : (r : ℕ) (e : PrivateRecord) → IsIn e (g.of r).owned → e.number ≢ d.number → IsIn e (passes r).owned
  still_owned r e = put_each (λ (r : ℕ) (v : PassState W). IsIn e (g.of r).owned → e.number ≢ d.number → IsIn e v.owned) g.of q.number q'
      (λ mine differ. let old : get_elem? q.owned mine.0 ≡ some e =
      ap (λ (v : PassState W). get_elem? v.owned mine.0) (sym is) ∙ mine.1 in
      subst (λ (l : List PrivateRecord). IsIn e l) (sym gives.owned) (in_removed i q.owned mine.0 e old
      (λ k. differ (ap (λ (c : PrivateRecord). c.number)
      (some-injective e d (sym old ∙ (ap (λ (j : ℕ). get_elem? q.owned j) k ∙ at)))))))
      (λ r other his differ. his) r

  same_retired : (r : ℕ) → (passes r).retired ≡ (g.of r).retired
  same_retired = put_each (λ (r : ℕ) (v : PassState W). v.retired ≡ (g.of r).retired) g.of q.number q'
      (gives.rest.retired_are ∙ ap (λ v. v.retired) (sym is)) (λ r other. refl)

  numbers_now : Numbers z passes states
  numbers_now = record {
    scope = put_each (λ (n : ℕ) (s : RecordState). IsNumber z n → IsStateIn z s) g.status d.number attached (λ number. tt)
        (λ n other number. b.numbers.scope n number);
    owned_to = λ r e low mine. let old = was_owned r e low mine in let was = b.numbers.owned_to r e low old.0 in
        (was.0, put_else g.status d.number attached e.number old.1 ∙ was.1);
    owned_from = λ r n low number state. let was = was_state n (owned r) state (λ (e : owned r ≡ attached). absurd cc) in
        let e = b.numbers.owned_from r n low number was.1 in
        (e.0, (still_owned r e.0 e.1.0 (λ same. was.0 (sym e.1.1 ∙ same)), e.1.1));
    owned_once = put_each (λ (r : ℕ) (v : PassState W). r < z.passes → OnceBy number_of v.owned) g.of q.number q'
        (λ low. subst (OnceBy number_of) (sym gives.owned) (once_removed number_of i q.owned
        (subst (λ (v : PassState W). OnceBy number_of v.owned) is (b.numbers.owned_once q.number low))))
        (λ r other low. b.numbers.owned_once r low);
    retired_to = λ r n low gone. let was = b.numbers.retired_to r n low (subst (λ (l : List ℕ). IsIn n l) (same_retired r) gone) in
        (was.0, stays_state n (retired r) was.1 (λ (e : retired r ≡ owned q.number). absurd cc));
    retired_from = λ r n low number state. subst (λ (l : List ℕ). IsIn n l) (sym (same_retired r)) (b.numbers.retired_from r n low number
        (was_state n (retired r) state (λ (e : retired r ≡ attached). absurd cc)).1);
    retired_once = λ r low. subst (λ (l : List ℕ). Once l) (sym (same_retired r)) (b.numbers.retired_once r low);
  }

  privates_now : PrivateWords z new passes
  privates_now = record {
    reads = λ r e low mine. let old = was_owned r e low mine in let was = b.numbers.owned_to r e low old.0 in
        reads_after z words new e (λ f four. stored.unattached e.number f (owned r) was.0 four was.1 (λ (e : owned r ≡ attached). absurd
        cc))
        (b.privates.reads r e low old.0);
  }

  -- A held record keeps its key, its value, and the links that were learnt of it.
  held_now : (r k : ℕ) → r < z.passes → k < 5 → (slot (g.of r) k).held ≡ true → Held z new states (slot (g.of r) k)
  held_now r k low five on = let w : WalkSlot = slot (g.of r) k in let h : Held z words g.status w = b.hazards.held r k low five on in
      record {
        number = h.number;
        used = used_on w.named h.used;
        key = stored.fields w.named 0 h.number (omega arith) ∙ h.key;
        value = ap₂ halves (stored.fields w.named 1 h.number (omega arith)) (stored.high w.named h.number) ∙ h.value;
        learnt = λ l m. let was = h.learnt l m in (
          was.0,
          subst (Keeps l.1) (sym (stored.other_cell w.named (2 + l.0) (p.place_is.unlearnt r k l low five on m))) was.1,
          was.2,
        );
      }

  same_used : SameUsed z states new new
  same_used = content_used z states new new (same_content z new)

  hazards_now : Hazards z new passes states
  hazards_now = let walk : q'.walk ≡ (g.of q.number).walk = gives.rest.walk ∙ ap (λ v. v.walk) (sym is) in
      let frontier : q'.frontier ≡ (g.of q.number).frontier = gives.rest.frontier ∙ ap (λ v. v.frontier) (sym is) in
      hazards_after z g.of q.number q' new new states same_used record {
        five = b.hazards.five;
        four = b.hazards.four;
        walks = λ r k low lt. stored.walks r k low lt ∙ b.hazards.walks r k low lt;
        frontiers = λ r j low lt. stored.frontiers r j low lt ∙ b.hazards.frontiers r j low lt;
        held = held_now;
      }
      (ap (λ (l : List WalkSlot). length l) walk ∙ b.hazards.five q.number pass)
      (ap (λ (l : List ℕ). length l) frontier ∙ b.hazards.four q.number pass)
      (λ r k low other lt. refl)
      (λ k lt. stored.walks q.number k pass lt ∙ (b.hazards.walks q.number k pass lt
      ∙ ap (λ (l : List WalkSlot). (get_or l k blank).named) (sym walk)))
      (λ r j low other lt. refl)
      (λ j lt. stored.frontiers q.number j pass lt ∙ (b.hazards.frontiers q.number j pass lt
      ∙ ap (λ (l : List ℕ). get_or l j 0) (sym frontier)))
      (λ k lt. subst (λ (l : List WalkSlot). (get_or l k blank).held ≡ true → Held z new states (get_or l k blank)) (sym walk)
      (held_now q.number k pass lt))

  -- what led on leads on still
  leads_on : (w : ℕ) → Leads z g.status w → Leads z states w
  leads_on w l = record {
    small = l.small;
    valid = l.valid;
    to = ⊎_elim inl (λ (t : IsNumber z (target w) × (g.status (target w) ≡ attached)).
        inr (t.0, stays_state (target w) attached t.1 (λ (e : attached ≡ owned q.number). absurd cc))) l.to;
  }

  -- the new word leads to the record
  new_leads : Leads z states value
  new_leads = record {
    small = p.small;
    valid = p.valid;
    to = inr (subst (λ (k : ℕ). IsNumber z k × (states k ≡ attached)) (sym p.to) (was_private.0, published));
  }

  links_now : Links sides z new states
  links_now = let most = b.two in record {
    heads = λ h low. dite (ℕ_discrete (head_place z h) place) (λ e. subst (Leads z states) (sym (stored.this_head h e)) new_leads)
        (λ ne. subst (Leads z states) (sym (stored.other_head h ne)) (leads_on (head_word words z h) (b.links.heads h low)));
    linked = λ n side number lt state. dite (ℕ_discrete (cell_place z n (2 + side)) place)
        (λ e. subst (Leads z states) (sym (stored.this_cell n (2 + side) e)) new_leads)
        (λ ne. subst (Leads z states) (sym (stored.other_cell n (2 + side) ne)) (leads_on (cell_word words z n (2 + side))
        (old_leads n side number lt state)));
    hand = λ n side r j number lt state. hand_leaves n side r j number lt
        (was_state n (in_hand r j) state (λ (e : in_hand r j ≡ attached). absurd cc)).1;
    spent = λ n side r number lt state. let was = was_state n (retired r) state (λ (e : retired r ≡ attached). absurd cc) in
        subst (λ (w : ℕ). IsSmall w × (invalid_bit w ≡ 1)) (sym (stored.unattached n (2 + side) (retired r) number (omega arith) was.1
        (λ (e : retired r ≡ attached). absurd cc))) (b.links.spent n side r number lt was.1);
  }
    where
      -- the links of the record led on before it was published
      old_leads : (n side : ℕ) → IsNumber z n → side < sides → states n ≡ attached → Leads z g.status (cell_word words z n (2 + side))
      old_leads n side number lt state = dite (ℕ_discrete n d.number)
          (λ e. subst (λ (m : ℕ). Leads z g.status (cell_word words z m (2 + side))) (sym e) (p.leads side lt))
          (λ ne. b.links.linked n side number lt (sym (put_else g.status d.number attached n ne) ∙ state))

      hand_leaves : (n side r j : ℕ) → IsNumber z n → side < sides → g.status n ≡ in_hand r j
          → Leaves z new states r j (cell_word new z n (2 + side))
      hand_leaves n side r j number lt state = let w : ℕ = cell_word words z n (2 + side) in
          let scope : (r < z.passes) × (j < 4) = subst (IsStateIn z) state (b.numbers.scope n number) in
          let l : Leaves z words g.status r j w = b.links.hand n side r j number lt state in
          subst (Leaves z new states r j) (sym (hand_link n side r j number lt state))
          (leaves_on z words new states w r j (stored.frontiers r j scope.0 scope.1) record {
            small = l.small;
            to = λ valid. ⊎_elim inl
                (λ (t : IsNumber z (target w) × ((g.status (target w) ≡ in_hand r j)
                ⊎ ((target w ≡ frontier_word words z r j) × IsUsed (g.status (target w))))). inr (
                  t.0,
                  ⊎_elim (λ (e : g.status (target w) ≡ in_hand r j). inl (stays_state (target w) (in_hand r j) e
                      (λ (same : in_hand r j ≡ owned q.number). absurd cc)))
                      (λ (u : (target w ≡ frontier_word words z r j) × IsUsed (g.status (target w))). inr
                      (u.0, used_on (target w) u.1)) t.1,
                ))
                (l.to valid);
          })

  shelves_now : Shelves z new states
  shelves_now = shelves_after z words new states (λ n j state number. subst (IsStateIn z) state (numbers_now.scope n number)) stored.shelves
      record {
        named = λ j low. ⊎_elim inl (λ (t : IsNumber z (shelf_word words z j) × (g.status (shelf_word words z j) ≡ shelved j)).
            inr (t.0, stays_state (shelf_word words z j) (shelved j) t.1 (λ (e : shelved j ≡ owned q.number). absurd cc)))
            (b.shelves.named j low);
        home = λ n j number state. b.shelves.home n j number
            (was_state n (shelved j) state (λ (e : shelved j ≡ attached). absurd cc)).1;
      }

  chains_now : Chains sides z new passes states
  chains_now = chains_after z g.of q.number q' sides new new states b.two same_used (gives.rest.chains ∙ ap (λ v. v.chains) (sym is))
      record {
        guard = b.chains.guard;
        once = b.chains.once;
        members = λ r n c low mine member. let was = b.chains.members r n c low mine member in
            (was.0, stays_state n (in_hand r c.guard) was.1 (λ (e : in_hand r c.guard ≡ owned q.number). absurd cc));
        members_once = b.chains.members_once;
        home = λ r j n low number state. b.chains.home r j n low number
            (was_state n (in_hand r j) state (λ (e : in_hand r j ≡ attached). absurd cc)).1;
        valid = λ r n side c low mine member lt. let was = b.chains.members r n c low mine member in
            subst (λ (w : ℕ). (invalid_bit w ≡ 1) ⊎ IsIn (n, side) c.valid) (sym (hand_link n side r c.guard was.0 lt was.1))
            (b.chains.valid r n side c low mine member lt);
        links = λ r c l low mine link. let was = b.chains.links r c l low mine link in
            let m = b.chains.members r l.number c low mine was.0 in
            (was.0, was.1, subst (SameTarget l.word) (sym (hand_link l.number l.side r c.guard m.0 was.1 m.1)) was.2);
      }

  scans_now : Scans sides z new passes states
  scans_now = scans_after z g.of q.number q' sides new new states b.two same_used (gives.rest.scan ∙ ap (λ v. v.scan) (sym is))
      (λ k five. subst (λ (l : List WalkSlot). (get_or l k blank).held ≡ true → Unscanned z g.of q.number q' k (get_or l k blank).named)
      (sym (gives.rest.walk ∙ ap (λ v. v.walk) (sym is)))
      (λ on r m low left read. b.scans.walks r m q.number k low left pass five read on))
      record {
        left = λ r n low gone. let was = b.scans.left r n low gone in
            (was.0, stays_state n (retired r) was.1 (λ (e : retired r ≡ owned q.number). absurd cc));
        left_once = b.scans.left_once;
        fronts = λ r n t j m side low gone read number lt state valid to.
            let was : g.status m ≡ in_hand t j = (was_state m (in_hand t j) state (λ (e : in_hand t j ≡ attached). absurd cc)).1 in
            let e = hand_link m side t j number lt was in
            b.scans.fronts r n t j m side low gone read number lt was (ap invalid_bit (sym e) ∙ valid) (ap target (sym e) ∙ to);
        walks = b.scans.walks;
      }

  -- all of it, with the passes as they are afterwards
  base_now : (order : List (LoggedStep E A)) → Base sides z new (record { of = passes; order = order; status = states })
  base_now order = record {
    within = b.within;
    two = b.two;
    wide = length-set words place value ∙ b.wide;
    numbers = numbers_now;
    privates = privates_now;
    hazards = hazards_now;
    links = links_now;
    shelves = shelves_now;
    chains = chains_now;
    scans = scans_now;
  }

-- A private record is published: a link of a head or of an attached record, which nobody learnt as frozen, gets a word that
-- leads to it, and its own links lead on.
module _ {E A W : Type 0} (sides : ℕ) (z : Sizes) (words : List ℕ) (g : PoolState E A W) (q q' : PassState W) (i : ℕ) (d : PrivateRecord)
    (place new : ℕ) (s : LoggedStep E A) where
  -- the states after the step
  abbrev pub published_status : ℕ → RecordState
  published_status = put g.status d.number attached

  pub base_published : Base sides z words g → q.number < z.passes → g.of q.number ≡ q → get_elem? q.owned i ≡ some d → Gives i q q'
      → Publishes sides z words g d.number place new
      → Base sides z (set words place new) (after_step g q' published_status s)
  base_published b pass is at gives p = subst (λ (k : ℕ). Base sides z (set words place new)
      (record { of = put g.of k q'; order = g.order ++ s ∷ []; status = published_status })) (sym gives.rest.number)
      (base_now sides z words g q q' i d place new b pass is at gives p (g.order ++ s ∷ []))
