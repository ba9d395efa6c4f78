-- The rule of the pegs allows a pass to put back the peg that was pulled out last.
use Rattle.std.proofs.Common.{◌≡◌, ◌⊎◌, inl, inr, ⊎_elim, ℕ, zero, suc, ◌+◌, ◌-◌, ◌*◌, ◌<◌, ◌≤◌, Bool, true, false, cond}
use Rattle.std.proofs.Common.{eqb, List, [], ◌∷◌, ◌++◌}
use Rattle.std.proofs.Common.{get_or, set, map, refl, sym, ap, ◌∙◌, subst, arith, eq-eqb, ne_eqb}
use Rattle.std.proofs.Math.Bool.{false≢true}
use Rattle.std.proofs.Math.Decide.{ℕ_discrete}
use Rattle.std.proofs.lemmas.Bool.{cases_lt}
use prog.Atomic.{either}
use mathlib.Core.Logic.{dite}
use mathlib.Core.Option.{some}
use lib.ListN.{get_elem?}
use Rattle.atomic_table.specs.Table.{Me, Allows}
use Rattle.atomic_table.specs.declared.shared.Seat.{Seat}
use Rattle.pp_link.specs.declared.layout.Sizes.{Sizes}
use Rattle.pp_link.specs.Places.{IsNumber, head_place}
use Rattle.pp_link.specs.Words.{head_word, cell_word}
use Rattle.pp_link.proofs.Stores.{head_stored}
use Rattle.pp_rule.specs.declared.views.LoggedStep.{LoggedStep}
use Rattle.pp_rule.specs.declared.views.PrivateRecord.{PrivateRecord}
use Rattle.pp_rule.specs.declared.views.PassState.{PassState}
use Rattle.pp_rule.specs.declared.views.SeatView.{SeatView}
use Rattle.pp_rule.specs.Lists.{times, remove_at}
use Rattle.pp_rule.specs.Orders.{IsQuietStep, goes_aside, only_loads, missed_step}
use Rattle.pp_rule.specs.States.{attached, owned, IsLinked, PoolState, Stays, Leads}
use Rattle.pp_rule.specs.Rule.{Base}
use Rattle.pp_rule.specs.Ties.{Holds}
use Rattle.pp_rule.specs.Steps.{entry, IsAlone, wrote}
use Rattle.atomic_table.proofs.Lists.{set_here}
use Rattle.pp_rule.proofs.Put.{put, put_here, put_else, at_below}
use Rattle.pp_rule.proofs.Made.{known_after}
use Rattle.pp_rule.proofs.Histories.{quiet_log, quiet_placed}
use Rattle.pp_rule.proofs.Stepping.{after_step, Plays, allows_by}
use Rattle.pp_rule.proofs.Keeping.{idle_keeps}
use Rattle.pp_rule.proofs.Publishing.{published_status, base_published}
use Rattle.pp_base.specs.declared.purse.Purse.{Purse}
use Rattle.pp_base.specs.Passes.{known, view, named_of, owned_numbers, IsPassOf, IsSame, Keeping}
use Rattle.pp_base.proofs.Telling.{telling, made_alone, made_known}
use Rattle.pp_base.proofs.Steady.{keeping_idle}
use Rattle.pp_base.proofs.Staying.{keeping_gave}
use Rattle.pp_base.specs.Private.{WroteField}
use Rattle.pp_pool.specs.Taken.{IsPrivate, IsPublished}
use Rattle.pp_pool.proofs.Taking.{published_after}
use Rattle.pp_peg_scenes.specs.Pegs.{next_peg, peg_link, ArePegs}
use Rattle.pp_peg_scenes.specs.PegLaws.{next_under, next_over, next_few, next_before, some_head, led_next, free_head, peg_alike}
use Rattle.pp_peg_scenes.specs.Puts.{put_step, HasPeg, PutBack}

-- two pegs before the same one are the same
next_same : (n m : ℕ) → n ≤ 5 → m ≤ 5 → next_peg n ≡ next_peg m → n ≡ m
next_same n m few_n few_m e = ⊎_elim
    (λ (low : n < 5). let up = next_under n low in let back = next_before m (n + 1) (sym e ∙ up) (omega arith) in
    let same = back.1 in omega arith)
    (λ (high : 5 ≤ n). ⊎_elim
    (λ (low : m < 5). let up = next_under m low in let down = next_over n high in absurd (omega arith))
    (λ (top : 5 ≤ m). omega arith) (cases_lt m 5)) (cases_lt n 5)

stores_no : (hit : Bool) → goes_aside (cond hit put_step missed_step) ≡ false
stores_no true = refl
stores_no false = refl

missed_keeps : (hit : Bool) (n new : ℕ) → only_loads (cond hit put_step missed_step) ≡ true → either hit new n ≡ n
missed_keeps true n new bad = absurd (false≢true bad)
missed_keeps false n new is = refl

module _ {E A W : Type 0} where
  abbrev Adds : Sizes → List ℕ → PoolState E A W → Type 0
  Adds z words g = ArePegs z words g

module _ {E A W : Type 0} (z : Sizes) (words : List ℕ) (g : PoolState E A W) (q : PassState W) (i : ℕ) (d : PrivateRecord)
    (b : Base 1 z words g) (r : ArePegs z words g) (pass : q.number < z.passes) (is : g.of q.number ≡ q)
    (at : get_elem? q.owned i ≡ some d) (some_is : 1 ≤ d.number) (few : d.number ≤ 5) (left : d.left ≡ peg_link d.number)
    (found : get_or words (head_place z 0) 0 ≡ 16 * next_peg d.number) where
  abbrev after : PassState W
  after = record q { owned = remove_at i q.owned }

  abbrev new : List ℕ
  new = set words (head_place z 0) (16 * d.number)

  abbrev put_entry : LoggedStep E A
  put_entry = entry put_step (head_place z 0) (get_or words (head_place z 0) 0) (16 * d.number) [] [] g.order after

  -- it is the last one that was pulled out
  out_is : r.out ≡ d.number
  unfolding head_word
  out_is = let same : 16 * next_peg r.out ≡ 16 * next_peg d.number = sym r.head ∙ found in
      next_same r.out d.number r.few few (omega arith)

  mine : IsNumber z d.number × (g.status d.number ≡ owned q.number)
  mine = b.numbers.owned_to q.number d pass (i, ap (λ (v : PassState W). get_elem? v.owned i) is ∙ at)

  link : cell_word words z d.number 2 ≡ peg_link d.number
  link = (b.privates.reads q.number d pass (i, ap (λ (v : PassState W). get_elem? v.owned i) is ∙ at)).left ∙ left

  leads : (side : ℕ) → side < 1 → Leads z g.status (cell_word words z d.number (2 + side))
  leads (suc side) one = absurd (omega arith)
  leads zero one = subst (Leads z g.status) (sym link) (let small = next_few d.number in record {
    small = omega arith;
    valid = omega arith;
    to = subst (λ (x : ℕ). (x ≡ 0) ⊎ (IsNumber z x × (g.status x ≡ attached))) (sym (led_next d.number)) (⊎_elim
        (λ (low : d.number < 5). inr (subst (λ (x : ℕ). IsNumber z x × (g.status x ≡ attached)) (sym (next_under d.number low))
        ((omega arith, omega (arith, b.within.some_records)), r.standing (d.number + 1) (omega (arith, out_is)) (omega arith))))
        (λ (high : 5 ≤ d.number). inl (next_over d.number high)) (cases_lt d.number 5));
  })

  base_put : Base 1 z new (after_step g after
      (published_status 1 z words g q after i d (head_place z 0) (16 * d.number) put_entry) put_entry)
  base_put = base_published 1 z words g q after i d (head_place z 0) (16 * d.number) put_entry b pass is at
      record {
        rest = record { number = refl; sizes = refl; retired_are = refl; walk = refl; frontier = refl; chains = refl; scan = refl };
        owned = refl;
      }
      record { place_is = free_head z words g b; small = omega arith; valid = omega arith; to = omega arith; leads = leads }

  added_put : ArePegs z new (after_step g after (put g.status d.number attached) put_entry)
  added_put = let stored = head_stored z words (16 * d.number) b.wide 0 (some_head z b.within) in record {
    log = quiet_log g.order (g.order ++ put_entry ∷ []) quiet ∙ r.log;
    placed = λ p. quiet_placed p g.order (g.order ++ put_entry ∷ []) quiet ∙ r.placed p;
    out = d.number - 1;
    few = omega arith;
    head = stored.here ∙ ap (λ (n : ℕ). 16 * n) (sym (next_under (d.number - 1) (omega arith) ∙ omega arith));
    heads = λ h low ne. stored.heads h low ne ∙ r.heads h low ne;
    standing = λ n more most. dite (ℕ_discrete n d.number)
        (λ e. subst (λ (m : ℕ). put g.status d.number attached m ≡ attached) (sym e) (put_here g.status d.number attached))
        (λ ne. put_else g.status d.number attached n ne ∙ r.standing n (omega (arith, out_is)) most);
    no_other = λ n number state. dite (ℕ_discrete n d.number) (λ e. (omega arith, omega arith))
        (λ ne. let was = r.no_other n number (sym (put_else g.status d.number attached n ne) ∙ state) in
        let above = was.0 in (omega (arith, out_is), was.1));
    links = λ n one most linked. subst (Stays (peg_link n))
        (sym (stored.cells n 2 (one, omega (arith, most, b.within.some_records)) (omega arith)))
        (dite (ℕ_discrete n d.number) (λ e. subst (λ (m : ℕ). Stays (peg_link m) (cell_word words z m 2)) (sym e) (inl link))
        (λ ne. r.links n one most (subst IsLinked (put_else g.status d.number attached n ne) linked)));
  }
    where
      quiet : IsQuietStep g.order (g.order ++ put_entry ∷ [])
      quiet = record { step = put_entry; is = refl; no_change = refl; no_call = refl }

module _ {E A W : Type 0} (opens : Sizes → List ℕ) where
  -- The exchange that puts the peg back, where the head leads to the peg behind it.
  puts_peg : (z : Sizes) (slots id i first new : ℕ) (d : PrivateRecord) (me : Me Unit (SeatView E A W)) → IsAlone me
      → get_elem? me.0.known.owned i ≡ some d → 1 ≤ d.number → d.number ≤ 5 → d.left ≡ peg_link d.number
      → first ≡ 16 * next_peg d.number → new ≡ 16 * d.number
      → Allows (Holds 1 opens Adds z) slots id me (head_place z 0) (λ n. either (eqb n first) new n)
      (λ n m'. (m'.1 ≡ []) × PutBack d.number (head_place z 0) n me.0 m'.0)
  puts_peg z slots id i first new d me lone at some_is few left first_is new_is = let q : PassState W = me.0.known in
      let place : ℕ = head_place z 0 in
      let then : ℕ → Me Unit (SeatView E A W) → Type 0 = λ n m'. (m'.1 ≡ []) × PutBack d.number place n me.0 m'.0 in
      allows_by 1 opens Adds z slots id place (λ n. cond (eqb n first) put_step missed_step) me
      (λ n. either (eqb n first) new n) (λ n. n) then
      lone (λ n _. refl) (λ n bad. absurd (false≢true (sym (stores_no (eqb n first)) ∙ bad)))
      (λ n. missed_keeps (eqb n first) n new)
      (λ words g b add pass is sizes fits. let n : ℕ = get_or words place 0 in dite (ℕ_discrete n first)
      (λ e. subst (λ (hit : Bool). Plays 1 opens Adds (cond hit put_step missed_step) place n
      (either hit new n) z words g me.0 (then n))
      (sym (eq-eqb n first e))
      (subst (λ (w : ℕ). Plays 1 opens Adds put_step place n w z words g me.0 (then n)) (sym new_is) record {
        known = record q { owned = remove_at i q.owned };
        status = put g.status d.number attached;
        changes = [];
        placed = [];
        keeps_rule = record {
          number = refl;
          sizes = sizes;
          base = base_put z words g q i d b add pass is at some_is few left (e ∙ first_is);
          added = added_put z words g q i d b add pass is at some_is few left (e ∙ first_is);
        };
        tells = λ v is_now made. (
          refl,
          record {
            index = i;
            was = d;
            at = at;
            number_is = refl;
            same = λ _. made;
            other = λ ne. absurd (ne (e ∙ first_is));
          },
        );
      }))
      (λ ne. subst (λ (hit : Bool). Plays 1 opens Adds (cond hit put_step missed_step) place n
      (either hit new n) z words g me.0 (then n))
      (sym (ne_eqb n first ne)) record {
        known = q;
        status = g.status;
        changes = [];
        placed = [];
        keeps_rule = idle_keeps 1 opens Adds peg_alike missed_step place z words g q b add pass is sizes;
        tells = λ v is_now made. (
          refl,
          record {
            index = i;
            was = d;
            at = at;
            number_is = refl;
            same = λ e. absurd (ne (e ∙ sym first_is));
            other = λ _. made;
          },
        );
      }))

module _ {E A W : Type 0} where
  put_alone : (n place found : ℕ) (v : SeatView E A W) (m : Me Unit (SeatView E A W)) → m.1 ≡ []
      → PutBack n place found v m.0 → IsAlone m
  put_alone n place found v m none p = dite (ℕ_discrete found (16 * next_peg n)) (λ e. made_alone m none (p.same e))
      (λ ne. made_alone m none (p.other ne))

  pub puts_on : (opens : Sizes → List ℕ) (z : Sizes) (slots id i n place first new : ℕ) (d : PrivateRecord)
      (me : Me Unit (SeatView E A W))
      → IsAlone me → get_elem? me.0.known.owned i ≡ some d → d.number ≡ n → 1 ≤ n → n ≤ 5 → d.left ≡ peg_link n
      → place ≡ head_place z 0 → first ≡ 16 * next_peg n → new ≡ 16 * n
      → Allows (Holds 1 opens Adds z) slots id me place (λ k. either (eqb k first) new k)
      (λ k m'. ((m'.1 ≡ []) × PutBack n place k me.0 m'.0) × IsPassOf z m'.0.known)
  puts_on opens z slots id i n place first new d me lone at number some_is few left place_is first_is new_is =
      telling 1 opens Adds z slots id me place (λ k. either (eqb k first) new k)
      (λ k m'. (m'.1 ≡ []) × PutBack n place k me.0 m'.0)
      (subst (λ (p : ℕ). Allows (Holds 1 opens Adds z) slots id me p (λ k. either (eqb k first) new k)
      (λ k m'. (m'.1 ≡ []) × PutBack n p k me.0 m'.0)) (sym place_is)
      (subst (λ (x : ℕ). Allows (Holds 1 opens Adds z) slots id me (head_place z 0) (λ k. either (eqb k first) new k)
      (λ k m'. (m'.1 ≡ []) × PutBack x (head_place z 0) k me.0 m'.0)) number
      (puts_peg opens z slots id i first new d me lone at (omega arith) (omega arith) (left ∙ ap peg_link (sym number))
      (first_is ∙ ap (λ (x : ℕ). 16 * next_peg x) (sym number)) (new_is ∙ ap (λ (x : ℕ). 16 * x) (sym number)))))
      (λ k m t. put_alone n place k me.0 m t.0 t.1)

  -- what the pass has beside its seat agrees with what the seat knows after it
  pub keeping_put : (s s' : Seat Unit (SeatView E A W)) (z : Sizes) (number share : ℕ) (walk : List ℕ) (p : Purse)
      (n place found : ℕ)
      → Keeping 5 1 s number share walk p → s'.me.1 ≡ [] → IsPassOf z (known s')
      → times n p.free.items < times n (owned_numbers (known s))
      → PutBack n place found (view s) (view s') → Keeping 5 1 s' number share walk p
  keeping_put s s' z number share walk p n place found k none pass taken put = dite (ℕ_discrete found (16 * next_peg n))
      (λ e. let is = made_known s'.me (put.same e) in
      keeping_gave 5 1 s s' z number share walk p put.index put.was k (made_alone s'.me none (put.same e)) pass
      record {
        number = ap (λ (q : PassState W). q.number) is;
        sizes = ap (λ (q : PassState W). q.sizes) is;
        retired_are = ap (λ (q : PassState W). q.retired) is;
        frontier = ap (λ (q : PassState W). q.frontier) is;
        chains = ap (λ (q : PassState W). q.chains) is;
        names = ap (λ (q : PassState W). map named_of q.walk) is;
      }
      put.at (ap (λ (q : PassState W). q.owned) is)
      (subst (λ (x : ℕ). times x p.free.items < times x (owned_numbers (known s))) (sym put.number_is) taken))
      (λ ne. keeping_idle 5 1 s s' z number share walk p k (made_alone s'.me none (put.other ne)) pass
      (made_known s'.me (put.other ne)))

  pub same_put : (s s' : Seat Unit (SeatView E A W)) (n place found : ℕ) → PutBack n place found (view s) (view s')
      → s'.table_id ≡ s.table_id → IsSame s s'
  same_put s s' n place found put table = dite (ℕ_discrete found (16 * next_peg n))
      (λ e. let is = made_known s'.me (put.same e) in
      record { table_is = table; number = ap (λ (q : PassState W). q.number) is; sizes = ap (λ (q : PassState W). q.sizes) is })
      (λ ne. let is = made_known s'.me (put.other ne) in
      record { table_is = table; number = ap (λ (q : PassState W). q.number) is; sizes = ap (λ (q : PassState W). q.sizes) is })

  -- a pass that wrote the link of a peg has one to put back
  pub has_peg : (n word place : ℕ) (v w : SeatView E A W) → WroteField n 2 word place v w → word ≡ peg_link n → HasPeg n w.known
  has_peg n word place v w wrote_it is = record {
    index = wrote_it.index;
    was = wrote 2 word wrote_it.was;
    at = ap (λ (q : PassState W). get_elem? q.owned wrote_it.index) (known_after _ _ _ _ [] [] _ v w wrote_it.made)
        ∙ set_here v.known.owned wrote_it.index (wrote 2 word wrote_it.was)
        (at_below v.known.owned wrote_it.index wrote_it.was wrote_it.at);
    number_is = wrote_it.number_is;
    left = is;
  }

  -- after it was put back the record counts as published
  pub put_published : (s s' : Seat Unit (SeatView E A W)) (number share : ℕ) (walk : List ℕ) (p p' : Purse) (n place found : ℕ)
      → Keeping 5 1 s number share walk p → PutBack n place found (view s) (view s') → found ≡ 16 * next_peg n → p' ≡ p
      → IsPrivate (known s) p n → IsPublished (known s') p' n
  put_published s s' number share walk p p' n place found k put e same private =
      subst (λ (r : Purse). IsPublished (known s') r n) (sym same)
      (subst (λ (x : ℕ). IsPublished (known s') p x) put.number_is
      (published_after (known s) (known s') p put.index put.was k.pass.owned_once k.counted put.at
      (ap (λ (q : PassState W). q.owned) (made_known s'.me (put.same e)))
      (subst (λ (x : ℕ). IsPrivate (known s) p x) (sym put.number_is) private)))
