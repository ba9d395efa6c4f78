-- The exchange that takes the first value and detaches the dummy.
use Rattle.std.proofs.Common.{◌≡◌, ◌≢◌, inr, ℕ, zero, suc, ◌+◌, ◌*◌, ◌<◌, Bool, true, false, cond, eqb}
use Rattle.std.proofs.Common.{List, [], ◌∷◌, ◌++◌, length, get_or, set, sym, refl, ap, ap₂, ◌∙◌, subst, arith}
use Rattle.std.proofs.Common.{length-append}
use Rattle.std.proofs.Common.{eq-eqb, ne_eqb}
use Rattle.std.proofs.Math.Bool.{false≢true}
use Rattle.std.proofs.Math.Decide.{ℕ_discrete}
use mathlib.Core.Logic.{dite}
use prog.Atomic.{either}
use Rattle.atomic_table.specs.Table.{Me, Allows}
use Rattle.pp_link.specs.declared.layout.Sizes.{Sizes}
use Rattle.pp_link.specs.Links.{target, flag_bit, leaf_bit}
use Rattle.pp_link.specs.Places.{IsNumber, head_place}
use Rattle.pp_link.specs.Words.{head_word, cell_word}
use Rattle.pp_link.proofs.Stores.{head_stored}
use Rattle.pp_rule.specs.declared.views.Chain.{Chain}
use Rattle.pp_rule.specs.declared.views.ChainLink.{ChainLink}
use Rattle.pp_rule.specs.Lists.{IsIn}
use Rattle.pp_rule.specs.Orders.{only_loads, log_of, placed_by, goes_aside, missed_step}
use Rattle.pp_rule.specs.Views.{halves, value_of, slot}
use Rattle.pp_rule.specs.States.{RecordState, attached, in_hand, IsUsed, SameTarget}
use Rattle.pp_rule.specs.Rule.{Base}
use Rattle.pp_rule.specs.Detach.{Detaches}
use Rattle.pp_rule.specs.Paths.{links_of}
use Rattle.pp_rule.specs.Ties.{Holds}
use Rattle.pp_rule.specs.Steps.{entry, IsAlone, MadeStep, detaching}
use Rattle.pp_rule.proofs.Put.{in_first, in_one, only}
use Rattle.pp_rule.proofs.Chained.{put_all_in, put_all_out}
use Rattle.pp_rule.proofs.Histories.{placed_here}
use Rattle.pp_rule.proofs.Stepping.{after_step, Plays, allows_by}
use Rattle.pp_rule.proofs.Keeping.{idle_keeps}
use Rattle.pp_rule.proofs.Detaching.{detached_status, base_detached}
use Rattle.pp_queues.specs.declared.calls.QueueCall.TheVariants as call
use Rattle.pp_queues.specs.declared.calls.QueueReply.{QueueReply}
use Rattle.pp_queues.specs.declared.calls.QueueReply.TheVariants as said
use Rattle.pp_queues.specs.declared.calls.QueueChange.{QueueChange}
use Rattle.pp_queues.specs.declared.calls.QueuePlaced.{QueuePlaced}
use Rattle.pp_queues.specs.Queue.{queue, items_of, StandsIn, change_of, placed, reply, next, changes}
use Rattle.pp_queues.specs.Lines.{Heap, heap, Lined, Stood, Steady, Removed}
use Rattle.pp_queues.specs.Queues.{QueuePass, QueueState, QueueStep, QueueView, Queues, dummy_chain}
use Rattle.pp_queues.specs.Turns.{StandsThen, take_step, stand, placed_at, MayTake, taken, Took}
use Rattle.pp_model.proofs.Logs.{stands_change, sound_change, contents_push}
use Rattle.pp_queues.proofs.Lining.{first_value, lined_removed, steady_removed}
use Rattle.pp_queues.proofs.Lining.{removed_back}
use Rattle.pp_queues.proofs.Lining.{leads_to, times_once}
use Rattle.pp_queues.proofs.Keeping.{queues_changed}
use Rattle.pp_queues.proofs.Loading.{alike, calls_of, held_of, head_at}
use Rattle.pp_queues.proofs.Moving.{stood_after, free_head}
use Rattle.pp_queues.proofs.Putting.{only_change}
use Rattle.pp_queues.proofs.Owning.{base_own}
use Rattle.pp_queues.proofs.Telling.{change_told, place_told}

-- the links of a chain of one
valid_one : (n : ℕ) → IsIn (n, 0) (links_of 1 (n ∷ []))
unfolding links_of
valid_one n = in_first (n, 0) []

-- a list with a first entry
cons_of : (xs : List ℕ) → 0 < length xs → (v : ℕ) × ((rest : List ℕ) × (xs ≡ v ∷ rest))
cons_of [] lt = absurd (omega arith)
cons_of (x ∷ xs) lt = (x, (xs, refl))

-- The step of the pass q, which finds the expected word.
module _ (z : Sizes) (words : List ℕ) (g : QueueState) (q : QueuePass) (j guard place first new : ℕ) (b : Base 1 z words g)
    (l : Queues z words g) (pass : q.number < z.passes) (is : g.of q.number ≡ q) (may : MayTake z q j guard place first new)
    (hit : get_or words place 0 ≡ first) where
  stood : Stood (heap z words g.status) (slot q) q.own
  stood = (calls_of z words g q b l pass is).stood may.two

  abbrev dummy : ℕ
  dummy = stand q

  abbrev behind : ℕ
  behind = q.own.next

  abbrev items : List ℕ
  items = items_of (log_of g.order)

  head_is : head_word words z 0 ≡ 16 * dummy
  head_is = sym (head_at z words 0 place may.place_is) ∙ (hit ∙ may.first_is)

  here : l.at 0 ≡ dummy
  here = times_once (l.at 0) dummy (sym l.lined.front ∙ head_is)

  on : IsNumber z dummy × (g.status dummy ≡ attached)
  on = subst (λ (k : ℕ). IsNumber z k × (g.status k ≡ attached)) here (l.lined.each 0 (omega arith))

  leads : target (cell_word words z dummy 2) ≡ behind
  leads = stood.next may.word may.some

  passed : head_word words z 1 ≢ 16 * dummy
  passed = stood.past may.word may.front may.past on.1

  some_item : 0 < length items
  some_item = dite (ℕ_discrete (length items) 0)
      (λ e. absurd (may.some (sym leads ∙ (ap (λ (k : ℕ). target (cell_word words z k 2)) (sym here ∙ ap l.at (sym e))
      ∙ ap target l.lined.last))))
      (λ ne. omega arith)

  link_is : cell_word words z dummy 2 ≡ new
  link_is = let led : cell_word words z dummy 2 ≡ 16 * l.at 1 = ap (λ (k : ℕ). cell_word words z k 2) (sym here)
      ∙ l.lined.next 0 some_item in
      let to = leads in let e = may.new_is in omega arith

  next_is : l.at 1 ≡ behind
  next_is = let led : cell_word words z dummy 2 ≡ 16 * l.at 1 = ap (λ (k : ℕ). cell_word words z k 2) (sym here)
      ∙ l.lined.next 0 some_item in
      let to = leads in omega arith

  behind_on : IsNumber z behind × (g.status behind ≡ attached)
  behind_on = subst (λ (k : ℕ). IsNumber z k × (g.status k ≡ attached)) next_is (l.lined.each 1 (omega (arith, some_item)))

  behind_ne : behind ≢ dummy
  behind_ne e = let bad : suc zero ≡ zero = l.lined.once 1 0 (omega (arith, some_item)) (omega arith) (next_is
      ∙ (e ∙ sym here)) in absurd (omega arith)

  abbrev pub chain : Chain
  chain = dummy_chain dummy guard new

  zero_side : (side : ℕ) → side < 1 → 0 ≡ side
  zero_side side lt = omega arith

  pub detaches : Detaches 1 z words g q chain place behind new
  detaches = let two = may.two in let few = b.within.records in let most = behind_on.0.1 in let e = may.new_is in record {
    members = λ n i. subst (λ (k : ℕ). IsNumber z k × (g.status k ≡ attached)) (in_one n dummy i) on;
    members_once = λ k m x y at_k at_m same. only x dummy k at_k ∙ sym (only y dummy m at_m);
    inside = λ n side i lt. inr (inr (subst (λ (s : ℕ). target (cell_word words z n (2 + s)) ≡ behind) (zero_side side lt)
        (subst (λ (k : ℕ). target (cell_word words z k 2) ≡ behind) (in_one n dummy i) leads)));
    valid = λ n side i lt. subst (λ (s : ℕ). IsIn (n, s) chain.valid) (zero_side side lt)
        (subst (λ (k : ℕ). IsIn (k, 0) chain.valid) (in_one n dummy i) (valid_one dummy));
    links = λ k i. subst (λ (k : ChainLink). IsIn k.number chain.records × (k.side < 1) × SameTarget k.word
        (cell_word words z k.number (2 + k.side)))
        (in_one k (record { number = dummy; side = 0; word = new }) i) (
          in_first dummy [],
          omega arith,
          record {
            target_is = ap target link_is;
            flag_is = ap flag_bit link_is;
            leaf_is = ap
                leaf_bit link_is;
          },
        );
    heads = λ h lt ne i. other_head h lt ne (in_one (target (head_word words z h)) dummy i);
    others = λ n side number lt st out ne i. other_link n number st
        (subst (λ (s : ℕ). dummy ≡ target (cell_word words z n (2 + s)))
        (sym (zero_side side lt)) (in_one (target (cell_word words z n (2 + side))) dummy i));
    frontier = inr (behind_on.0, behind_on.1, λ i. behind_ne (sym (in_one behind dummy i)));
    new_is = (omega arith, omega arith, leads_to new behind may.new_is);
    place_is = free_head z g 0 place (omega arith) may.place_is;
    stays = λ n f number lt at i. let one = number.0 in let p = may.place_is in absurd (omega arith);
    guard = may.guard_low;
    named = may.guarded;
    unused = may.unused;
  }
    where
      other_head : (h : ℕ) → h < z.heads → head_place z h ≢ place → dummy ≡ target (head_word words z h) → ⊥
      other_head h lt ne to = let two = may.two in let p = may.place_is in
          let one : h ≡ 1 = dite (ℕ_discrete h 0) (λ e. absurd (ne (ap (head_place z) e ∙ sym p))) (λ n0. omega arith) in
          let back = l.lined.back may.two in let led : head_word words z 1 ≡ 16 * l.at back.0 = back.1.2 in
          let to_one : dummy ≡ target (head_word words z 1) = to ∙ ap (λ (h : ℕ). target (head_word words z h)) one in
          passed (let x = to_one in omega arith)

      other_link : (n : ℕ) → IsNumber z n → g.status n ≡ attached → dummy ≡ target (cell_word words z n 2) → ⊥
      other_link n number st to = let y = l.lined.all n number st in let i : ℕ = y.0 in let le = y.1.0 in let one = on.0.0 in
          dite (ℕ_discrete i (length items))
          (λ e. let end : cell_word words z n 2 ≡ 0 = ap (λ (k : ℕ). cell_word words z k 2) (sym y.1.1 ∙ ap l.at e)
          ∙ l.lined.last in
          let x = to in absurd (omega arith))
          (λ ne. let led : cell_word words z n 2 ≡ 16 * l.at (i + 1) = ap (λ (k : ℕ). cell_word words z k 2) (sym y.1.1)
          ∙ l.lined.next i (omega arith) in
          let same : l.at (i + 1) ≡ dummy = (let x = to in omega arith) in
          let bad : i + 1 ≡ 0 = l.lined.once (i + 1) 0 (omega arith) (omega arith) (same ∙ sym here) in absurd (omega arith))

  abbrev pub after_take : QueuePass
  after_take = taken dummy guard new q

  abbrev pub status_after : ℕ → RecordState
  status_after = detached_status 1 z words g q chain place behind new b pass is detaches

  gone : status_after dummy ≡ in_hand q.number guard
  gone = put_all_in g.status (dummy ∷ []) (in_hand q.number guard) dummy (in_first dummy [])

  others : (n : ℕ) → n ≢ dummy → status_after n ≡ g.status n
  others n ne = put_all_out g.status (dummy ∷ []) (in_hand q.number guard) n (λ i. ne (sym (in_one n dummy i)))

  removes : Removed z (heap z words g.status) (heap z (set words place new) status_after) dummy behind
  removes = let two = may.two in let st = head_stored z words new b.wide 0 (omega arith) in
      subst (λ (p : ℕ). Removed z (heap z words g.status) (heap z (set words p new) status_after) dummy behind)
      (sym may.place_is) record {
        two = may.two;
        from = head_is;
        to = st.here ∙ may.new_is;
        back = st.heads 1 (omega arith) (λ e. absurd (omega arith));
        passed = passed;
        leads = leads;
        some = may.some;
        gone = λ e. let bad : attached ≡ in_hand q.number guard = sym e ∙ gone in absurd cc;
        others = others;
        values = λ k is_k. ap₂ (λ l h. value_of (halves l h)) (st.cells k 1 is_k (omega arith)) (st.cells k 4 is_k (omega arith));
        links = λ k is_k. st.cells k 2 is_k (omega arith);
      }

  abbrev pub value : ℕ
  value = value_of (slot q j).value

  abbrev pub change : QueueChange
  change = change_of q.number (length (placed_by q.number g.order) + 1) call.Take

  abbrev pub call_now : QueuePlaced
  call_now = placed call.Take (said.Took value) (length (log_of g.order) + 1)

  abbrev pub take_entry : QueueStep
  take_entry = entry take_step place (get_or words place 0) new (change ∷ []) (call_now ∷ []) g.order after_take

  pub base_taken : Base 1 z (set words place new) (after_step g after_take status_after take_entry)
  base_taken = base_own 1 z (set words place new) g (detaching chain q) after_take status_after take_entry
      (base_detached 1 z words g q chain place behind new b pass is detaches take_entry) pass record {
        rest = record {
          number = refl;
          sizes = refl;
          retired_are = refl;
          walk = refl;
          frontier = refl;
          chains = refl;
          scan = refl;
        };
        owned = refl;
      }

  pub queues_taken : Queues z (set words place new) (after_step g after_take status_after take_entry)
  queues_taken = let t : Heap = heap z words g.status in let t' : Heap = heap z (set words place new) status_after in
      let log : List QueueChange = log_of g.order in let o = calls_of z words g q b l pass is in
      let split = cons_of items some_item in let v : ℕ = split.0 in let rest : List ℕ = split.1.0 in
      let items_are : items ≡ v ∷ rest = split.1.1 in
      let h = held_of z words g q b l pass is j may.other may.held in
      let value_is : v ≡ value = ap (λ (xs : List ℕ). get_or xs 0 0) (sym items_are)
      ∙ (first_value z t t' l.at items dummy behind l.lined removes ∙ (ap t.value (sym may.named) ∙ ap value_of h.value)) in
      let right : reply items call.Take ≡ said.Took value = ap (λ (xs : List ℕ). reply xs call.Take) items_are
      ∙ ap (λ (v : ℕ). said.Took v) value_is in
      let now : items_of (log ++ change ∷ []) ≡ rest = contents_push queue log change
      ∙ ap (λ (xs : List ℕ). next xs call.Take) items_are in
      let steady : Steady z t t' = steady_removed z t t' l.at items dummy behind l.lined removes in
      let used : (n : ℕ) → IsUsed (g.status n) → IsUsed (status_after n) = λ n u. dite (ℕ_discrete n dummy)
      (λ e. subst IsUsed (sym (ap status_after e ∙ gone)) tt) (λ ne. subst IsUsed (sym (others n ne)) u) in
      let st = stood_after z words (set words place new) g status_after q b l pass is may.two steady used in
      queues_changed z words (set words place new) g q after_take status_after take_entry (λ i. l.at (i + 1))
      b l pass refl (λ c i. ap (λ (c : QueueChange). c.caller) (sym (in_one c change i)))
      (only_change (λ (c : QueueChange). c.caller ≡ q.number) change refl) refl
      (sound_change queue log change l.sound (ap changes right))
      (subst (λ (items : List ℕ). Lined z t' (λ i. l.at (i + 1)) items) (sym now)
      (lined_removed z t t' l.at items dummy behind l.lined removes v rest items_are))
      (let e = length-append log (change ∷ []) in omega arith) (λ _. steady) used
      record {
        stands = subst (λ (mine : List QueuePlaced). StandsIn (log ++ change ∷ []) q.number mine)
            (sym (placed_here g.order take_entry))
            (stands_change queue log q.number (placed_by q.number g.order) call_now o.stands refl right refl);
        since = λ bad. absurd (false≢true bad);
        earlier = λ bad. absurd (false≢true bad);
        stood = λ _. record { held = st.held; next = st.next; front = st.front; past = st.past; back = st.back };
        sole = λ one two. record {
          last = λ up. removed_back z t t' l.at items dummy behind l.lined removes ∙ (o.sole one two).last up;
          front = λ _ _ bad. absurd (false≢true bad);
        };
      }

module _ (opens : Sizes → List ℕ) where
  -- an exchange that found another word leaves it
  missed_leaves : (hit : Bool) (m new : ℕ) → only_loads (cond hit take_step missed_step) ≡ true → either hit new m ≡ m
  missed_leaves true m new bad = absurd (false≢true bad)
  missed_leaves false m new e = refl

  stores_none : (hit : Bool) → goes_aside (cond hit take_step missed_step) ≡ false
  stores_none true = refl
  stores_none false = refl

  -- A take takes effect.
  pub takes_one : (z : Sizes) (slots id j guard place first new : ℕ) (me : Me Unit QueueView) → IsAlone me
      → MayTake z me.0.known j guard place first new
      → Allows (Holds 1 opens Queues z) slots id me place (λ n. either (eqb n first) new n)
      (λ n m'. (m'.1 ≡ []) × Took j guard place first new n me.0 m'.0)
  takes_one z slots id j guard place first new me lone may = let q : QueuePass = me.0.known in
      let then : ℕ → Me Unit QueueView → Type 0 = λ n m'. (m'.1 ≡ []) × Took j guard place first new n me.0 m'.0 in
      allows_by 1 opens Queues z slots id place (λ n. cond (eqb n first) take_step missed_step) me
      (λ n. either (eqb n first) new n) (λ n. n) then
      lone (λ n _. refl) (λ n bad. absurd (false≢true (sym (stores_none (eqb n first)) ∙ bad)))
      (λ n. missed_leaves (eqb n first) n new)
      (λ words g b add pass is sizes fits. let n : ℕ = get_or words place 0 in dite (ℕ_discrete n first)
      (λ e. subst (λ (hit : Bool). Plays 1 opens Queues (cond hit take_step missed_step) place n
      (either hit new n) z words g me.0 (then n))
      (sym (eq-eqb n first e))
      (let c : QueueChange = change z words g q j guard place first new b add pass is may e in
      let s : QueuePlaced = call_now z words g q j guard place first new b add pass is may e in
      let known : QueuePass = taken (stand q) guard new q in
      let x : QueueStep = entry take_step place n new (c ∷ []) (s ∷ []) g.order known in
      let r : QueueReply = said.Took (value_of (slot q j).value) in record {
        known = known;
        status = status_after z words g q j guard place first new b add pass is may e;
        changes = c ∷ [];
        placed = s ∷ [];
        keeps_rule = record {
          number = refl;
          sizes = sizes;
          base = base_taken z words g q j guard place first new b add pass is may e;
          added = queues_taken z words g q j guard place first new b add pass is may e;
        };
        tells = λ w at made. (
          refl,
          record {
            same = λ _. subst (λ (c : QueueChange). MadeStep take_step place n new (c ∷ [])
                (placed_at call.Take r w ∷ []) known me.0 w)
                (sym (change_told g.order known x w at refl call.Take s refl))
                (subst (λ (s : QueuePlaced). MadeStep take_step place n new (c ∷ []) (s ∷ []) known me.0 w)
                (sym (place_told g.order known x w at refl call.Take r c refl)) made);
            other = λ ne. absurd (ne e);
            stands = λ _. subst StandsThen (sym at)
                ((queues_taken z words g q j guard place first new b add pass is may e).each q.number pass).stands;
          },
        );
      }))
      (λ ne. subst (λ (hit : Bool). Plays 1 opens Queues (cond hit take_step missed_step) place n
      (either hit new n) z words g me.0 (then n))
      (sym (ne_eqb n first ne)) record {
        known = q;
        status = g.status;
        changes = [];
        placed = [];
        keeps_rule = idle_keeps 1 opens Queues alike missed_step place z words g q b add pass is sizes;
        tells = λ w at made. (refl, record { same = λ e. absurd (ne e); other = λ _. made; stands = λ e. absurd (ne e) });
      }))
