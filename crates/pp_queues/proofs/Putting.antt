-- The exchange that links a record behind the last one.
use Rattle.std.proofs.Common.{◌≡◌, inl, ℕ, zero, suc, ◌+◌, ◌%◌, ◌<◌, ◌≤◌, Bool, true, false}
use Rattle.std.proofs.Common.{cond, eqb}
use Rattle.std.proofs.Common.{List, [], ◌∷◌, ◌++◌, length, get_or, set, sym, refl, ap, ap₂, ◌∙◌, subst, arith}
use Rattle.std.proofs.Common.{length-append}
use Rattle.std.proofs.Common.{eq-eqb, ne_eqb}
use Rattle.std.specs.Prelude.{slice_get}
use Rattle.std.proofs.Math.Bool.{false≢true}
use Rattle.std.proofs.Math.Decide.{ℕ_discrete}
use mathlib.Core.Logic.{dite}
use lib.ListN.{get_elem?}
use prog.Atomic.{either}
use Rattle.atomic_table.specs.Table.{Me, Allows}
use Rattle.pp_link.specs.declared.layout.Sizes.{Sizes}
use Rattle.pp_link.specs.Links.{target}
use Rattle.pp_link.specs.Places.{IsNumber, cell_place}
use Rattle.pp_link.specs.Words.{cell_word}
use Rattle.pp_link.proofs.Stores.{cell_stored}
use Rattle.pp_model.specs.Lists.{AtEach}
use Rattle.pp_rule.specs.declared.views.PrivateRecord.{PrivateRecord}
use Rattle.pp_rule.specs.Orders.{only_loads, log_of, placed_by, goes_aside, missed_step}
use Rattle.pp_rule.specs.Views.{halves, value_of, slot}
use Rattle.pp_rule.specs.States.{RecordState, attached, owned, IsUsed, Held, Leads}
use Rattle.pp_rule.specs.Rule.{Base, Reads}
use Rattle.pp_rule.specs.Detach.{IsFreeLink}
use Rattle.pp_rule.specs.Ties.{Holds}
use Rattle.pp_rule.specs.Steps.{entry, IsAlone, MadeStep}
use Rattle.pp_rule.specs.Changes.{Publishes}
use Rattle.pp_rule.proofs.Learnt.{never_learnt}
use Rattle.pp_rule.proofs.Put.{put, put_here, put_else, in_one}
use Rattle.pp_rule.proofs.Histories.{placed_here}
use Rattle.pp_rule.proofs.Stepping.{after_step, Plays, allows_by}
use Rattle.pp_rule.proofs.Keeping.{idle_keeps}
use Rattle.pp_rule.proofs.Publishing.{base_published}
use Rattle.pp_queues.specs.declared.calls.QueueCall.TheVariants as call
use Rattle.pp_queues.specs.declared.calls.QueueReply.TheVariants as said
use Rattle.pp_queues.specs.declared.calls.QueueChange.{QueueChange}
use Rattle.pp_queues.specs.declared.calls.QueuePlaced.{QueuePlaced}
use Rattle.pp_queues.specs.Queue.{queue, items_of, StandsIn, change_of, placed}
use Rattle.pp_queues.specs.Lines.{Heap, heap, Lined, Stood, Steady, Appended}
use Rattle.pp_queues.specs.Queues.{QueuePass, QueueState, QueueStep, QueueView, Queues}
use Rattle.pp_queues.specs.Turns.{StandsThen, put_step, stand, placed_at, MayLink, linked, Linked}
use Rattle.pp_model.proofs.Logs.{stands_change, sound_change, contents_push}
use Rattle.pp_queues.proofs.Lining.{at_more, lined_appended, steady_appended, leads_to}
use Rattle.pp_queues.proofs.Keeping.{queues_changed}
use Rattle.pp_queues.proofs.Loading.{alike, calls_of, held_of, link_at}
use Rattle.pp_queues.proofs.Moving.{stood_after}
use Rattle.pp_queues.proofs.Telling.{change_told, place_told}

-- the one change of a list of one
pub only_change : {A : Type 0} (P : A → Type 0) (c : A) → P c → AtEach (c ∷ []) (λ k d. P d)
only_change P c p zero d e = subst P (some_is c d e) p
  where
    some_is : {A : Type 0} (c d : A) → slice_get (c ∷ []) 0 ≡ slice_get (d ∷ []) 0 → c ≡ d
    some_is c d e = cc
only_change P c p (suc k) d e = cc

-- the link of an attached record which is nil may be exchanged
pub free_nil : (z : Sizes) (words : List ℕ) (g : QueueState) (n place : ℕ) → Base 1 z words g → IsNumber z n
    → g.status n ≡ attached
    → place ≡ cell_place z n 2 → cell_word words z n 2 ≡ 0 → IsFreeLink z g place
free_nil z words g n place b number st at nil = let one = number.0 in let most = number.1 in record {
  high = (omega arith, omega arith);
  holder = λ m f is_m lf e. let low : 1 ≤ m = is_m.0 in let same : m ≡ n = omega arith in
      (omega arith, omega arith, ap g.status same ∙ st);
  unlearnt = λ r i l lr li on k e. let h = b.hazards.held r i lr li on in let y = h.learnt l k in
      let low : 1 ≤ (slot (g.of r) i).named = h.number.0 in
      let two : l.0 < 2 = y.0 in let same : (slot (g.of r) i).named ≡ n = omega arith in let side : 2 + l.0 ≡ 2 = omega arith in
      let now : cell_word words z (slot (g.of r) i).named (2 + l.0) ≡ 0 = ap₂ (λ m f. cell_word words z m f) same side ∙ nil in
      never_learnt l.1 (cell_word words z (slot (g.of r) i).named (2 + l.0)) y.1 y.2 (ap (λ (w : ℕ). w % 4) now);
}

-- The step of the pass q with its record d, which finds nil.
module _ (z : Sizes) (words : List ℕ) (g : QueueState) (q : QueuePass) (i : ℕ) (d : PrivateRecord) (place v new : ℕ)
    (b : Base 1 z words g)
    (l : Queues z words g) (pass : q.number < z.passes) (is : g.of q.number ≡ q) (may : MayLink z q i d place v new)
    (hit : get_or words place 0 ≡ 0) where
  stood : Stood (heap z words g.status) (slot q) q.own
  stood = (calls_of z words g q b l pass is).stood may.two

  held : Held z words g.status (slot q q.own.at)
  held = held_of z words g q b l pass is q.own.at may.word (stood.held may.word)

  nil : cell_word words z (stand q) 2 ≡ 0
  nil = sym (link_at z words (stand q) place may.place_is) ∙ hit

  on : g.status (stand q) ≡ attached
  on = l.lined.ended (stand q) held.number held.used (ap target nil)

  own : IsNumber z d.number × (g.status d.number ≡ owned q.number)
  own = b.numbers.owned_to q.number d pass (i, ap (λ (v : QueuePass). get_elem? v.owned i) is ∙ may.owned_at)

  reads : Reads z words d
  reads = b.privates.reads q.number d pass (i, ap (λ (v : QueuePass). get_elem? v.owned i) is ∙ may.owned_at)

  small_new : new < 68719476736
  small_new = let few = b.within.records in let most = own.0.1 in let e = may.new_is in omega arith

  publishes : Publishes 1 z words g d.number place new
  publishes = let e = may.new_is in record {
    place_is = free_nil z words g (stand q) place b held.number on may.place_is nil;
    small = small_new;
    valid = omega arith;
    to = leads_to new d.number may.new_is;
    leads = λ side lt. let zero_side : 0 ≡ side = omega arith in
        subst (λ (s : ℕ). Leads z g.status (cell_word words z d.number (2 + s))) zero_side
        (subst (Leads z g.status) (sym (reads.left ∙ may.left)) record { small = omega arith; valid = refl; to = inl refl });
  }

  abbrev pub status_after : ℕ → RecordState
  status_after = put g.status d.number attached

  not_used : IsUsed (g.status d.number) → ⊥
  not_used u = subst IsUsed own.1 u

  appends : Appended z (heap z words g.status) (heap z (set words place new) status_after) (stand q) d.number
  appends = let st = cell_stored z words new b.wide (stand q) 2 held.number (omega arith) in
      subst (λ (p : ℕ). Appended z (heap z words g.status) (heap z (set words p new) status_after) (stand q) d.number)
      (sym may.place_is) record {
        heads = st.heads;
        number = held.number;
        new_number = own.0;
        unused = not_used;
        attached_now = put_here g.status d.number attached;
        others = λ m ne. put_else g.status d.number attached m ne;
        values = λ m is_m. ap₂ (λ l h. value_of (halves l h)) (st.cells m 1 is_m (omega arith) (λ y. let e = y.1 in omega arith))
            (st.cells m 4 is_m (omega arith) (λ y. let e = y.1 in omega arith));
        here = st.here ∙ may.new_is;
        links = λ m is_m ne. st.cells m 2 is_m (omega arith) (λ y. ne y.0);
        nil = nil;
        new_nil = reads.left ∙ may.left;
      }

  abbrev pub after_link : QueuePass
  after_link = linked i d.number q

  abbrev pub change : QueueChange
  change = change_of q.number (length (placed_by q.number g.order) + 1) (call.Put v)

  abbrev pub call_now : QueuePlaced
  call_now = placed (call.Put v) said.Put (length (log_of g.order) + 1)

  abbrev pub link_entry : QueueStep
  link_entry = entry put_step place (get_or words place 0) new (change ∷ []) (call_now ∷ []) g.order after_link

  pub base_linked : Base 1 z (set words place new) (after_step g after_link status_after link_entry)
  base_linked = base_published 1 z words g q after_link i d place new link_entry b pass is may.owned_at
      record {
        rest = record {
          number = refl;
          sizes = refl;
          retired_are = refl;
          walk = refl;
          frontier = refl;
          chains = refl;
          scan = refl;
        };
        owned = refl;
      } publishes

  value_d : (heap z words g.status).value d.number ≡ v
  value_d = ap₂ (λ l h. value_of (halves l h)) reads.value reads.high ∙ may.value

  pub queues_linked : Queues z (set words place new) (after_step g after_link status_after link_entry)
  queues_linked = let t : Heap = heap z words g.status in let t' : Heap = heap z (set words place new) status_after in
      let log : List QueueChange = log_of g.order in let o = calls_of z words g q b l pass is in
      let items : List ℕ = items_of log in
      let not_before = stood.back may.word may.back on in
      let steady : Steady z t t' = steady_appended z t t' l.at items
      (stand q) d.number v may.two l.lined appends held.used value_d not_before in
      let used : (n : ℕ) → IsUsed (g.status n) → IsUsed (status_after n) = λ n u. subst IsUsed
      (sym (put_else g.status d.number attached n (λ same. not_used (subst (λ (k : ℕ). IsUsed (g.status k)) same u)))) u in
      let st = stood_after z words (set words place new) g status_after q b l pass is may.two steady used in
      queues_changed z words (set words place new) g q after_link status_after link_entry
      (at_more z t t' l.at items (stand q) d.number v may.two l.lined appends held.used value_d not_before)
      b l pass refl (λ c i. ap (λ (c : QueueChange). c.caller) (sym (in_one c change i)))
      (only_change (λ (c : QueueChange). c.caller ≡ q.number) change refl) refl
      (sound_change queue log change l.sound refl)
      (subst (λ (items : List ℕ). Lined z t' (at_more z t t' l.at (items_of log)
      (stand q) d.number v may.two l.lined appends held.used value_d not_before) items)
      (sym (contents_push queue log change))
      (lined_appended z t t' l.at items (stand q) d.number v may.two l.lined appends held.used value_d not_before))
      (let e = length-append log (change ∷ []) in omega arith) (λ _. steady) used
      record {
        stands = subst (λ (mine : List QueuePlaced). StandsIn (log ++ change ∷ []) q.number mine)
            (sym (placed_here g.order link_entry))
            (stands_change queue log q.number (placed_by q.number g.order) call_now o.stands refl refl refl);
        since = λ bad. absurd (false≢true bad);
        earlier = λ bad. absurd (false≢true bad);
        stood = λ _. record {
          held = st.held;
          next = λ _ _. leads_to (t'.link (stand q)) d.number appends.here;
          front = st.front;
          past = st.past;
          back = st.back;
        };
        sole = λ _ _. record { last = λ bad. absurd (false≢true (sym bad)); front = λ _ _ bad. absurd (false≢true bad) };
      }

module _ (opens : Sizes → List ℕ) where
  -- an exchange that found another word leaves it
  missed_leaves : (hit : Bool) (m new : ℕ) → only_loads (cond hit put_step missed_step) ≡ true → either hit new m ≡ m
  missed_leaves true m new bad = absurd (false≢true bad)
  missed_leaves false m new e = refl

  stores_none : (hit : Bool) → goes_aside (cond hit put_step missed_step) ≡ false
  stores_none true = refl
  stores_none false = refl

  -- A put takes effect.
  pub links_one : (z : Sizes) (slots id i : ℕ) (d : PrivateRecord) (place v new : ℕ) (me : Me Unit QueueView) → IsAlone me
      → MayLink z me.0.known i d place v new
      → Allows (Holds 1 opens Queues z) slots id me place (λ n. either (eqb n 0) new n)
      (λ n m'. (m'.1 ≡ []) × Linked i d.number place v new n me.0 m'.0)
  links_one z slots id i d place v new me lone may = let q : QueuePass = me.0.known in
      let then : ℕ → Me Unit QueueView → Type 0 = λ n m'. (m'.1 ≡ []) × Linked i d.number place v new n me.0 m'.0 in
      allows_by 1 opens Queues z slots id place (λ n. cond (eqb n 0) put_step missed_step) me (λ n. either (eqb n 0) new n)
      (λ n. n) then
      lone (λ n _. refl) (λ n bad. absurd (false≢true (sym (stores_none (eqb n 0)) ∙ bad)))
      (λ n. missed_leaves (eqb n 0) n new)
      (λ words g b add pass is sizes fits. let n : ℕ = get_or words place 0 in dite (ℕ_discrete n 0)
      (λ e. subst (λ (hit : Bool). Plays 1 opens Queues (cond hit put_step missed_step) place n (either hit new n) z words g me.0
      (then n))
      (sym (eq-eqb n 0 e))
      (let c : QueueChange = change z words g q i d place v new b add pass is may e in
      let s : QueuePlaced = call_now z words g q i d place v new b add pass is may e in
      let known : QueuePass = linked i d.number q in
      let x : QueueStep = entry put_step place n new (c ∷ []) (s ∷ []) g.order known in record {
        known = known;
        status = put g.status d.number attached;
        changes = c ∷ [];
        placed = s ∷ [];
        keeps_rule = record {
          number = refl;
          sizes = sizes;
          base = base_linked z words g q i d place v new b add pass is may e;
          added = queues_linked z words g q i d place v new b add pass is may e;
        };
        tells = λ w at made. (
          refl,
          record {
            same = λ _. subst (λ (c : QueueChange). MadeStep put_step place n new (c ∷ [])
                (placed_at (call.Put v) said.Put w ∷ []) known me.0 w)
                (sym (change_told g.order known x w at refl (call.Put v) s refl))
                (subst (λ (s : QueuePlaced). MadeStep put_step place n new (c ∷ []) (s ∷ []) known me.0 w)
                (sym (place_told g.order known x w at refl (call.Put v) said.Put c refl)) made);
            other = λ ne. absurd (ne e);
            stands = λ _. subst StandsThen (sym at) ((queues_linked z words g q i d place v new b add pass is may e).each q.number
                pass).stands;
          },
        );
      }))
      (λ ne. subst (λ (hit : Bool). Plays 1 opens Queues (cond hit put_step missed_step) place n
      (either hit new n) z words g me.0 (then n))
      (sym (ne_eqb n 0 ne)) record {
        known = q;
        status = g.status;
        changes = [];
        placed = [];
        keeps_rule = idle_keeps 1 opens Queues alike missed_step place z words g q b add pass is sizes;
        tells = λ w at made. (refl, record { same = λ e. absurd (ne e); other = λ _. made; stands = λ e. absurd (ne e) });
      }))
