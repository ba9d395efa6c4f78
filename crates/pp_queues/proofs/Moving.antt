-- The exchange of head 1, and what all exchanges of a queue have in common.
use Rattle.std.proofs.Common.{◌≡◌, inr, ℕ, ◌*◌, ◌<◌, ◌≤◌, Bool, true, false, cond, eqb}
use Rattle.std.proofs.Common.{List, [], ◌∷◌, ◌++◌, length, get_or, set, sym, refl, ap, ap₂, ◌∙◌, subst, arith, append-nil}
use Rattle.std.proofs.Common.{eq-eqb, ne_eqb}
use Rattle.std.proofs.Math.Bool.{false≢true}
use Rattle.std.proofs.Math.Decide.{ℕ_discrete}
use mathlib.Core.Logic.{dite}
use prog.Atomic.{either}
use Rattle.atomic_table.specs.Table.{Me, Allows}
use Rattle.pp_link.specs.declared.layout.Sizes.{Sizes}
use Rattle.pp_link.specs.Links.{target}
use Rattle.pp_link.specs.Places.{IsNumber, head_place, IsWithin}
use Rattle.pp_link.proofs.Stores.{head_stored}
use Rattle.pp_rule.specs.Orders.{only_loads, log_of, placed_by, goes_aside, missed_step}
use Rattle.pp_rule.specs.Views.{halves, value_of, slot}
use Rattle.pp_rule.specs.States.{RecordState, attached, IsUsed, Leads, PoolState}
use Rattle.pp_rule.specs.Rule.{Base}
use Rattle.pp_rule.specs.Detach.{IsFreeLink}
use Rattle.pp_rule.specs.Changes.{Relinks}
use Rattle.pp_rule.specs.Ties.{Holds}
use Rattle.pp_rule.specs.Steps.{entry, IsAlone}
use Rattle.pp_rule.proofs.Put.{in_nil}
use Rattle.pp_rule.proofs.Histories.{placed_here}
use Rattle.pp_rule.proofs.Stepping.{after_step, Plays, allows_by}
use Rattle.pp_rule.proofs.Keeping.{idle_keeps}
use Rattle.pp_rule.proofs.Relinking.{base_relinked}
use Rattle.pp_queues.specs.declared.calls.QueueChange.{QueueChange}
use Rattle.pp_queues.specs.declared.calls.QueuePlaced.{QueuePlaced}
use Rattle.pp_queues.specs.Queue.{items_of, IsSound}
use Rattle.pp_queues.specs.Lines.{Heap, heap, Lined, Stood, Steady, Moved}
use Rattle.pp_queues.specs.Queues.{QueuePass, QueueState, QueueStep, QueueView, Calls, Queues}
use Rattle.pp_queues.specs.Turns.{advance_step, with_own, caught_up, stand, MayAdvance, Advanced}
use Rattle.pp_queues.proofs.Lining.{moved_last, lined_moved, steady_moved, moved_to_end, leads_to}
use Rattle.pp_rule.proofs.OwnSteps.{any_word}
use Rattle.pp_queues.proofs.Keeping.{stood_on, queues_changed}
use Rattle.pp_queues.proofs.Loading.{alike, calls_of, held_of, head_at, same_own_base}

-- the word of a head may be exchanged
pub free_head : {E A W : Type 0} (z : Sizes) (g : PoolState E A W) (h place : ℕ) → h < z.heads → place ≡ head_place z h
    → IsFreeLink z g place
free_head z g h place lt at = record {
  high = (omega arith, omega arith);
  holder = λ n f is_n lf e. absurd (let one : 1 ≤ n = is_n.0 in omega arith);
  unlearnt = λ r i l lr li held k e. absurd (omega arith);
}

-- a word without bits that leads to an attached record
pub leads_plain : (z : Sizes) (status : ℕ → RecordState) (n w : ℕ) → IsWithin z → w ≡ 16 * n → IsNumber z n → status n ≡ attached
    → Leads z status w
leads_plain z status n w within is number st = let few = within.records in let most = number.1 in record {
  small = omega arith;
  valid = omega arith;
  to = inr (subst (λ (k : ℕ). IsNumber z k × (status k ≡ attached)) (sym (leads_to w n is)) (number, st));
}

-- what is known of where the call of a pass stands, after a step that leaves its walk words
pub stood_after : (z : Sizes) (words words' : List ℕ) (g : QueueState) (status' : ℕ → RecordState) (q : QueuePass)
    → Base 1 z words g
    → (l : Queues z words g) → q.number < z.passes → g.of q.number ≡ q → (z.heads ≡ 2)
    → Steady z (heap z words g.status) (heap z words' status') → ((n : ℕ) → IsUsed (g.status n) → IsUsed (status' n))
    → Stood (heap z words' status') (slot q) q.own
stood_after z words words' g status' q b l pass is two steady used =
    stood_on z (heap z words g.status) (heap z words' status') steady any_word (slot q) (slot q)
    record { held = λ i _ _ h. h; named = λ i _ _ _. refl }
    (λ i li h. let y = held_of z words g q b l pass is i li h in (y.number, y.used))
    (λ i li h. let y = held_of z words g q b l pass is i li h in (y.number, used (slot q i).named y.used)) q.own (λ _. tt)
    ((calls_of z words g q b l pass is).stood two)

module _ (z : Sizes) (words : List ℕ) (g : QueueState) (q : QueuePass) (place first new : ℕ) (b : Base 1 z words g)
    (l : Queues z words g)
    (pass : q.number < z.passes) (is : g.of q.number ≡ q) (may : MayAdvance z q place first new)
    (hit : get_or words place 0 ≡ first) where
  stood : Stood (heap z words g.status) (slot q) q.own
  stood = (calls_of z words g q b l pass is).stood may.two

  abbrev heap_after : Heap
  heap_after = heap z (set words place new) g.status

  moves : Moved z (heap z words g.status) (heap z (set words place new) g.status) (stand q) q.own.next
  moves = let two = may.two in let st = head_stored z words new b.wide 1 (omega arith) in
      subst (λ (p : ℕ). Moved z (heap z words g.status) (heap z (set words p new) g.status) (stand q) q.own.next)
      (sym may.place_is) record {
        two = may.two;
        front = st.heads 0 (omega arith) (λ e. absurd (omega arith));
        from = sym (head_at z words 1 place may.place_is) ∙ (hit ∙ may.first_is);
        to = st.here ∙ may.new_is;
        leads = stood.next may.word may.some;
        some = may.some;
        status = λ k. refl;
        values = λ k is_k. ap₂ (λ l h. value_of (halves l h)) (st.cells k 1 is_k (omega arith)) (st.cells k 4 is_k (omega arith));
        links = λ k is_k. st.cells k 2 is_k (omega arith);
      }

  abbrev items : List ℕ
  items = items_of (log_of g.order)

  relinks : Relinks z g place new
  relinks = let two = may.two in
      let last = moved_last z (heap z words g.status) (heap z (set words place new) g.status) l.at items
      (stand q) q.own.next l.lined moves in
      let y = l.lined.each (length items) (omega arith) in record {
        place_is = free_head z g 1 place (omega arith) may.place_is;
        leads = leads_plain z g.status q.own.next new b.within may.new_is (subst (IsNumber z) last.1.2 y.0)
            (subst (λ (k : ℕ). g.status k ≡ attached) last.1.2 y.1);
      }

  -- the pass after it
  abbrev pub after_move : QueuePass
  after_move = with_own (caught_up q.own) q

  abbrev pub advance_entry : QueueStep
  advance_entry = entry advance_step place (get_or words place 0) new [] [] g.order after_move

  pub base_moved : Base 1 z (set words place new) (after_step g after_move g.status advance_entry)
  base_moved = base_relinked 1 z words g q after_move place new advance_entry b pass is (same_own_base (caught_up q.own) q) relinks

  pub queues_moved : Queues z (set words place new) (after_step g after_move g.status advance_entry)
  queues_moved = let t : Heap = heap z words g.status in let t' : Heap = heap z (set words place new) g.status in
      let log : List QueueChange = log_of g.order in let o = calls_of z words g q b l pass is in
      let steady = steady_moved z t t' l.at items (stand q) q.own.next l.lined moves in
      let none : log ++ [] ≡ log = append-nil log in
      queues_changed z words (set words place new) g q after_move g.status advance_entry l.at b l pass refl (λ c i. absurd (in_nil c i))
      (λ k c e. cc) refl
      (subst IsSound (sym none) l.sound)
      (subst (λ (log : List QueueChange). Lined z t' l.at (items_of log)) (sym none)
      (lined_moved z t t' l.at items (stand q) q.own.next l.lined moves))
      (let e = ap (λ (l : List QueueChange). length l) none in omega arith) (λ _. steady) (λ n u. u)
      (subst (λ (log : List QueueChange). Calls z t' log q.number (slot q) after_move.own
      (placed_by q.number (g.order ++ advance_entry ∷ []))) (sym none)
      (subst (λ (mine : List QueuePlaced). Calls z t' log q.number (slot q) after_move.own mine)
      (sym (placed_here g.order advance_entry ∙ append-nil (placed_by q.number g.order))) record {
        stands = o.stands;
        since = o.since;
        earlier = o.earlier;
        stood = λ two. let st = stood_after z words (set words place new) g g.status q b l pass is two steady (λ n u. u) in
            record { held = st.held; next = st.next; front = st.front; past = st.past; back = st.back };
        sole = λ one two. record {
          last = λ _. ap target (moved_to_end z t t' l.at items (stand q) q.own.next l.lined moves);
          front = (o.sole one two).front;
        };
      }))

module _ (opens : Sizes → List ℕ) where
  -- an exchange that found another word leaves it
  missed_leaves : (hit : Bool) (m new : ℕ) → only_loads (cond hit advance_step missed_step) ≡ true → either hit new m ≡ m
  missed_leaves true m new bad = absurd (false≢true bad)
  missed_leaves false m new e = refl

  stores_none : (hit : Bool) → goes_aside (cond hit advance_step missed_step) ≡ false
  stores_none true = refl
  stores_none false = refl

  -- A call moves head 1 on.
  pub advances : (z : Sizes) (slots id place first new : ℕ) (me : Me Unit QueueView) → IsAlone me
      → MayAdvance z me.0.known place first new
      → Allows (Holds 1 opens Queues z) slots id me place (λ n. either (eqb n first) new n)
      (λ n m'. (m'.1 ≡ []) × Advanced place first new n me.0 m'.0)
  advances z slots id place first new me lone may = let q : QueuePass = me.0.known in
      let then : ℕ → Me Unit QueueView → Type 0 = λ n m'. (m'.1 ≡ []) × Advanced place first new n me.0 m'.0 in
      allows_by 1 opens Queues z slots id place (λ n. cond (eqb n first) advance_step missed_step) me
      (λ n. either (eqb n first) new n) (λ n. n) then
      lone (λ n _. refl) (λ n bad. absurd (false≢true (sym (stores_none (eqb n first)) ∙ bad)))
      (λ n. missed_leaves (eqb n first) n new)
      (λ words g b add pass is sizes fits. let n : ℕ = get_or words place 0 in dite (ℕ_discrete n first)
      (λ e. subst (λ (hit : Bool). Plays 1 opens Queues (cond hit advance_step missed_step) place n
      (either hit new n) z words g me.0 (then n))
      (sym (eq-eqb n first e)) record {
        known = with_own (caught_up q.own) q;
        status = g.status;
        changes = [];
        placed = [];
        keeps_rule = record {
          number = refl;
          sizes = sizes;
          base = base_moved z words g q place first new b add pass is may e;
          added = queues_moved z words g q place first new b add pass is may e;
        };
        tells = λ w at made. (refl, record { same = λ _. made; other = λ ne. absurd (ne e) });
      })
      (λ ne. subst (λ (hit : Bool). Plays 1 opens Queues (cond hit advance_step missed_step) place n
      (either hit new n) z words g me.0 (then n))
      (sym (ne_eqb n first ne)) record {
        known = q;
        status = g.status;
        changes = [];
        placed = [];
        keeps_rule = idle_keeps 1 opens Queues alike missed_step place z words g q b add pass is sizes;
        tells = λ w at made. (refl, record { same = λ e. absurd (ne e); other = λ _. made });
      }))
