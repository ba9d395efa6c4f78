-- The loads of the calls on a queue: that the rule allows them, with what they tell.
use Rattle.std.proofs.Common.{◌≡◌, ◌≢◌, inl, inr, ⊎_elim, ℕ, ◌+◌, ◌*◌, ◌-◌, ◌<◌, ◌≤◌, Bool, true, false}
use Rattle.std.proofs.Common.{cond, eqb}
use Rattle.std.proofs.Common.{List, [], ◌∷◌, ◌++◌, length, get_or, sym, refl, ap, ◌∙◌, subst, arith, append-nil}
use Rattle.std.proofs.Common.{eq-eqb, ne_eqb}
use Rattle.std.proofs.Math.Bool.{false≢true}
use Rattle.std.proofs.Math.Decide.{ℕ_discrete}
use mathlib.Core.Logic.{dite}
use Rattle.atomic_table.specs.Table.{Me, Allows}
use Rattle.pp_link.specs.declared.layout.Sizes.{Sizes}
use Rattle.pp_link.specs.Links.{target, invalid_bit}
use Rattle.pp_link.specs.Places.{IsNumber, head_place, cell_place}
use Rattle.pp_link.specs.Words.{head_word, cell_word}
use Rattle.pp_rule.specs.declared.views.WalkSlot.{WalkSlot}
use Rattle.pp_rule.specs.Orders.{log_of, placed_by, goes_aside, load_step, confirm_step}
use Rattle.pp_rule.specs.declared.views.Halves.{Halves}
use Rattle.pp_rule.specs.Views.{halves, slot}
use Rattle.pp_rule.specs.States.{attached, IsUsed, Held}
use Rattle.pp_rule.specs.Rule.{Base}
use Rattle.pp_rule.specs.Ties.{Holds}
use Rattle.pp_rule.specs.Changes.{SameBase}
use Rattle.pp_rule.specs.Steps.{entry, IsAlone, MadeStep, MadeQuietStep, IsSource, holding}
use Rattle.pp_rule.specs.Laws.{KeptAlike}
use Rattle.pp_rule.proofs.Put.{put, put_each}
use Rattle.pp_rule.proofs.Slots.{WalkSet, slot_here}
use Rattle.pp_rule.proofs.Histories.{log_snoc, placed_here, placed_else}
use Rattle.pp_rule.proofs.Stepping.{after_step, Plays, allows, allows_by}
use Rattle.pp_rule.proofs.Sources.{source_sound}
use Rattle.pp_rule.proofs.Keeping.{load_keeps, idle_keeps, base_idle}
use Rattle.pp_rule.proofs.Confirming.{base_confirmed}
use Rattle.pp_queues.specs.declared.calls.QueueCall.TheVariants as call
use Rattle.pp_queues.specs.declared.calls.QueueReply.TheVariants as said
use Rattle.pp_queues.specs.declared.calls.QueueChange.{QueueChange}
use Rattle.pp_queues.specs.declared.calls.QueuePlaced.{QueuePlaced}
use Rattle.pp_queues.specs.declared.own.QueueOwn.{QueueOwn}
use Rattle.pp_model.specs.Objects.{after}
use Rattle.pp_queues.specs.Queue.{queue, reply, placed, items_of, IsSound}
use Rattle.pp_queues.specs.Lines.{Heap, heap, Lined, Stood, Sole}
use Rattle.pp_queues.specs.Queues.{QueuePass, QueueState, QueueStep, QueueView, Calls, Queues}
use Rattle.pp_queues.specs.Turns.{StandsThen, empty_step, with_own, stand, beginning, resting, leading, passed, IsLoaded}
use Rattle.pp_queues.specs.Turns.{IsEnd, Begins, Ends, end_number, standing, Came}
use Rattle.pp_queues.specs.Turns.{Saw, Looked, Settled, Tried}
use Rattle.pp_model.proofs.Logs.{fits_within, stands_unchanged, after_all}
use Rattle.pp_queues.proofs.Lining.{not_before_own, none_behind, nowhere_plain, leads_to, times_once}
use Rattle.pp_rule.proofs.OwnSteps.{own_more, own_none, log_quiet, plays_as, least_from}
use Rattle.pp_queues.proofs.Keeping.{stood_nowhere, queues_alike}

pub alike : KeptAlike 1 Queues
alike z words words' g g' b b' same add = queues_alike z words words' g g' b b' same add

-- the words of a head and of a link, by their places
pub head_at : (z : Sizes) (words : List ℕ) (h place : ℕ) → place ≡ head_place z h → get_or words place 0 ≡ head_word words z h
unfolding head_word
head_at z words h place at = ap (λ (p : ℕ). get_or words p 0) at

pub link_at : (z : Sizes) (words : List ℕ) (n place : ℕ) → place ≡ cell_place z n 2 → get_or words place 0 ≡ cell_word words z n 2
unfolding cell_word
link_at z words n place at = ap (λ (p : ℕ). get_or words p 0) at

-- the words and the states are as they were, and of the pass its walk words, its own part and its list are new
pub queues_own : (z : Sizes) (words : List ℕ) (g : QueueState) (q q' : QueuePass) (e : QueueStep) → Queues z words g
    → e.entry.changes ≡ []
    → e.entry.pass ≡ q.number → q'.number ≡ q.number
    → Calls z (heap z words g.status) (log_of g.order) q.number (slot q') q'.own (placed_by q.number g.order ++ e.placed)
    → Queues z words (after_step g q' g.status e)
queues_own z words g q q' e l told pass number own = let log : List QueueChange = log_of g.order in
    let t : Heap = heap z words g.status in
    let now : log_of (g.order ++ e ∷ []) ≡ log = log_snoc g.order e ∙ (ap (λ (xs : List QueueChange). log ++ xs) told
    ∙ append-nil log) in
    let mine : placed_by q.number (g.order ++ e ∷ []) ≡ placed_by q.number g.order ++ e.placed =
    subst (λ (n : ℕ). placed_by n (g.order ++ e ∷ []) ≡ placed_by n g.order ++ e.placed) pass (placed_here g.order e) in record {
      sound = subst IsSound (sym now) l.sound;
      own_changes = own_more (λ (c : QueueChange). c.caller) g.order e l.own_changes (own_none (λ (c : QueueChange). c.caller) e told);
      at = l.at;
      lined = subst (λ (log : List QueueChange). Lined z t l.at (items_of log)) (sym now) l.lined;
      each = λ p lt. subst (λ (log : List QueueChange). Calls z t log p (slot (put g.of q'.number q' p))
          (put g.of q'.number q' p).own
          (placed_by p (g.order ++ e ∷ []))) (sym now)
          (put_each (λ (r : ℕ) (v : QueuePass). r < z.passes
          → Calls z t log r (slot v) v.own (placed_by r (g.order ++ e ∷ []))) g.of q'.number q'
          (λ _. subst (λ (r : ℕ). Calls z t log r (slot q') q'.own (placed_by r (g.order ++ e ∷ []))) (sym number)
          (subst (λ (mine : List QueuePlaced). Calls z t log q.number (slot q') q'.own mine) (sym mine) own))
          (λ r ne lr. subst (λ (mine : List QueuePlaced). Calls z t log r (slot (g.of r)) (g.of r).own mine)
          (sym (placed_else r g.order e (λ same. ne (sym same ∙ (pass ∙ sym number))))) (l.each r lr)) p lt);
    }

pub same_own_base : (own : QueueOwn) (q : QueuePass) → SameBase q (with_own own q)
same_own_base own q = record {
  rest = record { number = refl; sizes = refl; retired_are = refl; walk = refl; frontier = refl; chains = refl; scan = refl };
  owned = refl;
}

-- whether a take is answered Empty
is_empty : (items : List ℕ) → Dec (reply items call.Take ≡ said.Empty)
is_empty [] = yes refl
is_empty (v ∷ items) = no (λ e. cc)

module _ (z : Sizes) (words : List ℕ) (g : QueueState) (q : QueuePass) (b : Base 1 z words g) (l : Queues z words g)
    (pass : q.number < z.passes) (is : g.of q.number ≡ q) where
  pub mine : List QueuePlaced
  mine = placed_by q.number g.order

  pub calls_of : Calls z (heap z words g.status) (log_of g.order) q.number (slot q) q.own (placed_by q.number g.order)
  calls_of = subst (λ (v : QueuePass). Calls z (heap z words g.status) (log_of g.order) q.number (slot v) v.own
      (placed_by q.number g.order)) is
      (l.each q.number pass)

  pub held_of : (j : ℕ) → j < 5 → (slot q j).held ≡ true → Held z words g.status (slot q j)
  held_of j lt h = subst (λ (v : QueuePass). (slot v j).held ≡ true
      → Held z words g.status (slot v j)) is (b.hazards.held q.number j pass lt) h

  -- what a load of a link of the head or of a held record tells of the word
  pub is_loaded : q.sizes ≡ z → (place : ℕ) → IsSource 1 z q place → IsLoaded q.sizes (get_or words place 0)
  is_loaded sizes place source = let n : ℕ = get_or words place 0 in
      let sound = source_sound 1 z words g q place b pass is source in record {
        small = sound.small;
        to = λ valid. ⊎_elim inl (λ (t : IsNumber z (target n) × IsUsed (g.status (target n))). inr
            (subst (λ (y : Sizes). IsNumber y (target n)) (sym sizes) t.0))
            (sound.to valid);
      }

  -- a call with other things known of where it stands
  pub calls_with : (own : QueueOwn) → own.going ≡ q.own.going → own.start ≡ q.own.start
      → (z.heads ≡ 2 → Stood (heap z words g.status) (slot q) own)
      → (z.passes ≡ 1 → z.heads ≡ 2 → Sole (heap z words g.status) (slot q) own)
      → Calls z (heap z words g.status) (log_of g.order) q.number (slot q) own (placed_by q.number g.order ++ [])
  calls_with own going start stood sole = let o = calls_of in
      subst (λ (mine : List QueuePlaced). Calls z (heap z words g.status) (log_of g.order) q.number (slot q) own mine)
      (sym (append-nil (placed_by q.number g.order))) record {
        stands = o.stands;
        since = λ go. let le = o.since (sym going ∙ go) in let s = start in omega arith;
        earlier = λ go i x at. let le = o.earlier (sym going ∙ go) i x at in let s = start in omega arith;
        stood = stood;
        sole = sole;
      }

  module _ (opens : Sizes → List ℕ) (v : QueueView) (known_is : v.known ≡ q) (sizes : q.sizes ≡ z) (kind place : ℕ)
      (own : QueueOwn)
      (o : Calls z (heap z words g.status) (log_of g.order) q.number (slot q) own (placed_by q.number g.order ++ [])) where
    -- a load after which the pass has this part of the queue's
    pub plays_own : Plays 1 opens Queues kind place (get_or words place 0) (get_or words place 0) z words g v
        (λ m'. (m'.1 ≡ []) × (MadeQuietStep kind place (get_or words place 0) (get_or words place 0) (with_own own q) v m'.0
        × (log_of m'.0.order ≡ log_of g.order)))
    plays_own = let n : ℕ = get_or words place 0 in let known : QueuePass = with_own own q in
        let e : QueueStep = entry kind place n n [] [] g.order known in record {
          known = known;
          status = g.status;
          changes = [];
          placed = [];
          keeps_rule = load_keeps 1 opens Queues kind place z words g v.known known g.status [] [] (ap
              (λ (k : QueuePass). k.number) (sym known_is)) sizes
              (base_idle 1 z words g q known e b pass is (same_own_base own q))
              (queues_own z words g q known e l refl refl refl o);
          tells = λ w at made. (refl, (made, log_quiet g.order known e w at refl refl));
        }

  module _ (opens : Sizes → List ℕ) (v : QueueView) (known_is : v.known ≡ q) (sizes : q.sizes ≡ z) (place : ℕ) where
    -- a load that settles that a take is answered Empty
    pub plays_settled : q.own.going ≡ true → items_of (log_of g.order) ≡ []
        → Plays 1 opens Queues empty_step place (get_or words place 0) (get_or words place 0) z words g v
        (λ m'. (m'.1 ≡ []) × Settled place (get_or words place 0) v m'.0)
    plays_settled going none = let log : List QueueChange = log_of g.order in let o = calls_of in let start : ℕ = q.own.start in
        let from : start ≤ length log = o.since going in let sum : length log ≡ start + (length log - start) = omega arith in
        let now : reply (after queue log (length log)) call.Take ≡ said.Empty =
        ap (λ (items : List ℕ). reply items call.Take) (after_all queue log ∙ none) in
        let y = least_from (λ (p : ℕ). reply (after queue log p) call.Take ≡ said.Empty) (λ p. is_empty (after queue log p)) start
        (length log - start) start (omega arith) (subst (λ (p : ℕ). reply (after queue log p) call.Take ≡ said.Empty) sum now)
        (λ x lo hi _. omega arith) in
        let p : ℕ = y.0 in let up : p ≤ start + (length log - start) = y.2 in
        let s : QueuePlaced = placed call.Take said.Empty p in
        let known : QueuePass = with_own (resting q.own) q in let n : ℕ = get_or words place 0 in
        let e : QueueStep = entry empty_step place n n [] (s ∷ []) g.order known in
        let added : Queues z words (after_step g known g.status e) = queues_own z words g q known e l refl refl refl record {
          stands = stands_unchanged queue log q.number
              (placed_by q.number g.order) s o.stands refl record { within = omega arith; right = y.3 }
              (λ i x at. let early = o.earlier going i x at in let from = y.1 in omega arith);
          since = λ bad. absurd (false≢true bad);
          earlier = λ bad. absurd (false≢true bad);
          stood = λ two. let st = o.stood two in record {
            held = st.held;
            next = st.next;
            front = st.front;
            past = st.past;
            back = st.back;
          };
          sole = λ one two. record { last = (o.sole one two).last; front = λ _ _ bad. absurd (false≢true bad) };
        } in record {
          known = known;
          status = g.status;
          changes = [];
          placed = s ∷ [];
          keeps_rule = load_keeps 1 opens Queues empty_step place z words g v.known known g.status [] (s ∷ [])
              (ap (λ (k : QueuePass). k.number) (sym known_is)) sizes
              (base_idle 1 z words g q known e b pass is (same_own_base (resting q.own) q))
              added;
          tells = λ w at made. let told : log ≡ log_of w.order = sym (log_quiet g.order known e w at refl refl) in (
            refl,
            record {
              at = p;
              since = subst (λ (k : QueuePass). k.own.start ≤ p) (sym known_is) y.1;
              within = subst (λ (l : List QueueChange). p ≤ length l) told (omega arith);
              right = subst (λ (l : List QueueChange). reply (after queue l p) call.Take ≡ said.Empty) told y.3;
              least = subst (λ (k : QueuePass). (x : ℕ) → k.own.start ≤ x → x < p
                  → reply (after queue (log_of w.order) x) call.Take ≡ said.Empty → ⊥) (sym known_is)
                  (subst (λ (l : List QueueChange). (x : ℕ) → start ≤ x → x < p
                  → reply (after queue l x) call.Take ≡ said.Empty → ⊥) told y.4);
              made = subst (λ (k : QueuePass). MadeStep empty_step place n n [] (s ∷ []) (with_own (resting k.own) k) v w)
                  (sym known_is) made;
              stands = subst StandsThen (sym at) (added.each q.number pass).stands;
            },
          );
        }

module _ (opens : Sizes → List ℕ) where
  -- where a head leads
  head_leads : (z : Sizes) (words : List ℕ) (g : QueueState) → Queues z words g → z.heads ≡ 2 → (front : Bool) (place : ℕ)
      → place ≡ head_place z (end_number front) → (i : ℕ) × ((get_or words place 0 ≡ 16 * i)
      × ((front ≡ true → (heap z words g.status).head 0 ≡ 16 * i) × (front ≡ false → (heap z words g.status).head 1 ≡ 16 * i)))
  unfolding head_word
  head_leads z words g l two true place at = let y = l.lined.front in
      (l.at 0, (ap (λ (p : ℕ). get_or words p 0) at ∙ y, ((λ _. y), (λ bad. absurd (false≢true (sym bad))))))
  head_leads z words g l two false place at = let y = l.lined.back two in
      (l.at y.0, (ap (λ (p : ℕ). get_or words p 0) at ∙ y.1.2, ((λ bad. absurd (false≢true bad)), (λ _. y.1.2))))

  low_head : (z : Sizes) → z.heads ≡ 2 → (front : Bool) → end_number front < z.heads
  low_head z two true = omega arith
  low_head z two false = omega arith

  -- so it has no bits, and leads to a record
  end_of : (z : Sizes) (words : List ℕ) (g : QueueState) (q : QueuePass) → Queues z words g → q.sizes ≡ z → z.heads ≡ 2
      → (front : Bool) (place : ℕ)
      → place ≡ head_place z (end_number front) → IsEnd q.sizes (get_or words place 0)
  end_of z words g q l sizes two front place at = subst (λ (y : Sizes). IsEnd y (get_or words place 0)) (sym sizes) (go front at)
    where
      go : (front : Bool) → place ≡ head_place z (end_number front) → IsEnd z (get_or words place 0)
      go true at = let e = head_at z words 0 place at ∙ l.lined.front in record {
        number = subst (IsNumber z) (sym (leads_to (get_or words place 0) (l.at 0) e)) (l.lined.each 0 (omega arith)).0;
        plain = omega (arith, e);
      }
      go false at = let b = l.lined.back two in let e = head_at z words 1 place at ∙ b.1.2 in record {
        number = subst (IsNumber z) (sym (leads_to (get_or words place 0) (l.at b.0) e)) (l.lined.each b.0 b.1.0).0;
        plain = omega (arith, e);
      }

  -- A load of a head.
  pub loads_end : (z : Sizes) (slots id place : ℕ) (front : Bool) (me : Me Unit QueueView) → IsAlone me → z.heads ≡ 2
      → place ≡ head_place z (end_number front)
      → Allows (Holds 1 opens Queues z) slots id me place (λ n. n) (λ n m'. (m'.1 ≡ []) × Ends place n me.0 m'.0)
  loads_end z slots id place front me lone two at = let q : QueuePass = me.0.known in
      allows 1 opens Queues z slots id place load_step me (λ n. n) (λ n. n) (λ n m'. (m'.1 ≡ []) × Ends place n me.0 m'.0) lone
      (λ n _. refl) (λ n bad. absurd (false≢true bad)) (λ n _. refl)
      (λ words g b add pass is sizes fits. record {
        known = q;
        status = g.status;
        changes = [];
        placed = [];
        keeps_rule = idle_keeps 1 opens Queues alike load_step place z words g q b add pass is sizes;
        tells = λ v _ made. (refl, record { end = end_of z words g q add sizes two front place at; made = made });
      })

  -- The first load of a take.
  pub begins_take : (z : Sizes) (slots id place : ℕ) (me : Me Unit QueueView) → IsAlone me → z.heads ≡ 2 → place ≡ head_place z 0
      → Allows (Holds 1 opens Queues z) slots id me place (λ n. n) (λ n m'. (m'.1 ≡ []) × Begins place n me.0 m'.0)
  begins_take z slots id place me lone two at = let q : QueuePass = me.0.known in
      allows 1 opens Queues z slots id place load_step me (λ n. n) (λ n. n) (λ n m'. (m'.1 ≡ []) × Begins place n me.0 m'.0) lone
      (λ n _. refl) (λ n bad. absurd (false≢true bad)) (λ n _. refl)
      (λ words g b add pass is sizes fits. let n : ℕ = get_or words place 0 in let log : List QueueChange = log_of g.order in
      let o = calls_of z words g q b add pass is in let own : QueueOwn = beginning (length log) q.own in
      plays_as 1 opens Queues (λ m'. (m'.1 ≡ []) × (MadeQuietStep load_step place n n (with_own own q) me.0 m'.0 ×
      (log_of m'.0.order ≡ log_of g.order)))
      (λ m'. (m'.1 ≡ []) × Begins place n me.0 m'.0)
      (plays_own z words g q b add pass is opens me.0 refl sizes load_step place own
      (subst (λ (mine : List QueuePlaced). Calls z (heap z words g.status) log q.number (slot q) own mine)
      (sym (append-nil (placed_by q.number g.order))) record {
        stands = o.stands;
        since = λ _. omega arith;
        earlier = λ _ i x at. fits_within queue log q.number (i + 1) x (o.stands.each i x at);
        stood = λ _. stood_nowhere (heap z words g.status) (slot q) own refl;
        sole = λ one two. record { last = (o.sole one two).last; front = λ bad. absurd (omega arith) };
      }))
      (λ w y. (
        y.0,
        record {
          end = end_of z words g q add sizes two true place at;
          made = subst (λ (l : List QueueChange). MadeQuietStep load_step place n n (with_own (beginning (length l) q.own) q) me.0 w)
              (sym y.1.1) y.1.0;
        },
      )))

  -- The confirming load of a head: the call stands at the record that it holds.
  pub comes : (z : Sizes) (slots id place i : ℕ) (front : Bool) (first : ℕ) (me : Me Unit QueueView) → IsAlone me → z.heads ≡ 2
      → i < 5
      → (slot me.0.known i).held ≡ false → (slot me.0.known i).named ≡ target first → invalid_bit first ≡ 0 → target first ≢ 0
      → place ≡ head_place z (end_number front)
      → Allows (Holds 1 opens Queues z) slots id me place (λ n. n) (λ n m'. (m'.1 ≡ []) × Came i front first n place me.0 m'.0)
  comes z slots id place i front first me lone two lt unheld named valid to_some at = let q : QueuePass = me.0.known in
      allows 1 opens Queues z slots id place confirm_step me (λ n. n) (λ n. n)
      (λ n m'. (m'.1 ≡ []) × Came i front first n place me.0 m'.0) lone
      (λ n _. refl) (λ n bad. absurd (false≢true bad)) (λ n _. refl)
      (λ words g b add pass is sizes fits. let n : ℕ = get_or words place 0 in let o = calls_of z words g q b add pass is in
      let source : IsSource 1 z q place = inl (end_number front, (low_head z two front, at)) in
      let sound = source_sound 1 z words g q place b pass is source in dite (ℕ_discrete n first)
      (λ hit. let ok : invalid_bit n ≡ 0 = ap invalid_bit hit ∙ valid in let t : ℕ = target n in
      let same : t ≡ target first = ap target hit in
      let some_t : t ≢ 0 = λ nil. to_some (sym same ∙ nil) in
      let to : IsNumber z t × IsUsed (g.status t) = ⊎_elim (λ (nil : t ≡ 0). absurd (some_t nil))
      (λ (y : IsNumber z t × IsUsed (g.status t)). y) (sound.to ok) in
      let leads = head_leads z words g add two front place at in let led : t ≡ leads.0 = leads_to n leads.0 leads.1.0 in
      let key : ℕ = cell_word words z t 0 in let value : Halves = halves (cell_word words z t 1) (cell_word words z t 4) in
      let w : WalkSlot = holding t key value in
      let known : QueuePass = standing i front t key value q in
      let e : QueueStep = entry confirm_step place n n [] [] g.order known in
      let five : length q.walk ≡ 5 = ap (λ (v : QueuePass). length v.walk) (sym is) ∙ b.hazards.five q.number pass in
      let sets : WalkSet i w q known = record {
        number = refl;
        sizes = refl;
        owned = refl;
        retired_are = refl;
        frontier = refl;
        chains = refl;
        scan = refl;
        walk = refl;
      } in
      let here_is : slot known i ≡ w = slot_here q known i w refl (omega arith) in
      let base : Base 1 z words (after_step g known g.status e) = base_confirmed 1 z words g q known i e place b pass is lt
      source ok some_t
      (named ∙ sym same) sets in
      let calls : Calls z (heap z words g.status) (log_of g.order) q.number (slot known) known.own
      (placed_by q.number g.order) = record {
        stands = o.stands;
        since = o.since;
        earlier = o.earlier;
        stood = λ _. subst (λ (v : WalkSlot). (v.held ≡ true) × ((front ≡ true → (heap z words g.status).head 0 ≡ 16 * v.named)
            × (front ≡ false → target ((heap z words g.status).link (target ((heap z words g.status).head 1))) ≢ v.named))
            → Stood (heap z words g.status) (slot known) known.own) here_is
            (λ y. record {
              held = λ _. y.0;
              next = λ _ bad. absurd (bad refl);
              front = λ _ fr _. y.1.0 fr;
              past = λ _ _ bad. absurd (false≢true bad);
              back = λ _ fr _. y.1.1 fr;
            }) (
              refl,
              (
                (λ fr. leads.1.1.0 fr ∙ ap (λ (k : ℕ). 16 * k) (sym led)),
                (λ fr. not_before_own z (heap z words g.status) add.at
                    (items_of (log_of g.order)) add.lined two t (leads.1.1.1 fr ∙ ap (λ (k : ℕ). 16 * k) (sym led)) to.0),
              ),
            );
        sole = λ one two. record {
          last = (o.sole one two).last;
          front = λ _ fr _. ap g.status (ap (λ (v : WalkSlot). v.named) here_is
              ∙ (led ∙ sym (times_once (add.at 0) leads.0 (sym add.lined.front ∙ leads.1.1.0 fr))))
              ∙ (add.lined.each 0 (omega arith)).1;
        };
      } in record {
        known = known;
        status = g.status;
        changes = [];
        placed = [];
        keeps_rule = load_keeps 1 opens Queues confirm_step place z words g q known g.status [] [] refl sizes base
            (queues_own z words g q known e add refl refl refl
            (subst (λ (mine : List QueuePlaced). Calls z (heap z words g.status) (log_of g.order) q.number
            (slot known) known.own mine)
            (sym (append-nil (placed_by q.number g.order))) calls));
        tells = λ v _ made. (
          refl,
          record {
            small = sound.small;
            number = λ _. subst (λ (k : ℕ). IsNumber q.sizes k) same (subst (λ (y : Sizes). IsNumber y t) (sym sizes) to.0);
            same = λ _. (
              key,
              (
                value,
                subst (λ (k : ℕ). MadeQuietStep confirm_step place n n
                    (standing i front k key value q) me.0 v) same made,
              ),
            );
            other = λ miss. absurd (miss hit);
          },
        );
      })
      (λ miss. record {
        known = q;
        status = g.status;
        changes = [];
        placed = [];
        keeps_rule = idle_keeps 1 opens Queues alike confirm_step place z words g q b add pass is sizes;
        tells = λ v _ made. (
          refl,
          record {
            small = sound.small;
            number = λ hit. absurd (miss hit);
            same = λ hit. absurd (miss hit);
            other = λ _. made;
          },
        );
      }))

  -- A take's load of head 1.
  pub sees : (z : Sizes) (slots id place : ℕ) (me : Me Unit QueueView) → IsAlone me → z.heads ≡ 2 → me.0.known.own.at < 5
      → me.0.known.own.front ≡ true → place ≡ head_place z 1
      → Allows (Holds 1 opens Queues z) slots id me place (λ n. n) (λ n m'. (m'.1 ≡ []) × Saw place n me.0 m'.0)
  sees z slots id place me lone two lt fr at = let q : QueuePass = me.0.known in
      allows 1 opens Queues z slots id place load_step me (λ n. n) (λ n. n) (λ n m'. (m'.1 ≡ []) × Saw place n me.0 m'.0) lone
      (λ n _. refl) (λ n bad. absurd (false≢true bad)) (λ n _. refl)
      (λ words g b add pass is sizes fits. let n : ℕ = get_or words place 0 in let o = calls_of z words g q b add pass is in
      let end = end_of z words g q add sizes two false place at in dite (ℕ_discrete n (16 * stand q))
      (λ hit. record {
        known = q;
        status = g.status;
        changes = [];
        placed = [];
        keeps_rule = idle_keeps 1 opens Queues alike load_step place z words g q b add pass is sizes;
        tells = λ v _ made. (refl, record { end = end; here = λ _. made; elsewhere = λ ne. absurd (ne hit) });
      })
      (λ ne. plays_as 1 opens Queues (λ m'. (m'.1 ≡ []) × (MadeQuietStep load_step place n n (with_own (passed q.own) q) me.0 m'.0
      × (log_of m'.0.order ≡ log_of g.order))) (λ m'. (m'.1 ≡ []) × Saw place n me.0 m'.0)
      (plays_own z words g q b add pass is opens me.0 refl sizes load_step place (passed q.own)
      (calls_with z words g q b add pass is (passed q.own) refl refl (λ _. let st = o.stood two in record {
        held = st.held;
        next = st.next;
        front = st.front;
        past = λ _ _ _ _ same. ne (head_at z words 1 place at ∙ same);
        back = st.back;
      }) (λ one two. record { last = (o.sole one two).last; front = (o.sole one two).front })))
      (λ w y. (y.0, record { end = end; here = λ hit. absurd (ne hit); elsewhere = λ _. y.1.0 }))))

  -- The load of the link where the call stands, whose target is known from then on.
  looks_at : (z : Sizes) (words : List ℕ) (g : QueueState) (v : QueueView) (b : Base 1 z words g) (l : Queues z words g)
      (pass : v.known.number < z.passes) (is : g.of v.known.number ≡ v.known) → v.known.sizes ≡ z → z.heads ≡ 2 → (place : ℕ)
      → place ≡ cell_place z (stand v.known) 2
      → Plays 1 opens Queues load_step place (get_or words place 0) (get_or words place 0) z words g v
      (λ m'. (m'.1 ≡ []) × (MadeQuietStep load_step place (get_or words place 0) (get_or words place 0)
      (with_own (leading (target (get_or words place 0)) v.known.own) v.known) v m'.0 × (log_of m'.0.order ≡ log_of g.order)))
  looks_at z words g v b l pass is sizes two place at = let q : QueuePass = v.known in let n : ℕ = get_or words place 0 in
      let o = calls_of z words g q b l pass is in
      plays_own z words g q b l pass is opens v refl sizes load_step place (leading (target n) q.own)
      (calls_with z words g q b l pass is (leading (target n) q.own) refl refl (λ _. let st = o.stood two in record {
        held = st.held;
        next = λ _ _. ap target (sym (link_at z words (stand q) place at));
        front = st.front;
        past = st.past;
        back = st.back;
      }) (λ one two. record { last = (o.sole one two).last; front = (o.sole one two).front }))

  -- a link that leads nowhere has no bits
  plain_at : (z : Sizes) (words : List ℕ) (g : QueueState) (q : QueuePass) → Base 1 z words g → Queues z words g
      → q.number < z.passes
      → g.of q.number ≡ q → q.own.at < 5 → (slot q q.own.at).held ≡ true → (place : ℕ) → place ≡ cell_place z (stand q) 2
      → target (get_or words place 0) ≡ 0 → get_or words place 0 ≡ 0
  plain_at z words g q b l pass is lt held place at none = let h = held_of z words g q b l pass is q.own.at lt held in
      let e = link_at z words (stand q) place at in
      e ∙ nowhere_plain z (heap z words g.status) l.at (items_of (log_of g.order)) l.lined (stand q) h.number h.used
      (ap target (sym e) ∙ none)

  -- By a put.
  pub looks : (z : Sizes) (slots id place : ℕ) (me : Me Unit QueueView) → IsAlone me → z.heads ≡ 2 → me.0.known.own.at < 5
      → (slot me.0.known me.0.known.own.at).held ≡ true → place ≡ cell_place z (stand me.0.known) 2
      → Allows (Holds 1 opens Queues z) slots id me place (λ n. n) (λ n m'. (m'.1 ≡ []) × Looked place n me.0 m'.0)
  looks z slots id place me lone two lt held at = let q : QueuePass = me.0.known in
      allows 1 opens Queues z slots id place load_step me (λ n. n) (λ n. n) (λ n m'. (m'.1 ≡ []) × Looked place n me.0 m'.0) lone
      (λ n _. refl) (λ n bad. absurd (false≢true bad)) (λ n _. refl)
      (λ words g b add pass is sizes fits. let n : ℕ = get_or words place 0 in
      let loaded = is_loaded z words g q b add pass is sizes place (inr (q.own.at, (0, (lt, omega arith, held, at)))) in
      plays_as 1 opens Queues (λ m'. (m'.1 ≡ []) × (MadeQuietStep load_step place n n (with_own (leading (target n) q.own) q) me.0 m'.0
      × (log_of m'.0.order ≡ log_of g.order))) (λ m'. (m'.1 ≡ []) × Looked place n me.0 m'.0)
      (looks_at z words g me.0 b add pass is sizes two place at)
      (λ w y. (y.0, record { loaded = loaded; plain = plain_at z words g q b add pass is lt held place at; made = y.1.0 })))

  -- The kind of a take's load.
  abbrev pub try_kind : Bool → ℕ
  try_kind none = cond none empty_step load_step

  try_loads : (none : Bool) → goes_aside (try_kind none) ≡ false
  try_loads true = refl
  try_loads false = refl

  -- By a take: where it finds nil, the queue is empty.
  pub tries : (z : Sizes) (slots id place : ℕ) (me : Me Unit QueueView) → IsAlone me → z.heads ≡ 2 → me.0.known.own.at < 5
      → (slot me.0.known me.0.known.own.at).held ≡ true → me.0.known.own.front ≡ true → me.0.known.own.going ≡ true
      → place ≡ cell_place z (stand me.0.known) 2
      → Allows (Holds 1 opens Queues z) slots id me place (λ n. n) (λ n m'. (m'.1 ≡ []) × Tried place n me.0 m'.0)
  tries z slots id place me lone two lt held fr going at = let q : QueuePass = me.0.known in
      let then : ℕ → Me Unit QueueView → Type 0 = λ n m'. (m'.1 ≡ []) × Tried place n me.0 m'.0 in
      allows_by 1 opens Queues z slots id place (λ n. try_kind (eqb n 0)) me (λ n. n) (λ n. n) then lone (λ n _. refl)
      (λ n bad. absurd (false≢true (sym (try_loads (eqb n 0)) ∙ bad))) (λ n _. refl)
      (λ words g b add pass is sizes fits. let n : ℕ = get_or words place 0 in let o = calls_of z words g q b add pass is in
      let loaded = is_loaded z words g q b add pass is sizes place (inr (q.own.at, (0, (lt, omega arith, held, at)))) in
      dite (ℕ_discrete n 0)
      (λ nil. subst (λ (b : Bool). Plays 1 opens Queues (try_kind b) place n n z words g me.0 (then n)) (sym (eq-eqb n 0 nil))
      (let h = held_of z words g q b add pass is q.own.at lt held in
      let link : cell_word words z (stand q) 2 ≡ 0 = sym (link_at z words (stand q) place at) ∙ nil in
      let on : g.status (stand q) ≡ attached = add.lined.ended (stand q) h.number h.used (ap target link) in
      plays_as 1 opens Queues (λ m'. (m'.1 ≡ []) × Settled place n me.0 m'.0) (then n)
      (plays_settled z words g q b add pass is opens me.0 refl sizes place going
      (none_behind z (heap z words g.status) add.at (items_of (log_of g.order)) add.lined (stand q)
      ((o.stood two).front lt fr on) link))
      (λ w y. (y.0, record { loaded = loaded; plain = λ _. nil; some = λ ne. absurd (ne nil); none = λ _. y.1 }))))
      (λ ne. subst (λ (b : Bool). Plays 1 opens Queues (try_kind b) place n n z words g me.0 (then n)) (sym (ne_eqb n 0 ne))
      (plays_as 1 opens Queues (λ m'. (m'.1 ≡ []) × (MadeQuietStep load_step place n n (with_own (leading (target n) q.own) q) me.0 m'.0
      × (log_of m'.0.order ≡ log_of g.order))) (then n) (looks_at z words g me.0 b add pass is sizes two place at)
      (λ w y. (
        y.0,
        record {
          loaded = loaded;
          plain = plain_at z words g q b add pass is lt held place at;
          some = λ _. y.1.0;
          none = λ nil. absurd (ne nil);
        },
      )))))
