-- What a step leaves that changes no word and no state, but the list's own part of a pass.
use Rattle.std.proofs.Common.{◌≡◌, ◌≢◌, inl, inr, ⊎_elim, ℕ, ◌+◌, ◌<◌, ◌≤◌, Bool, true, false}
use Rattle.std.proofs.Common.{List, [], ◌∷◌, ◌++◌, length, get_or, Option, Some, None, sym, refl, ap, ◌∙◌, subst, arith}
use Rattle.std.proofs.Common.{append-nil}
use Rattle.std.specs.Prelude.{◌-◌}
use Rattle.std.proofs.Math.Bool.{false≢true}
use Rattle.std.proofs.Math.Decide.{ℕ_discrete}
use Rattle.atomic_table.specs.Table.{Me}
use Rattle.pp_link.specs.declared.layout.Sizes.{Sizes}
use Rattle.pp_link.specs.Links.{target, invalid_bit, flag_bit}
use Rattle.pp_link.specs.Places.{IsNumber, head_place, cell_place}
use Rattle.pp_link.specs.Words.{head_word, cell_word}
use Rattle.pp_model.specs.declared.Pair.{Pair}
use Rattle.pp_model.specs.declared.Call.{Call}
use Rattle.pp_model.specs.declared.Reply.{Reply}
use Rattle.pp_model.specs.declared.Change.{Change}
use Rattle.pp_model.specs.declared.Placed.{Placed}
use Rattle.pp_model.specs.FiniteMap.{find}
use Rattle.pp_model.specs.Calls.{key_of, reply, reply_at, changes}
use Rattle.pp_model.specs.History.{after, contents_of, Sound}
use Rattle.pp_model.specs.MapCalls.{placed}
use Rattle.pp_model.specs.History.{Stands}
use Rattle.pp_model.proofs.Histories.{stands_unchanged, after_all}
use Rattle.pp_model.proofs.Replies.{reply_once}
use Rattle.pp_rule.specs.Lists.{IsIn}
use Rattle.pp_rule.specs.Orders.{log_of, placed_by}
use Rattle.pp_rule.specs.declared.views.Halves.{Halves}
use Rattle.pp_rule.specs.Views.{slot, halves}
use Rattle.pp_rule.specs.States.{RecordState, attached, in_hand, retired, owned, shelved, IsUsed, IsLinked, Keeps, Held}
use Rattle.pp_rule.specs.Rule.{Base}
use Rattle.pp_rule.specs.Steps.{entry, MadeQuietStep, IsSource}
use Rattle.pp_rule.proofs.Put.{put, put_each}
use Rattle.pp_rule.proofs.Histories.{log_snoc, placed_here, placed_else}
use Rattle.pp_rule.proofs.Stepping.{after_step, Plays}
use Rattle.pp_rule.proofs.Sources.{source_sound}
use Rattle.pp_rule.proofs.Keeping.{base_idle, load_keeps}
use Rattle.pp_rule.proofs.OwnSteps.{own_more, own_none, log_quiet, placed_told, plays_as, least_from}
use Rattle.pp_lists.specs.declared.own.ListOwn.{ListOwn}
use Rattle.pp_lists.specs.Walks.{Heap, heap, at_head, Finds, answer, bucket, Mapped, IsRight}
use Rattle.pp_lists.specs.Walks.Finds.{here, on}
use Rattle.pp_lists.specs.Lists.{ListPass, ListState, ListStep, Walks, Lists}
use Rattle.pp_lists.specs.Turns.{ListView, with_own, resting, StandsAt, Settled, found_at, EndsWith, IsLoaded}
use Rattle.pp_lists.specs.Turns.StandsAt.{on_head, on_record}
use Rattle.pp_lists.proofs.Answering.{less_or, past_none, answer_flagged}
use Rattle.pp_lists.proofs.Walking.{finds_right, real}
use Rattle.pp_lists.proofs.Heaps.{sane_of}
use Rattle.pp_lists.proofs.Leaving.{leaves_on}
use Rattle.pp_lists.proofs.Marking.{same_base}

option_eq : (x y : Option ℕ) → Dec (x ≡ y)
option_eq None None = yes refl
option_eq None (Some w) = no (λ e. cc)
option_eq (Some v) None = no (λ e. cc)
option_eq (Some v) (Some w) = go (ℕ_discrete v w)
  where
    go : Dec (v ≡ w) → Dec (Some v ≡ Some w)
    go (yes e) = yes (ap Some e)
    go (no ne) = no (λ e. ne (cc))

by_reply : {X : Type 0} (c : Bool) → (c ≡ false → X) → (c ≡ true → X) → X
by_reply true a b = b refl
by_reply false a b = a refl

-- a walk from the head finds what the map gives now
pub head_finds : (z : Sizes) (words : List ℕ) (g : ListState) → Base 1 z words g → Lists z words g → (place head k : ℕ)
    → head < z.heads
    → head ≡ bucket z.heads k → place ≡ head_place z head → (a : Option ℕ) → invalid_bit (get_or words place 0) ≡ 0
    → Finds (heap z words g.status) k a (target (get_or words place 0)) → IsRight (log_of g.order) (length (log_of g.order)) k a
unfolding head_word
head_finds z words g b lists place head k lt home at a ok f = let log : List Change = log_of g.order in
    let word : target (get_or words place 0) ≡ target (head_word words z head) = ap target
    (ap (λ (p : ℕ). get_or words p 0) at) in
    let now = finds_right z (heap z words g.status) (contents_of log) k a (sane_of z words g b) lists.listed lists.mapped
    (target (get_or words place 0)) f (at_head head) lt word (sym home) tt in
    (length log, (omega arith, omega arith, ap (λ (m : List Pair). find m k) (after_all log) ∙ sym now))

-- the words and the states are as they were, and of the pass its walk words, its own part and its list are new
pub lists_own : (z : Sizes) (words : List ℕ) (g : ListState) (q q' : ListPass) (e : ListStep) → Lists z words g
    → e.entry.changes ≡ []
    → e.entry.pass ≡ q.number → q'.number ≡ q.number
    → Walks z (heap z words g.status) (log_of g.order) q.number (slot q') q'.own (placed_by q.number g.order ++ e.placed)
    → g.of q.number ≡ q → q'.own.left ≡ q.own.left → Lists z words (after_step g q' g.status e)
lists_own z words g q q' e l told pass number own is left = let log : List Change = log_of g.order in
    let t : Heap = heap z words g.status in
    let now : log_of (g.order ++ e ∷ []) ≡ log = log_snoc g.order e
    ∙ (ap (λ (xs : List Change). log ++ xs) told ∙ append-nil log) in
    let mine : placed_by q.number (g.order ++ e ∷ []) ≡ placed_by q.number g.order ++ e.placed =
    subst (λ (n : ℕ). placed_by n (g.order ++ e ∷ []) ≡ placed_by n g.order ++ e.placed) pass (placed_here g.order e) in record {
      sound = subst Sound (sym now) l.sound;
      own_changes = own_more (λ (c : Change). c.caller) g.order e l.own_changes (own_none (λ (c : Change). c.caller) e told);
      listed = l.listed;
      mapped = subst (λ (log : List Change). Mapped z t (contents_of log)) (sym now) l.mapped;
      each = λ p lt. subst (λ (log : List Change). Walks z t log p (slot (put g.of q'.number q' p)) (put g.of q'.number q' p).own
          (placed_by p (g.order ++ e ∷ []))) (sym now)
          (put_each (λ (r : ℕ) (v : ListPass). r < z.passes → Walks z t log r (slot v) v.own
          (placed_by r (g.order ++ e ∷ []))) g.of q'.number q'
          (λ _. subst (λ (r : ℕ). Walks z t log r (slot q') q'.own (placed_by r (g.order ++ e ∷ []))) (sym number)
          (subst (λ (mine : List Placed). Walks z t log q.number (slot q') q'.own mine) (sym mine) own))
          (λ r ne lr. subst (λ (mine : List Placed). Walks z t log r (slot (g.of r)) (g.of r).own mine)
          (sym (placed_else r g.order e (λ same. ne (sym same ∙ (pass ∙ sym number))))) (l.each r lr)) p lt);
      leaves = leaves_on z t t (λ p. (g.of p).own.left) (λ p. (put g.of q'.number q' p).own.left)
          (λ p _. put_each (λ (r : ℕ) (v : ListPass). v.own.left ≡ (g.of r).own.left) g.of q'.number q'
          (left ∙ ap (λ (v : ListPass). v.own.left) (sym is ∙ ap g.of (sym number))) (λ r _. refl) p)
          (λ n _ st. (st, refl)) l.leaves;
    }

-- the state of a pass at a step
module _ (z : Sizes) (words : List ℕ) (g : ListState) (q : ListPass) (b : Base 1 z words g) (lists : Lists z words g)
    (pass : q.number < z.passes)
    (is : g.of q.number ≡ q) where
  abbrev pub WalksAs : ListOwn → Type 0
  WalksAs own = Walks z (heap z words g.status) (log_of g.order) q.number (slot q) own (placed_by q.number g.order)

  pub walks_of : WalksAs q.own
  walks_of = subst (λ (v : ListPass). Walks z (heap z words g.status) (log_of g.order) q.number (slot v) v.own
      (placed_by q.number g.order)) is
      (lists.each q.number pass)

  pub held_of : (j : ℕ) → j < 5 → (slot q j).held ≡ true → Held z words g.status (slot q j)
  held_of j lt h = subst (λ (v : ListPass). (slot v j).held ≡ true → Held z words g.status (slot v j)) is
      (b.hazards.held q.number j pass lt) h

  -- what a walk finds from the target of the link where the call stands was right since its start
  pub from_here : (place n : ℕ) → get_or words place 0 ≡ n → q.own.going ≡ true → StandsAt z q (key_of q.own.call) place
      → invalid_bit n ≡ 0
      → (a : Option ℕ) → Finds (heap z words g.status) (key_of q.own.call) a (target n)
      → IsRight (log_of g.order) q.own.start (key_of q.own.call) a
  unfolding cell_word head_word
  from_here place n found going (on_head h lt home at) ok a f = let log : List Change = log_of g.order in let o = walks_of in
      let le = o.since going in
      let word : target n ≡ target (head_word words z h) = ap target (sym found ∙ ap (λ (p : ℕ). get_or words p 0) at) in
      let now = finds_right z (heap z words g.status) (contents_of log) (key_of q.own.call) a
      (sane_of z words g b) lists.listed lists.mapped
      (target n) f (at_head h) lt word (sym home) tt in
      (length log, (le, omega arith, ap (λ (m : List Pair). find m (key_of q.own.call)) (after_all log) ∙ sym now))
  from_here place n found going (on_record lt at home low) ok a f = let t : Heap = heap z words g.status in
      let k : ℕ = key_of q.own.call in
      let o = walks_of in let held = o.stood.held lt in let h = held_of q.own.at lt held in let m : ℕ = (slot q q.own.at).named in
      let link : cell_word words z m 2 ≡ n = ap (λ (p : ℕ). get_or words p 0) (sym at) ∙ found in
      let is_real : m ≢ 0 = real z m h.number in
      let valid : invalid_bit (cell_word words z m 2) ≡ 0 = ap invalid_bit link ∙ ok in
      let f' : Finds t k a (target (cell_word words z m 2)) = subst (λ (w : ℕ). Finds t k a (target w)) (sym link) f in
      let go_on : cell_word words z m 0 < k → IsRight (log_of g.order) q.own.start k a = λ less.
      o.stood.right going lt a (on is_real valid less f') in ⊎_elim
      (λ (less : (slot q q.own.at).key < k). go_on (let key = h.key in omega arith))
      (λ (y : (w : ℕ) × (IsIn (0, w) (slot q q.own.at).learnt × (flag_bit w ≡ 1))). let learnt = h.learnt (0, y.0) y.1.0 in
      let flag : flag_bit (cell_word words z m 2) ≡ 1 = flag_stays y.0 (cell_word words z m 2) y.1.1 learnt.1 in
      less_by (cell_word words z m 0) k go_on (λ ge. let none : a ≡ None = past_none t k (target (cell_word words z m 2)) a
      (λ some_next. let up = lists.listed.rising m h.number (linked_of (g.status m) h.used
      (λ p e. let bad = b.links.spent m 0 p h.number (omega arith) e in let one = bad.1 in omega arith)) valid some_next in
      omega arith) f' in
      subst (IsRight (log_of g.order) q.own.start k) (sym none)
      (o.stood.right going lt None (here is_real valid ge (sym (answer_flagged t k m flag))))))
      low
    where
      flag_stays : (was now : ℕ) → flag_bit was ≡ 1 → Keeps was now → flag_bit now ≡ 1
      flag_stays was now f s = s.same.flag_is ∙ f

      less_by : {X : Type 0} (x y : ℕ) → (x < y → X) → (y ≤ x → X) → X
      less_by x y a b = ⊎_elim a b (less_or x y)

      linked_of : (s : RecordState) → IsUsed s → ((p : ℕ) → s ≡ retired p → ⊥) → IsLinked s
      linked_of attached u nr = tt
      linked_of (in_hand p j) u nr = tt
      linked_of (retired p) u nr = absurd (nr p refl)
      linked_of (owned p) u nr = absurd u
      linked_of (shelved p) u nr = absurd u

  linked_now : (m : ℕ) → IsNumber z m → IsUsed (g.status m) → invalid_bit (cell_word words z m 2) ≡ 0 → IsLinked (g.status m)
  linked_now m is_m u ok = go (g.status m) refl u
    where
      go : (s : RecordState) → g.status m ≡ s → IsUsed s → IsLinked s
      go attached e u = tt
      go (in_hand p j) e u = tt
      go (retired p) e u = absurd (let bad = b.links.spent m 0 p is_m (omega arith) e in let one = bad.1 in omega arith)
      go (owned p) e u = absurd u
      go (shelved p) e u = absurd u

  -- the record to which the link leads where the call stands is of its bucket
  pub home_here : (k place n : ℕ) → get_or words place 0 ≡ n → StandsAt z q k place → invalid_bit n ≡ 0 → target n ≢ 0
      → bucket z.heads (cell_word words z (target n) 0) ≡ bucket z.heads k
  unfolding cell_word head_word
  home_here k place n found (on_head h lt home at) ok to_some =
      let word : target (head_word words z h) ≡ target n = ap target (ap (λ (p : ℕ). get_or words p 0) (sym at) ∙ found) in
      ap (λ (x : ℕ). bucket z.heads (cell_word words z x 0)) (sym word)
      ∙ (lists.listed.home (at_head h) lt (λ e. to_some (sym word ∙ e)) ∙ home)
  home_here k place n found (on_record lt at home low) ok to_some = let m : ℕ = (slot q q.own.at).named in
      let h = held_of q.own.at lt (walks_of.stood.held lt) in
      let link : cell_word words z m 2 ≡ n = ap (λ (p : ℕ). get_or words p 0) (sym at) ∙ found in
      let valid : invalid_bit (cell_word words z m 2) ≡ 0 = ap invalid_bit link ∙ ok in
      ap (λ (w : ℕ). bucket z.heads (cell_word words z (target w) 0)) (sym link)
      ∙ (lists.listed.same_list m h.number (linked_now m h.number h.used valid) valid (λ e. to_some (sym (ap target link) ∙ e))
      ∙ (ap (bucket z.heads) h.key ∙ home))

  -- and where the call stands at a record, its key is greater
  pub rises_here : (place n : ℕ) → get_or words place 0 ≡ n → q.own.at < 5 → place ≡ cell_place z (slot q q.own.at).named 2
      → invalid_bit n ≡ 0
      → target n ≢ 0 → (slot q q.own.at).key < cell_word words z (target n) 0
  unfolding cell_word
  rises_here place n found lt at ok to_some = let m : ℕ = (slot q q.own.at).named in
      let h = held_of q.own.at lt (walks_of.stood.held lt) in
      let link : cell_word words z m 2 ≡ n = ap (λ (p : ℕ). get_or words p 0) (sym at) ∙ found in
      let valid : invalid_bit (cell_word words z m 2) ≡ 0 = ap invalid_bit link ∙ ok in
      let up : cell_word words z m 0 < cell_word words z (target (cell_word words z m 2)) 0 =
      lists.listed.rising m h.number (linked_now m h.number h.used valid) valid (λ e. to_some (sym (ap target link) ∙ e)) in
      subst (λ (k : ℕ). k < cell_word words z (target n) 0) h.key
      (subst (λ (w : ℕ). cell_word words z m 0 < cell_word words z (target w) 0) link up)

  -- the answer of a walk that ends at the record where the call stands
  pub ends_right : (place n : ℕ) → get_or words place 0 ≡ n → q.own.going ≡ true → q.own.at < 5
      → key_of q.own.call ≤ (slot q q.own.at).key
      → place ≡ cell_place z (slot q q.own.at).named 2 → invalid_bit n ≡ 0
      → IsRight (log_of g.order) q.own.start (key_of q.own.call)
      (found_at (key_of q.own.call) (slot q q.own.at).key (slot q q.own.at).value n)
  unfolding cell_word
  ends_right place n found going lt le at ok = let t : Heap = heap z words g.status in let k : ℕ = key_of q.own.call in
      let o = walks_of in
      let held = o.stood.held lt in let h = held_of q.own.at lt held in let m : ℕ = (slot q q.own.at).named in
      let link : cell_word words z m 2 ≡ n = ap (λ (p : ℕ). get_or words p 0) (sym at) ∙ found in
      let same : answer t k m ≡ found_at k (slot q q.own.at).key (slot q q.own.at).value n =
      ap (λ (x : ℕ). found_at k x (halves (cell_word words z m 1) (cell_word words z m 4)) (cell_word words z m 2)) h.key
      ∙ (ap (λ (x : Halves). found_at k (slot q q.own.at).key x (cell_word words z m 2)) h.value
      ∙ ap (found_at k (slot q q.own.at).key (slot q q.own.at).value) link) in
      o.stood.right going lt (found_at k (slot q q.own.at).key (slot q q.own.at).value n)
      (here (real z m h.number) (ap invalid_bit link ∙ ok) (let key = h.key in omega arith) (sym same))

  -- the least place at which the find is right
  least_right : (start k : ℕ) (a : Option ℕ) → IsRight (log_of g.order) start k a
      → (p : ℕ) × (start ≤ p) × (p ≤ length (log_of g.order)) × (find (after (log_of g.order) p) k ≡ a)
      × ((x : ℕ) → start ≤ x → x < p → find (after (log_of g.order) x) k ≡ a → ⊥)
  least_right start k a r = let lo = r.1.0 in let hi = r.1.1 in let sum : r.0 ≡ start + (r.0 - start) = omega arith in
      let y = least_from (λ (p : ℕ). find (after (log_of g.order) p) k ≡ a)
      (λ p. option_eq (find (after (log_of g.order) p) k) a) start
      (r.0 - start) start (omega arith) (subst (λ (p : ℕ). find (after (log_of g.order) p) k ≡ a) sum r.1.2)
      (λ x l h _. omega arith) in
      let up = y.2 in (y.0, y.1, omega arith, y.3, y.4)

  -- what a load of a link of the head or of a held record tells of the word
  pub is_loaded : q.sizes ≡ z → (place : ℕ) → IsSource 1 z q place → IsLoaded q.sizes (get_or words place 0)
  is_loaded sizes place source = let n : ℕ = get_or words place 0 in
      let sound = source_sound 1 z words g q place b pass is source in record {
        small = sound.small;
        to = λ valid. ⊎_elim inl (λ (t : IsNumber z (target n) × IsUsed (g.status (target n))). inr
            (subst (λ (y : Sizes). IsNumber y (target n)) (sym sizes) t.0))
            (sound.to valid);
      }

  module _ (opens : Sizes → List ℕ) (v : ListView) (known_is : v.known ≡ q) (sizes : q.sizes ≡ z) (kind place : ℕ) (own : ListOwn)
      (o : WalksAs own) (left : own.left ≡ q.own.left) where
    -- a load after which the pass has this part of the list's
    pub plays_own : Plays 1 opens Lists kind place (get_or words place 0) (get_or words place 0) z words g v
        (λ m'. (m'.1 ≡ []) × (MadeQuietStep kind place (get_or words place 0) (get_or words place 0) (with_own own q) v m'.0
        × (log_of m'.0.order ≡ log_of g.order)))
    plays_own = let n : ℕ = get_or words place 0 in let known : ListPass = with_own own q in
        let e : ListStep = entry kind place n n [] [] g.order known in record {
          known = known;
          status = g.status;
          changes = [];
          placed = [];
          keeps_rule = load_keeps 1 opens Lists kind place z words g v.known known g.status [] []
              (ap (λ (k : ListPass). k.number) (sym known_is)) sizes
              (base_idle 1 z words g q known e b pass is (same_base refl refl refl refl refl refl refl refl))
              (lists_own z words g q known e lists refl refl refl
              (subst (λ (mine : List Placed). Walks z (heap z words g.status) (log_of g.order) q.number (slot q) own mine)
              (sym (append-nil (placed_by q.number g.order))) o) is left);
          tells = λ w at made. (
            refl,
            (
              made,
              log_quiet g.order known e w at refl refl,
            ),
          );
        }

    -- a load that settles a reply which changes nothing
    plays_settled : (a : Option ℕ) → own.going ≡ true → changes (reply_at own.call a) ≡ false
        → IsRight (log_of g.order) own.start (key_of own.call) a
        → Plays 1 opens Lists kind place (get_or words place 0) (get_or words place 0) z words g v
        (λ m'. (m'.1 ≡ []) × (Settled own kind place (get_or words place 0) a v m'.0 × (log_of m'.0.order ≡ log_of g.order)))
    plays_settled a going idle r = let y = least_right own.start (key_of own.call) a r in
        let log : List Change = log_of g.order in
        let call : Call = own.call in let rep : Reply = reply_at call a in let p : ℕ = y.0 in
        let s : Placed = placed call rep p in
        let known : ListPass = with_own (resting own) q in let n : ℕ = get_or words place 0 in
        let e : ListStep = entry kind place n n [] (s ∷ []) g.order known in
        let right : reply (after log p) call ≡ rep = ap (reply_at call) y.3 in
        let st : Stands log q.number (placed_by q.number g.order ++ s ∷ []) =
        stands_unchanged log q.number (placed_by q.number g.order) s o.stands idle record { within = y.2; right = right }
        (λ i x at. let early = o.earlier going i x at in let from = y.1 in omega arith) in record {
          known = known;
          status = g.status;
          changes = [];
          placed = s ∷ [];
          keeps_rule = load_keeps 1 opens Lists kind place z words g v.known known g.status [] (s ∷ [])
              (ap (λ (k : ListPass). k.number) (sym known_is)) sizes
              (base_idle 1 z words g q known e b pass is (same_base refl refl refl refl refl refl refl refl))
              (lists_own z words g q known e lists refl refl refl record {
                stands = st;
                since = λ bad. absurd (false≢true bad);
                earlier = λ bad. absurd (false≢true bad);
                stood = record { held = o.stood.held; right = λ bad. absurd (false≢true bad) };
                gathering = o.gathering;
              } is left);
          tells = λ w at made. let told : log ≡ log_of w.order = sym (log_quiet g.order known e w at refl refl) in (
            refl,
            (
              record {
                at = p;
                since = y.1;
                within = subst (λ (l : List Change). p ≤ length l) told y.2;
                right = subst (λ (l : List Change). reply (after l p) call ≡ rep) told right;
                least = subst (λ (l : List Change). (x : ℕ) → own.start ≤ x → x < p → reply (after l x) call ≡ rep → ⊥) told
                    (λ x lo hi same. y.4 x lo hi (reply_once call a (find (after log x) (key_of call)) idle same));
                made = subst (λ (k : ListPass). Rattle.pp_rule.specs.Steps.MadeStep kind place n n [] (s ∷ [])
                    (with_own (resting own) k) v w) (sym known_is) made;
                stands = subst (λ (l : List Change). Stands l w.known.number (placed_by w.known.number w.order)) told
                    (subst (λ (m : ℕ). Stands log m (placed_by w.known.number w.order))
                    (ap (λ (u : ListView). u.known.number) (sym at))
                    (subst (λ (mine : List Placed). Stands log q.number mine) (sym (placed_told g.order known e w at refl)) st));
              },
              sym told,
            ),
          );
        }

    -- a load at which a walk ends
    pub plays_end : (a : Option ℕ) → own.going ≡ true → IsRight (log_of g.order) own.start (key_of own.call) a
        → Plays 1 opens Lists kind place (get_or words place 0) (get_or words place 0) z words g v
        (λ m'. (m'.1 ≡ []) × (EndsWith own kind place (get_or words place 0) a v m'.0 × (log_of m'.0.order ≡ log_of g.order)))
    plays_end a going r = let n : ℕ = get_or words place 0 in
        let then : Me Unit ListView → Type 0 =
        λ m'. (m'.1 ≡ []) × (EndsWith own kind place n a v m'.0 × (log_of m'.0.order ≡ log_of g.order)) in
        by_reply (changes (reply_at own.call a))
        (λ idle. plays_as 1 opens Lists (λ m'. (m'.1 ≡ []) × (Settled own kind place n a v m'.0
        × (log_of m'.0.order ≡ log_of g.order))) then
        (plays_settled a going idle r)
        (λ w y. (y.0, (((λ _. y.1.0), (λ change. absurd (false≢true (sym idle ∙ change)))), y.1.1))))
        (λ change. plays_as 1 opens Lists (λ m'. (m'.1 ≡ []) × (MadeQuietStep kind place n n (with_own own q) v m'.0
        × (log_of m'.0.order ≡ log_of g.order))) then plays_own
        (λ w y. (
          y.0,
          (
            (
              (λ idle. absurd (false≢true (sym idle ∙ change))),
              (λ _. (
                subst (λ (k : ListPass). MadeQuietStep kind place n n (with_own own k) v w) (sym known_is) y.1.0,
                subst (λ (l : List Change). IsRight l own.start (key_of own.call) a) (sym y.1.1) r,
              )),
            ),
            y.1.1,
          ),
        )))
