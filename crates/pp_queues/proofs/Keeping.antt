-- What steps leave of the calls of the passes.
use Rattle.std.proofs.Common.{◌≡◌, ◌≢◌, inl, inr, ⊎_elim, ℕ, ◌+◌, ◌*◌, ◌<◌, ◌≤◌, Bool, true, false, cond, eqb}
use Rattle.std.proofs.Common.{List, [], ◌∷◌, ◌++◌, length, sym, refl, ap, ap₂, ◌∙◌, subst, arith}
use Rattle.std.proofs.Common.{eq-eqb}
use Rattle.std.proofs.Math.Bool.{false≢true}
use Rattle.std.proofs.Math.Decide.{ℕ_discrete}
use mathlib.Core.Logic.{dite}
use Rattle.pp_link.specs.declared.layout.Sizes.{Sizes}
use Rattle.pp_link.specs.Links.{target, invalid_bit}
use Rattle.pp_link.specs.Places.{IsNumber}
use Rattle.pp_link.specs.Words.{cell_word}
use Rattle.pp_model.specs.Lists.{AtEach}
use Rattle.pp_rule.specs.declared.views.WalkSlot.{WalkSlot}
use Rattle.pp_rule.specs.Lists.{IsIn}
use Rattle.pp_rule.specs.Orders.{log_of, placed_by, IsQuietStep}
use Rattle.pp_rule.specs.Views.{slot, halves, value_of}
use Rattle.pp_rule.specs.States.{RecordState, attached, in_hand, PoolState, IsUsed, IsLinked, Stays}
use Rattle.pp_rule.specs.Rule.{Base}
use Rattle.pp_rule.specs.Looks.{SameSeen, LooksSame, SameOwn, Clears, Cleared, Invalidates}
use Rattle.pp_rule.proofs.Put.{put, put_each}
use Rattle.pp_rule.proofs.Histories.{log_snoc, quiet_log, quiet_placed, placed_else}
use Rattle.pp_rule.proofs.Stepping.{after_step}
use Rattle.pp_queues.specs.declared.calls.QueueChange.{QueueChange}
use Rattle.pp_queues.specs.declared.calls.QueuePlaced.{QueuePlaced}
use Rattle.pp_queues.specs.declared.own.QueueOwn.{QueueOwn}
use Rattle.pp_queues.specs.Queue.{queue, items_of, IsSound}
use Rattle.pp_rule.proofs.OwnSteps.{HoldsStill, any_word, still_held, own_more, own_quiet}
use Rattle.pp_queues.specs.Lines.{Heap, heap, Lined, Stood, Sole, Still, Steady, Alike}
use Rattle.pp_queues.specs.Queues.{QueuePass, QueueState, QueueStep, Calls, Queues, queue_forget}
use Rattle.pp_model.proofs.Logs.{stands_grown}
use Rattle.pp_queues.proofs.Lining.{lined_alike, steady_alike, still_alike}

module _ {E A W : Type 0} (z : Sizes) (words words' : List ℕ) (g g' : PoolState E A W) where
  pub alike_seen : SameSeen z words words' g g' → Alike z (heap z words g.status) (heap z words' g'.status)
  alike_seen s = record {
    heads = s.heads;
    on = s.attached_on;
    was = λ n st. sym (s.linked_was n (subst IsLinked (sym st) tt)) ∙ st;
    used_was = s.used_was;
    values = λ n is_n u. ap₂ (λ l h. value_of (halves l h)) (s.cells n 1 is_n (omega arith) u) (s.cells n 4 is_n (omega arith) u);
    links = λ n is_n u. inl (s.cells n 2 is_n (omega arith) u);
  }

  pub alike_invalid : (n side : ℕ) → side < 1 → Invalidates z words words' g g' n side
      → Alike z (heap z words g.status) (heap z words' g'.status)
  alike_invalid n side lt i = record {
    heads = i.heads;
    on = λ m st. i.status m ∙ st;
    was = λ m st. sym (i.status m) ∙ st;
    used_was = λ m u. subst IsUsed (i.status m) u;
    values = λ m is_m u. ap₂ (λ l h. value_of (halves l h)) (i.others m 1 is_m (omega arith) (λ y. let e = y.1 in omega arith))
        (i.others m 4 is_m (omega arith) (λ y. let e = y.1 in omega arith));
    links = λ m is_m u. dite (ℕ_discrete m n)
        (λ e. inr (
          hand m e,
          to (cell_word words z m 2) (cell_word words' z m 2) (here_stays m e),
          some (cell_word words' z m 2)
              (here_invalid m e),
        ))
        (λ ne. inl (i.others m 2 is_m (omega arith) (λ y. ne y.0)));
  }
    where
      zero_side : side ≡ 0
      zero_side = omega arith

      hand : (m : ℕ) → m ≡ n → g'.status m ≢ attached
      hand m e st = let h = i.hand in let bad : attached ≡ in_hand h.0 h.1.0 = sym st ∙ (i.status m ∙ (ap g.status e ∙ h.1.1)) in
          absurd cc

      here_invalid : (m : ℕ) → m ≡ n → invalid_bit (cell_word words' z m 2) ≡ 1
      here_invalid m at = subst (λ (k : ℕ). invalid_bit (cell_word words' z k 2) ≡ 1) (sym at)
          (subst (λ (k : ℕ). invalid_bit (cell_word words' z n (2 + k)) ≡ 1) zero_side i.invalid)

      here_stays : (m : ℕ) → m ≡ n → Stays (cell_word words z m 2) (cell_word words' z m 2)
      here_stays m at = subst (λ (k : ℕ). Stays (cell_word words z k 2) (cell_word words' z k 2)) (sym at)
          (subst (λ (k : ℕ). Stays (cell_word words z n (2 + k)) (cell_word words' z n (2 + k))) zero_side i.here)

      to : (was now : ℕ) → Stays was now → target now ≡ target was
      to was now s = ⊎_elim (λ (e : now ≡ was). ap target e) (λ (y : (invalid_bit was ≡ 0) × (now ≡ was + 4)). let b = y.0 in
          let e = y.1 in omega arith) s

      some : (now : ℕ) → invalid_bit now ≡ 1 → now ≢ 0
      some now one e = omega arith

-- each held record has a number and is used
abbrev pub SeenHeld : Sizes → Heap → (ℕ → WalkSlot) → Type 0
SeenHeld z t w = (i : ℕ) → i < 5 → (w i).held ≡ true → IsNumber z (w i).named × IsUsed (t.status (w i).named)

module _ (z : Sizes) (t t' : Heap) (s : Steady z t t') (ok : ℕ → Type 0) (w w' : ℕ → WalkSlot) (h : HoldsStill ok w w')
    (seen : SeenHeld z t w) (seen' : SeenHeld z t' w') where
  pub stood_on : (own : QueueOwn) → (own.at < 5 → ok own.at) → Stood t w own → Stood t' w' own
  stood_on own is_ok o = record {
    held = held_now;
    next = λ lt some. let u = seen own.at lt (o.held lt) in let e = o.next lt some in
        ap (λ (k : ℕ). target (t'.link k)) (name lt) ∙ (s.next (w own.at).named u.0 u.1 (used_now lt) (λ nil. some (sym e ∙ nil))
        ∙ e);
    front = λ lt fr st. let u = seen own.at lt (o.held lt) in let st' = now lt st in
        let was = s.was (w own.at).named u.0 u.1 st' in
        s.front (w own.at).named u.0 was st' (o.front lt fr was) ∙ ap (λ (k : ℕ). 16 * k) (sym (name lt));
    past = λ lt fr pa st same. let u = seen own.at lt (o.held lt) in let st' = now lt st in
        let was = s.was (w own.at).named u.0 u.1 st' in
        s.past (w own.at).named u.0 was st' (o.front lt fr was) (o.past lt fr pa was) (same ∙ ap (λ (k : ℕ). 16 * k) (name lt));
    back = λ lt fr st same. let u = seen own.at lt (o.held lt) in let st' = now lt st in
        let was = s.was (w own.at).named u.0 u.1 st' in
        s.back (w own.at).named u.0 was st' (o.back lt fr was) (same ∙ name lt);
  }
    where
      held_now : own.at < 5 → (w' own.at).held ≡ true
      held_now lt = h.held own.at lt (is_ok lt) (o.held lt)

      name : own.at < 5 → (w' own.at).named ≡ (w own.at).named
      name lt = h.named own.at lt (is_ok lt) (o.held lt)

      used_now : own.at < 5 → IsUsed (t'.status (w own.at).named)
      used_now lt = subst (λ (k : ℕ). IsUsed (t'.status k)) (name lt) (seen' own.at lt (held_now lt)).1

      now : own.at < 5 → t'.status (w' own.at).named ≡ attached → t'.status (w own.at).named ≡ attached
      now lt st = ap t'.status (sym (name lt)) ∙ st

-- what is true of the one pass stays
pub sole_on : (t t' : Heap) → Still t t' → (ok : ℕ → Type 0) (w w' : ℕ → WalkSlot) → HoldsStill ok w w' → (own : QueueOwn)
    → (own.at < 5 → ok own.at) → Stood t w own → Sole t w own → Sole t' w' own
sole_on t t' s ok w w' h own is_ok st o = record {
  last = λ e. s.back ∙ o.last e;
  front = λ lt fr go. ap t'.status (h.named own.at lt (is_ok lt) (st.held lt)) ∙ s.on (w own.at).named (o.front lt fr go);
}

-- a call that stands nowhere
pub stood_nowhere : (t : Heap) (w : ℕ → WalkSlot) (own : QueueOwn) → own.at ≡ 5 → Stood t w own
stood_nowhere t w own e = record {
  held = λ bad. absurd (omega arith);
  next = λ bad. absurd (omega arith);
  front = λ bad. absurd (omega arith);
  past = λ bad. absurd (omega arith);
  back = λ bad. absurd (omega arith);
}

pub seen_held : {E A W : Type 0} (z : Sizes) (words : List ℕ) (g : PoolState E A W) → Base 1 z words g → (p : ℕ) → p < z.passes
    → SeenHeld z (heap z words g.status) (slot (g.of p))
seen_held z words g b p lt i li held = let h = b.hazards.held p i lt li held in (h.number, h.used)

module _ (z : Sizes) (words words' : List ℕ) (g g' : QueueState) (b : Base 1 z words g) (b' : Base 1 z words' g') where
  -- a pass that is as it was, but for what it holds more
  pub kept_pass : (log : List QueueChange) → (z.heads ≡ 2 → Steady z (heap z words g.status) (heap z words' g'.status)
      × Still (heap z words g.status) (heap z words' g'.status)) → (p : ℕ)
      → p < z.passes → SameOwn (g.of p) (g'.of p) → (mine : List QueuePlaced)
      → Calls z (heap z words g.status) log p (slot (g.of p)) (g.of p).own mine
      → Calls z (heap z words' g'.status) log p (slot (g'.of p)) (g'.of p).own mine
  kept_pass log s p lt same mine o =
      subst (λ (own : QueueOwn). Calls z (heap z words' g'.status) log p (slot (g'.of p)) own mine) (sym same.own) record {
        stands = o.stands;
        since = o.since;
        earlier = o.earlier;
        stood = λ two. stood_on z (heap z words g.status) (heap z words' g'.status) (s two).0 any_word (slot (g.of p))
            (slot (g'.of p))
            (still_held (g.of p) (g'.of p) same.holds) (seen_held z words g b p lt) (seen_held z words' g' b' p lt) (g.of p).own
            (λ _. tt)
            (o.stood two);
        sole = λ one two. sole_on (heap z words g.status) (heap z words' g'.status) (s two).1 any_word (slot (g.of p))
            (slot (g'.of p)) (still_held (g.of p) (g'.of p) same.holds) (g.of p).own (λ _. tt) (o.stood two) (o.sole one two);
      }

  -- all that a queue adds after a quiet step, from what is true of each pass
  pub queues_quiet : (l : Queues z words g) → IsQuietStep g.order g'.order
      → Lined z (heap z words' g'.status) l.at (items_of (log_of g.order))
      → ((p : ℕ) → p < z.passes → Calls z (heap z words' g'.status) (log_of g.order) p (slot (g'.of p)) (g'.of p).own
      (placed_by p g.order))
      → Queues z words' g'
  queues_quiet l quiet lined each = let t' : Heap = heap z words' g'.status in
      let log : log_of g'.order ≡ log_of g.order = quiet_log g.order g'.order quiet in record {
        sound = subst IsSound (sym log) l.sound;
        own_changes = own_quiet (λ (c : QueueChange). c.caller) g.order g'.order quiet l.own_changes;
        at = l.at;
        lined = subst (λ (log : List QueueChange). Lined z t' l.at (items_of log)) (sym log) lined;
        each = λ p lt. subst (λ (log : List QueueChange). Calls z t' log p (slot (g'.of p)) (g'.of p).own (placed_by p g'.order))
            (sym log)
            (subst (λ (mine : List QueuePlaced). Calls z t' (log_of g.order) p (slot (g'.of p)) (g'.of p).own mine)
            (sym (quiet_placed p g.order g'.order quiet)) (each p lt));
      }

  queues_alike_by : Alike z (heap z words g.status) (heap z words' g'.status) → IsQuietStep g.order g'.order
      → ((p : ℕ) → p < z.passes → SameOwn (g.of p) (g'.of p)) → Queues z words g → Queues z words' g'
  queues_alike_by a quiet passes l = let t : Heap = heap z words g.status in let t' : Heap = heap z words' g'.status in
      let log : List QueueChange = log_of g.order in
      queues_quiet l quiet (lined_alike z t t' l.at (items_of log) b.within.some_heads a l.lined)
      (λ p lt. kept_pass log (λ two. (
        steady_alike z t t' l.at (items_of log) two a l.lined,
        still_alike z t t' l.at (items_of log) two a l.lined,
      )) p lt (passes p lt)
      (placed_by p g.order) (l.each p lt))

  pub queues_alike : LooksSame z words words' g g' → Queues z words g → Queues z words' g'
  queues_alike a l = queues_alike_by (alike_seen z words words' g g' a.seen) a.seen.order a.passes l

  pub queues_invalidated : (n side : ℕ) → side < 1 → Invalidates z words words' g g' n side → Queues z words g
      → Queues z words' g'
  queues_invalidated n side lt i l = queues_alike_by (alike_invalid z words words' g g' n side lt i) i.order i.passes l

  not_that : (a i : ℕ) → eqb a i ≡ false → a ≢ i
  not_that a i f e = false≢true (sym f ∙ eq-eqb a i e)

  -- a pass that cleared its word i
  cleared_pass : (log : List QueueChange) → (z.heads ≡ 2 → Steady z (heap z words g.status) (heap z words' g'.status)
      × Still (heap z words g.status) (heap z words' g'.status)) → (p i : ℕ)
      → p < z.passes → i < 5 → Clears queue_forget i (g.of p) (g'.of p) → (mine : List QueuePlaced)
      → Calls z (heap z words g.status) log p (slot (g.of p)) (g.of p).own mine
      → Calls z (heap z words' g'.status) log p (slot (g'.of p)) (g'.of p).own mine
  cleared_pass log s p i lt li c mine o = subst (λ (own : QueueOwn). Calls z t' log p w' own mine) (sym c.own) record {
    stands = o.stands;
    since = o.since;
    earlier = o.earlier;
    stood = λ two. stood_at two (eqb own.at i) refl;
    sole = λ one two. sole_at one two (eqb own.at i) refl;
  }
    where
      own : QueueOwn
      own = (g.of p).own

      t : Heap
      t = heap z words g.status

      t' : Heap
      t' = heap z words' g'.status

      w : ℕ → WalkSlot
      w = slot (g.of p)

      w' : ℕ → WalkSlot
      w' = slot (g'.of p)

      -- the other words are as they were
      stays : HoldsStill (λ j. j ≢ i) w w'
      stays = record {
        held = λ j lj ne held. ap (λ (v : WalkSlot). v.held) (c.others j lj ne) ∙ held;
        named = λ j lj ne _. ap (λ (v : WalkSlot). v.named) (c.others j lj ne);
      }

      stood_at : z.heads ≡ 2 → (hit : Bool) → eqb own.at i ≡ hit → Stood t' w' (record own { at = cond hit 5 own.at })
      stood_at two true e = stood_nowhere t' w' (record own { at = 5 }) refl
      stood_at two false e = stood_on z t t' (s two).0
          (λ j. j ≢ i) w w' stays (seen_held z words g b p lt) (seen_held z words' g' b' p lt)
          own (λ _. not_that own.at i e) (o.stood two)

      sole_at : z.passes ≡ 1 → z.heads ≡ 2 → (hit : Bool) → eqb own.at i ≡ hit
          → Sole t' w' (record own { at = cond hit 5 own.at })
      sole_at one two true e = record {
        last = λ up. (s two).1.back ∙ (o.sole one two).last up;
        front = λ bad. absurd (omega arith);
      }
      sole_at one two false e = sole_on t t' (s two).1 (λ j. j ≢ i) w w' stays own (λ _. not_that own.at i e)
          (o.stood two) (o.sole one two)

  pub queues_cleared : (p i : ℕ) → Cleared queue_forget z words words' g g' p i → Queues z words g → Queues z words' g'
  queues_cleared p i c l = let t : Heap = heap z words g.status in let t' : Heap = heap z words' g'.status in
      let a = alike_seen z words words' g g' c.seen in let log : List QueueChange = log_of g.order in
      let s : z.heads ≡ 2 → Steady z t t' × Still t t' = λ two. (
        steady_alike z t t' l.at (items_of log) two a l.lined,
        still_alike z t t' l.at (items_of log) two a l.lined,
      ) in
      queues_quiet l c.seen.order (lined_alike z t t' l.at (items_of log) b.within.some_heads a l.lined)
      (λ r lt. dite (ℕ_discrete r p)
      (λ e. subst (λ (r : ℕ). Calls z t' log r (slot (g'.of r)) (g'.of r).own (placed_by r g.order)) (sym e)
      (cleared_pass log s p i c.pass c.word c.here (placed_by p g.order) (l.each p c.pass)))
      (λ ne. kept_pass log s r lt (c.others r lt ne) (placed_by r g.order) (l.each r lt)))

-- A step of the pass q at which these changes, of its own, took effect, or none.
module _ (z : Sizes) (words words' : List ℕ) (g : QueueState) (q q' : QueuePass) (status' : ℕ → RecordState) (e : QueueStep)
    (at' : ℕ → ℕ) where
  pub queues_changed : Base 1 z words g → Queues z words g → q.number < z.passes → e.entry.pass ≡ q.number
      → ((c : QueueChange) → IsIn c e.entry.changes → c.caller ≡ q.number) → AtEach e.entry.changes (λ k c. c.caller ≡ q.number)
      → q'.number ≡ q.number → IsSound (log_of g.order ++ e.entry.changes)
      → Lined z (heap z words' status') at' (items_of (log_of g.order ++ e.entry.changes))
      → length (log_of g.order) ≤ length (log_of g.order ++ e.entry.changes)
      → (z.heads ≡ 2 → Steady z (heap z words g.status) (heap z words' status'))
      → ((n : ℕ) → IsUsed (g.status n) → IsUsed (status' n))
      → Calls z (heap z words' status') (log_of g.order ++ e.entry.changes) q.number (slot q') q'.own
      (placed_by q.number (g.order ++ e ∷ []))
      → Queues z words' (after_step g q' status' e)
  queues_changed b l pass own_pass caller callers number sound lined longer steady used mine =
      let log : List QueueChange = log_of g.order in let t : Heap = heap z words g.status in
      let t' : Heap = heap z words' status' in
      let cs : List QueueChange = e.entry.changes in
      let now : log_of (g.order ++ e ∷ []) ≡ log ++ cs = log_snoc g.order e in record {
        sound = subst IsSound (sym now) sound;
        own_changes = own_more (λ (c : QueueChange). c.caller) g.order e l.own_changes (λ d i. caller d i ∙ sym own_pass);
        at = at';
        lined = subst (λ (log : List QueueChange). Lined z t' at' (items_of log)) (sym now) lined;
        each = λ p lt. subst (λ (log : List QueueChange). Calls z t' log p (slot (put g.of q'.number q' p))
            (put g.of q'.number q' p).own
            (placed_by p (g.order ++ e ∷ []))) (sym now)
            (put_each (λ (r : ℕ) (v : QueuePass). r < z.passes
            → Calls z t' (log ++ cs) r (slot v) v.own (placed_by r (g.order ++ e ∷ []))) g.of q'.number q'
            (λ _. subst (λ (r : ℕ). Calls z t' (log ++ cs) r (slot q') q'.own (placed_by r (g.order ++ e ∷ [])))
            (sym number) mine)
            (λ r ne lr. let o = l.each r lr in let other : r ≢ q.number = λ same. ne (same ∙ sym number) in
            subst (λ (mine : List QueuePlaced). Calls z t' (log ++ cs) r (slot (g.of r)) (g.of r).own mine)
            (sym (placed_else r g.order e (λ same. other (sym same ∙ own_pass)))) record {
              stands = stands_grown queue log cs r (placed_by r g.order) (λ k c at same. other (sym same
                  ∙ callers k c at)) o.stands;
              since = λ go. let le = o.since go in omega arith;
              earlier = o.earlier;
              stood = λ two. stood_on z t t' (steady two) any_word (slot (g.of r)) (slot (g.of r))
                  record { held = λ i _ _ h. h; named = λ i _ _ _. refl } (seen_held z words g b r lr)
                  (λ i li h. let y = b.hazards.held r i lr li h in
                  (y.number, used (slot (g.of r) i).named y.used)) (g.of r).own (λ _. tt)
                  (o.stood two);
              sole = λ one _. absurd (other (omega arith));
            }) p lt);
      }
