-- What steps leave of the walks of the passes.
use Rattle.std.specs.Prelude.{slice_get}
use Rattle.std.proofs.Common.{◌≡◌, ◌≢◌, ◌⊎◌, inl, inr, ⊎_elim, ℕ, zero, suc, ◌<◌, ◌≤◌, Bool, true, false, cond, eqb}
use Rattle.std.proofs.Common.{List, [], ◌∷◌, ◌++◌, length, Option, Some, sym, refl, ap, ◌∙◌, subst, arith}
use Rattle.std.proofs.Common.{eq-eqb}
use Rattle.std.proofs.Math.Bool.{false≢true}
use Rattle.std.proofs.Math.Decide.{ℕ_discrete}
use mathlib.Core.Logic.{dite}
use Rattle.pp_link.specs.declared.layout.Sizes.{Sizes}
use Rattle.pp_model.specs.declared.Pair.{Pair}
use Rattle.pp_model.specs.declared.Call.{Call}
use Rattle.pp_model.specs.declared.Change.{Change}
use Rattle.pp_model.specs.declared.Placed.{Placed}
use Rattle.pp_model.specs.Lists.{AtEach}
use Rattle.pp_model.specs.Calls.{key_of}
use Rattle.pp_model.specs.FiniteMap.{find}
use Rattle.pp_model.specs.History.{after, contents_of, Sound, Stands}
use Rattle.pp_model.proofs.Histories.{stands_grown}
use Rattle.pp_rule.specs.declared.views.WalkSlot.{WalkSlot}
use Rattle.pp_rule.specs.Lists.{IsIn}
use Rattle.pp_rule.specs.Orders.{log_of, placed_by, IsQuietStep}
use Rattle.pp_rule.specs.Views.{slot}
use Rattle.pp_rule.specs.States.{RecordState, attached, PoolState, IsUsed}
use Rattle.pp_rule.specs.Rule.{Base}
use Rattle.pp_rule.specs.Looks.{LooksSame, SameOwn, Clears, Cleared, Invalidates}
use Rattle.pp_rule.proofs.Put.{put, put_each, in_one}
use Rattle.pp_rule.proofs.Histories.{log_snoc, quiet_log, quiet_placed, placed_else}
use Rattle.pp_rule.proofs.Stepping.{after_step}
use Rattle.pp_rule.proofs.OwnSteps.{HoldsStill, any_word, still_held, own_more, own_quiet}
use Rattle.pp_lists.specs.declared.own.Gathered.{Gathered}
use Rattle.pp_lists.specs.declared.own.ListOwn.{ListOwn}
use Rattle.pp_lists.specs.Walks.{Heap, heap, Finds, IsSeen, Sane, Listed, Mapped, Joined, Intact, IsRight}
use Rattle.pp_lists.specs.Lists.{ListPass, ListState, ListStep, Stood, Gathering, Walks, Leaves, Lists, list_forget}
use Rattle.pp_lists.proofs.Leaving.{leaves_on}
use Rattle.pp_lists.proofs.Walking.{Fewer, finds_fewer}
use Rattle.pp_lists.proofs.Shaping.{listed_fewer, mapped_fewer, intact_fewer, is_linked}
use Rattle.pp_lists.proofs.Heaps.{sane_of, fewer_seen, fewer_invalid}

-- What a step has to show for the walks of a pass that goes on as it was.
pub record Steadily (z : Sizes) (t t' : Heap) (log log' : List Change) : Type 0 where
  pub grown : length log ≤ length log'
  pub same : (n : ℕ) → n ≤ length log → after log' n ≡ after log n
  pub finds : (k : ℕ) (a : Option ℕ) (n : ℕ) → IsSeen z t n → IsSeen z t' n → Finds t' k a n
      → Finds t k a n ⊎ (find (after log' (length log')) k ≡ a)
  pub was : (n : ℕ) → IsSeen z t n → t'.status n ≡ attached → t.status n ≡ attached
  pub intact : (n : ℕ) (cs : List Gathered) (x : ℕ) → IsSeen z t n → Joined n cs x → t'.status n ≡ attached → Intact z t cs
      → Intact z t' cs

pub right_on : (z : Sizes) (t t' : Heap) (log log' : List Change) (start k : ℕ) (a : Option ℕ) → Steadily z t t' log log'
    → IsRight log start k a → IsRight log' start k a
right_on z t t' log log' start k a s r = let p : ℕ = r.0 in let le : p ≤ length log = r.1.1 in let g = s.grown in
    (p, (r.1.0, omega arith, ap (λ (m : List Pair). find m k) (s.same p le) ∙ r.1.2))

module _ (z : Sizes) (t t' : Heap) (log log' : List Change) (s : Steadily z t t' log log') (p : ℕ) (ok : ℕ → Type 0)
    (w w' : ℕ → WalkSlot)
    (h : HoldsStill ok w w') (seen : (i : ℕ) → i < 5 → (w i).held ≡ true → IsSeen z t (w i).named)
    (seen' : (i : ℕ) → i < 5 → (w' i).held ≡ true → IsSeen z t' (w' i).named) where
  pub stood_on : (going : Bool) (call : Call) (start at : ℕ) → (at < 5 → ok at) → (going ≡ true → start ≤ length log)
      → Stood t log w going call start at → Stood t' log' w' going call start at
  stood_on going call start at is_ok since o = record {
    held = λ lt. h.held at lt (is_ok lt) (o.held lt);
    right = λ go lt a f. let was = o.held lt in let name = h.named at lt (is_ok lt) was in let le = since go in
        let g = s.grown in ⊎_elim
        (λ (f' : Finds t (key_of call) a (w at).named). right_on z t t' log log' start (key_of call) a s (o.right go lt a f'))
        (λ (now : find (after log' (length log')) (key_of call) ≡ a). (length log', (omega arith, omega arith, now)))
        (s.finds (key_of call) a (w at).named (seen at lt was)
        (subst (IsSeen z t') name (seen' at lt (h.held at lt (is_ok lt) was)))
        (subst (Finds t' (key_of call) a) name f));
  }

  pub gathering_on : (first : ℕ) (chain : List Gathered) → (first < 5 → ok first) → Gathering z t w first chain
      → Gathering z t' w' first chain
  gathering_on first chain is_ok o = record {
    held = λ lt. h.held first lt (is_ok lt) (o.held lt);
    joined = λ lt. let j = o.joined lt in
        (j.0, subst (λ (n : ℕ). Joined n chain j.0) (sym (h.named first lt (is_ok lt) (o.held lt))) j.1);
    intact = λ lt st. let was = o.held lt in let name = h.named first lt (is_ok lt) was in let j = o.joined lt in
        let st' : t'.status (w first).named ≡ attached = sym (ap t'.status name) ∙ st in
        s.intact (w first).named chain j.0 (seen first lt was) j.1 st'
        (o.intact lt (s.was (w first).named (seen first lt was) st'));
  }

  pub walks_on : ((i : ℕ) → ok i) → (own : ListOwn) (mine : List Placed) → Stands log' p mine → Walks z t log p w own mine
      → Walks z t' log' p w' own mine
  walks_on all own mine st o = let g = s.grown in record {
    stands = st;
    earlier = o.earlier;
    since = λ go. let le = o.since go in omega arith;
    stood = stood_on own.going own.call own.start own.at (λ _. all own.at) o.since o.stood;
    gathering = gathering_on own.first own.chain (λ _. all own.first) o.gathering;
  }

-- a step that changes nothing of the log, after which fewer links are valid
pub steady_fewer : (z : Sizes) (t t' : Heap) (log : List Change) → Sane z t' → Fewer z t t' → Steadily z t t' log log
steady_fewer z t t' log sane' f = record {
  grown = omega arith;
  same = λ n _. refl;
  finds = λ k a n _ seen' y. inl (finds_fewer z t t' k a f sane' n seen' y);
  was = λ n _ st. sym (f.linked_was n (is_linked (t'.status n) st)) ∙ st;
  intact = λ n cs x _ j st i. intact_fewer z t t' f sane' cs i;
}

pub seen_held : {E A W : Type 0} (z : Sizes) (words : List ℕ) (g : PoolState E A W) → Base 1 z words g → (p : ℕ) → p < z.passes
    → (i : ℕ)
    → i < 5 → (slot (g.of p) i).held ≡ true → IsSeen z (heap z words g.status) (slot (g.of p) i).named
seen_held z words g b p lt i li held = let h = b.hazards.held p i lt li held in inr (h.number, h.used)

module _ (z : Sizes) (words words' : List ℕ) (g g' : ListState) (b : Base 1 z words g) (b' : Base 1 z words' g') where
  -- a pass that is as it was, but for what it holds more
  pub kept_pass : (log : List Change) → Steadily z (heap z words g.status) (heap z words' g'.status) log log → (p : ℕ)
      → p < z.passes
      → SameOwn (g.of p) (g'.of p) → (mine : List Placed) → Walks z (heap z words g.status) log p (slot (g.of p))
      (g.of p).own mine
      → Walks z (heap z words' g'.status) log p (slot (g'.of p)) (g'.of p).own mine
  kept_pass log s p lt same mine o =
      subst (λ (own : ListOwn). Walks z (heap z words' g'.status) log p (slot (g'.of p)) own mine) (sym same.own)
      (walks_on z (heap z words g.status) (heap z words' g'.status) log log s p any_word (slot (g.of p)) (slot (g'.of p))
      (still_held (g.of p) (g'.of p) same.holds) (seen_held z words g b p lt) (seen_held z words' g' b' p lt)
      (λ _. tt) (g.of p).own mine o.stands o)

  -- all that a list adds after a quiet step, from what is true of each pass
  pub lists_quiet : IsQuietStep g.order g'.order → Listed z (heap z words' g'.status)
      → Mapped z (heap z words' g'.status) (contents_of (log_of g.order))
      → ((p : ℕ) → p < z.passes → Walks z (heap z words' g'.status) (log_of g.order) p (slot (g'.of p)) (g'.of p).own
      (placed_by p g.order))
      → Leaves z (heap z words' g'.status) (λ p. (g'.of p).own.left) → Lists z words g → Lists z words' g'
  lists_quiet quiet listed mapped each leaves l = let t' : Heap = heap z words' g'.status in
      let log : log_of g'.order ≡ log_of g.order = quiet_log g.order g'.order quiet in record {
        sound = subst Sound (sym log) l.sound;
        own_changes = own_quiet (λ (c : Change). c.caller) g.order g'.order quiet l.own_changes;
        listed = listed;
        mapped = subst (λ (log : List Change). Mapped z t' (contents_of log)) (sym log) mapped;
        each = λ p lt. subst (λ (log : List Change). Walks z t' log p (slot (g'.of p)) (g'.of p).own (placed_by p g'.order))
            (sym log)
            (subst (λ (mine : List Placed). Walks z t' (log_of g.order) p (slot (g'.of p)) (g'.of p).own mine)
            (sym (quiet_placed p g.order g'.order quiet)) (each p lt));
        leaves = leaves;
      }

  leaves_fewer : Fewer z (heap z words g.status) (heap z words' g'.status)
      → ((p : ℕ) → p < z.passes → (g'.of p).own.left ≡ (g.of p).own.left) → Lists z words g
      → Leaves z (heap z words' g'.status) (λ p. (g'.of p).own.left)
  leaves_fewer f same l = leaves_on z (heap z words g.status) (heap z words' g'.status) (λ p. (g.of p).own.left)
      (λ p. (g'.of p).own.left)
      same (λ n is st. (sym (f.linked_was n (is_linked (g'.status n) st)) ∙ st, f.flags n is (subst IsUsed (sym st) tt))) l.leaves

  pub lists_fewer : Fewer z (heap z words g.status) (heap z words' g'.status) → IsQuietStep g.order g'.order
      → ((p : ℕ) → p < z.passes → SameOwn (g.of p) (g'.of p)) → Lists z words g → Lists z words' g'
  lists_fewer f quiet passes l = let t : Heap = heap z words g.status in let t' : Heap = heap z words' g'.status in
      let sane' = sane_of z words' g' b' in let log : List Change = log_of g.order in
      lists_quiet quiet (listed_fewer z t t' f sane' l.listed) (mapped_fewer z t t' f sane' (contents_of log) l.mapped)
      (λ p lt. kept_pass log (steady_fewer z t t' log sane' f) p lt (passes p lt) (placed_by p g.order) (l.each p lt))
      (leaves_fewer f (λ p lt. ap (λ (o : ListOwn). o.left) (passes p lt).own) l) l

  pub lists_alike : LooksSame z words words' g g' → Lists z words g → Lists z words' g'
  lists_alike a l = lists_fewer (fewer_seen z words words' g g' a.seen) a.seen.order a.passes l

  pub lists_invalidated : (n side : ℕ) → side < 1 → Invalidates z words words' g g' n side → Lists z words g → Lists z words' g'
  lists_invalidated n side lt i l = lists_fewer (fewer_invalid z words words' g g' n side lt i) i.order i.passes l

  not_that : (a i : ℕ) → eqb a i ≡ false → a ≢ i
  not_that a i f e = false≢true (sym f ∙ eq-eqb a i e)

  -- a pass that cleared its word i
  cleared_pass : (log : List Change) → Steadily z (heap z words g.status) (heap z words' g'.status) log log → (p i : ℕ)
      → p < z.passes
      → i < 5 → Clears list_forget i (g.of p) (g'.of p) → (mine : List Placed)
      → Walks z (heap z words g.status) log p (slot (g.of p)) (g.of p).own mine
      → Walks z (heap z words' g'.status) log p (slot (g'.of p)) (g'.of p).own mine
  cleared_pass log s p i lt li c mine o = subst (λ (own : ListOwn). Walks z t' log p w' own mine) (sym c.own) record {
    stands = o.stands;
    since = o.since;
    earlier = o.earlier;
    stood = stood_at (eqb own.at i) refl;
    gathering = gathered_at (eqb own.first i) refl;
  }
    where
      own : ListOwn
      own = (g.of p).own

      t : Heap
      t = heap z words g.status

      t' : Heap
      t' = heap z words' g'.status

      w : ℕ → WalkSlot
      w = slot (g.of p)

      w' : ℕ → WalkSlot
      w' = slot (g'.of p)

      -- the other words are as they were
      stays : HoldsStill (λ j. j ≢ i) w w'
      stays = record {
        held = λ j lj ne held. ap (λ (v : WalkSlot). v.held) (c.others j lj ne) ∙ held;
        named = λ j lj ne _. ap (λ (v : WalkSlot). v.named) (c.others j lj ne);
      }

      stood_at : (hit : Bool) → eqb own.at i ≡ hit → Stood t' log w' own.going own.call own.start (cond hit 5 own.at)
      stood_at true e = record { held = λ bad. absurd (omega arith); right = λ _ bad. absurd (omega arith) }
      stood_at false e = stood_on z t t' log log s p (λ j. j ≢ i) w w' stays (seen_held z words g b p lt)
          (seen_held z words' g' b' p lt)
          own.going own.call own.start own.at (λ _. not_that own.at i e) o.since o.stood

      gathered_at : (hit : Bool) → eqb own.first i ≡ hit → Gathering z t' w' (cond hit 5 own.first) (cond hit [] own.chain)
      gathered_at true e = record {
        held = λ bad. absurd (omega arith);
        joined = λ bad. absurd (omega arith);
        intact = λ bad. absurd (omega arith);
      }
      gathered_at false e = gathering_on z t t' log log s p (λ j. j ≢ i) w w' stays (seen_held z words g b p lt)
          (seen_held z words' g' b' p lt) own.first own.chain (λ _. not_that own.first i e) o.gathering

  pub lists_cleared : (p i : ℕ) → Cleared list_forget z words words' g g' p i → Lists z words g → Lists z words' g'
  lists_cleared p i c l = let t : Heap = heap z words g.status in let t' : Heap = heap z words' g'.status in
      let sane' = sane_of z words' g' b' in let f = fewer_seen z words words' g g' c.seen in
      let log : List Change = log_of g.order in
      let s = steady_fewer z t t' log sane' f in
      lists_quiet c.seen.order (listed_fewer z t t' f sane' l.listed) (mapped_fewer z t t' f sane' (contents_of log) l.mapped)
      (λ r lt. dite (ℕ_discrete r p)
      (λ e. subst (λ (r : ℕ). Walks z t' log r (slot (g'.of r)) (g'.of r).own (placed_by r g.order)) (sym e)
      (cleared_pass log s p i c.pass c.word c.here (placed_by p g.order) (l.each p c.pass)))
      (λ ne. kept_pass log s r lt (c.others r lt ne) (placed_by r g.order) (l.each r lt)))
      (leaves_fewer f (λ r lt. dite (ℕ_discrete r p)
      (λ e. subst (λ (r : ℕ). (g'.of r).own.left ≡ (g.of r).own.left) (sym e) (ap (λ (o : ListOwn). o.left) c.here.own))
      (λ ne. ap (λ (o : ListOwn). o.left) (c.others r lt ne).own)) l) l

-- A step at which a change of the pass q took effect.
module _ (z : Sizes) (words words' : List ℕ) (g : ListState) (q q' : ListPass) (status' : ℕ → RecordState) (e : ListStep)
    (c : Change) where
  not_theirs : (p r : ℕ) → c.caller ≡ p → r ≢ p → AtEach (c ∷ []) (λ k c. c.caller ≡ r → ⊥)
  not_theirs p r is ne zero x at same = ne (sym same ∙ (ap (λ (c : Change). c.caller) (head_is x at) ∙ is))
    where
      head_is : (x : Change) → slice_get (c ∷ []) 0 ≡ Some x → x ≡ c
      head_is x at = sym (some_is c x at)
        where
          some_is : (c x : Change) → Some c ≡ Some x → c ≡ x
          some_is c x s = cc
  not_theirs p r is ne (suc k) x at same = cc

  pub lists_changed : Base 1 z words g → Lists z words g → e.entry.changes ≡ c ∷ [] → e.entry.pass ≡ q.number
      → c.caller ≡ q.number
      → q'.number ≡ q.number → Sound (log_of g.order ++ c ∷ []) → Listed z (heap z words' status')
      → Mapped z (heap z words' status') (contents_of (log_of g.order ++ c ∷ []))
      → Steadily z (heap z words g.status) (heap z words' status') (log_of g.order) (log_of g.order ++ c ∷ [])
      → ((n : ℕ) → IsUsed (g.status n) → IsUsed (status' n))
      → Walks z (heap z words' status') (log_of g.order ++ c ∷ []) q.number (slot q') q'.own
      (placed_by q.number (g.order ++ e ∷ []))
      → Leaves z (heap z words' status') (λ p. (put g.of q'.number q' p).own.left)
      → Lists z words' (after_step g q' status' e)
  lists_changed b l told own_pass caller number sound listed mapped steady used mine leaves =
      let log : List Change = log_of g.order in let t : Heap = heap z words g.status in let t' : Heap = heap z words' status' in
      let now : log_of (g.order ++ e ∷ []) ≡ log ++ c ∷ [] = log_snoc g.order e ∙ ap (λ (l : List Change). log ++ l) told in
      record {
        sound = subst Sound (sym now) sound;
        own_changes = own_more (λ (c : Change). c.caller) g.order e l.own_changes
            (λ d i. ap (λ (c : Change). c.caller) (sym (in_one d c (subst (λ (cs : List Change). IsIn d cs) told i)))
            ∙ (caller ∙ sym own_pass));
        listed = listed;
        mapped = subst (λ (log : List Change). Mapped z t' (contents_of log)) (sym now) mapped;
        each = λ p lt. subst (λ (log : List Change). Walks z t' log p (slot (put g.of q'.number q' p))
            (put g.of q'.number q' p).own
            (placed_by p (g.order ++ e ∷ []))) (sym now)
            (put_each (λ (r : ℕ) (v : ListPass). r < z.passes
            → Walks z t' (log ++ c ∷ []) r (slot v) v.own (placed_by r (g.order ++ e ∷ []))) g.of q'.number q'
            (λ _. subst (λ (r : ℕ). Walks z t' (log ++ c ∷ []) r (slot q') q'.own (placed_by r (g.order ++ e ∷ [])))
            (sym number) mine)
            (λ r ne lr. let o = l.each r lr in let other : r ≢ q.number = λ same. ne (same ∙ sym number) in
            subst (λ (mine : List Placed). Walks z t' (log ++ c ∷ []) r (slot (g.of r)) (g.of r).own mine)
            (sym (placed_else r g.order e (λ same. other (sym same ∙ own_pass))))
            (walks_on z t t' log (log ++ c ∷ []) steady r any_word (slot (g.of r)) (slot (g.of r))
            record { held = λ i _ _ h. h; named = λ i _ _ _. refl } (seen_held z words g b r lr)
            (λ i li h. let y = b.hazards.held r i lr li h in inr (y.number, used (slot (g.of r) i).named y.used)) (λ _. tt)
            (g.of r).own
            (placed_by r g.order) (stands_grown log (c ∷ []) r (placed_by r g.order)
            (not_theirs q.number r caller other) o.stands) o)) p lt);
        leaves = leaves;
      }
