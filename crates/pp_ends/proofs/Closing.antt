-- What a closed pool shows is what a closed map has to show.
use Rattle.std.proofs.Common.{◌≡◌, ℕ, zero, suc, ◌+◌, ◌<◌, ◌≤◌, Bool, true, false, cond, eqb, List, [], ◌∷◌, map, length}
use Rattle.std.proofs.Common.{refl, sym, ap, ◌∙◌, subst, ⊎_elim, Some, arith}
use Rattle.std.specs.Prelude.{slice_get}
use Rattle.std.proofs.lemmas.List.{length-map}
use Rattle.std.proofs.lemmas.Option.{slice_get_within}
use Rattle.std.proofs.lemmas.Simd.{map-map}
use Rattle.atomic_table.specs.Seated.{TableId}
use Rattle.atomic_table.specs.declared.shared.Seat.{Seat}
use Rattle.pp_link.specs.declared.layout.Sizes.{Sizes}
use Rattle.pp_model.specs.declared.Change.{Change}
use Rattle.pp_model.specs.declared.Pair.{Pair}
use Rattle.pp_model.specs.declared.Placed.{Placed}
use Rattle.pp_model.specs.declared.steps.OrderEntry.{OrderEntry}
use Rattle.pp_model.specs.History.{Stands}
use Rattle.pp_model.specs.Lists.{AtEach, IsPrefix, RisesFrom, times as count_of}
use Rattle.pp_model.specs.MapCalls.{IsClosing, IsOrdered, AreNumbers, SawAll, caller_run}
use Rattle.pp_model.specs.Pass.{PassView, CallerRun, IsExecution, changes_of, steps_of}
use Rattle.pp_rule.specs.declared.shape.Shape.{Ghosts}
use Rattle.pp_rule.specs.declared.views.LoggedStep.{LoggedStep}
use Rattle.pp_rule.specs.declared.views.PassState.{PassState}
use Rattle.pp_rule.specs.declared.views.SeatView.{SeatView}
use Rattle.pp_rule.specs.Causes.{PoolWords, CauseWords, pool_meaning, pool_sizes}
use Rattle.pp_rule.specs.Closing.{spare}
use Rattle.pp_rule.specs.Lists.{IsIn, times}
use Rattle.pp_rule.specs.Orders.{entries_of, log_of, made_by, placed_by, stores}
use Rattle.pp_rule.proofs.Histories.{log_begins, entries_append, placed_kept}
use Rattle.pp_rule.proofs.Put.{in_nil, in_first, in_later, in_cases, in_either}
use Rattle.pp_base.specs.declared.pool.Pass.{Pass}
use Rattle.pp_base.specs.Passes.{known, view}
use Rattle.pp_pool.specs.Closed.{IsSeatOf, IsClosedPool}
use Rattle.pp_calls.specs.PoolViews.{pass_view}
use Rattle.pp_ends.specs.Ends.{map_sizes, TellsMap, caller_in, pool_run}

module _ {A : Type 0} where
  -- an element at a position stands in the list
  pub in_slice : (xs : List A) (k : ℕ) (x : A) → slice_get xs k ≡ Some x → IsIn x xs
  in_slice [] k x e = let long = slice_get_within [] k x e in absurd (omega arith)
  in_slice (y ∷ xs) zero x e = let is : y ≡ x = cc in subst (λ (w : A). IsIn w (y ∷ xs)) is (in_first y xs)
  in_slice (y ∷ xs) (suc k) x e = in_later x y xs (in_slice xs k x e)

  pub slice_in : (x : A) (xs : List A) → IsIn x xs → (k : ℕ) × (slice_get xs k ≡ Some x)
  slice_in x [] i = absurd (in_nil x i)
  slice_in x (y ∷ xs) i = ⊎_elim (λ (here : x ≡ y). (zero, ap Some (sym here)))
      (λ (later : IsIn x xs). let r = slice_in x xs later in (suc r.0, r.1)) (in_cases x y xs i)

module _ {A B : Type 0} (f : A → B) where
  -- an element of the images is that of an element
  pub image_of : (xs : List A) (k : ℕ) (y : B) → slice_get (map f xs) k ≡ Some y → (x : A) × ((slice_get xs k ≡ Some x) × (y ≡ f x))
  image_of [] k y e = let long = slice_get_within [] k y e in absurd (omega arith)
  image_of (x ∷ xs) zero y e = (x, (refl, cc))
  image_of (x ∷ xs) (suc k) y e = image_of xs k y e

  pub image_at : (xs : List A) (k : ℕ) (x : A) → slice_get xs k ≡ Some x → slice_get (map f xs) k ≡ Some (f x)
  image_at [] k x e = let long = slice_get_within [] k x e in absurd (omega arith)
  image_at (y ∷ xs) zero x e = let is : y ≡ x = cc in ap (λ w. Some (f w)) is
  image_at (y ∷ xs) (suc k) x e = image_at xs k x e

  in_image : (x : A) (xs : List A) → IsIn x xs → IsIn (f x) (map f xs)
  in_image x xs i = let r = slice_in x xs i in in_slice (map f xs) r.0 (f x) (image_at xs r.0 x r.1)

  pub map_each : (g : A → B) (xs : List A) → ((x : A) → IsIn x xs → f x ≡ g x) → map f xs ≡ map g xs
  map_each g [] same = refl
  map_each g (x ∷ xs) same = let rest = map_each g xs (λ y i. same y (in_later y x xs i)) in let here = same x (in_first x xs) in cc

-- the two ways to count agree
times_same : (n : ℕ) (xs : List ℕ) → count_of n xs ≡ times n xs
unfolding times
times_same n [] = refl
times_same n (x ∷ xs) = by (eqb x n) (times_same n xs)
  where
    by : (b : Bool) → count_of n xs ≡ times n xs → cond b (count_of n xs + 1) (count_of n xs) ≡ cond b (suc (times n xs)) (times n xs)
    by true e = omega arith
    by false e = e

rises_from : (low high : ℕ) (ns : List ℕ) → low ≤ high → RisesFrom high ns → RisesFrom low ns
rises_from low high [] le r = tt
rises_from low high (n ∷ ns) le r = let up = r.0 in (omega arith, r.1)

-- the spare numbers rise
spare_rises : (live : List ℕ) (low n : ℕ) → RisesFrom low (spare live low n)
unfolding spare
spare_rises live low zero = tt
spare_rises live low (suc n) = by (eqb (times low live) 0) (spare_rises live (low + 1) n)
  where
    by : (b : Bool) → RisesFrom (low + 1) (spare live (low + 1) n)
        → RisesFrom low (cond b (low ∷ spare live (low + 1) n) (spare live (low + 1) n))
    by true r = (omega arith, r)
    by false r = rises_from low (low + 1) (spare live (low + 1) n) (omega arith) r

module _ {E A : Type 0} where
  -- an entry of the order is that of a step
  pub entry_in : (order : List (LoggedStep E A)) (k : ℕ) (e : OrderEntry E) → slice_get (entries_of order) k ≡ Some e
      → (s : LoggedStep E A) × (IsIn s order × (e ≡ s.entry))
  unfolding entries_of
  entry_in order k e at = let r = image_of (λ (s : LoggedStep E A). s.entry) order k e at in (r.0, (in_slice order k r.0 r.1.0, r.1.1))

  -- a change of the log took effect at a step
  pub change_in : (order : List (LoggedStep E A)) (c : E) → IsIn c (log_of order)
      → (s : LoggedStep E A) × (IsIn s order × IsIn c s.entry.changes)
  unfolding log_of entries_of
  change_in [] c i = absurd (in_nil c i)
  change_in (s ∷ order) c i = ⊎_elim (λ (here : IsIn c s.entry.changes). (s, (in_first s order, here)))
      (λ (later : IsIn c (log_of order)). let r = change_in order c later in (r.0, (in_later r.0 s order r.1.0, r.1.1)))
      (in_either c s.entry.changes (log_of order) i)

module _ {S W : Type 0} {shape : Ghosts S Change Placed W} (gathered : Sizes → List ℕ → List Pair → List ℕ → Type 0)
    (tells : Sizes → List Change → List Pair → Type 0) (tells_pass : Sizes → List Change → ℕ → List Placed → Type 0)
    (w : PoolWords) (causes : CauseWords) (z : Sizes) (table : TableId) (passes : List (Pass S Change Placed W shape))
    (contents : List Pair) (free live : List ℕ) (v : SeatView Change Placed W)
    (each : AtEach passes (λ k p. IsSeatOf table z k p.seat)) (all : length passes ≡ z.passes)
    (told_map : (log : List Change) (pairs : List Pair) → tells z log pairs → TellsMap log pairs)
    (told_stands : (log : List Change) (p : ℕ) (placed : List Placed) → tells_pass z log p placed → Stands log p placed)
    (c : IsClosedPool (w.opening (map_sizes z)) gathered w.live tells tells_pass (λ x. x.caller) z (map (λ p. p.seat) passes)
    contents free live v) where
  seat_in : (p : Pass S Change Placed W shape) → IsIn p passes → IsIn p.seat (map (λ p. p.seat) passes)
  seat_in p i = in_image (λ (p : Pass S Change Placed W shape). p.seat) p passes i

  placed_all : (p : Pass S Change Placed W shape) → IsIn p passes
      → placed_by (known p.seat).number v.order ≡ placed_by (known p.seat).number (view p.seat).order
  placed_all p i = let e = c.each p.seat (seat_in p i) in
      placed_kept (known p.seat).number v.order (view p.seat).order e.0 (sym e.1)

  caller_is : (p : Pass S Change Placed W shape) → IsIn p passes → caller_in v (known p.seat) ≡ caller_run (pass_view p)
  caller_is p i = let e = (c.each p.seat (seat_in p i)).1 in let f = placed_all p i in cc

  callers : (pool_run v live).callers ≡ map caller_run (map pass_view passes)
  callers = ap (map (caller_in v)) c.all ∙ (ap (map (caller_in v)) (map-map known (λ (p : Pass S Change Placed W shape). p.seat) passes)
      ∙ (map-map (caller_in v) (λ (p : Pass S Change Placed W shape). known p.seat) passes
      ∙ (map_each (λ (p : Pass S Change Placed W shape). caller_in v (known p.seat)) (λ p. caller_run (pass_view p)) passes caller_is
      ∙ sym (map-map caller_run pass_view passes))))

  -- each pass, as callers see it, is that of a pass
  seen_of : (k : ℕ) (x : PassView) → slice_get (map pass_view passes) k ≡ Some x
      → (p : Pass S Change Placed W shape) × ((slice_get passes k ≡ Some p) × IsIn p passes × (x ≡ pass_view p))
  seen_of k x e = let r = image_of pass_view passes k x e in (r.0, (r.1.0, in_slice passes k r.0 r.1.0, r.1.1))

  last_is : SawAll (map pass_view passes) (pool_run v live)
  last_is = let l = c.longest in let i = slice_in l.0 (map (λ p. p.seat) passes) l.1.0 in
      let r = image_of (λ (p : Pass S Change Placed W shape). p.seat) passes i.0 l.0 i.1 in
      let same : v.order ≡ (view r.0.seat).order = l.1.1 ∙ ap (λ (s : Seat Unit (SeatView Change Placed W)). (view s).order) r.1.1 in
      record {
        position = i.0;
        last = pass_view r.0;
        is_one = image_at pass_view passes i.0 r.0 r.1.0;
        seen = ap log_of (sym same);
        order = ap entries_of (sym same);
      }

  sizes_known : v.known.sizes ≡ z
  sizes_known = first passes each c.all
    where
      first : (ps : List (Pass S Change Placed W shape)) → AtEach ps (λ k p. IsSeatOf table z k p.seat)
          → v.known ∷ v.taken ≡ map known (map (λ p. p.seat) ps) → v.known.sizes ≡ z
      first [] each none = absurd cc
      first (p ∷ ps) each is = let head : v.known ≡ known p.seat = cc in ap (λ (q : PassState W). q.sizes) head ∙ (each 0 p refl).0.sizes

  -- a step of the order, by its entry
  step_of : (k : ℕ) (e : OrderEntry Change) → slice_get (entries_of v.order) k ≡ Some e
      → (s : LoggedStep Change Placed) × (IsIn s v.order × (e ≡ s.entry))
  step_of k e at = entry_in v.order k e at

  own_changes : AtEach (entries_of v.order) (λ k e. AtEach e.changes (λ j x. x.caller ≡ e.pass))
  own_changes k e at = let s = step_of k e at in
      subst (λ (o : OrderEntry Change). AtEach o.changes (λ j x. x.caller ≡ o.pass)) (sym s.1.1)
      (λ j x in_changes. c.own s.0 s.1.0 x (in_slice s.0.entry.changes j x in_changes))

  own_passes : AtEach (entries_of v.order) (λ k e. e.pass < length (pool_run v live).callers)
  own_passes k e at = let s = step_of k e at in let low = c.made s.0 s.1.0 in
      let long : length (pool_run v live).callers ≡ z.passes = ap (λ l. length l) callers
      ∙ (length-map (map pass_view passes) caller_run ∙ (length-map passes pass_view ∙ all)) in
      subst (λ (n : ℕ). e.pass < n) (sym long) (subst (λ (o : OrderEntry Change). o.pass < z.passes) (sym s.1.1) low)

  own_order : AtEach (map pass_view passes) (λ k p. p.steps ≡ steps_of p.caller p.order)
  unfolding made_by
  own_order k x e = let r = seen_of k x e in subst (λ (y : PassView). y.steps ≡ steps_of y.caller y.order) (sym r.1.2) refl

  own_steps : AtEach (pool_run v live).callers (λ k r. r.steps ≡ steps_of r.caller (entries_of v.order))
  unfolding made_by
  own_steps k r at = let q = image_of (caller_in v) (v.known ∷ v.taken) k r at in
      subst (λ (x : CallerRun). x.steps ≡ steps_of x.caller (entries_of v.order)) (sym q.1.1) refl

  logged : changes_of (entries_of v.order) ≡ log_of v.order
  unfolding log_of
  logged = refl

  ordered : IsOrdered (pool_meaning w causes (λ sizes. gathered (pool_sizes sizes))) (pool_run v live)
  ordered = record {
    execution = subst (λ (sizes : Sizes). IsExecution stores (w.opening (map_sizes sizes)) 0 (entries_of v.order)) (sym sizes_known)
        c.run.finds;
    own_passes = own_passes;
    own_changes = own_changes;
    logged = λ _. logged;
    own_steps = own_steps;
  }

  numbers : AreNumbers z.records live free
  numbers = record {
    each_once = λ n low high. let a = times_same n live in let b = times_same n free in let e = c.once n (low, high) in cc;
    no_other = λ n out. let a = times_same n live in let b = times_same n free in let e = c.no_other n out in cc;
    free_rise = subst (λ (ns : List ℕ). RisesFrom 0 ns) (sym c.free_are) (rises_from 0 1 (spare live 1 z.records) (omega arith)
        (spare_rises live 1 z.records));
  }

  stand_at : (k : ℕ) (x : PassView) → slice_get (map pass_view passes) k ≡ Some x → Stands (log_of v.order) x.caller x.mine
  stand_at k x e = let r = seen_of k x e in let p = r.0 in let n = (known p.seat).number in
      let low : n < z.passes = let is = (each k p r.1.0).1 in let long = slice_get_within passes k p r.1.0 in omega arith in
      subst (λ (y : PassView). Stands (log_of v.order) y.caller y.mine) (sym r.1.2)
      (subst (λ (mine : List Placed). Stands (log_of v.order) n mine) (placed_all p r.1.1)
      (told_stands (log_of v.order) n (placed_by n v.order) (c.told_pass n low)))

  known_at : (k : ℕ) (x : Change) → slice_get (log_of v.order) k ≡ Some x → x.caller < length (map pass_view passes)
  known_at k x e = let s = change_in v.order x (in_slice (log_of v.order) k x e) in
      let of = c.own s.0 s.1.0 x s.1.1 in let low = c.made s.0 s.1.0 in let long = length-map passes pass_view in
      subst (λ (n : ℕ). x.caller < n) (sym (long ∙ all)) (subst (λ (n : ℕ). n < z.passes) (sym of) low)

  pub closing : IsClosing (pool_meaning w causes (λ sizes. gathered (pool_sizes sizes))) (map_sizes z) (map pass_view passes)
      contents free (pool_run v live)
  closing = let t = told_map (log_of v.order) contents c.told in record {
    sizes_are = ap map_sizes sizes_known;
    sound = t.sound;
    contents_are = t.contents_are;
    keys_rise = t.keys_rise;
    callers_are = callers;
    known = known_at;
    stand = stand_at;
    seen = λ k x e. let r = seen_of k x e in subst (λ (y : PassView). IsPrefix y.seen (log_of v.order)) (sym r.1.2)
        (log_begins v.order (view r.0.seat).order (c.each r.0.seat (seat_in r.0 r.1.1)).0);
    order = λ k x e. let r = seen_of k x e in let b = (c.each r.0.seat (seat_in r.0 r.1.1)).0 in
        subst (λ (y : PassView). IsPrefix y.order (entries_of v.order)) (sym r.1.2)
        (entries_of b.0, ap entries_of b.1 ∙ entries_append (view r.0.seat).order b.0);
    own_order = own_order;
    saw_all = last_is;
    ordered = ordered;
    holds = subst (λ (words : List ℕ). gathered z words contents live) (sym c.run.leaves) c.contents_are;
    numbers = numbers;
    live = c.live_are;
  }
