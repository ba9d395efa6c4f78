-- A closed pool of a queue shows what a closed queue does.
use Rattle.std.proofs.Common.{◌≡◌, ⊎_elim, ◌⊎◌, inl, inr, ℕ, zero, suc, ◌+◌, ◌<◌, ◌≤◌, List}
use Rattle.std.proofs.Common.{[], ◌∷◌, map, length, Some}
use Rattle.std.proofs.Common.{refl, sym, ap, ◌∙◌, subst, arith}
use Rattle.std.specs.Prelude.{slice_get}
use Rattle.std.proofs.lemmas.Bool.{cases_lt}
use Rattle.std.proofs.lemmas.List.{length-map}
use Rattle.std.proofs.lemmas.Option.{slice_get_within}
use Rattle.std.proofs.lemmas.Simd.{map-map}
use Rattle.atomic_table.specs.declared.shared.Seat.{Seat}
use Rattle.pp_link.specs.declared.layout.Sizes.{Sizes}
use Rattle.pp_link.specs.Places.{IsNumber}
use Rattle.pp_model.specs.declared.Pair.{Pair}
use Rattle.pp_model.specs.declared.steps.OrderEntry.{OrderEntry}
use Rattle.pp_rule.specs.Closing.{spare}
use Rattle.pp_rule.specs.Lists.{IsIn, times}
use Rattle.pp_rule.specs.Opening.{opening_words}
use Rattle.pp_rule.specs.Orders.{log_of, made_by, placed_by, entries_of}
use Rattle.pp_rule.proofs.Counting.{spare_none, spare_free, times_inside, times_nil}
use Rattle.pp_rule.proofs.Histories.{log_begins, entries_append, placed_kept}
use Rattle.pp_rule.proofs.Put.{in_nil, in_first, in_later, in_cases}
use Rattle.pp_rule.proofs.Times.{times_length}
use Rattle.pp_base.specs.Passes.{known, view}
use Rattle.pp_pool.specs.Closed.{IsClosedPool}
use Rattle.pp_queues.specs.declared.calls.QueueChange.{QueueChange}
use Rattle.pp_queues.specs.declared.calls.QueuePlaced.{QueuePlaced}
use Rattle.pp_queues.specs.Calls.{QueuePassView, queue_view}
use Rattle.pp_queues.specs.Contents.{QueueGathered, QueueTells, QueueTellsPass, queue_count, queue_caller, numbered}
use Rattle.pp_queues.specs.Queue.{items_of, StandsIn}
use Rattle.pp_queues.specs.Queues.{QueuePass, QueueStep, QueueView, queue_head, queue_field}
use Rattle.pp_queue.specs.Closings.{IsClosing, IsClosedPass, caller_in, caller_run, queue_run}

-- the values of numbered ones
values_numbered : (k : ℕ) (vs : List ℕ) → map (λ (p : Pair). p.value) (numbered k vs) ≡ vs
values_numbered k [] = refl
values_numbered k (v ∷ vs) = ap (λ (l : List ℕ). v ∷ l) (values_numbered (k + 1) vs)

-- an entry of the order is that of a step
entry_in : (order : List QueueStep) (e : OrderEntry QueueChange) → IsIn e (entries_of order)
    → (s : QueueStep) × (IsIn s order × (s.entry ≡ e))
unfolding entries_of
entry_in [] e i = absurd (in_nil e i)
entry_in (s ∷ order) e i = ⊎_elim (λ (here : e ≡ s.entry). (s, (in_first s order, sym here)))
    (λ (later : IsIn e (entries_of order)). let y = entry_in order e later in (y.0, (in_later y.0 s order y.1.0, y.1.1)))
    (in_cases e s.entry (entries_of order) i)

-- what stands at an index of the images, and in them
at_image : {A B : Type 0} (f : A → B) (xs : List A) (k : ℕ) (y : B) → slice_get (map f xs) k ≡ Some y
    → (x : A) × ((slice_get xs k ≡ Some x) × (f x ≡ y))
at_image f [] zero y e = absurd cc
at_image f [] (suc k) y e = absurd cc
at_image f (x ∷ xs) zero y e = (x, (refl, cc))
at_image f (x ∷ xs) (suc k) y e = at_image f xs k y e

in_image : {A B : Type 0} (f : A → B) (xs : List A) (k : ℕ) (x : A) → slice_get xs k ≡ Some x → IsIn (f x) (map f xs)
in_image f [] zero x e = absurd cc
in_image f [] (suc k) x e = absurd cc
in_image {A} {B} f (y ∷ xs) zero x e = let same : y ≡ x = cc in
    subst (λ (z : A). IsIn (f z) (map f (y ∷ xs))) same (in_first (f y) (map f xs))
in_image f (y ∷ xs) (suc k) x e = in_later (f x) (f y) (map f xs) (in_image f xs k x e)

image_in : {A B : Type 0} (f : A → B) (xs : List A) (y : B) → IsIn y (map f xs)
    → (k : ℕ) × ((x : A) × ((slice_get xs k ≡ Some x) × (f x ≡ y)))
image_in f [] y i = absurd (in_nil y i)
image_in f (x ∷ xs) y i = ⊎_elim (λ (here : y ≡ f x). (0, (x, (refl, sym here))))
    (λ (later : IsIn y (map f xs)). let z = image_in f xs y later in (suc z.0, z.1)) (in_cases y (f x) (map f xs) i)

pub position_of : {A : Type 0} (x : A) (xs : List A) → IsIn x xs → (k : ℕ) × (slice_get xs k ≡ Some x)
position_of x [] i = absurd (in_nil x i)
position_of x (y ∷ xs) i = ⊎_elim (λ (here : x ≡ y). (zero, ap Some (sym here)))
    (λ (later : IsIn x xs). let r = position_of x xs later in (suc r.0, r.1)) (in_cases x y xs i)

in_map : {A B : Type 0} (f : A → B) (xs : List A) (x : A) → IsIn x xs → IsIn (f x) (map f xs)
in_map f [] x i = absurd (in_nil x i)
in_map {A} {B} f (y ∷ xs) x i = ⊎_elim
    (λ (here : x ≡ y). subst (λ (w : A). IsIn (f w) (map f (y ∷ xs))) (sym here) (in_first (f y) (map f xs)))
    (λ (later : IsIn x xs). in_later (f x) (f y) (map f xs) (in_map f xs x later)) (in_cases x y xs i)

map_each : {A B : Type 0} (f g : A → B) (xs : List A) → ((x : A) → IsIn x xs → f x ≡ g x) → map f xs ≡ map g xs
map_each f g [] same = refl
map_each f g (x ∷ xs) same = let rest = map_each f g xs (λ y i. same y (in_later y x xs i)) in
    let here = same x (in_first x xs) in cc

map_at : {A B : Type 0} (f : A → B) (xs : List A) (k : ℕ) (x : A) → slice_get xs k ≡ Some x → slice_get (map f xs) k ≡ Some (f x)
map_at f [] zero x e = absurd cc
map_at f [] (suc k) x e = absurd cc
map_at f (y ∷ xs) zero x e = cc
map_at f (y ∷ xs) (suc k) x e = map_at f xs k x e

spare_long : (low n : ℕ) → length (spare [] low n) ≡ n
spare_long low zero = ap (λ (l : List ℕ). length l) (spare_none [] low)
spare_long low (suc n) = ap (λ (l : List ℕ). length l) (spare_free [] low n (times_nil low)) ∙ ap suc (spare_long (low + 1) n)

module _ {A : Type 0} (ps : List A) (seat : A → Seat Unit QueueView) (free_of : A → List ℕ) (share_of : A → ℕ) (z : Sizes)
    (contents : List Pair) (free live : List ℕ) (v : QueueView)
    (c : IsClosedPool (opening_words 1 queue_head queue_field z) QueueGathered queue_count QueueTells QueueTellsPass queue_caller
    z (map seat ps)
    contents free live v) (all : length ps ≡ z.passes)
    (numbered_so : (k : ℕ) (p : A) → slice_get ps k ≡ Some p → (known (seat p)).number ≡ k) where
  -- there is room for the items
  pub few_items : length contents ≤ z.records
  few_items = let most = times_length live (spare [] 1 z.records) (λ n. by n) in
      let long = spare_long 1 z.records in let count = c.live_are in omega arith
    where
      by : (n : ℕ) → times n live ≤ times n (spare [] 1 z.records)
      by n = ⊎_elim
          (λ (out : (n ≡ 0) ⊎ (z.records < n)). let e = c.no_other n out in omega arith)
          (λ (y : IsNumber z n). let lo = y.0 in let hi = y.1 in let e = c.once n y in
          let one = times_inside [] 1 z.records n lo (omega arith) (times_nil n) in omega arith) (range n)
        where
          range : (n : ℕ) → ((n ≡ 0) ⊎ (z.records < n)) ⊎ IsNumber z n
          range zero = inl (inl refl)
          range (suc n) = ⊎_elim (λ (more : z.records < suc n). inl (inr more))
              (λ (less : suc n ≤ z.records). inr (omega arith, less))
              (cases_lt z.records (suc n))

  abbrev seen_of : A → QueuePassView
  seen_of p = queue_view (view (seat p)) (free_of p) (share_of p)

  caller_is : (p : A) → IsIn p ps → caller_in v (known (seat p)) ≡ caller_run (seen_of p)
  caller_is p i = let s = seat p in let e = c.each s (in_map seat ps p i) in
      let mine = placed_kept (known s).number v.order (view s).order e.0 (sym e.1) in let made = e.1 in cc

  callers : (queue_run v live).callers ≡ map caller_run (map seen_of ps)
  callers = ap (map (caller_in v)) c.all ∙ (ap (map (caller_in v)) (map-map known seat ps)
      ∙ (map-map (caller_in v) (λ (p : A). known (seat p)) ps
      ∙ (map_each (λ (p : A). caller_in v (known (seat p))) (λ (p : A). caller_run (seen_of p)) ps caller_is
      ∙ sym (map-map caller_run seen_of ps))))

  sizes_known : ((p : A) → IsIn p ps → (known (seat p)).sizes ≡ z) → v.known.sizes ≡ z
  sizes_known sized = first ps c.all sized
    where
      first : (xs : List A) → v.known ∷ v.taken ≡ map known (map seat xs) → ((p : A) → IsIn p xs → (known (seat p)).sizes ≡ z)
          → v.known.sizes ≡ z
      first [] none each = absurd cc
      first (x ∷ xs) is each = let head : v.known ≡ known (seat x) = cc in
          ap (λ (q : QueuePass). q.sizes) head ∙ each x (in_first x xs)

  pub closes : ((p : A) → IsIn p ps → (known (seat p)).sizes ≡ z)
      → IsClosing z (map (λ (p : A). queue_view (view (seat p)) (free_of p) (share_of p)) ps) (map
      (λ (p : Pair). p.value) contents) free (queue_run v live)
  unfolding log_of made_by
  closes sized = let values : map (λ (p : Pair). p.value) contents ≡ items_of (log_of v.order) =
      ap (map (λ (p : Pair). p.value)) c.told.contents ∙ values_numbered 0 (items_of (log_of v.order)) in record {
        sizes_are = sizes_known sized;
        log_is = refl;
        sound = c.told.sound;
        items_are = values;
        callers_are = callers;
        each = λ k q e. let y = at_image (λ (p : A). queue_view (view (seat p)) (free_of p) (share_of p)) ps k q e in
            subst (IsClosedPass (log_of v.order) (entries_of v.order) k) y.1.1 (closed_pass k y.0 y.1.0);
        saw_all = let l = c.longest in let y = image_in seat ps l.0 l.1.0 in record {
          position = y.0;
          last = queue_view (view (seat y.1.0)) (free_of y.1.0) (share_of y.1.0);
          is_one = map_at (λ (p : A). queue_view (view (seat p)) (free_of p) (share_of p)) ps y.0 y.1.0 y.1.1.0;
          seen = ap (λ (s : Seat Unit QueueView). log_of (view s).order) y.1.1.1 ∙ ap log_of (sym l.1.1);
          order_is = ap (λ (s : Seat Unit QueueView). entries_of (view s).order) y.1.1.1 ∙ ap entries_of (sym l.1.1);
        };
        execution = c.run.finds;
        made = λ e i. let y = entry_in v.order e i in
            subst (λ (x : OrderEntry QueueChange). x.pass < z.passes) y.1.1 (c.made y.0 y.1.0);
        own = λ e ch i j. let y = entry_in v.order e i in
            subst (λ (x : OrderEntry QueueChange). IsIn ch x.changes → ch.caller ≡ x.pass) y.1.1 (c.own y.0 y.1.0 ch) j;
        holds = subst (λ (ws : List ℕ). QueueGathered z ws (numbered 0 (map (λ (p : Pair). p.value) contents)) live)
            (sym c.run.leaves)
            (subst (λ (ps : List Pair). QueueGathered z c.words ps live) (c.told.contents
            ∙ ap (numbered 0) (sym values)) c.contents_are);
        each_once = c.once;
        no_other = c.no_other;
        free_are = c.free_are;
        live_are = c.live_are ∙ ap (λ (n : ℕ). n + 1) (sym (length-map contents (λ (p : Pair). p.value)));
      }
    where
      closed_pass : (k : ℕ) (p : A) → slice_get ps k ≡ Some p
          → IsClosedPass (log_of v.order) (entries_of v.order) k (queue_view (view (seat p)) (free_of p) (share_of p))
      closed_pass k p at = let s : Seat Unit QueueView = seat p in let is : (known s).number ≡ k = numbered_so k p at in
          let y = c.each s (in_image seat ps k p at) in let begins = y.0 in
          let made : made_by k (view s).order ≡ made_by k v.order =
          subst (λ (n : ℕ). made_by n (view s).order ≡ made_by n v.order) is y.1 in record {
            caller_is = is;
            stands = subst (λ (l : List QueuePlaced). StandsIn (log_of v.order) k l)
                (sym (ap (λ (n : ℕ). placed_by n (view s).order) is
                ∙ sym (placed_kept k v.order (view s).order begins (sym made))))
                (c.told_pass k (low k p at));
            seen = log_begins v.order (view s).order begins;
            order_is = (entries_of begins.0, ap entries_of begins.1 ∙ entries_append (view s).order begins.0);
            steps = ap (λ (n : ℕ). made_by n (view s).order) is ∙ made;
          }
        where
          low : (k : ℕ) (p : A) → slice_get ps k ≡ Some p → k < z.passes
          low k p at = let lt = slice_get_within ps k p at in omega arith
