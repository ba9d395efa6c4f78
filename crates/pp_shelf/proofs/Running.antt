-- Tries and runs of them: what they make of the free list, and that their steps are at shelf words.
use Rattle.std.proofs.Common.{◌≡◌, ◌⊎◌, ℕ, zero, suc, ◌+◌, ◌*◌, ◌<◌, ◌≤◌, min, max, List, [], ◌∷◌, ◌++◌, length, refl, sym, ap}
use Rattle.std.proofs.Common.{◌∙◌, subst, length-append, inl, inr, ⊎_elim, arith}
use Rattle.std.specs.Prelude.{replicate}
use Rattle.std.proofs.lemmas.List.{length-replicate}
use Rattle.pp_link.specs.declared.layout.Sizes.{Sizes}
use Rattle.pp_link.specs.Places.{shelf_place}
use Rattle.pp_rule.specs.Lists.{IsIn, BeginsWith}
use Rattle.pp_rule.specs.Orders.{missed_step, shelve_step, unshelve_step}
use Rattle.pp_rule.specs.declared.views.SeatView.{SeatView}
use Rattle.pp_rule.proofs.Histories.{begins_self, begins_through}
use Rattle.pp_rule.proofs.Put.{in_nil, in_cases, in_either, in_one}
use Rattle.pp_base.specs.declared.purse.Purse.{Purse}
use Rattle.pp_base.specs.Named.{NamedStep, misses, shelves, unshelves, in_turn, Made}
use Rattle.pp_base.proofs.Named.{order_since, placed_since, made_append, made_single}
use Rattle.pp_base.proofs.Shelving.{shelved_one, unshelved_one}
use Rattle.pp_shelf.specs.Shelves.{MissesShelves, PutsLast, PutsNone, EmptiesNone, TakesFirst, TakesNone}
use Rattle.pp_shelf.specs.Runs.{IsShelfStep, MadeAtShelves, PutsMany, Tidies, TakesMany, Collects}

-- the kinds of step at a shelf word
abbrev AtShelf : ℕ → Type 0
AtShelf kind = (kind ≡ missed_step) ⊎ ((kind ≡ shelve_step) ⊎ (kind ≡ unshelve_step))

-- a step at a place and the next ones in turn
in_turn_shelves : (z : Sizes) (step : ℕ → ℕ → NamedStep) (first : ℕ) (words : List ℕ)
    → ((place word : ℕ) → ((step place word).place ≡ place) × AtShelf (step place word).kind)
    → first + length words ≤ 8 * z.passes
    → (place : ℕ) → place ≡ shelf_place z first → (s : NamedStep) → IsIn s (in_turn step place words) → IsShelfStep z s
in_turn_shelves z step first [] is few place at s i = absurd (in_nil s i)
in_turn_shelves z step first (word ∷ words) is few place at s i = ⊎_elim
    (λ (here : s ≡ step place word). subst (λ (t : NamedStep). IsShelfStep z t) (sym here) record {
      shelf = first;
      low = omega arith;
      place = (is place word).0 ∙ at;
      kind = (is place word).1;
    })
    (λ (later : IsIn s (in_turn step (place + 1) words)).
    in_turn_shelves z step (first + 1) words is (omega arith) (place + 1) (omega arith) s later)
    (in_cases s (step place word) (in_turn step (place + 1) words) i)

module _ {E A W : Type 0} (z : Sizes) where
  at_shelves : (steps : List NamedStep) (v w : SeatView E A W) → Made steps v w
      → ((s : NamedStep) → IsIn s steps → IsShelfStep z s) → MadeAtShelves z v w
  at_shelves steps v w made each = record {
    steps = steps;
    made = made;
    each = each;
    order = order_since steps v w made;
    placed = placed_since steps v w made;
  }

  at_none : (v w : SeatView E A W) → w ≡ v → MadeAtShelves z v w
  at_none v w same = at_shelves [] v w same (λ s i. absurd (in_nil s i))

  at_append : (u v w : SeatView E A W) → MadeAtShelves z u v → MadeAtShelves z v w → MadeAtShelves z u w
  at_append u v w a b = at_shelves (a.steps ++ b.steps) u w (made_append a.steps b.steps u v w a.made b.made)
      (λ s i. ⊎_elim (a.each s) (b.each s) (in_either s a.steps b.steps i))

  misses_at : (count : ℕ) (v w : SeatView E A W) → MissesShelves z count v w → count ≤ 8 * z.passes → MadeAtShelves z v w
  misses_at count v w h few = at_shelves (in_turn misses (shelf_place z 0) h.words) v w h.steps
      (in_turn_shelves z misses 0 h.words (λ place word. (refl, inl refl)) (let long = h.count_is in omega (arith, long, few))
      (shelf_place z 0) refl)

  empties_at : (count : ℕ) (v w : SeatView E A W) → EmptiesNone z count v w → count ≤ 8 * z.passes → MadeAtShelves z v w
  empties_at count v w h few = at_shelves (in_turn unshelves (shelf_place z 0) (replicate count 0)) v w h.steps
      (in_turn_shelves z unshelves 0 (replicate count 0) (λ place word. (refl, inr (inr refl)))
      (let long = length-replicate {A = ℕ} count 0 in omega (arith, long, few)) (shelf_place z 0) refl)

  -- The steps of each answer are at shelf words.
  pub puts_last_at : (v w : SeatView E A W) (p p' : Purse) → PutsLast z v w p p' → MadeAtShelves z v w
  puts_last_at v w p p' l = let low = l.low in
      at_append v l.between w (misses_at l.shelf v l.between l.missed (omega (arith, low)))
      (at_shelves (shelves (shelf_place z l.shelf) ∷ []) l.between w (made_single (shelves (shelf_place z l.shelf)) l.between w
      (shelved_one l.number (shelf_place z l.shelf) l.between w l.put))
      (λ s i. subst (λ (t : NamedStep). IsShelfStep z t) (in_one s (shelves (shelf_place z l.shelf)) i)
      record { shelf = l.shelf; low = l.low; place = refl; kind = inr (inl refl) }))

  pub puts_none_at : (share : ℕ) (v w : SeatView E A W) (p p' : Purse) → PutsNone z share v w p p' → MadeAtShelves z v w
  puts_none_at share v w p p' n = ⊎_elim (λ (few : (length p.free.items ≤ share) × (w ≡ v)). at_none v w few.1)
      (λ (many : (share < length p.free.items) × MissesShelves z (8 * z.passes) v w).
      misses_at (8 * z.passes) v w many.1 (omega arith)) n.why

  pub takes_first_at : (n : ℕ) (v w : SeatView E A W) (p p' : Purse) → TakesFirst z n v w p p' → MadeAtShelves z v w
  takes_first_at n v w p p' l = let low = l.low in
      at_append v l.between w (empties_at l.shelf v l.between l.empty (omega (arith, low)))
      (at_shelves (unshelves (shelf_place z l.shelf) n ∷ []) l.between w
      (made_single (unshelves (shelf_place z l.shelf) n) l.between w
      (unshelved_one n (shelf_place z l.shelf) l.between w l.took))
      (λ s i. subst (λ (t : NamedStep). IsShelfStep z t) (in_one s (unshelves (shelf_place z l.shelf) n) i)
      record { shelf = l.shelf; low = l.low; place = refl; kind = inr (inr refl) }))

  pub takes_none_at : (v w : SeatView E A W) (p p' : Purse) → TakesNone z v w p p' → MadeAtShelves z v w
  takes_none_at v w p p' n = empties_at (8 * z.passes) v w n.empty (omega arith)

  module _ (share : ℕ) where
    -- one put more
    pub puts_more : (count : ℕ) (u v w : SeatView E A W) (p p' p'' : Purse) → PutsMany z share count u p v p'
        → share < length p'.free.items → PutsLast z v w p' p'' → PutsMany z share (suc count) u p w p''
    puts_more zero u v w p p' p'' same more last =
        let start : PutsLast z u w p p'' = subst (λ (x : SeatView E A W). PutsLast z x w p p'') same.0
        (subst (λ (r : Purse). PutsLast z v w r p'') same.1 last) in
        (w, (p'', (subst (λ (r : Purse). share < length r.free.items) same.1 more, start, (refl, refl))))
    puts_more (suc count) u v w p p' p'' puts more last = let rest = puts.1.1 in
        (puts.0, (puts.1.0, (rest.0, rest.1, puts_more count puts.0 v w puts.1.0 p' p'' rest.2 more last)))

    -- The list that is left begins the free list, and has the share or is all of it.
    puts_begin : (count : ℕ) (v w : SeatView E A W) (p p' : Purse) → PutsMany z share count v p w p'
        → BeginsWith p.free.items p'.free.items
    puts_begin zero v w p p' same = subst (λ (r : Purse). BeginsWith p.free.items r.free.items) (sym same.1)
        (begins_self p.free.items)
    puts_begin (suc count) v w p p' puts = let r : Purse = puts.1.0 in let rest = puts.1.1 in
        begins_through p.free.items r.free.items p'.free.items (rest.1.number ∷ [], rest.1.free.free)
        (puts_begin count puts.0 w r p' rest.2)

    puts_share : (count : ℕ) (v w : SeatView E A W) (p p' : Purse) → PutsMany z share count v p w p'
        → min share (length p.free.items) ≤ length p'.free.items
    puts_share zero v w p p' same =
        let long : length p'.free.items ≡ length p.free.items = ap (λ (r : Purse). length r.free.items) same.1 in omega arith
    puts_share (suc count) v w p p' puts = let r : Purse = puts.1.0 in let rest = puts.1.1 in
        let later = puts_share count puts.0 w r p' rest.2 in let more = rest.0 in
        let long : length p.free.items ≡ length (r.free.items ++ rest.1.number ∷ []) =
        ap (λ (l : List ℕ). length l) rest.1.free.free in
        let one = length-append r.free.items (rest.1.number ∷ []) in omega (arith, later, more, long, one)

    pub puts_at : (count : ℕ) (v w : SeatView E A W) (p p' : Purse) → PutsMany z share count v p w p' → MadeAtShelves z v w
    puts_at zero v w p p' same = at_none v w same.0
    puts_at (suc count) v w p p' puts = let rest = puts.1.1 in
        at_append v puts.0 w (puts_last_at v puts.0 p puts.1.0 rest.1) (puts_at count puts.0 w puts.1.0 p' rest.2)

  module _ (enough : ℕ) where
    -- one take more
    pub takes_more : (count n : ℕ) (u v w : SeatView E A W) (p p' p'' : Purse) → TakesMany z enough count u p v p'
        → length p'.free.items < enough → TakesFirst z n v w p' p'' → TakesMany z enough (suc count) u p w p''
    takes_more zero n u v w p p' p'' same less first =
        let start : TakesFirst z n u w p p'' = subst (λ (x : SeatView E A W). TakesFirst z n x w p p'') same.0
        (subst (λ (r : Purse). TakesFirst z n v w r p'') same.1 first) in
        (w, (p'', (n, (subst (λ (r : Purse). length r.free.items < enough) same.1 less, start, (refl, refl)))))
    takes_more (suc count) n u v w p p' p'' takes less first = let rest = takes.1.1.1 in
        let later = takes_more count n takes.0 v w takes.1.0 p' p'' rest.2 less first in
        (takes.0, (takes.1.0, (takes.1.1.0, (rest.0, rest.1, later))))

    -- The list begins with the free list that there was, and isn't longer than is enough, or is that list.
    takes_begin : (count : ℕ) (v w : SeatView E A W) (p p' : Purse) → TakesMany z enough count v p w p'
        → BeginsWith p'.free.items p.free.items
    takes_begin zero v w p p' same = subst (λ (r : Purse). BeginsWith r.free.items p.free.items) (sym same.1)
        (begins_self p.free.items)
    takes_begin (suc count) v w p p' takes = let r : Purse = takes.1.0 in let rest = takes.1.1.1 in
        begins_through p'.free.items r.free.items p.free.items (takes_begin count takes.0 w r p' rest.2)
        (takes.1.1.0 ∷ [], rest.1.free.free)

    takes_most : (count : ℕ) (v w : SeatView E A W) (p p' : Purse) → TakesMany z enough count v p w p'
        → length p'.free.items ≤ max enough (length p.free.items)
    takes_most zero v w p p' same =
        let long : length p'.free.items ≡ length p.free.items = ap (λ (r : Purse). length r.free.items) same.1 in omega arith
    takes_most (suc count) v w p p' takes = let r : Purse = takes.1.0 in let rest = takes.1.1.1 in
        let later = takes_most count takes.0 w r p' rest.2 in let less = rest.0 in
        let long : length r.free.items ≡ length (p.free.items ++ takes.1.1.0 ∷ []) =
        ap (λ (l : List ℕ). length l) rest.1.free.free in
        let one = length-append p.free.items (takes.1.1.0 ∷ []) in omega (arith, later, less, long, one)

    pub takes_at : (count : ℕ) (v w : SeatView E A W) (p p' : Purse) → TakesMany z enough count v p w p' → MadeAtShelves z v w
    takes_at zero v w p p' same = at_none v w same.0
    takes_at (suc count) v w p p' takes = let rest = takes.1.1.1 in
        at_append v takes.0 w (takes_first_at takes.1.1.0 v takes.0 p takes.1.0 rest.1)
        (takes_at count takes.0 w takes.1.0 p' rest.2)

-- Whole runs.
module _ {E A W : Type 0} (z : Sizes) (v w : SeatView E A W) (p p' : Purse) where
  module _ (share : ℕ) (t : Tidies z share v w p p') where
    pub tidies_begin : BeginsWith p.free.items p'.free.items
    tidies_begin = subst (λ (r : Purse). BeginsWith p.free.items r.free.items) (sym t.last.lists)
        (puts_begin z share t.count v t.between p t.lists t.puts)

    pub tidies_share : min share (length p.free.items) ≤ length p'.free.items
    tidies_share = subst (λ (r : Purse). min share (length p.free.items) ≤ length r.free.items) (sym t.last.lists)
        (puts_share z share t.count v t.between p t.lists t.puts)

    pub tidies_at : MadeAtShelves z v w
    tidies_at = at_append z v t.between w (puts_at z share t.count v t.between p t.lists t.puts)
        (puts_none_at z share t.between w t.lists p' t.last)

  module _ (enough : ℕ) (t : Collects z enough v w p p') where
    -- the lists after the last take
    last_lists : p' ≡ t.lists
    last_lists = ⊎_elim (λ (many : (enough ≤ length t.lists.free.items) × (w ≡ t.between) × (p' ≡ t.lists)). many.2)
        (λ (few : (length t.lists.free.items < enough) × TakesNone z t.between w t.lists p'). few.1.lists) t.last

    pub collects_begin : BeginsWith p'.free.items p.free.items
    collects_begin = subst (λ (r : Purse). BeginsWith r.free.items p.free.items) (sym last_lists)
        (takes_begin z enough t.count v t.between p t.lists t.takes)

    pub collects_most : length p'.free.items ≤ max enough (length p.free.items)
    collects_most = subst (λ (r : Purse). length r.free.items ≤ max enough (length p.free.items)) (sym last_lists)
        (takes_most z enough t.count v t.between p t.lists t.takes)

    pub collects_at : MadeAtShelves z v w
    collects_at = at_append z v t.between w (takes_at z enough t.count v t.between p t.lists t.takes)
        (⊎_elim (λ (many : (enough ≤ length t.lists.free.items) × (w ≡ t.between) × (p' ≡ t.lists)). at_none z t.between w many.1)
        (λ (few : (length t.lists.free.items < enough) × TakesNone z t.between w t.lists p').
        takes_none_at z t.between w t.lists p' few.1) t.last)
