-- Steps at which nothing counts for a call of a queue.
use Rattle.std.proofs.Common.{◌≡◌, ⊎_elim, ℕ, zero, suc, ◌+◌, ◌*◌, ◌<◌, ◌≤◌, true, List, [], ◌∷◌, length}
use Rattle.std.proofs.Common.{refl, sym, ap, ◌∙◌, subst, arith}
use Rattle.std.proofs.Common.{append-nil}
use Rattle.std.specs.Prelude.{replicate}
use Rattle.atomic_table.specs.declared.shared.Seat.{Seat}
use Rattle.pp_link.specs.Places.{frontier_place, walk_place, shelf_place}
use Rattle.pp_link.specs.declared.layout.Sizes.{Sizes}
use Rattle.pp_rule.specs.Lists.{IsIn}
use Rattle.pp_rule.specs.Orders.{placed_by}
use Rattle.pp_rule.specs.Steps.{MadeQuietStep}
use Rattle.pp_rule.proofs.Made.{known_after, placed_after}
use Rattle.pp_rule.proofs.Put.{in_nil, in_first, in_later, in_cases, in_either}
use Rattle.pp_base.specs.declared.purse.Purse.{Purse}
use Rattle.pp_base.specs.Passes.{known, view}
use Rattle.pp_base.specs.Named.{NamedStep, Made, misses, unshelves, scans_frontier, scans_walk, in_turn}
use Rattle.pp_unlink.specs.Invalidation.{Flushed}
use Rattle.pp_reclaim.specs.Sweeps.{Reclaims, scan_steps}
use Rattle.pp_shelf.specs.Shelves.{MissesShelves, PutsLast, EmptiesNone, TakesNone}
use Rattle.pp_shelf.specs.Runs.{PutsMany, Tidies, TakesMany, Collects}
use Rattle.pp_queues.specs.Queues.{QueuePass, QueueView}
use Rattle.pp_queues.specs.Losses.{Tally}
use Rattle.pp_queues.proofs.Counting.{ran_none, ran_quiet, ran_both, is_idle, counted_idle, counted_shelf, IsIdle}
use Rattle.pp_queue.specs.Answers.{Idles}
use Rattle.pp_queue.proofs.Removing.{flushed_order}
use Rattle.pp_queue.proofs.Running.{ran_flushed}

pub idles_none : (passes : ℕ) (v w : QueueView) → w ≡ v → Idles passes v w
idles_none passes v w is = record {
  ran = λ t. ran_none passes t v w is;
  mine = ap (λ (u : QueueView). placed_by v.known.number u.order) is;
}

pub idles_both : (passes : ℕ) (u v w : QueueView) → v.known.number ≡ u.known.number → Idles passes u v → Idles passes v w
    → Idles passes u w
idles_both passes u v w number a b = record {
  ran = λ t. ran_both passes t t t u v w (a.ran t) (b.ran t);
  mine = subst (λ (n : ℕ). placed_by n w.order ≡ placed_by n v.order) number b.mine ∙ a.mine;
}

-- a step that counts nothing, whatever was counted before
pub idles_step : {kind place word left : ℕ} {q : QueuePass} (passes : ℕ) (v w : QueueView)
    → MadeQuietStep kind place word left q v w
    → q.number ≡ v.known.number → ((t : Tally) → IsIdle passes t (record { kind = kind; place = place; word = word }))
    → Idles passes v w
idles_step passes v w made number idle = record {
  ran = λ t. ran_quiet passes t t v w made number (idle t);
  mine = placed_after _ _ _ _ _ _ _ v w made number ∙ append-nil (placed_by v.known.number v.order);
}

pub idles_one : {kind place word left : ℕ} {q : QueuePass} (passes : ℕ) (v w : QueueView)
    → MadeQuietStep kind place word left q v w
    → q.number ≡ v.known.number → is_idle kind ≡ true → Idles passes v w
idles_one {kind} {place} {word} passes v w made number idle = idles_step passes v w made number
    (λ t. counted_idle passes t (record { kind = kind; place = place; word = word }) idle)

pub idles_made : (passes : ℕ) (steps : List NamedStep) (v w : QueueView) → Made steps v w
    → ((s : NamedStep) (t : Tally) → IsIn s steps → IsIdle passes t s) → Idles passes v w
idles_made passes [] v w is idle = idles_none passes v w is
idles_made passes (s ∷ steps) v w (next, (one, rest)) idle = idles_both passes v next w
    (ap (λ (q : QueuePass). q.number) (known_after _ _ _ _ _ _ _ v next one.made) ∙ one.number)
    (idles_step passes v next one.made one.number (λ t. idle s t (in_first s steps)))
    (idles_made passes steps next w rest (λ x t i. idle x t (in_later x s steps i)))

-- loads of one kind, made in turn
idle_turn : (step : ℕ → ℕ → NamedStep) → ((place word : ℕ) → is_idle (step place word).kind ≡ true)
    → (place : ℕ) (words : List ℕ) (s : NamedStep)
    → IsIn s (in_turn step place words) → is_idle s.kind ≡ true
idle_turn step idle place [] s i = absurd (in_nil s i)
idle_turn step idle place (word ∷ words) s i = ⊎_elim
    (λ (e : s ≡ step place word). ap (λ (x : NamedStep). is_idle x.kind) e ∙ idle place word)
    (λ (later : IsIn s (in_turn step (place + 1) words)). idle_turn step idle (place + 1) words s later)
    (in_cases s (step place word) (in_turn step (place + 1) words) i)

-- failing exchanges of words that are no links
idle_misses : (passes : ℕ) (t : Tally) (place : ℕ) (words : List ℕ) → place + length words ≤ 17 * passes + 1 → (s : NamedStep)
    → IsIn s (in_turn misses place words) → IsIdle passes t s
idle_misses passes t place [] le s i = absurd (in_nil s i)
idle_misses passes t place (word ∷ words) le s i = ⊎_elim
    (λ (e : s ≡ misses place word). subst (IsIdle passes t) (sym e) (counted_shelf passes t place word (omega arith)))
    (λ (later : IsIn s (in_turn misses (place + 1) words)). idle_misses passes t (place + 1) words (omega arith) s later)
    (in_cases s (misses place word) (in_turn misses (place + 1) words) i)

pub idles_turn : (passes : ℕ) (step : ℕ → ℕ → NamedStep) → ((place word : ℕ) → is_idle (step place word).kind ≡ true)
    → (place : ℕ)
    (words : List ℕ) (v w : QueueView) → Made (in_turn step place words) v w → Idles passes v w
idles_turn passes step idle place words v w made = idles_made passes (in_turn step place words) v w made
    (λ s t i. counted_idle passes t s (idle_turn step idle place words s i))

-- a reclaim pass
pub idles_scan : (passes : ℕ) (z : Sizes) (fronts walks : List ℕ) (v w : QueueView) → Made (scan_steps z fronts walks) v w
    → Idles passes v w
idles_scan passes z fronts walks v w made = idles_made passes (scan_steps z fronts walks) v w made
    (λ s t i. counted_idle passes t s (⊎_elim
    (λ (j : IsIn s (in_turn scans_frontier (frontier_place z 0 0) fronts)). idle_turn scans_frontier
    (λ place word. refl) (frontier_place z 0 0) fronts s j)
    (λ (j : IsIn s (in_turn scans_walk (walk_place z 0 0) walks)). idle_turn scans_walk
    (λ place word. refl) (walk_place z 0 0) walks s j)
    (in_either s (in_turn scans_frontier (frontier_place z 0 0) fronts) (in_turn scans_walk (walk_place z 0 0) walks) i)))

pub flushed_number : (z : Sizes) (n : ℕ) (v w : QueueView) → Flushed 1 z n v w → w.known.number ≡ v.known.number
flushed_number z zero v w is = ap (λ (u : QueueView). u.known.number) is
flushed_number z (suc n) v w (next, (one, rest)) = flushed_number z n next w rest ∙ ap (λ (q : QueuePass). q.number) one.known

pub idles_flushed : (passes : ℕ) (z : Sizes) (n : ℕ) (v w : QueueView) → Flushed 1 z n v w → Idles passes v w
idles_flushed passes z n v w f = record { ran = λ t. ran_flushed passes t z n v w f; mine = flushed_mine z n v w f }
  where
    flushed_mine : (z : Sizes) (n : ℕ) (v w : QueueView) → Flushed 1 z n v w
        → placed_by v.known.number w.order ≡ placed_by v.known.number v.order
    flushed_mine z n v w f = (flushed_order z n v w f).mine

pub idles_reclaimed : (passes : ℕ) (z : Sizes) (many : ℕ) (s s' : Seat Unit QueueView) (p p' : Purse)
    → Reclaims 1 z many s s' p p'
    → Idles passes (view s) (view s')
idles_reclaimed passes z many s s' p p' r = idles_both passes (view s) (view r.between) (view s')
    (flushed_number z (length (known s).chains) (view s) (view r.between) r.flushed)
    (idles_flushed passes z (length (known s).chains) (view s) (view r.between) r.flushed)
    (idles_scan passes z r.swept.fronts r.swept.walks (view r.between) (view s') r.swept.steps)

-- tries to put a free record on a shelf
idles_missed : (z : Sizes) (count : ℕ) (v w : QueueView) → count ≤ 8 * z.passes → MissesShelves z count v w → Idles z.passes v w
idles_missed z count v w few m = idles_made z.passes (in_turn misses (shelf_place z 0) m.words) v w m.steps
    (λ s t i. idle_misses z.passes t (shelf_place z 0) m.words (let long = m.count_is in omega arith) s i)

idles_put : (z : Sizes) (v w : QueueView) (p p' : Purse) → PutsLast z v w p p'
    → Idles z.passes v w × (w.known.number ≡ v.known.number)
idles_put z v w p p' l = let number = ap (λ (q : QueuePass). q.number) l.missed.known_is in (
  idles_both z.passes v l.between w number (idles_missed z l.shelf v l.between (let low = l.low in omega arith) l.missed)
      (idles_one z.passes l.between w l.put.made refl refl),
  ap (λ (q : QueuePass). q.number) (known_after _ _ _ _ _ _ _ l.between w l.put.made) ∙ number,
)

idles_puts : (z : Sizes) (share count : ℕ) (v w : QueueView) (p p' : Purse) → PutsMany z share count v p w p'
    → Idles z.passes v w × (w.known.number ≡ v.known.number)
idles_puts z share zero v w p p' (is, same) = (idles_none z.passes v w is, ap (λ (u : QueueView). u.known.number) is)
idles_puts z share (suc count) v w p p' (u, (r, (more, one, rest))) = let a = idles_put z v u p r one in
    let b = idles_puts z share count u w r p' rest in (idles_both z.passes v u w a.1 a.0 b.0, b.1 ∙ a.1)

pub idles_tidied : (z : Sizes) (share : ℕ) (v w : QueueView) (p p' : Purse) → Tidies z share v w p p' → Idles z.passes v w
idles_tidied z share v w p p' t = let a = idles_puts z share t.count v t.between p t.lists t.puts in
    idles_both z.passes v t.between w a.1 a.0 (⊎_elim
    (λ (y : (length t.lists.free.items ≤ share) × (w ≡ t.between)). idles_none z.passes t.between w y.1)
    (λ (y : (share < length t.lists.free.items) × MissesShelves z (8 * z.passes) t.between w).
    idles_missed z (8 * z.passes) t.between w (omega arith) y.1) t.last.why)

-- tries to take one from there
idles_emptied : (z : Sizes) (count : ℕ) (v w : QueueView) → EmptiesNone z count v w → Idles z.passes v w
idles_emptied z count v w e = idles_turn z.passes unshelves (λ place word. refl) (shelf_place z 0) (replicate count 0) v w e.steps

idles_takes : (z : Sizes) (enough count : ℕ) (v w : QueueView) (p p' : Purse) → TakesMany z enough count v p w p'
    → Idles z.passes v w × (w.known.number ≡ v.known.number)
idles_takes z enough zero v w p p' (is, same) = (idles_none z.passes v w is, ap (λ (u : QueueView). u.known.number) is)
idles_takes z enough (suc count) v w p p' (u, (r, (n, (less, one, rest)))) =
    let number = ap (λ (q : QueuePass). q.number) one.empty.known_is in
    let first : Idles z.passes v u = idles_both z.passes v one.between u number
    (idles_emptied z one.shelf v one.between one.empty)
    (idles_one z.passes one.between u one.took.made refl refl) in
    let here : u.known.number ≡ v.known.number =
    ap (λ (q : QueuePass). q.number) (known_after _ _ _ _ _ _ _ one.between u one.took.made) ∙ number in
    let b = idles_takes z enough count u w r p' rest in (idles_both z.passes v u w here first b.0, b.1 ∙ here)

pub idles_collected : (z : Sizes) (enough : ℕ) (v w : QueueView) (p p' : Purse) → Collects z enough v w p p' → Idles z.passes v w
idles_collected z enough v w p p' c = let a = idles_takes z enough c.count v c.between p c.lists c.takes in
    idles_both z.passes v c.between w a.1 a.0 (⊎_elim
    (λ (y : (enough ≤ length c.lists.free.items) × (w ≡ c.between) × (p' ≡ c.lists)). idles_none z.passes c.between w y.1)
    (λ (y : (length c.lists.free.items < enough) × TakesNone z c.between w c.lists p').
    idles_emptied z (8 * z.passes) c.between w y.1.empty) c.last)
