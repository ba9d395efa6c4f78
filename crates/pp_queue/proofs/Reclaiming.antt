-- The reclaim pass of a call that ran out of records, and its swaps of shelves after it.
use Rattle.std.proofs.Common.{◌≡◌, ℕ, zero, suc, ◌*◌, ⊎_elim, ◌⊎◌, ◌<◌, ◌≤◌, List, [], ◌∷◌, ◌++◌, length}
use Rattle.std.proofs.Common.{Some, None, Option, IfNone, refl, sym, ap, ◌∙◌, subst, arith, length-append}
use Rattle.std.proofs.lemmas.List.{length-map}
use Rattle.std.specs.Prelude.{drop, replicate}
use Rattle.std.proofs.lemmas.List.{length-replicate}
use Rattle.std.proofs.Math.Seq.{drop-append_seam}
use Rattle.atomic_table.specs.declared.shared.Seat.{Seat}
use Rattle.pp_link.specs.declared.layout.Sizes.{Sizes}
use Rattle.pp_link.specs.Places.{frontier_place, walk_place, shelf_place}
use Rattle.pp_model.specs.declared.steps.Step.{Step}
use Rattle.pp_rule.specs.Causes.{FoundNone, owned_after}
use Rattle.pp_rule.specs.Orders.{made_by}
use Rattle.pp_base.specs.Named.{NamedStep, name_of, Made, in_turn, unshelves, scans_frontier, scans_walk}
use Rattle.pp_reclaim.specs.Sweeps.{scan_steps, Reclaims}
use Rattle.pp_reclaim.proofs.Reclaimed.{turn_long, reclaim_is}
use Rattle.pp_rule.specs.Lists.{IsIn}
use Rattle.pp_rule.proofs.Made.{known_after}
use Rattle.pp_base.specs.declared.purse.Purse.{Purse}
use Rattle.pp_base.specs.Passes.{known, view}
use Rattle.pp_calls.specs.Steps.{Stepped}
use Rattle.pp_calls.proofs.Growing.{stepped_none, stepped_one, stepped_both, stepped_made, named_made}
use Rattle.pp_shelf.specs.Shelves.{MovesFree, EmptiesNone, TakesNone}
use Rattle.pp_shelf.specs.Runs.{TakesMany, Collects, FoundEmpty, steps_made}
use Rattle.pp_queues.specs.Queues.{QueuePass, QueueView}
use Rattle.pp_queues.specs.Losses.{losing}
use Rattle.pp_queues.specs.Calls.{map_sizes}
use Rattle.pp_queue.specs.Answers.{RanOut}
use Rattle.pp_queue.proofs.Idling.{idles_flushed}

-- the steps that a pass made since
pub since_made : (v w : QueueView) (s : Stepped v w) → steps_made v w ≡ s.steps
since_made v w s = ap (drop (length (made_by v.known.number v.order))) s.made
    ∙ drop-append_seam (made_by v.known.number v.order) s.steps

owned_append : (d : ℕ) (xs ys : List Step) → owned_after d (xs ++ ys) ≡ owned_after (owned_after d xs) ys
owned_append d [] ys = refl
owned_append d (x ∷ xs) ys = owned_append x.owned xs ys

-- after the last step the pass owns what it is known to own
made_owned : (d : ℕ) (steps : List NamedStep) (v w : QueueView) (m : Made steps v w) → 0 < length steps
    → owned_after d (stepped_made steps v w m).steps ≡ length w.known.owned
unfolding stepped_none stepped_made stepped_both stepped_one
made_owned d [] v w m long = absurd (omega arith)
made_owned d (s ∷ []) v w (next, (one, rest)) long = ap (λ (q : QueuePass). length q.owned)
    (sym (known_after _ _ _ _ _ _ _ v next one.made) ∙ ap (λ (u : QueueView). u.known) (sym rest))
made_owned d (s ∷ r ∷ steps) v w (next, (one, rest)) long = made_owned (length one.known.owned) (r ∷ steps) next w rest
    (omega arith)

-- numbers that were taken from shelves are free
takes_grow : (z : Sizes) (enough count : ℕ) (v w : QueueView) (p p' : Purse) → TakesMany z enough count v p w p'
    → length p.free.items ≤ length p'.free.items
takes_grow z enough zero v w p p' (is, same) = let e = ap (λ (p : Purse). length p.free.items) same in omega arith
takes_grow z enough (suc count) v w p p' (u, (r, (n, (less, one, rest)))) = let later = takes_grow z enough count u w r p' rest in
    let grown = ap (λ (l : List ℕ). length l) one.free.free ∙ length-append p.free.items (n ∷ []) in omega arith

-- Where none is free afterwards, none was taken.
pub collected_none : (z : Sizes) (v w : QueueView) (p p' : Purse) → Collects z 1 v w p p' → p'.free.items ≡ []
    → EmptiesNone z (8 * z.passes) v w
collected_none z v w p p' c none = by c.count c.between c.lists c.takes c.last
  where
    long : length p'.free.items ≡ 0
    long = ap (λ (l : List ℕ). length l) none

    by : (count : ℕ) (u : QueueView) (r : Purse) → TakesMany z 1 count v p u r
        → ((1 ≤ length r.free.items) × (w ≡ u) × (p' ≡ r)) ⊎ ((length r.free.items < 1) × TakesNone z u w r p')
        → EmptiesNone z (8 * z.passes) v w
    by zero u r (is, same) last = ⊎_elim
        (λ (y : (1 ≤ length r.free.items) × (w ≡ u) × (p' ≡ r)). let e = ap (λ (p : Purse). length p.free.items) y.2 in
        let lo = y.0 in let l = long in absurd (omega arith))
        (λ (y : (length r.free.items < 1) × TakesNone z u w r p').
        subst (λ (x : QueueView). EmptiesNone z (8 * z.passes) x w) is y.1.empty) last
    by (suc count) u r (x, (s, (n, (less, one, rest)))) last = let grown = takes_grow z 1 count x u s r rest in
        let first = ap (λ (l : List ℕ). length l) one.free.free ∙ length-append p.free.items (n ∷ []) in ⊎_elim
        (λ (y : (1 ≤ length r.free.items) × (w ≡ u) × (p' ≡ r)). let e = ap (λ (p : Purse). length p.free.items) y.2 in
        let l = long in absurd (omega arith))
        (λ (y : (length r.free.items < 1) × TakesNone z u w r p'). let e = y.0 in absurd (omega arith)) last

-- A reclaim pass and the shelves gave no record.
module _ (z : Sizes) (many : ℕ) (s0 s1 s2 : Seat Unit QueueView) (p p1 p2 : Purse) (short : p.free.items ≡ [])
    (passes : 0 < z.passes) (r : Reclaims 1 z many s0 s1 p p1) (c : Collects z 1 (view s1) (view s2) p1 p2)
    (none : p2.free.items ≡ [])
    (empty : FoundEmpty (map_sizes z) (steps_made (view s1) (view s2))) (unowned : length (known s1).owned ≡ 0) where
  abbrev pub flush : Stepped (view s0) (view r.between)
  flush = ((idles_flushed z.passes z (length (known s0).chains) (view s0) (view r.between) r.flushed).ran (losing 0 0)).stepped

  abbrev pub scan : Stepped (view r.between) (view s1)
  scan = stepped_made (scan_steps z r.swept.fronts r.swept.walks) (view r.between) (view s1) r.swept.steps

  abbrev pub look : Stepped (view s1) (view s2)
  look = let e = collected_none z (view s1) (view s2) p1 p2 c none in
      stepped_made (in_turn unshelves (shelf_place z 0) (replicate (8 * z.passes) zero)) (view s1) (view s2) e.steps

  steps_are : steps_made (view s0) (view s2) ≡ flush.steps ++ (scan.steps ++ look.steps)
  unfolding stepped_both
  steps_are = since_made (view s0) (view s2) (stepped_both (view s0) (view r.between) (view s2) flush
      (stepped_both (view r.between) (view s1) (view s2) scan look))

  scan_long : 0 < length (scan_steps z r.swept.fronts r.swept.walks)
  scan_long = let a = turn_long scans_frontier (frontier_place z 0 0) r.swept.fronts in
      let b = length-append (in_turn scans_frontier (frontier_place z 0 0) r.swept.fronts)
      (in_turn scans_walk (walk_place z 0 0) r.swept.walks) in
      let n = r.swept.all_fronts in omega arith

  scan_owned : (d : ℕ) → owned_after d scan.steps ≡ 0
  scan_owned d = made_owned d (scan_steps z r.swept.fronts r.swept.walks) (view r.between) (view s1) r.swept.steps scan_long
      ∙ unowned

  look_owned : (d : ℕ) → owned_after d look.steps ≡ 0
  look_owned d = let e = collected_none z (view s1) (view s2) p1 p2 c none in
      made_owned d (in_turn unshelves (shelf_place z 0) (replicate (8 * z.passes) zero)) (view s1) (view s2) e.steps
      (let a = turn_long unshelves (shelf_place z 0) (replicate (8 * z.passes) zero) in
      let b : length (replicate (8 * z.passes) zero) ≡ 8 * z.passes = length-replicate (8 * z.passes) zero in omega arith)
      ∙ (ap (λ (q : QueuePass). length q.owned) e.known_is ∙ unowned)

  pub found_none : FoundNone 1 (map_sizes z) p.free.items (steps_made (view s0) (view s2))
  found_none = record {
    short = let e = ap (λ (l : List ℕ). length l) short in omega arith;
    earlier = flush.steps;
    scan = scan.steps;
    later = look.steps;
    is = steps_are;
    reclaim = reclaim_is (map_sizes z) r.swept.fronts r.swept.walks scan.steps r.swept.all_fronts r.swept.all_walks
        (named_made (scan_steps z r.swept.fronts r.swept.walks) (view r.between) (view s1) r.swept.steps);
    few = let e = scan_owned 1 in omega arith;
    still = let e = ap (owned_after 1) steps_are ∙ (owned_append 1 flush.steps (scan.steps ++ look.steps)
        ∙ (owned_append (owned_after 1 flush.steps) scan.steps look.steps
        ∙ look_owned (owned_after (owned_after 1 flush.steps) scan.steps))) in
        omega arith;
    empty = λ j lt. let y = empty.each j lt in (
      y.0,
      (
        subst (λ (l : List Step). IsIn y.0 l) (since_made (view s1) (view s2) look) y.1.0,
        y.1.1,
        y.1.2,
        y.1.3,
      ),
    );
  }

  pub some_made : 0 < length (steps_made (view s0) (view s2))
  some_made = let a = length-append flush.steps (scan.steps ++ look.steps) in let b = length-append scan.steps look.steps in
      let e = ap (λ (l : List Step). length l) steps_are in
      let names = ap (λ (l : List NamedStep). length l) (named_made (scan_steps z r.swept.fronts r.swept.walks) (view r.between)
      (view s1) r.swept.steps) in
      let many = length-map scan.steps name_of in let long = scan_long in omega arith

-- So it ran out of records.
pub ran_out : (z : Sizes) (many : ℕ) (s0 s1 s2 : Seat Unit QueueView) (p p1 p2 : Purse) (s3 : Seat Unit QueueView) (p3 : Purse)
    → p.free.items ≡ [] → 0 < z.passes → Reclaims 1 z many s0 s1 p p1 → Collects z 1 (view s1) (view s2) p1 p2
    → p2.free.items ≡ []
    → FoundEmpty (map_sizes z) (steps_made (view s1) (view s2)) → length (known s1).owned ≡ 0 → s3 ≡ s2 → p3 ≡ p2
    → MovesFree (known s1) (known s2) p1 p2 → RanOut z (view s0) (view s3) p p3
ran_out z many s0 s1 s2 p p1 p2 s3 p3 short passes r c none empty unowned seat purse only = subst
    (λ s. RanOut z (view s0) (view s) p p3) (sym seat)
    (subst (λ q. RanOut z (view s0) (view s2) p q) (sym purse) record {
      cause = found_none z many s0 s1 s2 p p1 p2 short passes r c none empty unowned;
      none = none;
      retired_few = subst (λ (l : List ℕ). length l ≤ 9 * z.passes) (sym (ap
          (λ (q : QueuePass). q.retired) only.known)) r.swept.few;
      taken = ap (λ (q : Purse). q.taken) only.lists ∙ (r.swept.purse.taken ∙ r.free.taken);
      going = ap (λ (q : Purse). q.going) only.lists ∙ (r.swept.purse.going ∙ r.free.going);
      some = some_made z many s0 s1 s2 p p1 p2 short passes r c none empty unowned;
    })

pub if_none : {A : Type 0} {P Q : Type 0} (o : Option A) → (P → Q) → IfNone o P → IfNone o Q
if_none None f p = f p
if_none (Some x) f p = tt
