-- What reclaim passes and tries of shelf words make of a purse.
use Rattle.std.proofs.Common.{◌≡◌, ◌⊎◌, ℕ, ◌+◌, ◌*◌, ◌<◌, ◌≤◌, min, List, [], ◌∷◌, ◌++◌, map, length}
use Rattle.std.proofs.Common.{refl, sym, ap, ◌∙◌, subst, ⊎_elim, append_assoc, length-append, append-nil, inl, inr, arith}
use Rattle.std.proofs.lemmas.List.{length-map}
use Rattle.atomic_table.specs.declared.shared.Seat.{Seat}
use Rattle.pp_link.specs.declared.layout.Sizes.{Sizes}
use Rattle.pp_link.specs.Places.{frontier_place, walk_place}
use Rattle.pp_model.specs.declared.steps.Step.{Step}
use Rattle.pp_rule.specs.declared.views.PassState.{PassState}
use Rattle.pp_rule.specs.declared.views.SeatView.{SeatView}
use Rattle.pp_rule.specs.Causes.{FoundTaken, IsReclaim, owned_after}
use Rattle.pp_rule.specs.Lists.{IsIn, BeginsWith}
use Rattle.pp_rule.specs.Rule.{number_of}
use Rattle.pp_rule.proofs.Put.{in_right}
use Rattle.pp_base.specs.declared.purse.Purse.{Purse}
use Rattle.pp_base.specs.Named.{NamedStep, name_of, in_turn, scans_frontier, scans_walk}
use Rattle.pp_base.specs.Passes.{known, view}
use Rattle.pp_reclaim.specs.Sweeps.{scan_steps, Reclaims}
use Rattle.pp_shelf.specs.Runs.{MadeAtShelves, FoundEmpty, map_sizes, steps_made}
use Rattle.pp_shelf.specs.Shelves.{MovesFree}
use Rattle.pp_purse.specs.Steps.{PurseSteps}
use Rattle.pp_purse.specs.Purses.{KeepsTaken, ReclaimsMany, TidiesPurse, FindsFree, RanOut}
use Rattle.pp_reclaim.proofs.Reclaimed.{turn_long, reclaim_is}
use Rattle.pp_purse.proofs.Stretches.{none_made, purse_both, since_made, since_named, since_both, owned_made, flushed_purse}
use Rattle.pp_purse.proofs.Stretches.{swept_purse, shelves_purse}

module _ {E A W : Type 0} (sides : ℕ) (z : Sizes) (many : ℕ) (s s' : Seat Unit (SeatView E A W)) (p p' : Purse)
    (r : Reclaims sides z many s s' p p') where
  scan_names : List NamedStep
  scan_names = scan_steps z r.swept.fronts r.swept.walks

  flush : (names : List NamedStep) × PurseSteps z names (view s) (view r.between)
  flush = flushed_purse sides z (length (known s).chains) (view s) (view r.between) r.flushed

  scan : PurseSteps z (scan_steps z r.swept.fronts r.swept.walks) (view r.between) (view s')
  scan = swept_purse z many r.between s' r.lists p' r.swept

  -- the steps of a reclaim pass with its flush
  pub reclaim_purse : (names : List NamedStep) × PurseSteps z names (view s) (view s')
  reclaim_purse = (
    flush.0 ++ scan_steps z r.swept.fronts r.swept.walks,
    purse_both z flush.0 (scan_steps z r.swept.fronts r.swept.walks) (view s) (view r.between) (view s') flush.1 scan,
  )

  -- what was free is free still, before what came back
  pub reclaim_begins : BeginsWith p'.free.items p.free.items
  reclaim_begins = (
    map number_of r.swept.freed,
    r.swept.purse.free ∙ ap (λ f. f.items ++ map number_of r.swept.freed) r.free.free,
  )

  pub reclaim_lists : KeepsTaken p p'
  reclaim_lists = record { taken = r.swept.purse.taken ∙ r.free.taken; going = r.swept.purse.going ∙ r.free.going }

  pub reclaims_many : ReclaimsMany z (view s) (view s') p p'
  reclaims_many = let few = r.swept.few in record {
    names = reclaim_purse.0;
    steps = reclaim_purse.1;
    retired = omega arith;
    begins = reclaim_begins;
    lists = reclaim_lists;
  }

pub begins_both : (xs ys zs : List ℕ) → BeginsWith ys xs → BeginsWith zs ys → BeginsWith zs xs
begins_both xs ys zs a b = (a.0 ++ b.0, b.1 ∙ (ap (λ (l : List ℕ). l ++ b.0) a.1 ∙ append_assoc xs a.0 b.0))

module _ {E A W : Type 0} (z : Sizes) where
  -- nothing was to be done
  pub idle_many : (v : SeatView E A W) (p : Purse) → length v.known.retired ≤ 18 * z.passes → ReclaimsMany z v v p p
  idle_many v p few = record {
    names = [];
    steps = none_made z v v refl;
    retired = few;
    begins = ([], sym (append-nil p.free.items));
    lists = record { taken = refl; going = refl };
  }

  -- a purse is tidied by a reclaim pass, if one is due, and by runs at the shelves
  pub tidied : (share : ℕ) (u v w : SeatView E A W) (p r q : Purse) → ReclaimsMany z u v p r → MadeAtShelves z v w
      → MovesFree v.known w.known r q → (length q.free.items ≤ share) ⊎ FoundTaken (map_sizes z) (steps_made v w)
      → min share (length r.free.items) ≤ length q.free.items → TidiesPurse z share u w p q
  tidied share u v w p r q a m only ends kept = let b : PurseSteps z m.steps v w = shelves_purse z v w r q m only in
      let more = ap (λ l. length l) a.begins.1 in let sum = length-append p.free.items a.begins.0 in record {
        names = a.names ++ m.steps;
        steps = purse_both z a.names m.steps u v w a.steps b;
        retired = subst (λ (l : List ℕ). length l ≤ 18 * z.passes) (sym (ap (λ (k : PassState W). k.retired) only.known)) a.retired;
        shared = ⊎_elim (λ few. inl few) (λ taken. inr (record {
          each = λ j low. let s = taken.each j low in (
            s.0,
            (
              subst (λ (l : List Step). IsIn s.0 l)
                  (sym (since_both a.names m.steps u v w a.steps.made m.made)) (in_right s.0 (steps_made u v) (steps_made v w) s.1.0),
              s.1.1,
              s.1.2,
              s.1.3,
            ),
          );
        })) ends;
        kept = omega arith;
        lists = record { taken = ap (λ x. x.taken) only.lists ∙ a.lists.taken; going = ap (λ x. x.going) only.lists ∙ a.lists.going };
      }

-- what is owned after some steps doesn't depend on what was owned before them
owned_any : (a b : ℕ) (steps : List Step) → 0 < length steps → owned_after a steps ≡ owned_after b steps
owned_any a b [] none = absurd (omega arith)
owned_any a b (s ∷ steps) some_made = refl

module _ {E A W : Type 0} (sides : ℕ) (z : Sizes) (many need : ℕ) (s t : Seat Unit (SeatView E A W)) (w : SeatView E A W) (p r q : Purse)
    (c : Reclaims sides z many s t p r) (m : MadeAtShelves z (view t) w) (only : MovesFree (known t) w.known r q) where
  second : PurseSteps z m.steps (view t) w
  second = shelves_purse z (view t) w r q m only

  -- free records were looked for
  pub found : BeginsWith q.free.items r.free.items → FindsFree z need (view s) w p q
  found begins = let first = reclaim_purse sides z many s t p r c in record {
    names = first.0 ++ m.steps;
    steps = purse_both z first.0 m.steps (view s) (view t) w first.1 second;
    begins = begins_both p.free.items r.free.items q.free.items (reclaim_begins sides z many s t p r c) begins;
    lists = let l = reclaim_lists sides z many s t p r c in record {
      taken = ap (λ x. x.taken) only.lists ∙ l.taken;
      going = ap (λ x. x.going) only.lists ∙ l.going;
    };
  }

  -- and too few were found: of those that the pass owns all were free
  pub ran_out : length p.free.items < need → length q.free.items < need → 0 < z.passes
      → length (known t).owned ≤ length r.free.items + r.taken → length w.known.owned ≤ length q.free.items + q.taken → p.taken ≡ 0
      → BeginsWith q.free.items r.free.items → FoundEmpty (map_sizes z) (steps_made (view t) w) → RanOut z need (view s) w p q
  ran_out short still passes counted counted' none begins empty =
      let f = flush sides z many s t p r c in let scan_list : List NamedStep = scan_steps z c.swept.fronts c.swept.walks in
      let sweep = scan sides z many s t p r c in
      let lists = reclaim_lists sides z many s t p r c in
      let more = ap (λ l. length l) begins.1 in let sum = length-append r.free.items begins.0 in
      let taken_r : r.taken ≡ 0 = lists.taken ∙ none in
      let taken_q : q.taken ≡ 0 = ap (λ x. x.taken) only.lists ∙ taken_r in
      let steps_are : steps_made (view s) w
      ≡ (steps_made (view s) (view c.between) ++ steps_made (view c.between) (view t)) ++ steps_made (view t) w =
      since_both (f.0 ++ scan_list) m.steps (view s) (view t) w (purse_both z f.0 scan_list (view s) (view c.between) (view t) f.1
      sweep).made
      m.made ∙ ap (λ (l : List Step). l ++ steps_made (view t) w) (since_both f.0 scan_list (view s) (view c.between) (view t) f.1.made
      sweep.made) in
      let names = since_named scan_list (view c.between) (view t) sweep.made in
      let is_reclaim : IsReclaim (map_sizes z) (steps_made (view c.between) (view t)) = reclaim_is (map_sizes z) c.swept.fronts
      c.swept.walks
      (steps_made (view c.between) (view t)) c.swept.all_fronts c.swept.all_walks names in
      let some_made : 0 < length (steps_made (view c.between) (view t)) =
      let count = sym (length-map (steps_made (view c.between) (view t)) name_of) ∙ (ap (λ (l : List NamedStep). length l) names
      ∙ length-append (in_turn scans_frontier (frontier_place z 0 0) c.swept.fronts) (in_turn scans_walk (walk_place z 0 0) c.swept.walks))
      in
      let fronts = turn_long scans_frontier (frontier_place z 0 0) c.swept.fronts in
      let walks = turn_long scans_walk (walk_place z 0 0) c.swept.walks in
      let all_fronts = c.swept.all_fronts in let all_walks = c.swept.all_walks in omega arith in
      let owned : owned_after need (steps_made (view c.between) (view t)) ≡ length (known t).owned =
      owned_any need (length (view c.between).known.owned) (steps_made (view c.between) (view t)) some_made
      ∙ (ap (owned_after (length (view c.between).known.owned)) (since_made scan_list (view c.between) (view t) sweep.made)
      ∙ owned_made scan_list (view c.between) (view t) sweep.made) in record {
        short = short;
        earlier = steps_made (view s) (view c.between);
        scan = steps_made (view c.between) (view t);
        later = steps_made (view t) w;
        is = steps_are ∙ append_assoc (steps_made (view s) (view c.between)) (steps_made (view c.between) (view t)) (steps_made (view t) w);
        reclaim = is_reclaim;
        few = omega arith;
        empty = empty;
        still = omega arith;
        still_short = still;
        retired = subst (λ (l : List ℕ). length l ≤ 9 * z.passes) (sym (ap (λ (k : PassState W). k.retired) only.known)) c.swept.few;
      }

-- there were enough
pub enough : {E A W : Type 0} (z : Sizes) (need : ℕ) (v : SeatView E A W) (p : Purse) → FindsFree z need v v p p
enough z need v p = record {
  names = [];
  steps = none_made z v v refl;
  begins = ([], sym (append-nil p.free.items));
  lists = record { taken = refl; going = refl };
}
