-- What the steps of a run show: each shelf word was found taken, or empty.
use Rattle.std.proofs.Common.{◌≡◌, ◌≢◌, ◌⊎◌, ℕ, ◌+◌, ◌*◌, ◌<◌, ◌≤◌, List, [], ◌++◌, map, length, get_or, sym, ap, ◌∙◌}
use Rattle.std.proofs.Common.{subst, append-nil, inl, inr, ⊎_elim, arith}
use Rattle.std.specs.Prelude.{replicate}
use Rattle.std.proofs.lemmas.List.{length-replicate}
use mathlib.Core.Option.{some}
use lib.ListN.{get_elem?}
use Rattle.pp_link.specs.declared.layout.Sizes.{Sizes}
use Rattle.pp_link.specs.Places.{shelf_place}
use Rattle.pp_model.specs.declared.steps.Step.{Step}
use Rattle.pp_rule.specs.Lists.{IsIn}
use Rattle.pp_rule.specs.declared.views.SeatView.{SeatView}
use Rattle.pp_rule.specs.Causes.{FoundTaken}
use Rattle.pp_rule.proofs.Put.{in_left, in_right, get_at}
use Rattle.pp_rule.proofs.OpeningWords.{each_replicate}
use Rattle.pp_base.specs.declared.purse.Purse.{Purse}
use Rattle.pp_base.specs.Named.{NamedStep, name_of, misses, unshelves, in_turn, Made}
use Rattle.pp_base.proofs.Named.{made_append, named_since, step_named, in_turn_at}
use Rattle.pp_shelf.specs.Shelves.{MissesShelves, TakesNone}
use Rattle.pp_shelf.specs.Runs.{Tidies, Collects, FoundEmpty, map_sizes, steps_made}
use Rattle.pp_shelf.proofs.Running.{puts_at, takes_at}

-- Among the steps is the one at each of the places in turn, whatever came before and after them.
turn_found : (step : ℕ → ℕ → NamedStep) (place j word : ℕ) (words : List ℕ) (earlier later : List NamedStep) (steps : List Step)
    → map name_of steps ≡ earlier ++ (in_turn step place words ++ later) → get_elem? words j ≡ some word
    → (s : Step) × (IsIn s steps × (name_of s ≡ step (place + j) word))
turn_found step place j word words earlier later steps names at = let turn : List NamedStep = in_turn step place words in
    let there : IsIn (step (place + j) word) turn = (j, in_turn_at step place words j word at) in
    step_named steps (step (place + j) word) (subst (λ (l : List NamedStep). IsIn (step (place + j) word) l) (sym names)
    (in_right (step (place + j) word) earlier (turn ++ later) (in_left (step (place + j) word) turn later there)))

-- Steps among which exchanges found all shelf words other than 0.
pub found_taken : (z : Sizes) (words : List ℕ) (earlier later : List NamedStep) (steps : List Step)
    → map name_of steps ≡ earlier ++ (in_turn misses (shelf_place z 0) words ++ later) → length words ≡ 8 * z.passes
    → ((word : ℕ) → IsIn word words → word ≢ 0) → FoundTaken (map_sizes z) steps
found_taken z words earlier later steps names long taken = record {
  each = λ j low. let word : ℕ = get_or words j 0 in
      let at : get_elem? words j ≡ some word = get_at words j 0 (omega (arith, low, long)) in
      let s = turn_found misses (shelf_place z 0) j word words earlier later steps names at in
      let place : shelf_place z 0 + j ≡ shelf_place z j = omega arith in (
        s.0,
        (
          s.1.0,
          ap (λ (n : NamedStep). n.kind) s.1.1,
          ap (λ (n : NamedStep). n.place) s.1.1 ∙ place,
          λ nil. taken word (j, at) (sym (ap (λ (n : NamedStep). n.word) s.1.1) ∙ nil),
        ),
      );
}

-- Steps among which swaps found all shelf words 0.
pub found_empty : (z : Sizes) (earlier later : List NamedStep) (steps : List Step)
    → map name_of steps ≡ earlier ++ (in_turn unshelves (shelf_place z 0) (replicate (8 * z.passes) 0) ++ later)
    → FoundEmpty (map_sizes z) steps
found_empty z earlier later steps names = record {
  each = λ j low. let words : List ℕ = replicate (8 * z.passes) 0 in
      let long = length-replicate {A = ℕ} (8 * z.passes) 0 in
      let at : get_elem? words j ≡ some 0 = get_at words j 0 (omega (arith, low, long))
      ∙ ap some (each_replicate (8 * z.passes) j 0) in
      let s = turn_found unshelves (shelf_place z 0) j 0 words earlier later steps names at in
      let place : shelf_place z 0 + j ≡ shelf_place z j = omega arith in (
        s.0,
        (
          s.1.0,
          ap (λ (n : NamedStep). n.kind) s.1.1,
          ap (λ (n : NamedStep). n.place) s.1.1 ∙ place,
          ap (λ (n : NamedStep). n.word) s.1.1,
        ),
      );
}

module _ {E A W : Type 0} (z : Sizes) (v w : SeatView E A W) (p p' : Purse) where
  -- A run of puts ends with a free list that isn't longer than the share, or has found each shelf word taken.
  pub tidies_shown : (share : ℕ) → Tidies z share v w p p'
      → (length p'.free.items ≤ share) ⊎ FoundTaken (map_sizes z) (steps_made v w)
  tidies_shown share t = let puts = puts_at z share t.count v t.between p t.lists t.puts in ⊎_elim
      (λ (few : (length t.lists.free.items ≤ share) × (w ≡ t.between)).
      inl (subst (λ (r : Purse). length r.free.items ≤ share) (sym t.last.lists) few.0))
      (λ (many : (share < length t.lists.free.items) × MissesShelves z (8 * z.passes) t.between w).
      let tries : List NamedStep = in_turn misses (shelf_place z 0) many.1.words in
      let all : Made (puts.steps ++ tries) v w = made_append puts.steps tries v t.between w puts.made many.1.steps in
      inr (found_taken z many.1.words puts.steps [] (steps_made v w)
      (named_since (puts.steps ++ tries) v w all ∙ ap (λ (l : List NamedStep). puts.steps ++ l) (sym (append-nil tries)))
      many.1.count_is many.1.taken)) t.last.why

  -- A run of takes ends with enough free numbers, or has found each shelf word empty.
  pub collects_shown : (enough : ℕ) → Collects z enough v w p p'
      → (enough ≤ length p'.free.items) ⊎ FoundEmpty (map_sizes z) (steps_made v w)
  collects_shown enough t = let takes = takes_at z enough t.count v t.between p t.lists t.takes in ⊎_elim
      (λ (many : (enough ≤ length t.lists.free.items) × (w ≡ t.between) × (p' ≡ t.lists)).
      inl (subst (λ (r : Purse). enough ≤ length r.free.items) (sym many.2) many.0))
      (λ (few : (length t.lists.free.items < enough) × TakesNone z t.between w t.lists p').
      let tries : List NamedStep = in_turn unshelves (shelf_place z 0) (replicate (8 * z.passes) 0) in
      let all : Made (takes.steps ++ tries) v w = made_append takes.steps tries v t.between w takes.made few.1.empty.steps in
      inr (found_empty z takes.steps [] (steps_made v w)
      (named_since (takes.steps ++ tries) v w all
      ∙ ap (λ (l : List NamedStep). takes.steps ++ l) (sym (append-nil tries))))) t.last

-- What some of a call's steps found, all of them did.
pub found_taken_among : (z : Sizes) (earlier steps later : List Step) → FoundTaken (map_sizes z) steps
    → FoundTaken (map_sizes z) (earlier ++ (steps ++ later))
found_taken_among z earlier steps later f = record {
  each = λ j low. let s = f.each j low in
      (s.0, (in_right s.0 earlier (steps ++ later) (in_left s.0 steps later s.1.0), s.1.1, s.1.2, s.1.3));
}

pub found_empty_among : (z : Sizes) (earlier steps later : List Step) → FoundEmpty (map_sizes z) steps
    → FoundEmpty (map_sizes z) (earlier ++ (steps ++ later))
found_empty_among z earlier steps later f = record {
  each = λ j low. let s = f.each j low in
      (s.0, (in_right s.0 earlier (steps ++ later) (in_left s.0 steps later s.1.0), s.1.1, s.1.2, s.1.3));
}
