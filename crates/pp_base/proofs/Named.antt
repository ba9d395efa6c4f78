-- The steps that a call names are those that the order of all steps has of its pass.
use Rattle.std.proofs.Common.{◌≡◌, ℕ, zero, suc, ◌+◌, List, [], ◌∷◌, ◌++◌, map, length, drop, refl, sym, ap, ◌∙◌, subst}
use Rattle.std.proofs.Common.{append_assoc, append-nil, arith}
use Rattle.std.proofs.lemmas.List.{map-append, length-map, drop-map}
use Rattle.std.proofs.Math.Seq.{drop-append_seam}
use mathlib.Core.Option.{some, some-ne-none, some-injective}
use lib.ListN.{get_elem?}
use Rattle.pp_model.specs.declared.steps.Step.{Step}
use Rattle.pp_rule.specs.Lists.{IsIn, BeginsWith}
use Rattle.pp_rule.specs.declared.views.PassState.{PassState}
use Rattle.pp_rule.specs.declared.views.SeatView.{SeatView}
use Rattle.pp_rule.specs.Orders.{log_of, made_by, placed_by}
use Rattle.pp_rule.specs.Causes.{owned_after}
use Rattle.pp_rule.specs.Steps.{MadeQuietStep}
use Rattle.pp_rule.proofs.Histories.{begins_self, begins_through}
use Rattle.pp_rule.proofs.Made.{known_after, order_begins, steps_after, placed_after}
use Rattle.pp_base.specs.Named.{NamedStep, name_of, in_turn, MadeOne, Did, Made}

module _ {E A W : Type 0} where
  -- one step more of the pass
  pub did_named : (s : NamedStep) (v w : SeatView E A W) → Did s v w
      → map name_of (made_by v.known.number w.order) ≡ map name_of (made_by v.known.number v.order) ++ s ∷ []
  did_named s v w d = ap (map name_of) (steps_after s.kind s.place s.word d.left d.changes d.placed d.known v w d.made d.number)
      ∙ map-append name_of (made_by v.known.number v.order) _

  pub did_one : (s : NamedStep) (v w : SeatView E A W) → MadeOne s v w → Did s v w
  did_one s v w one = record { known = one.known; left = one.left; changes = []; placed = []; number = one.number; made = one.made }

  one_named : (s : NamedStep) (v w : SeatView E A W) → MadeOne s v w
      → map name_of (made_by v.known.number w.order) ≡ map name_of (made_by v.known.number v.order) ++ s ∷ []
  one_named s v w one = did_named s v w (did_one s v w one)

  number_kept : (s : NamedStep) (v w : SeatView E A W) → MadeOne s v w → w.known.number ≡ v.known.number
  number_kept s v w one = ap (λ q. q.number) (known_after s.kind s.place s.word one.left [] [] one.known v w one.made) ∙ one.number

  pub steps_named : (steps : List NamedStep) (v w : SeatView E A W) → Made steps v w
      → map name_of (made_by v.known.number w.order) ≡ map name_of (made_by v.known.number v.order) ++ steps
  steps_named [] v w is = ap (λ u. map name_of (made_by v.known.number u.order)) is
      ∙ sym (append-nil (map name_of (made_by v.known.number v.order)))
  steps_named (s ∷ steps) v w made = let u : SeatView E A W = made.0 in
      subst (λ (p : ℕ). map name_of (made_by p w.order) ≡ map name_of (made_by p u.order) ++ steps) (number_kept s v u made.1.0)
      (steps_named steps u w made.1.1)
      ∙ (ap (λ l. l ++ steps) (one_named s v u made.1.0)
      ∙ append_assoc (map name_of (made_by v.known.number v.order)) (s ∷ []) steps)

  -- the steps that the pass has made since are those that are named
  pub named_since : (steps : List NamedStep) (v w : SeatView E A W) → Made steps v w
      → map name_of (drop (length (made_by v.known.number v.order)) (made_by v.known.number w.order)) ≡ steps
  named_since steps v w made = let before : List Step = made_by v.known.number v.order in
      sym (drop-map name_of (length before) (made_by v.known.number w.order))
      ∙ (ap (λ (l : List NamedStep). drop (length before) l) (steps_named steps v w made)
      ∙ (ap (λ (n : ℕ). drop n (map name_of before ++ steps)) (sym (length-map before name_of))
      ∙ drop-append_seam (map name_of before) steps))

  -- one step more, which tells how many records the pass owns after it
  one_since : (s : NamedStep) (v w : SeatView E A W) → MadeOne s v w → (t : Step)
      × ((made_by v.known.number w.order ≡ made_by v.known.number v.order ++ t ∷ []) × (t.owned ≡ length w.known.owned))
  one_since s v w one = (
    record {
      kind = s.kind;
      place = s.place;
      word = s.word;
      seen = length (log_of w.order);
      owned = length one.known.owned;
    },
    (
      steps_after s.kind s.place s.word one.left [] [] one.known v w one.made one.number,
      ap (λ q. length q.owned) (sym (known_after s.kind s.place s.word one.left [] [] one.known v w one.made)),
    ),
  )

  all_since : (steps : List NamedStep) (v w : SeatView E A W) → Made steps v w → (since : List Step)
      × ((made_by v.known.number w.order ≡ made_by v.known.number v.order ++ since)
      × (owned_after (length v.known.owned) since ≡ length w.known.owned))
  all_since [] v w is = (
    [],
    (
      ap (λ u. made_by v.known.number u.order) is ∙ sym (append-nil (made_by v.known.number v.order)),
      ap (λ u. length u.known.owned) (sym is),
    ),
  )
  all_since (s ∷ steps) v w made = let u : SeatView E A W = made.0 in let one = one_since s v u made.1.0 in
      let rest = all_since steps u w made.1.1 in (
        one.0 ∷ rest.0,
        (
          subst (λ (p : ℕ). made_by p w.order ≡ made_by p u.order ++ rest.0) (number_kept s v u made.1.0) rest.1.0
              ∙ (ap (λ l. l ++ rest.0) one.1.0 ∙ append_assoc (made_by v.known.number v.order) (one.0 ∷ []) rest.0),
          ap (λ (n : ℕ). owned_after n rest.0) one.1.1 ∙ rest.1.1,
        ),
      )

  -- The last of the steps that the pass has made since tells how many records it owns.
  pub owned_since : (steps : List NamedStep) (v w : SeatView E A W) → Made steps v w
      → owned_after (length v.known.owned)
      (drop (length (made_by v.known.number v.order)) (made_by v.known.number w.order)) ≡ length w.known.owned
  owned_since steps v w made = let all = all_since steps v w made in let before : List Step = made_by v.known.number v.order in
      ap (λ (l : List Step). owned_after (length v.known.owned) (drop (length before) l)) all.1.0
      ∙ (ap (λ (l : List Step). owned_after (length v.known.owned) l) (drop-append_seam before all.0) ∙ all.1.1)

  -- the order that the pass has seen grew, and no call of it was placed
  pub order_since : (steps : List NamedStep) (v w : SeatView E A W) → Made steps v w → BeginsWith w.order v.order
  order_since [] v w is = subst (λ (u : SeatView E A W). BeginsWith u.order v.order) (sym is) (begins_self v.order)
  order_since (s ∷ steps) v w made = let u : SeatView E A W = made.0 in let one = made.1.0 in
      begins_through w.order u.order v.order (order_since steps u w made.1.1)
      (order_begins s.kind s.place s.word one.left [] [] one.known v u one.made)

  pub placed_since : (steps : List NamedStep) (v w : SeatView E A W) → Made steps v w
      → placed_by v.known.number w.order ≡ placed_by v.known.number v.order
  placed_since [] v w is = ap (λ u. placed_by v.known.number u.order) is
  placed_since (s ∷ steps) v w made = let u : SeatView E A W = made.0 in let one = made.1.0 in
      subst (λ (p : ℕ). placed_by p w.order ≡ placed_by p u.order) (number_kept s v u one) (placed_since steps u w made.1.1)
      ∙ (placed_after s.kind s.place s.word one.left [] [] one.known v u one.made one.number
      ∙ append-nil (placed_by v.known.number v.order))

  -- what a pass made first and what it made then
  pub made_append : (first second : List NamedStep) (u v w : SeatView E A W) → Made first u v → Made second v w → Made (first ++ second) u w
  made_append [] second u v w is made = subst (λ x. Made second x w) is made
  made_append (s ∷ first) second u v w before made = (before.0, (before.1.0, made_append first second before.0 v w before.1.1 made))

  pub made_single : (s : NamedStep) (v w : SeatView E A W) → MadeOne s v w → Made (s ∷ []) v w
  made_single s v w one = (w, (one, refl))

  -- one step more
  pub made_more : (steps : List NamedStep) (s : NamedStep) (u v w : SeatView E A W) → Made steps u v → MadeOne s v w
      → Made (steps ++ s ∷ []) u w
  made_more steps s u v w made one = made_append steps (s ∷ []) u v w made (made_single s v w one)

  -- a step that frees no record and leaves the word that it found or stored
  pub plain_one : (s : NamedStep) (known : PassState W) (v w : SeatView E A W) → known.number ≡ v.known.number → known.owned ≡ v.known.owned
      → MadeQuietStep s.kind s.place s.word s.word known v w → MadeOne s v w
  plain_one s known v w number owned made = record {
    known = known;
    left = s.word;
    number = number;
    owned = λ _. owned;
    leaves = λ _. refl;
    made = made;
  }

module _ (step : ℕ → ℕ → NamedStep) where
  -- one word more, at the place after the last one
  pub in_turn_more : (place : ℕ) (words : List ℕ) (word : ℕ)
      → in_turn step place (words ++ word ∷ []) ≡ in_turn step place words ++ step (place + length words) word ∷ []
  in_turn_more place [] word = let at : place ≡ place + 0 = omega arith in ap (λ (k : ℕ). step k word ∷ []) at
  in_turn_more place (first ∷ words) word = let at : place + 1 + length words ≡ place + suc (length words) = omega arith in
      ap (λ (l : List NamedStep). step place first ∷ l) (in_turn_more (place + 1) words word
      ∙ ap (λ (k : ℕ). in_turn step (place + 1) words ++ step k word ∷ []) at)

  pub made_in_turn : {E A W : Type 0} (place : ℕ) (words : List ℕ) (word : ℕ) (u v w : SeatView E A W)
      → Made (in_turn step place words) u v → MadeOne (step (place + length words) word) v w
      → Made (in_turn step place (words ++ word ∷ [])) u w
  made_in_turn place words word u v w steps one = subst (λ (l : List NamedStep). Made l u w) (sym (in_turn_more place words word))
      (made_more (in_turn step place words) (step (place + length words) word) u v w steps one)

  -- the step at an index found the word at that index
  pub in_turn_at : (place : ℕ) (words : List ℕ) (k word : ℕ) → get_elem? words k ≡ some word
      → get_elem? (in_turn step place words) k ≡ some (step (place + k) word)
  in_turn_at place [] k word e = absurd (some-ne-none word (sym e))
  in_turn_at place (first ∷ words) zero word e = let at : place ≡ place + 0 = omega arith in
      ap (λ (n : ℕ). some (step place n)) (some-injective first word e) ∙ ap (λ (p : ℕ). some (step p word)) at
  in_turn_at place (first ∷ words) (suc k) word e = let at : place + 1 + k ≡ place + suc k = omega arith in
      in_turn_at (place + 1) words k word e ∙ ap (λ (p : ℕ). some (step p word)) at

-- a step that is named is one of the steps
pub step_named : (steps : List Step) (name : NamedStep) → IsIn name (map name_of steps)
    → (s : Step) × (IsIn s steps × (name_of s ≡ name))
step_named [] name i = absurd (some-ne-none name (sym i.1))
step_named (s ∷ steps) name (zero, at) = (s, ((0, refl), some-injective (name_of s) name at))
step_named (s ∷ steps) name (suc k, at) = let later = step_named steps name (k, at) in
    (later.0, ((suc later.1.0.0, later.1.0.1), later.1.1))
