-- Calm steps of a pass that is alone on its pool change no word of a head or of a record that can be reached.
use Rattle.std.proofs.Common.{◌≡◌, ℕ, ◌<◌, ◌≤◌, ⊎_elim, true, false, List, [], ◌∷◌, ◌++◌, length, get_or, sym, ap, ◌∙◌, subst}
use Rattle.pp_link.specs.declared.layout.Sizes.{Sizes}
use Rattle.pp_model.specs.declared.steps.Step.{Step}
use Rattle.pp_rule.specs.Alone.{IsRun}
use Rattle.pp_rule.specs.Lists.{IsIn}
use Rattle.pp_rule.specs.Orders.{log_of, replayed, entries_of, is_calm, stores}
use Rattle.pp_rule.specs.Reached.{SameReached}
use Rattle.pp_rule.specs.Steps.{MadeStep}
use Rattle.pp_rule.specs.declared.views.PassState.{PassState}
use Rattle.pp_rule.specs.declared.views.SeatView.{SeatView}
use Rattle.pp_rule.proofs.Alone.{finds_standing}
use Rattle.pp_rule.proofs.Lone.{run_back}
use Rattle.pp_rule.proofs.Made.{known_after, order_begins, steps_after}
use Rattle.pp_rule.proofs.Put.{in_nil, in_first, in_later, in_one, in_cases, in_either}
use Rattle.pp_rule.proofs.Undisturbed.{calm_stays, same_self, same_through}
use Rattle.pp_base.specs.Named.{NamedStep, Made}
use Rattle.pp_base.proofs.Named.{order_since}

-- none of these steps changes a word of a head or of a record that can be reached
abbrev pub AreCalm : List NamedStep → Type 0
AreCalm steps = (s : NamedStep) → IsIn s steps → is_calm s.kind ≡ true

pub calm_both : (xs ys : List NamedStep) → AreCalm xs → AreCalm ys → AreCalm (xs ++ ys)
calm_both xs ys a b = λ s i. ⊎_elim (a s) (b s) (in_either s xs ys i)

pub calm_one : (x : NamedStep) (xs : List NamedStep) → is_calm x.kind ≡ true → AreCalm xs → AreCalm (x ∷ xs)
calm_one x xs k rest = λ s i. ⊎_elim (λ (e : s ≡ x). subst (λ (y : NamedStep). is_calm y.kind ≡ true) (sym e) k) (rest s)
    (in_cases s x xs i)

pub calm_none : AreCalm []
calm_none = λ s i. absurd (in_nil s i)

module _ {E A W : Type 0} (sides : ℕ) (two : sides ≤ 2) (caller : E → ℕ) (opens : List ℕ) (z : Sizes) (one : z.passes ≡ 1) where
  -- A step that isn't a store found the word that stands there.
  pub finds_there : {kind place word left : ℕ} {changes : List E} {placed : List A} (known : PassState W) (v w : SeatView E A W)
      → v.known.number < z.passes → MadeStep kind place word left changes placed known v w → IsRun sides caller opens z w.order
      → stores kind ≡ false → word ≡ get_or (replayed opens (entries_of v.order)) place 0
  finds_there known v w low made run silent = finds_standing sides (λ y. opens) (λ y words g. Unit {0}) z {caller = caller} known v w one
      low
      made run silent

  pub calm_step : {kind place word left : ℕ} {changes : List E} {placed : List A} {known : PassState W} (v w : SeatView E A W)
      → v.known.number < z.passes → known.number ≡ v.known.number → MadeStep kind place word left changes placed known v w
      → IsRun sides caller opens z w.order → is_calm kind ≡ true
      → SameReached sides z (replayed opens (entries_of v.order)) (replayed opens (entries_of w.order))
  calm_step {kind} {place} {word} {left} {changes} {placed} {known} v w low number made run calm =
      let step : Step = record { kind = kind; place = place; word = word; seen = length (log_of w.order); owned = length known.owned } in
      calm_stays sides two caller opens z v.known.number v w (step ∷ []) one low run
      (order_begins kind place word left changes placed known v w made)
      (steps_after kind place word left changes placed known v w made number)
      (λ x i. subst (λ (y : Step). is_calm y.kind ≡ true) (in_one x step i) calm)

  -- Where the first of several steps led, the pass is the same.
  next_low : (s : NamedStep) (steps : List NamedStep) (v w : SeatView E A W) (m : Made (s ∷ steps) v w) → v.known.number < z.passes
      → m.0.known.number < z.passes
  next_low s steps v w m low = subst (λ (n : ℕ). n < z.passes) (sym (ap (λ (q : PassState W). q.number)
      (known_after s.kind s.place s.word m.1.0.left [] [] m.1.0.known v m.0 m.1.0.made) ∙ m.1.0.number)) low

  first_same : (s : NamedStep) (steps : List NamedStep) (v w : SeatView E A W) (m : Made (s ∷ steps) v w) → v.known.number < z.passes
      → IsRun sides caller opens z w.order → is_calm s.kind ≡ true
      → SameReached sides z (replayed opens (entries_of v.order)) (replayed opens (entries_of m.0.order))
  first_same s steps v w m low run calm = calm_step v m.0 low m.1.0.number m.1.0.made
      (run_back sides caller opens z m.0 w (order_since steps m.0 w m.1.1) run) calm

  -- After calm steps the heads and the records that can be reached are as they were.
  pub calm_made : (steps : List NamedStep) (v w : SeatView E A W) → v.known.number < z.passes → Made steps v w
      → IsRun sides caller opens z w.order → AreCalm steps
      → SameReached sides z (replayed opens (entries_of v.order)) (replayed opens (entries_of w.order))
  calm_made [] v w low is run calm = subst (λ (u : SeatView E A W). SameReached sides z (replayed opens (entries_of v.order))
      (replayed opens (entries_of u.order))) (sym is) (same_self sides z (replayed opens (entries_of v.order)))
  calm_made (s ∷ steps) v w low m run calm = same_through sides z (replayed opens (entries_of v.order))
      (replayed opens (entries_of m.0.order))
      (replayed opens (entries_of w.order)) two (first_same s steps v w m low run (calm s (in_first s steps)))
      (calm_made steps m.0 w (next_low s steps v w m low) m.1.1 run (λ x i. calm x (in_later x s steps i)))

  -- Each of them that isn't a store found a word that stood there.
  pub calm_found : (steps : List NamedStep) (v w : SeatView E A W) → v.known.number < z.passes → Made steps v w
      → IsRun sides caller opens z w.order → AreCalm steps → (s : NamedStep) → IsIn s steps → stores s.kind ≡ false
      → (words : List ℕ) × (SameReached sides z (replayed opens (entries_of v.order)) words × (s.word ≡ get_or words s.place 0))
  calm_found [] v w low is run calm s i silent = absurd (in_nil s i)
  calm_found (x ∷ steps) v w low m run calm s i silent = ⊎_elim
      (λ (e : s ≡ x). (
        replayed opens (entries_of v.order),
        (
          same_self sides z (replayed opens (entries_of v.order)),
          subst (λ (y : NamedStep). y.word ≡ get_or (replayed opens (entries_of v.order)) y.place 0) (sym e)
              (finds_there m.1.0.known v m.0 low m.1.0.made (run_back sides caller opens z m.0 w (order_since steps m.0 w m.1.1) run)
              (subst (λ (y : NamedStep). stores y.kind ≡ false) e silent)),
        ),
      ))
      (λ (j : IsIn s steps). let f = calm_found steps m.0 w (next_low x steps v w m low) m.1.1 run (λ y k. calm y (in_later y x steps k)) s
      j silent in (
        f.0,
        (
          same_through sides z (replayed opens (entries_of v.order)) (replayed opens (entries_of m.0.order)) f.0 two
              (first_same x steps v w m low run (calm x (in_first x steps))) f.1.0,
          f.1.1,
        ),
      ))
      (in_cases s x steps i)
