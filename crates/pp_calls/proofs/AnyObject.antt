-- Where none of its calls is placed, a pass's placed calls stand in what it has seen as they stood, for any sequential object.
use Rattle.std.proofs.Common.{◌≡◌, ℕ, zero, suc, Bool, true, false, cond, eqb, ◌+◌, List, [], ◌∷◌, ◌++◌, length, refl, sym, ap}
use Rattle.std.proofs.Common.{◌∙◌, subst}
use Rattle.std.proofs.Common.{append-nil, length-append, arith, eq-eqb, Some}
use Rattle.std.specs.Prelude.{slice_get}
use Rattle.std.proofs.lemmas.List.{nil_from_length}
use Rattle.std.proofs.lemmas.Option.{slice_get_within}
use Rattle.std.proofs.Math.Bool.{false≢true}
use Rattle.pp_model.specs.Lists.{AtEach}
use Rattle.pp_model.specs.Objects.{Object, Stands}
use Rattle.pp_model.proofs.Logs.{stands_grown}
use Rattle.pp_rule.specs.declared.views.LoggedStep.{LoggedStep}
use Rattle.pp_rule.specs.declared.views.PassState.{PassState}
use Rattle.pp_rule.specs.declared.views.SeatView.{SeatView}
use Rattle.pp_rule.specs.Alone.{IsOwnStep}
use Rattle.pp_rule.specs.Lists.{IsIn}
use Rattle.pp_rule.specs.Orders.{log_of, made_by, placed_by, entries_of}
use Rattle.pp_rule.specs.Steps.{MadeQuietStep, entry}
use Rattle.pp_rule.proofs.Put.{in_first, in_later, in_left, in_right}
use Rattle.pp_rule.proofs.Made.{known_after, seen_after_step, placed_after}
use Rattle.pp_rule.proofs.Histories.{made_append, log_append}
use Rattle.pp_calls.proofs.Growing.{in_slice}

each_both : {X : Type 0} (P : X → Type 0) (xs ys : List X) → AtEach xs (λ _ x. P x) → AtEach ys (λ _ x. P x)
    → AtEach (xs ++ ys) (λ _ x. P x)
each_both P [] ys front back i x e = back i x e
each_both P (y ∷ xs) ys front back zero x e = front 0 x e
each_both P (y ∷ xs) ys front back (suc i) x e = each_both P xs ys (λ k z at. front (suc k) z at) back i x e

module _ (o : Object) where
  -- what took effect where the pass made no step was others'
  pub others_changed : (p : ℕ) (steps : List (LoggedStep o.Change o.Placed)) → made_by p steps ≡ []
      → ((s : LoggedStep o.Change o.Placed) → IsIn s steps → IsOwnStep o.caller s)
      → AtEach (log_of steps) (λ k c. o.caller c ≡ p → ⊥)
  unfolding log_of entries_of made_by
  others_changed p [] none own = λ k c e. absurd (nothing k c e)
    where
      nothing : (k : ℕ) (c : o.Change) → slice_get [] k ≡ Some c → ⊥
      nothing k c e = let long = slice_get_within [] k c e in omega arith
  others_changed p (s ∷ steps) none own =
      by (eqb s.entry.pass p) refl none (λ no. others_changed p steps no (λ x i. own x (in_later x s steps i)))
    where
      by : (b : Bool) → eqb s.entry.pass p ≡ b → cond b (s.entry.step ∷ made_by p steps) (made_by p steps) ≡ []
          → (made_by p steps ≡ [] → AtEach (log_of steps) (λ k c. o.caller c ≡ p → ⊥))
          → AtEach (s.entry.changes ++ log_of steps) (λ k c. o.caller c ≡ p → ⊥)
      by true is some_made again = let long : suc (length (made_by p steps)) ≡ 0 = ap (λ l. length l) some_made in
          absurd (omega arith)
      by false is no_step again = each_both (λ c. o.caller c ≡ p → ⊥) s.entry.changes (log_of steps)
          (λ k c e same. let of : o.caller c ≡ s.entry.pass = own s (in_first s steps) c (in_slice c s.entry.changes k e) in
          let here : eqb s.entry.pass p ≡ true = eq-eqb s.entry.pass p (sym of ∙ same) in
          false≢true (sym is ∙ here)) (again no_step)

  -- One step at which no change took effect and no call was placed.
  pub stands_one : {kind place word left : ℕ} {W : Type 0} {known : PassState W} (v w : SeatView o.Change o.Placed W)
      → MadeQuietStep kind place word left known v w → known.number ≡ v.known.number
      → ((s : LoggedStep o.Change o.Placed) → IsIn s w.order → IsOwnStep o.caller s)
      → Stands o (log_of v.order) v.known.number (placed_by v.known.number v.order)
      → Stands o (log_of w.order) w.known.number (placed_by w.known.number w.order)
  stands_one {kind} {place} {word} {left} {W} {known} v w m number own stands =
      let p : ℕ = v.known.number in
      let rest : List (LoggedStep o.Change o.Placed) = m.begins.0 in
      let is : w.order ≡ m.so_far ++ entry kind place word left [] [] m.so_far known ∷ [] = ap (λ u. u.order) m.is in
      let same : w.known.number ≡ p =
      ap (λ (q : PassState W). q.number) (known_after kind place word left [] [] known v w m) ∙ number in
      let long : length (made_by p m.so_far) ≡ length (made_by p v.order) + length (made_by p rest) =
      ap (λ o. length (made_by p o)) m.begins.1
      ∙ (ap (λ l. length l) (made_append p v.order rest) ∙ length-append (made_by p v.order) (made_by p rest)) in
      let kept : length (made_by p m.so_far) ≡ length (made_by p v.order) = ap (λ l. length l) m.own_steps in
      let none : made_by p rest ≡ [] = nil_from_length (made_by p rest) (omega arith) in
      let owned : (s : LoggedStep o.Change o.Placed) → IsIn s rest → IsOwnStep o.caller s =
      λ s i. own s (subst (λ (l : List (LoggedStep o.Change o.Placed)). IsIn s l) (sym is)
      (in_left s m.so_far _ (subst (λ (l : List (LoggedStep o.Change o.Placed)). IsIn s l) (sym m.begins.1)
      (in_right s v.order rest i)))) in
      let log : log_of w.order ≡ log_of v.order ++ log_of rest = seen_after_step kind place word left [] [] known v w m
      ∙ (append-nil (log_of m.so_far) ∙ (ap log_of m.begins.1 ∙ log_append v.order rest)) in
      let mine : placed_by p w.order ≡ placed_by p v.order = placed_after kind place word left [] [] known v w m number
      ∙ append-nil (placed_by p v.order) in
      let grown : Stands o (log_of v.order ++ log_of rest) p (placed_by p v.order) =
      stands_grown o (log_of v.order) (log_of rest) p (placed_by p v.order) (others_changed p rest none owned) stands in
      subst (λ (n : ℕ). Stands o (log_of w.order) n (placed_by n w.order)) (sym same)
      (subst (λ (l : List o.Change). Stands o l p (placed_by p w.order)) (sym log)
      (subst (λ (l : List o.Placed). Stands o (log_of v.order ++ log_of rest) p l) (sym mine) grown))
