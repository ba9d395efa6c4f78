-- No answer of a kind.
use Rattle.std.proofs.Common.{◌≡◌, ℕ, suc, ◌+◌, Bool, true, false, cond, ⊎_elim, List, [], ◌∷◌, refl, ap, ap₂, ◌∙◌}
use Rattle.std.specs.Prelude.{count_by}
use Rattle.std.proofs.lemmas.Bool.{cases_Bool}
use Rattle.std.proofs.lemmas.List.Sums.{sum_by-cons}
use Rattle.pp_model.specs.Lists.{AtEach}
use Rattle.pp_trace.specs.Text.{count_all}

module _ {A : Type 0} (test : A → Bool) where
  pub none_counted : (answers : List A) → AtEach answers (λ k a. test a ≡ true → ⊥) → count_by test answers ≡ 0
  none_counted [] each = refl
  none_counted (a ∷ answers) each =
      let ih : count_by test answers ≡ 0 = none_counted answers (λ k x at. each (suc k) x at) in
      ⊎_elim (λ (yes : test a ≡ true). absurd (each 0 a refl yes))
      (λ (no : test a ≡ false). let one : cond {A = ℕ} (test a) 1 0 ≡ 0 = ap (λ b. cond b 1 0) no in
      sum_by-cons (λ x. cond (test x) 1 0) a answers ∙ ap₂ (λ (x y : ℕ). x + y) one ih)
      (cases_Bool (test a))

  pub none_of_all : (lists : List (List A)) → AtEach lists (λ c got. count_by test got ≡ 0) → count_all test lists ≡ 0
  none_of_all [] each = refl
  none_of_all (x ∷ lists) each =
      let here : count_by test x ≡ 0 = each 0 x refl in
      let ih = none_of_all lists (λ k y at. each (suc k) y at) in
      sum_by-cons (count_by test) x lists ∙ ap₂ (λ (x y : ℕ). x + y) here ih
