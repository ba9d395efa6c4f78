-- What holds of the elements of a list up to one that is read.
use Rattle.std.proofs.Common.{◌≡◌, ℕ, ◌+◌, ◌<◌, ◌≤◌, List, length, get_or, Some, ⊎_elim, subst, arith}
use Rattle.std.specs.Prelude.{slice_get}
use Rattle.std.proofs.lemmas.Bool.{cases_lt}
use Rattle.std.proofs.lemmas.Option.{slice_get_within, get_or_from_slice_get}
use Rattle.pp_model.specs.Lists.{AtEach}
use Rattle.pp_places.specs.Held.{AtFirst}

module _ {A : Type 0} (Is : A → Type 0) (xs : List A) (many : ℕ) where
  pub first_none : AtFirst 0 xs Is
  first_none = λ k x low at. absurd (omega (arith, low))

  pub first_more : (d : A) → AtFirst many xs Is → Is (get_or xs many d) → AtFirst (many + 1) xs Is
  first_more d had here = λ k x low at.
      ⊎_elim
      (λ (lt : k < many). had k x lt at)
      (λ (ge : many ≤ k).
      let same : k ≡ many = omega (arith, ge, low) in
      subst Is (get_or_from_slice_get xs many x d (subst (λ (i : ℕ). slice_get xs i ≡ Some x) same at)) here)
      (cases_lt k many)

  pub first_all : length xs ≤ many → AtFirst many xs Is → AtEach xs (λ k x. Is x)
  first_all le had = λ k x at. let low = slice_get_within xs k x at in had k x (omega (arith, low, le)) at
