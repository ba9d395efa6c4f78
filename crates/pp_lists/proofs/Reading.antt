-- What a list reads off the steps of a call is told by their names.
use Rattle.std.proofs.Common.{◌≡◌, ℕ, ◌+◌, Bool, true, false, cond, List, [], ◌∷◌, map, refl, sym, ap, ◌∙◌}
use Rattle.pp_model.specs.declared.Call.{Call}
use Rattle.pp_model.specs.declared.steps.Step.{Step}
use Rattle.pp_model.specs.Pass.{MapSizes}
use Rattle.pp_rule.specs.Causes.{lost_from, early_from}
use Rattle.pp_base.specs.Named.{NamedStep, name_of}
use Rattle.pp_lists.specs.Losses.{is_find, one_if, finds, is_effect, before_effect, list_reader}
use Rattle.pp_lists.proofs.Losing.{finds_none, finds_more}

one_of : (b : Bool) → cond {A = ℕ} b 1 0 ≡ one_if b
one_of true = refl
one_of false = refl

module _ (sizes : MapSizes) (call : Call) where
  -- the lost turns are the finds
  pub lost_read : (before : List NamedStep) (steps : List Step) → lost_from list_reader sizes call before steps
      ≡ finds sizes before (map name_of steps)
  unfolding lost_from
  lost_read before [] = sym (finds_none sizes before)
  lost_read before (s ∷ steps) =
      ap (λ (n : ℕ). n + lost_from list_reader sizes call (name_of s ∷ before) steps) (one_of (is_find sizes before (name_of s)))
      ∙ (ap (λ (n : ℕ). one_if (is_find sizes before (name_of s)) + n) (lost_read (name_of s ∷ before) steps)
      ∙ sym (finds_more sizes before (name_of s) (map name_of steps)))

  -- and those before the call took effect are the finds before that
  pub early_read : (before : List NamedStep) (steps : List Step) → early_from list_reader sizes call before steps
      ≡ finds sizes before (before_effect (map name_of steps))
  unfolding early_from before_effect
  early_read before [] = sym (finds_none sizes before)
  early_read before (s ∷ steps) = by (is_effect (name_of s)) (early_read (name_of s ∷ before) steps)
    where
      by : (hit : Bool) → early_from list_reader sizes call (name_of s ∷ before) steps
          ≡ finds sizes (name_of s ∷ before) (before_effect (map name_of steps))
          → cond hit 0 (cond (is_find sizes before (name_of s)) 1 0 + early_from list_reader sizes call
          (name_of s ∷ before) steps)
          ≡ finds sizes before (cond hit [] (name_of s ∷ before_effect (map name_of steps)))
      by true ih = sym (finds_none sizes before)
      by false ih =
          ap (λ (n : ℕ). n + early_from list_reader sizes call (name_of s ∷ before) steps)
          (one_of (is_find sizes before (name_of s)))
          ∙ (ap (λ (n : ℕ). one_if (is_find sizes before (name_of s)) + n) ih
          ∙ sym (finds_more sizes before (name_of s) (before_effect (map name_of steps))))
