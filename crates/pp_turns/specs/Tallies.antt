-- The lost turns of a call, counted along its steps as its structure reads them.
use Rattle.std.specs.Prelude.{◌≡◌, ℕ, ◌+◌, false, cond, List, [], ◌∷◌, ◌++◌}
use Rattle.pp_model.specs.declared.steps.Step.{Step}
use Rattle.pp_model.specs.Pass.{MapSizes}
use Rattle.pp_rule.specs.Causes.{Reader}

-- How far a call has come by its steps: what its reader remembers, and how many of its turns are lost.
pub data Tally (M : Type 0) : Type 0 where
  -- it has not taken effect
  losing : M → (lost : ℕ) → Tally M
  -- it has taken effect: so many turns were lost before that, and these steps were made since
  effected : M → (lost early : ℕ) → (later : List Step) → Tally M

abbrev pub lost_of : {M : Type 0} → Tally M → ℕ
lost_of (losing m lost) = lost
lost_of (effected m lost early later) = lost

abbrev pub early_of : {M : Type 0} → Tally M → ℕ
early_of (losing m lost) = lost
early_of (effected m lost early later) = early

abbrev pub later_of : {M : Type 0} → Tally M → List Step
later_of (losing m lost) = []
later_of (effected m lost early later) = later

abbrev pub memory_of : {M : Type 0} → Tally M → M
memory_of (losing m lost) = m
memory_of (effected m lost early later) = m

module _ {C : Type 0} (r : Reader C) (z : MapSizes) (call : C) where
  -- a turn more is lost, or none
  abbrev pub lost_at : r.Memory → Step → ℕ → ℕ
  lost_at m s n = n + cond (r.loses z call m s) 1 0

  -- one step more
  abbrev pub counting : Tally r.Memory → Step → Tally r.Memory
  counting (losing m n) s =
      cond (r.strikes z call m s) (effected (r.next z call m s) (lost_at m s n) n []) (losing (r.next z call m s) (lost_at m s n))
  counting (effected m n early later) s = effected (r.next z call m s) (lost_at m s n) early (later ++ s ∷ [])

  -- a list of steps more
  unfoldable pub tally : Tally r.Memory → List Step → Tally r.Memory
  tally t [] = t
  tally t (s ∷ steps) = tally (counting t s) steps

  -- no call takes effect at these steps, of which so many lose a turn
  abbrev pub StrikesNone : r.Memory → List Step → Type 0
  StrikesNone m [] = Unit {0}
  StrikesNone m (s ∷ steps) = (r.strikes z call m s ≡ false) × StrikesNone (r.next z call m s) steps
