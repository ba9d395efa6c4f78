-- What a part of a call's steps counts.
use Rattle.std.specs.Prelude.{◌≡◌, ◌≢◌, ◌⊎◌, ℕ, ◌<◌, true, false, List, ◌∷◌, ◌++◌, map, length}
use Rattle.pp_model.specs.declared.Placed.{Placed}
use Rattle.pp_model.specs.declared.steps.Step.{Step}
use Rattle.pp_model.specs.Pass.{MapSizes}
use Rattle.pp_rule.specs.Lists.{IsIn}
use Rattle.pp_link.specs.declared.layout.Sizes.{Sizes}
use Rattle.pp_link.specs.Links.{target, invalid_bit}
use Rattle.pp_link.specs.Places.{cell_place}
use Rattle.pp_rule.specs.Orders.{made_by, load_step, confirm_step, only_walks}
use Rattle.pp_base.specs.Named.{NamedStep, name_of, loads, Made}
use Rattle.pp_calls.specs.Steps.{Stepped}
use Rattle.pp_lists.specs.Turns.{ListView}
use Rattle.pp_lists.specs.Losses.{finds, is_effect}

-- these steps are of the kinds of a walk: none of them stores, exchanges or sets bits of a link
abbrev pub WriteNoLink : List NamedStep → Type 0
WriteNoLink steps = (s : NamedStep) → IsIn s steps → only_walks s.kind ≡ true

-- one of them loaded the link at this place, with INVALID
pub record MetInvalid (place : ℕ) (steps : List NamedStep) : Type 0 where
  pub step : NamedStep
  pub inside : IsIn step steps
  pub load : step.kind ≡ load_step
  pub at : step.place ≡ place
  pub bad : invalid_bit step.word ≡ 1

-- one of them loaded the link at this place again, which was another one
pub record MetOther (place first : ℕ) (steps : List NamedStep) : Type 0 where
  pub step : NamedStep
  pub inside : IsIn step steps
  pub again : step.kind ≡ confirm_step
  pub at : step.place ≡ place
  pub other : step.word ≢ first

-- Why a turn was lost whose first load found this word at this place: the word has INVALID, the link of the next record has it, or the
-- word was another one when it was loaded again.
abbrev pub Why : Sizes → ℕ → ℕ → List NamedStep → Type 0
Why z place first steps = (invalid_bit first ≡ 1) ⊎ (MetInvalid (cell_place z (target first) 2) steps ⊎ MetOther place first steps)

-- by none of them does a call take effect
abbrev pub StrikeNone : List NamedStep → Type 0
StrikeNone steps = (s : NamedStep) → IsIn s steps → is_effect s ≡ false

-- so many of these steps are finds, whatever was before them
abbrev pub FindSo : ℕ → List NamedStep → Type 0
FindSo lost steps = (sizes : MapSizes) (earlier : List NamedStep) → finds sizes earlier steps ≡ lost

-- The pass made these steps, at which nothing took effect and no call was placed. They write no link, and so many turns are lost by
-- them.
pub record Quiet (lost : ℕ) (v w : ListView) : Type 0 where
  pub steps : List NamedStep
  pub did : Made steps v w
  pub loses : FindSo lost steps
  pub writes : WriteNoLink steps

-- They find nothing.
abbrev pub Idles : ListView → ListView → Type 0
Idles v w = Quiet 0 v w

-- The pass went on by steps that write no link. So many turns are lost by them, and these calls were placed at them.
pub record Trod (lost : ℕ) (calls : List Placed) (v w : ListView) : Type 0 where
  pub stepped : Stepped v w
  pub calls_are : stepped.calls ≡ calls
  pub steps : List NamedStep
  pub named : map name_of stepped.steps ≡ steps
  pub some_made : 0 < length steps
  pub loses : FindSo lost steps
  pub writes : WriteNoLink steps

-- After the first load of its turn, which found this word at this place, the pass made further steps, at which nothing took effect
-- and no call was placed. So many turns are lost by them, and none of them writes a link.
pub record RestOfTurn (z : Sizes) (lost place first : ℕ) (v w : ListView) : Type 0 where
  pub steps : List NamedStep
  pub did : Made steps v w
  pub loses : FindSo lost (loads place first ∷ steps)
  pub writes : WriteNoLink steps
  pub why : lost ≢ 0 → Why z place first steps

-- The pass made steps since, of which the first one saw so many changes.
pub record FirstSaw (start : ℕ) (before now : ListView) : Type 0 where
  pub first : Step
  pub rest : List Step
  pub saw : first.seen ≡ start
  pub made : made_by before.known.number now.order ≡ made_by before.known.number before.order ++ first ∷ rest
