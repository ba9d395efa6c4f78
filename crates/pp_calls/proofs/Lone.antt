-- A pass that is alone on its pool has seen all steps.
use Rattle.std.proofs.Common.{◌≡◌, ℕ, ◌<◌, List, sym}
use Rattle.pp_link.specs.declared.layout.Sizes.{Sizes}
use Rattle.pp_rule.specs.declared.views.LoggedStep.{LoggedStep}
use Rattle.pp_rule.specs.Alone.{IsRun}
use Rattle.pp_rule.specs.Lists.{BeginsWith}
use Rattle.pp_rule.specs.Orders.{made_by}
use Rattle.pp_rule.proofs.Alone.{none_further}

module _ {E A : Type 0} where
  -- So it learns nothing: a longer run in which it made no further step has none at all.
  pub learnt_same : (sides : ℕ) (caller : E → ℕ) (opens : List ℕ) (z : Sizes) (number : ℕ) (longer order : List (LoggedStep E A))
      → z.passes ≡ 1 → number < z.passes → IsRun sides caller opens z longer → BeginsWith longer order
      → made_by number longer ≡ made_by number order → longer ≡ order
  learnt_same sides caller opens z number longer order one low run begins same =
      none_further z.passes number longer order one low begins (sym same) run.made
