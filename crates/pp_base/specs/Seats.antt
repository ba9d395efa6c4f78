-- What a seat stands for.
use Rattle.std.specs.Prelude.{◌≡◌, List, ◌∷◌}
use Rattle.pp_rule.specs.declared.views.PassState.{PassState}
use Rattle.pp_rule.specs.declared.views.SeatView.{SeatView}
use Rattle.pp_rule.specs.Steps.{several}

-- the seat stands for another pass beside its own, and no seat was joined to it
pub record HasMore {E A W : Type 0} (v : SeatView E A W) : Type 0 where
  pub next : PassState W
  pub rest : List (PassState W)
  pub is : v ≡ several v.order v.known (next ∷ rest)
