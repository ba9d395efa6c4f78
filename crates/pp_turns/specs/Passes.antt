-- The passes of a map over a pool.
use Rattle.atomic_table.specs.Seated.{TableId}
use Rattle.pp_link.specs.declared.layout.Sizes.{Sizes}
use Rattle.pp_model.specs.declared.Change.{Change}
use Rattle.pp_model.specs.declared.Placed.{Placed}
use Rattle.pp_rule.specs.declared.shape.Shape.{Ghosts}
use Rattle.pp_base.specs.declared.pool.Pass.{Pass}
use Rattle.pp_base.specs.Passes.{Fits, known, view, IsIdle, IsAtRest}
use Rattle.pp_calls.specs.Steps.{StandsThen}

module _ {S W : Type 0} {shape : Ghosts S Change Placed W} where
  -- It is a pass of the pool with this table and these sizes, and its placed calls stand in what it has seen.
  pub record IsMember (table : TableId) (z : Sizes) (p : Pass S Change Placed W shape) : Type 0 where
    pub fits : Fits table z p.seat
    pub stands : StandsThen (view p.seat)

  -- no call is going on it
  pub record IsResting (p : Pass S Change Placed W shape) : Type 0 where
    pub idle : IsIdle p.walk p.purse
    pub rest : IsAtRest (known p.seat) p.purse
