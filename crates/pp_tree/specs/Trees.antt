-- A tree and its passes.
use Rattle.std.specs.Prelude.{ℕ, List}
use Rattle.pp_link.specs.declared.layout.Sizes.{Sizes}
use Rattle.pp_model.specs.declared.Change.{Change}
use Rattle.pp_model.specs.declared.Placed.{Placed}
use Rattle.pp_model.specs.Pass.{PassView}
use Rattle.pp_rule.specs.declared.shape.Shape.{Ghosts}
use Rattle.pp_base.specs.declared.pool.Pass.{Pass}
use Rattle.pp_base.specs.declared.purse.Purse.{Purse}
use Rattle.pp_base.specs.Passes.{view}
use Rattle.pp_trees.specs.Edges.{TreeView}
use Rattle.pp_trees.specs.declared.own.TreeOwn.{TreeOwn}
use Rattle.pp_turns.specs.Turns.{BegunAt}
use Rattle.pp_tree_calls.specs.declared.going.TreeGoing.{TreeGoing}
use Rattle.pp_tree_calls.specs.Going.{IsUnder}
use Rattle.pp_tree_calls.specs.Lone.{LoneSince}

-- the sizes of the pool of a tree, which has one head
abbrev pub tree_sizes : ℕ → ℕ → Sizes
tree_sizes passes records = record { passes = passes; records = records; heads = 1 }

-- A call is under way on a pass, which it left so since its begin. Where the pass is alone on its pool, none of its turns was lost.
abbrev pub IsGoing : Sizes → ℕ → TreeGoing → TreeView → Purse → TreeView → List ℕ → Type 0
IsGoing z share g now p from free = IsUnder z share g now p from free × LoneSince z g from now

-- the call is under way on the pass, which callers saw so as it was begun
abbrev pub IsCalling : {S : Type 0} {shape : Ghosts S Change Placed TreeOwn} → Sizes → Pass S Change Placed TreeOwn shape → TreeGoing
    → PassView → Type 0
IsCalling z p g before = BegunAt p.share (IsGoing z p.share g (view p.seat) p.purse) before
