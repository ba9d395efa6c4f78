-- The passes of a scene.
use Rattle.std.specs.Prelude.{List}
use Rattle.pp_model.specs.declared.Change.{Change}
use Rattle.pp_model.specs.declared.Placed.{Placed}
use Rattle.pp_model.specs.Lists.{AtEach}
use Rattle.pp_model.specs.Pass.{PassView}
use Rattle.pp_rule.specs.declared.shape.Shape.{Ghosts}
use Rattle.pp_base.specs.declared.pool.Pass.{Pass}
use Rattle.pp_base.specs.Passes.{known, Fits}
use Rattle.pp_trees.specs.declared.own.TreeOwn.{TreeOwn}
use Rattle.pp_seek.specs.declared.seek.Seek.{Seek}
use Rattle.pp_seek.specs.Seeking.{Seeks}
use Rattle.pp_turns.specs.Passes.{IsMember, IsResting}
use Rattle.pp_tree_calls.specs.declared.going.TreeGoing.{TreeGoing}
use Rattle.pp_tree.specs.declared.Tree.{Tree}
use Rattle.pp_tree.specs.Trees.{IsCalling}

module _ {S : Type 0} {shape : Ghosts S Change Placed TreeOwn} where
  -- a pass of the tree, between its calls
  pub record IsReady (t : Tree) (p : Pass S Change Placed TreeOwn shape) : Type 0 where
    pub member : IsMember t.pool.table.shared.table_id t.pool.layout p
    pub resting : IsResting p

  -- passes of the tree, each between its calls
  abbrev pub AreReady : Tree → List (Pass S Change Placed TreeOwn shape) → Type 0
  AreReady t passes = AtEach passes (λ k p. IsReady t p)

  -- a pass of the tree with a call that is under way
  pub record IsGoing (t : Tree) (p : Pass S Change Placed TreeOwn shape) (g : TreeGoing) : Type 0 where
    pub member : IsMember t.pool.table.shared.table_id t.pool.layout p
    pub before : PassView
    pub under : IsCalling t.pool.layout p g before

  -- a pass of the tree with a seek that stands somewhere
  pub record IsSeeking (t : Tree) (p : Pass S Change Placed TreeOwn shape) (s : Seek) : Type 0 where
    pub fits : Fits t.pool.table.shared.table_id t.pool.layout p.seat
    pub seeks : Seeks (known p.seat) s
