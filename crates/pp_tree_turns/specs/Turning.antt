-- What a turn of a tree's call makes of its pass.
use Rattle.std.specs.Prelude.{◌≡◌, ℕ, false, List, map, Option, Some, None}
use Rattle.pp_model.specs.declared.Call.{Call}
use Rattle.pp_model.specs.Pass.{MapSizes}
use Rattle.pp_base.specs.Named.{NamedStep, name_of}
use Rattle.pp_calls.specs.Steps.{Stepped, HasOwn, StandsThen}
use Rattle.pp_shelf.specs.Runs.{steps_made}
use Rattle.pp_seek.specs.declared.seek.Spot.{Spot}
use Rattle.pp_trees.specs.Edges.{TreeView}
use Rattle.pp_turns.specs.Tallies.{memory_of}
use Rattle.pp_turns.specs.Turns.{Ran}
use Rattle.pp_tree_turns.specs.Walked.{Walked, tree_reader, TreeTally, moved}

-- The bounds that are remembered are those of the seek. At the head there are none.
abbrev pub Minds : Walked → Option Spot → Type 0
Minds m None = Unit {0}
Minds m (Some s) = (m.low ≡ s.low) × (m.high ≡ s.high)

-- The pass made steps of these names. Its placed calls stand then, where they stood.
pub record Names (names : List NamedStep) (v w : TreeView) : Type 0 where
  pub stepped : Stepped v w
  pub named : map name_of (steps_made v w) ≡ names
  pub stands : HasOwn w.order → StandsThen v → StandsThen w

-- The pass made steps, at which the call didn't take effect and lost so many turns. No key is to be read.
pub record Walks (z : MapSizes) (call : Call) (t : TreeTally) (k : ℕ) (v w : TreeView) : Type 0 where
  pub memory : Walked
  pub ran : Ran tree_reader z call t (moved t memory k (steps_made v w)) v w
  pub calm : memory.coming ≡ false
  pub struck : memory.struck ≡ (memory_of t).struck
