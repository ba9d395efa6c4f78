-- What is known of a call on a tree as it ends, before its last steps.
use Rattle.std.specs.Prelude.{ℕ, List}
use Rattle.pp_link.specs.declared.layout.Sizes.{Sizes}
use Rattle.pp_model.specs.declared.Answer.{Answer}
use Rattle.pp_model.specs.declared.Call.{Call}
use Rattle.pp_base.specs.declared.purse.Purse.{Purse}
use Rattle.pp_shelf.specs.Runs.{map_sizes}
use Rattle.pp_trees.specs.Edges.{TreeView}
use Rattle.pp_turns.specs.Answers as ends
use Rattle.pp_turns.specs.Causes.{Aside}
use Rattle.pp_tree_turns.specs.Causes.{tree_causes, tree_words, tree_meaning}
use Rattle.pp_tree_calls.specs.Purses.{TwoRecords, out_of}

-- A call that began at this view, with these free numbers, and has lost so many turns, may be ended so.
abbrev pub MayEnd : Sizes → (share races : ℕ) → Call → TwoRecords → Answer → ℕ → TreeView → TreeView → List ℕ → Purse → Type 0
MayEnd z share races call records answer lost from now free p =
    ends.MayEnd tree_words tree_causes (map_sizes z) races call share (out_of records) answer lost from now free p

-- It was ended, with this answer.
abbrev pub Ends : Sizes → (share races : ℕ) → Call → TwoRecords → Answer → TreeView → TreeView → Purse → Purse → Type 0
Ends z share races call records answer v w p p' =
    ends.Ends tree_words tree_causes tree_meaning z races call (Aside z v w) share (out_of records) answer v w p p'
