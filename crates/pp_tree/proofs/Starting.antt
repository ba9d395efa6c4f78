-- A tree opens with five records attached, and no more.
use Rattle.std.proofs.Common.{List, length, sym, subst}
use Rattle.pp_link.specs.declared.layout.Sizes.{Sizes}
use Rattle.pp_link.specs.Places.{IsWithin}
use Rattle.pp_model.specs.declared.Change.{Change}
use Rattle.pp_model.specs.declared.steps.OrderEntry.{OrderEntry}
use Rattle.pp_model.specs.History.{contents_of}
use Rattle.pp_model.specs.MapCalls.{IsClean}
use Rattle.pp_model.specs.Pass.{PassView, IsFresh, replayed}
use Rattle.pp_rule.specs.Causes.{CountsAttached}
use Rattle.pp_rule.specs.Reached.{Reached}
use Rattle.pp_shelf.specs.Runs.{map_sizes}
use Rattle.pp_trees.specs.Gathering.{live_in_tree}
use Rattle.pp_trees.specs.Lone.{tree_opens}
use Rattle.pp_trees.proofs.Cleaning.{clean_open}
use Rattle.pp_tree_turns.specs.Causes.{tree_meaning}

pub starts_clean : (z : Sizes) → IsWithin z → (pass : PassView) → IsFresh pass → IsClean tree_meaning (map_sizes z) pass
starts_clean z within pass new = subst (λ (o : List (OrderEntry Change)). CountsAttached (Reached 2 z (replayed (tree_opens z) o))
    (live_in_tree (length (contents_of pass.seen)))) (sym new.order)
    (subst (λ (l : List Change). CountsAttached (Reached 2 z (tree_opens z)) (live_in_tree (length (contents_of l)))) (sym new.seen)
    (clean_open z within))
