-- A table opens with no record attached.
use Rattle.std.proofs.Common.{List, length, sym, subst}
use Rattle.pp_link.specs.declared.layout.Sizes.{Sizes}
use Rattle.pp_model.specs.declared.Change.{Change}
use Rattle.pp_model.specs.declared.steps.OrderEntry.{OrderEntry}
use Rattle.pp_model.specs.History.{contents_of}
use Rattle.pp_model.specs.MapCalls.{IsClean}
use Rattle.pp_model.specs.Pass.{PassView, IsFresh, replayed}
use Rattle.pp_rule.specs.Causes.{CountsAttached}
use Rattle.pp_rule.specs.Reached.{Reached}
use Rattle.pp_shelf.specs.Runs.{map_sizes}
use Rattle.pp_lists.proofs.Cleaning.{clean_open}
use Rattle.pp_walk.specs.Lone.{list_opens}
use Rattle.pp_list.specs.Meant.{list_meaning}

pub starts_clean : (z : Sizes) (pass : PassView) → IsFresh pass → IsClean list_meaning (map_sizes z) pass
starts_clean z pass new = subst (λ (o : List (OrderEntry Change)). CountsAttached (Reached 1 z (replayed (list_opens z) o))
    (length (contents_of pass.seen))) (sym new.order)
    (subst (λ (l : List Change). CountsAttached (Reached 1 z (list_opens z)) (length (contents_of l))) (sym new.seen) (clean_open z))
