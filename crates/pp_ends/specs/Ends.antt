-- What a map over a pool shows of its passes, and of its run.
use Rattle.std.specs.Prelude.{◌≡◌, ℕ, List, ◌∷◌, map, length}
use Rattle.pp_link.specs.declared.layout.Sizes.{Sizes}
use Rattle.pp_model.specs.declared.Change.{Change}
use Rattle.pp_model.specs.declared.Pair.{Pair}
use Rattle.pp_model.specs.declared.Placed.{Placed}
use Rattle.pp_model.specs.FiniteMap.{KeysRise}
use Rattle.pp_model.specs.History.{contents_of, Sound}
use Rattle.pp_model.specs.Pass.{MapSizes, NoteView, CallerRun, RunView}
use Rattle.pp_rule.specs.declared.views.PassState.{PassState}
use Rattle.pp_rule.specs.declared.views.SeatView.{SeatView}
use Rattle.pp_rule.specs.Orders.{entries_of, log_of, made_by, placed_by}

-- the sizes of a map over a pool of these sizes
abbrev pub map_sizes : Sizes → MapSizes
map_sizes z = record { passes = z.passes; records = z.records; heads = z.heads }

-- the log is sound, and the contents are the map after it, by rising keys
pub record TellsMap (log : List Change) (contents : List Pair) : Type 0 where
  pub sound : Sound log
  pub contents_are : contents ≡ contents_of log
  pub keys_rise : KeysRise contents

module _ {W : Type 0} where
  -- what a view of all steps shows of one pass
  abbrev pub caller_in : SeatView Change Placed W → PassState W → CallerRun
  caller_in v q = record { caller = q.number; mine = placed_by q.number v.order; steps = made_by q.number v.order }

  -- what a view of all steps, of a seat that knows what all passes knew, shows of a run that left these live numbers
  abbrev pub pool_run : SeatView Change Placed W → List ℕ → RunView
  pool_run v live = record {
    log = log_of v.order;
    callers = map (caller_in v) (v.known ∷ v.taken);
    order = entries_of v.order;
    live = live;
    sizes = map_sizes v.known.sizes;
  }

  -- how much a note says, by its view
  abbrev pub note_in : SeatView Change Placed W → NoteView
  note_in v = record { seen = length (log_of v.order); order = length (entries_of v.order) }
