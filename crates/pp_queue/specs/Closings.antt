-- What a queue that was closed shows of its run.
use Rattle.std.specs.Prelude.{◌≡◌, ◌⊎◌, ℕ, ◌+◌, ◌<◌, List, ◌∷◌, length, map, Some, slice_get}
use Rattle.pp_link.specs.declared.layout.Sizes.{Sizes}
use Rattle.pp_link.specs.Places.{IsNumber}
use Rattle.pp_model.specs.declared.steps.OrderEntry.{OrderEntry}
use Rattle.pp_model.specs.declared.steps.Step.{Step}
use Rattle.pp_model.specs.Lists.{AtEach, IsPrefix}
use Rattle.pp_rule.specs.Closing.{spare}
use Rattle.pp_rule.specs.Lists.{IsIn, times}
use Rattle.pp_rule.specs.Opening.{opening_words}
use Rattle.pp_rule.specs.Orders.{log_of, made_by, placed_by, replayed, changes_of, steps_of, stores, IsExecution, entries_of}
use Rattle.pp_queues.specs.declared.calls.QueueChange.{QueueChange}
use Rattle.pp_queues.specs.declared.calls.QueuePlaced.{QueuePlaced}
use Rattle.pp_queues.specs.Calls.{QueuePassView}
use Rattle.pp_queues.specs.Contents.{QueueGathered, numbered}
use Rattle.pp_queues.specs.Queue.{items_of, IsSound, StandsIn}
use Rattle.pp_queues.specs.Queues.{QueuePass, QueueView, queue_head, queue_field}

-- what a run shows of one caller
pub record QueueCaller : Type 0 where
  pub caller : ℕ
  pub mine : List QueuePlaced
  pub steps : List Step

-- a run that was closed: its log, what each caller did, the order of all steps, the live numbers, and the sizes of its pool
pub record QueueRun : Type 0 where
  pub log : List QueueChange
  pub callers : List QueueCaller
  pub order : List (OrderEntry QueueChange)
  pub live : List ℕ
  pub sizes : Sizes

-- what a view of all steps shows of one pass
abbrev pub caller_in : QueueView → QueuePass → QueueCaller
caller_in v q = record { caller = q.number; mine = placed_by q.number v.order; steps = made_by q.number v.order }

-- what a view of all steps, of a seat that knows what all passes knew, shows of a run that left these live numbers
abbrev pub queue_run : QueueView → List ℕ → QueueRun
queue_run v live = record {
  log = log_of v.order;
  callers = map (caller_in v) (v.known ∷ v.taken);
  order = entries_of v.order;
  live = live;
  sizes = v.known.sizes;
}

-- what a pass shows of its caller
abbrev pub caller_run : QueuePassView → QueueCaller
caller_run p = record { caller = p.caller; mine = p.mine; steps = p.steps }

-- A pass of the queue: its calls stand in the log, what it had seen begins the log and the order, and the order has all its
-- steps.
pub record IsClosedPass (log : List QueueChange) (order : List (OrderEntry QueueChange)) (caller : ℕ)
    (p : QueuePassView) : Type 0 where
  pub caller_is : p.caller ≡ caller
  pub stands : StandsIn log caller p.mine
  pub seen : IsPrefix p.seen log
  pub order_is : IsPrefix p.order order
  pub steps : p.steps ≡ steps_of caller order

-- one of the passes had seen it all
pub record SawAll (passes : List QueuePassView) (log : List QueueChange) (order : List (OrderEntry QueueChange)) : Type 0 where
  pub position : ℕ
  pub last : QueuePassView
  pub is_one : slice_get passes position ≡ Some last
  pub seen : last.seen ≡ log
  pub order_is : last.order ≡ order

-- What stands after a queue of these sizes was closed over these passes: the order of all steps, one log, in which each pass's
-- calls stand, and the items that it leaves.
pub record IsClosing (z : Sizes) (passes : List QueuePassView) (items free : List ℕ) (run : QueueRun) : Type 0 where
  pub sizes_are : run.sizes ≡ z
  pub log_is : run.log ≡ changes_of run.order
  pub sound : IsSound run.log
  pub items_are : items ≡ items_of run.log
  pub callers_are : run.callers ≡ map caller_run passes
  pub each : AtEach passes (λ k p. IsClosedPass run.log run.order k p)
  pub saw_all : SawAll passes run.log run.order
  -- the order is an execution from the words with which the queue opened
  pub execution : IsExecution stores (opening_words 1 queue_head queue_field z) 0 run.order
  -- each step was made by one of the passes, and its changes are those of that pass
  pub made : (e : OrderEntry QueueChange) → IsIn e run.order → e.pass < z.passes
  pub own : (e : OrderEntry QueueChange) (c : QueueChange) → IsIn e run.order → IsIn c e.changes → c.caller ≡ e.pass
  -- the words that it leaves hold the items in the records with the live numbers
  pub holds : QueueGathered z (replayed (opening_words 1 queue_head queue_field z) run.order) (numbered 0 items) run.live
  -- live and free numbers together are 1 to the number of records, each once, and the free ones rise
  pub each_once : (n : ℕ) → IsNumber z n → times n run.live + times n free ≡ 1
  pub no_other : (n : ℕ) → (n ≡ 0) ⊎ (z.records < n) → times n run.live + times n free ≡ 0
  pub free_are : free ≡ spare run.live 1 z.records
  pub live_are : length run.live ≡ length items + 1
