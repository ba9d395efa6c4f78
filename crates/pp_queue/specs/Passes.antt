-- The passes of a queue.
use Rattle.std.specs.Prelude.{◌≡◌, ℕ, false, []}
use Rattle.pp_link.specs.declared.layout.Sizes.{Sizes}
use Rattle.pp_rule.specs.Opening.{share_of, start_of, numbers_from}
use Rattle.pp_rule.specs.declared.shape.Shape.{Ghosts}
use Rattle.pp_base.specs.declared.pool.Pass.{Pass}
use Rattle.pp_base.specs.Passes.{Fits, known, view, IsIdle, IsAtRest}
use Rattle.pp_queues.specs.declared.calls.QueueChange.{QueueChange}
use Rattle.pp_queues.specs.declared.calls.QueuePlaced.{QueuePlaced}
use Rattle.pp_queues.specs.declared.own.QueueOwn.{QueueOwn}
use Rattle.pp_queues.specs.Calls.{QueuePassView, queue_view}
use Rattle.pp_queues.specs.Turns.{StandsThen}
use Rattle.pp_queue.specs.declared.queue.Queue.{Queue}

-- the sizes of the pool of a queue
abbrev pub queue_sizes : ℕ → ℕ → Sizes
queue_sizes passes records = record { passes = passes; records = records; heads = 2 }

module _ {S : Type 0} {shape : Ghosts S QueueChange QueuePlaced QueueOwn} where
  -- It is a pass of the queue between its calls: none is under way, and its placed calls stand in what it has seen.
  pub record IsReady (q : Queue) (p : Pass S QueueChange QueuePlaced QueueOwn shape) : Type 0 where
    pub fits : Fits q.pool.table.shared.table_id q.pool.layout p.seat
    pub idle : IsIdle p.walk p.purse
    pub rest : IsAtRest (known p.seat) p.purse
    pub stands : StandsThen (view p.seat)
    -- where it is the only one, it has left no record behind head 1
    pub up : q.pool.layout.passes ≡ 1 → (known p.seat).own.behind ≡ false

  -- It is the pass of the caller c as its queue starts: it has done and seen nothing, and the records of its share are free.
  pub record IsNew (z : Sizes) (c : ℕ) (p : Pass S QueueChange QueuePlaced QueueOwn shape) : Type 0 where
    pub seen_so : queue_view (view p.seat) p.purse.free.items p.share ≡ record {
      caller = c;
      seen = [];
      mine = [];
      steps = [];
      order = [];
      free = numbers_from (start_of 1 z c) (share_of 1 z c);
      retired_are = [];
      chains = 0;
      share = share_of 1 z c;
    }

  -- what contracts see of a pass
  abbrev pub pass_seen : Pass S QueueChange QueuePlaced QueueOwn shape → QueuePassView
  pass_seen p = queue_view (view p.seat) p.purse.free.items p.share
