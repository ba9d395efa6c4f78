-- The passes of a scene.
use Rattle.std.specs.Prelude.{◌≡◌, List, length}
use Rattle.pp_rule.specs.declared.shape.Shape.{Ghosts}
use Rattle.pp_base.specs.declared.pool.Pass.{Pass}
use Rattle.pp_base.specs.Passes.{known}
use Rattle.pp_model.specs.Lists.{AtEach}
use Rattle.pp_queues.specs.declared.calls.QueueChange.{QueueChange}
use Rattle.pp_queues.specs.declared.calls.QueuePlaced.{QueuePlaced}
use Rattle.pp_queues.specs.declared.own.QueueOwn.{QueueOwn}
use Rattle.pp_queue.specs.declared.queue.Queue.{Queue}
use Rattle.pp_queue.specs.Passes.{IsReady}

module _ {S : Type 0} {shape : Ghosts S QueueChange QueuePlaced QueueOwn} where
  -- the passes of all callers of a queue, each between its calls
  pub record AreReady (q : Queue) (passes : List (Pass S QueueChange QueuePlaced QueueOwn shape)) : Type 0 where
    pub all : length passes ≡ q.pool.layout.passes
    pub each : AtEach passes (λ k p. IsReady q p)
    pub numbered : AtEach passes (λ k p. (known p.seat).number ≡ k)
