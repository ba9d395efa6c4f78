use Rattle.pp_queue_scenes.specs.Staff.{AreReady}
use Rattle.pp_queue_scenes.proofs.staging.take_all.Given as goal

abbrev pub invariant-loop-value : goal.invariant-loop-value
invariant-loop-value g l = AreReady l.queue l.passes.items
