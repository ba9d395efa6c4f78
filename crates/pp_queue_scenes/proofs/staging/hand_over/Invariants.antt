use Rattle.pp_queue_scenes.specs.Staff.{AreReady}
use Rattle.pp_queue_scenes.proofs.staging.hand_over.Given as goal

abbrev pub invariant-loop-number : goal.invariant-loop-number
invariant-loop-number g l = AreReady l.queue l.passes.items
