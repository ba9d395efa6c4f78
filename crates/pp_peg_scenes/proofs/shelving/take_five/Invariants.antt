use Rattle.pp_base.specs.Passes.{IsSame}
use Rattle.pp_peg_scenes.proofs.shelving.take_five.Given as goal

abbrev pub invariant-loop-count : goal.invariant-loop-count
invariant-loop-count g l = IsSame l.fn.pass.seat l.pass.seat
