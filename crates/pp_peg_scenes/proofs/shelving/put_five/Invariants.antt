use Rattle.pp_base.specs.Passes.{IsSame}
use Rattle.pp_peg_scenes.proofs.shelving.put_five.Given as goal

abbrev pub invariant-loop : goal.invariant-loop
invariant-loop g l = IsSame l.fn.pass.seat l.pass.seat
