use Rattle.std.proofs.Common.{◌≡◌}
use Rattle.pp_rule.specs.Views.{slot}
use Rattle.pp_base.specs.Passes.{known, IsSame, IsAtRest}
use Rattle.pp_peg_scenes.proofs.peg_tests.pull_all.Given as goal

abbrev pub invariant-loop-peg : goal.invariant-loop-peg
invariant-loop-peg g l = record {
  same : IsSame l.fn.pass.seat l.pass.seat;
  rest : IsAtRest (known l.pass.seat) l.pass.purse;
  clear : (slot (known l.pass.seat) 0).named ≡ 0;
}
