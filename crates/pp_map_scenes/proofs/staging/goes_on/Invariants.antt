use Rattle.std.proofs.Common.{◌≡◌}
use Rattle.pp_model.specs.Pass.{PassView}
use Rattle.pp_map_scenes.proofs.staging.goes_on.Given as goal

-- the call goes on
abbrev pub invariant-loop : goal.invariant-loop
invariant-loop g l = record {
  belongs : g.M.MapCalls.Belongs l.map l.pass;
  going : (before : PassView) × g.M.MapCalls.UnderWay l.map l.pass l.going before;
  caller : (g.M.MapCalls.pass_view l.pass).caller ≡ (g.M.MapCalls.pass_view l.fn.pass).caller;
}
