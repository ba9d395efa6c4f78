use Rattle.pp_list_scenes.specs.Staff.{IsReady}
use Rattle.pp_list_scenes.proofs.staging.add_all.Given as goal

abbrev pub invariant-loop-pair : goal.invariant-loop-pair
invariant-loop-pair g l = IsReady l.table l.pass
