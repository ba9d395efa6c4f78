use Rattle.pp_list_scenes.specs.Staff.{IsReady}
use Rattle.pp_list_scenes.proofs.staging.put_so_many.Given as goal

abbrev pub invariant-loop : goal.invariant-loop
invariant-loop g l = IsReady l.table l.pass
