use Rattle.pp_list_scenes.specs.Staff.{IsReady}
use Rattle.pp_list_scenes.proofs.staging.remove_keys.Given as goal

abbrev pub invariant-loop-key : goal.invariant-loop-key
invariant-loop-key g l = IsReady l.table l.pass
