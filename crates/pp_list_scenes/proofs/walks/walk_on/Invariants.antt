use Rattle.pp_list_scenes.specs.Staff.{IsWalking}
use Rattle.pp_list_scenes.proofs.walks.walk_on.Given as goal

abbrev pub invariant-loop : goal.invariant-loop
invariant-loop g l = IsWalking l.table l.pass l.walk
