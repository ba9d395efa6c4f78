use Rattle.pp_tree_scenes.specs.Staff.{IsReady}
use Rattle.pp_tree_scenes.proofs.staging.add_all.Given as goal

abbrev pub invariant-loop-pair : goal.invariant-loop-pair
invariant-loop-pair g l = IsReady l.tree l.pass
