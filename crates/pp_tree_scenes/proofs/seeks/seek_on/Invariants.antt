use Rattle.pp_tree_scenes.specs.Staff.{IsSeeking}
use Rattle.pp_tree_scenes.proofs.seeks.seek_on.Given as goal

abbrev pub invariant-loop : goal.invariant-loop
invariant-loop g l = IsSeeking l.tree l.pass l.seek
