use Rattle.pp_programs.proofs.Finishes.{finished}
use Rattle.pp_programs.proofs.ending.end.Goals as goal

pub returns-in-Ok : goal.returns-in-Ok
returns-in-Ok g c = λ was text put. finished _ _ c.way_of.result _ _ text c.way_of.ensures (c.in-Ok.ensures was text put)
