use Rattle.pp_places.proofs.Certified.{runs_are_certified}
use Rattle.pp_places.proofs.laws.runs_are_certified.Goals as goal

pub returns : goal.returns
returns c = runs_are_certified
