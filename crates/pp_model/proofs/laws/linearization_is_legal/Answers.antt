use Rattle.pp_model.specs.History.{finite_map}
use Rattle.pp_model.proofs.CallersOrder.{is_history}
use Rattle.pp_model.proofs.laws.linearization_is_legal.Goals as goal

pub returns : goal.returns
returns c = is_history finite_map
