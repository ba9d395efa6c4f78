use Rattle.pp_places.proofs.Callers.{as_long}
use Rattle.pp_places.proofs.history_of.Goals as goal

pub log_of-requires-clause-lengths : goal.log_of-requires-clause-lengths
log_of-requires-clause-lengths c = as_long _ _ _ c.requires.run.0 c.requires.run.1

pub lists_of-requires-clause-lengths : goal.lists_of-requires-clause-lengths
lists_of-requires-clause-lengths c = as_long _ _ _ c.requires.run.0 c.requires.run.1
