use Rattle.pp_model.specs.Calls.{removes}
use Rattle.pp_model.proofs.plain.PlainPass.remove.Goals as goal

pub take-requires-clause-takes : goal.take-requires-clause-takes
take-requires-clause-takes c w found = removes c.args.key w
