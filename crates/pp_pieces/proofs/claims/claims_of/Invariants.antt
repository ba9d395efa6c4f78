use Rattle.std.proofs.Common.{◌≡◌, map}
use Rattle.pp_model.specs.Lists.{upto}
use Rattle.pp_pieces.specs.Claims.{claim}
use Rattle.pp_pieces.proofs.claims.claims_of.Given as goal

-- the claims so far
abbrev pub invariant-loop-turn : goal.invariant-loop-turn
invariant-loop-turn l = l.calls.items ≡ map (claim l.callers l.pieces l.caller) (upto 0 l.turn)
