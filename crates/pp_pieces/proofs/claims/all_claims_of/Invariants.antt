use Rattle.std.proofs.Common.{◌≡◌, map}
use Rattle.pp_model.specs.Lists.{upto}
use Rattle.pp_pieces.specs.Claims.{claims}
use Rattle.pp_pieces.proofs.claims.all_claims_of.Given as goal

-- the claims of the callers so far
abbrev pub invariant-loop-caller : goal.invariant-loop-caller
invariant-loop-caller l = map (λ v. v.items) l.lists.items ≡ map (claims l.callers l.pieces) (upto 0 l.caller)
