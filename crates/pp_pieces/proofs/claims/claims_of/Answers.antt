use Rattle.std.proofs.Common.{◌∙◌}
use Rattle.pp_pieces.specs.Claims.{claim}
use Rattle.pp_pieces.proofs.Bytes.{map-more}
use Rattle.pp_pieces.proofs.claims.claims_of.Goals as goal

pub loop-turn-preserved : goal.loop-turn-preserved
loop-turn-preserved c = c.in_ok-append.ensures ∙ map-more (claim c.args.callers c.args.pieces c.args.caller) c.loop-turn.calls.items
    c.loop-turn.turn c.claim_at.result c.loop-turn.invariant c.claim_at.ensures
