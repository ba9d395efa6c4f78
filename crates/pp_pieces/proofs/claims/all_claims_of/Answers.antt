use Rattle.std.proofs.Common.{◌∙◌, ap, map}
use Rattle.std.proofs.lemmas.List.{map-append}
use Rattle.pp_pieces.specs.Claims.{claims}
use Rattle.pp_pieces.proofs.Bytes.{map-more}
use Rattle.pp_pieces.proofs.claims.all_claims_of.Goals as goal

pub loop-caller-preserved : goal.loop-caller-preserved
loop-caller-preserved c = ap (map (λ v. v.items)) c.in_ok-append.ensures ∙ (map-append (λ v. v.items) c.loop-caller.lists.items _
    ∙ map-more (claims c.args.callers c.args.pieces) (map (λ v. v.items) c.loop-caller.lists.items) c.loop-caller.caller
    c.in_ok-calls.calls.items c.loop-caller.invariant c.in_ok-calls.ensures)
