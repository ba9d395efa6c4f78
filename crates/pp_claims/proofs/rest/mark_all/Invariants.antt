use Rattle.std.proofs.Common.{take}
use Rattle.pp_pieces.specs.Left.{Marked}
use Rattle.pp_claims.specs.Rest.{owned_of}
use Rattle.pp_claims.proofs.rest.mark_all.Given as goal

-- the pieces of the callers so far are marked
abbrev pub invariant-loop-share : goal.invariant-loop-share
invariant-loop-share l = Marked l.initial.taken l.taken (owned_of (take l.share-index l.shares))
