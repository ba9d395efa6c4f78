use Rattle.std.proofs.Common.{take}
use Rattle.pp_pieces.specs.Counts.{owned}
use Rattle.pp_pieces.specs.Left.{Marked}
use Rattle.pp_pieces.proofs.leaving.mark_owned.Given as goal

-- the pieces of the claims so far are marked
abbrev pub invariant-loop-turn : goal.invariant-loop-turn
invariant-loop-turn l = Marked l.initial.taken l.taken (owned (take l.turn l.calls) (take l.turn l.answers))
