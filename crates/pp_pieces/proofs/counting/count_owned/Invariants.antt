use Rattle.std.proofs.Common.{take}
use Rattle.pp_pieces.specs.Counts.{CountedIn, owned}
use Rattle.pp_pieces.proofs.counting.count_owned.Given as goal

-- the pieces of the claims so far are counted
abbrev pub invariant-loop-turn : goal.invariant-loop-turn
invariant-loop-turn l = CountedIn l.initial.counts l.counts l.bytes (owned (take l.turn l.calls) (take l.turn l.answers))
