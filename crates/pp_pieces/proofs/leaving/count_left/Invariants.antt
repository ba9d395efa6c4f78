use Rattle.std.proofs.Common.{take}
use Rattle.pp_pieces.specs.Counts.{CountedIn}
use Rattle.pp_pieces.specs.Left.{left}
use Rattle.pp_pieces.proofs.leaving.count_left.Given as goal

-- of the pieces so far those that aren't taken are counted
abbrev pub invariant-loop-number : goal.invariant-loop-number
invariant-loop-number l = CountedIn l.initial.counts l.counts l.bytes (left 0 (take l.number l.taken))
