use Rattle.std.proofs.Common.{take}
use Rattle.pp_pieces.specs.Counts.{Counted}
use Rattle.pp_pieces.proofs.counting.count_bytes.Given as goal

-- the bytes so far are counted
abbrev pub invariant-loop-byte : goal.invariant-loop-byte
invariant-loop-byte l = Counted l.initial.counts l.counts (take l.byte-index l.bytes)
