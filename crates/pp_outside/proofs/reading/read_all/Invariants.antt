use Rattle.std.proofs.Common.{◌≡◌, ◌≤◌, length, ◌-◌}
use Rattle.std.specs.Io.KnownBytes.{Consumes}
use Rattle.pp_outside.specs.Outside.{ReadOn}
use Rattle.pp_outside.proofs.reading.read_all.Given as goal

-- what was read so far is what the source gave, and no read failed
abbrev pub invariant-loop-bytes : goal.invariant-loop-bytes
invariant-loop-bytes g l = record {
  consumed : Consumes (g.S.Source.left l.fn.source) (g.S.Source.left l.source) l.bytes.items;
  kept : g.S.Source.faults l.source ≡ g.S.Source.faults l.fn.source;
  reads : ReadOn g.S.Source.Reads 64 l.fn.source l.source;
  few : length l.bytes.items ≤ l.most;
  room : length l.chunk ≡ 16384;
}

abbrev pub decreases-loop-bytes : goal.decreases-loop-bytes
decreases-loop-bytes g l = l.most - length l.bytes.items
