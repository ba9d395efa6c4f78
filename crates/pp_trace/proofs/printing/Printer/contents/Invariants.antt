use Rattle.std.proofs.Common.{length, take, codes, ◌++◌, Ok}
use Rattle.std.specs.List.{flat_map}
use Rattle.pp_trace.specs.Text.{counted_line, pair_line}
use Rattle.pp_trace.specs.Printing.{Puts}
use Rattle.pp_trace.proofs.printing.Printer.contents.Given as goal

abbrev pub invariant-loop-pair : goal.invariant-loop-pair
invariant-loop-pair g l =
    Puts g.K.Sink.written g.K.Sink.faults g.K.Sink.Writes l.fn.sink l.sink l.fn.self l.self
    (counted_line (codes "contents ") (length l.pairs) ++ flat_map pair_line (take l.pair-index l.pairs)) (Ok tt)
