use Rattle.std.proofs.Common.{length, take, codes, [], ◌++◌, Ok}
use Rattle.std.specs.List.{flat_map}
use Rattle.pp_trace.specs.Text.{counted_line}
use Rattle.pp_trace.specs.Printing.{Puts}
use Rattle.pp_queue_replay.proofs.printing.print_left.Given as goal

abbrev pub invariant-loop-item : goal.invariant-loop-item
invariant-loop-item g l =
    Puts g.K.Sink.written g.K.Sink.faults g.K.Sink.Writes l.fn.sink l.sink l.fn.printer l.printer
    (counted_line (codes "left ") (length l.items) ++ flat_map (counted_line []) (take l.item-index l.items)) (Ok tt)
