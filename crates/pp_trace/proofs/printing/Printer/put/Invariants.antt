use Rattle.std.proofs.Common.{length}
use Rattle.pp_trace.proofs.Buffered.{Underway}
use Rattle.pp_trace.proofs.printing.Printer.put.Given as goal

abbrev pub invariant-loop-rest : goal.invariant-loop-rest
invariant-loop-rest g l =
    Underway g.K.Sink.written g.K.Sink.faults g.K.Sink.Writes l.initial.sink l.sink l.initial.self l.self l.rest l.text

abbrev pub decreases-loop-rest : goal.decreases-loop-rest
decreases-loop-rest g l = length l.rest
