use Rattle.std.proofs.Common.{get_or, Ok}
use Rattle.pp_trace.specs.Printing.{Puts}
use Rattle.pp_tally.specs.Text.{values_text}
use Rattle.pp_tally.proofs.printing.print_values.Given as goal

-- the values so far were printed
abbrev pub invariant-loop-value : goal.invariant-loop-value
invariant-loop-value g l =
    Puts g.K.Sink.written g.K.Sink.faults g.K.Sink.Writes l.fn.sink l.sink l.fn.printer l.printer
    (values_text (λ value. get_or l.total value 0) l.value) (Ok tt)
