use Rattle.std.proofs.Common.{◌≡◌, [], length, false}
use Rattle.pp_outside.specs.Outside.{WroteOn, OffersAll}
use Rattle.pp_trace.specs.Printing.{Prints}
use Rattle.pp_trace.proofs.printing.Printer.end.Given as goal

-- so far no write failed, and each offered all that waited
abbrev pub invariant-loop-self : goal.invariant-loop-self
invariant-loop-self g l = record {
  printed : Prints (g.K.Sink.written l.initial.sink) (g.K.Sink.written l.sink) l.initial.self.waits l.self.waits [];
  kept : g.K.Sink.faults l.sink ≡ g.K.Sink.faults l.initial.sink;
  writes : WroteOn g.K.Sink.Writes OffersAll l.initial.sink l.initial.self.waits l.sink l.self.waits;
  whole : l.self.failed ≡ false;
}

abbrev pub decreases-loop-self : goal.decreases-loop-self
decreases-loop-self g l = length l.self.waits
