use Rattle.std.proofs.Common.{length}
use Rattle.pp_devices.proofs.Tellings.{IsSent}
use Rattle.pp_devices.proofs.telling.write_text.Given as goal

-- what is left of the text is what the sink hasn't taken
abbrev pub invariant-loop-rest : goal.invariant-loop-rest
invariant-loop-rest g l = IsSent g.K.Sink.written g.K.Sink.faults g.K.Sink.Writes l.fn.sink l.sink l.rest l.fn.text

abbrev pub decreases-loop-rest : goal.decreases-loop-rest
decreases-loop-rest g l = length l.rest
