use Rattle.std.proofs.Common.{ap}
use Rattle.pp_trace.proofs.Buffered.{Broke-kept}
use Rattle.pp_trace.proofs.printing.Printer.write.Goals as goal

pub returns-in-Err-clause-printed : goal.returns-in-Err-clause-printed
returns-in-Err-clause-printed g c = Broke-kept _ _ _ _ (ap (λ w. w.waits) c.self.view_is) c.in-Err.ensures.bytes
