use Rattle.pp_trace.proofs.Buffered.{Puts-none}
use Rattle.pp_tally.proofs.printing.print_value.Goals as goal

pub returns-then-count-eq0 : goal.returns-then-count-eq0
returns-then-count-eq0 g c = rw c.if-count-eq0.true (Puts-none _ _ _ _ _ c.requires.whole)
