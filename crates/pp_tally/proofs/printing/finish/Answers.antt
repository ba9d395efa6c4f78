use Rattle.pp_tally.proofs.printing.finish.Goals as goal

pub returns : goal.returns
returns g c = c.end.ensures _ _ (rw c.in-Ok.ensures at c.print_text-printed.ensures)
