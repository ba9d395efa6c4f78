use Rattle.pp_poll.proofs.telling.tell_failure.Goals as goal

pub returns : goal.returns
returns g c = rw c.as_bytes.ensures.value at c.tell_line.ensures
