use Rattle.pp_poll.proofs.telling.tell_plan.Goals as goal

pub returns : goal.returns
returns g c = rw (c.as_bytes.ensures.value, c.as_str.ensures.value, c.plan_text-line.ensures) at c.tell_line.ensures
