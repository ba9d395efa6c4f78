use Rattle.pp_poll.proofs.telling.tell_way.Goals as goal

pub returns-in-BadPlan : goal.returns-in-BadPlan
returns-in-BadPlan g c = rw c.in-BadPlan.is c.tell_plan.ensures
