use Rattle.std.proofs.Common.{◌≡◌, ◌++◌, replicate}
use Rattle.pp_plans.proofs.parsing.enter_turns.Given as goal

abbrev pub invariant-loop : goal.invariant-loop
invariant-loop l = l.plan.items ≡ l.fn.plan.items ++ replicate l.counter l.caller
