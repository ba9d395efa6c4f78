use Rattle.std.proofs.Common.{◌≡◌, [], map, replicate}
use Rattle.pp_trace.proofs.made.with_room.Given as goal

abbrev pub invariant-loop : goal.invariant-loop
invariant-loop l = map (λ calls. calls.items) l.lists.items ≡ replicate l.counter []
