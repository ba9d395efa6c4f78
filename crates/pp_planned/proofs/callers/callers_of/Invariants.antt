use Rattle.std.proofs.Common.{◌≡◌, ◌≤◌, map, length, vec_capacity, Some, None, [], All}
use Rattle.pp_planned.proofs.callers.callers_of.Given as goal

-- the callers so far have the passes and the lists that were taken so far
abbrev pub invariant-loop-pass : goal.invariant-loop-pass
invariant-loop-pass g l = record {
  passes : map (λ c. c.pass) l.callers.items ≡ map (λ p. Some p.0) l.yielded;
  calls : map (λ c. c.calls) l.callers.items ≡ map (λ p. p.1) l.yielded;
  idle : All (λ c. (c.call ≡ None) × (c.next ≡ 0) × (c.mark ≡ 0)) l.callers.items;
  empty : All (λ c. c.answers.items ≡ []) l.callers.items;
  room : All (λ c. length c.calls.items ≤ vec_capacity c.answers) l.callers.items;
}
