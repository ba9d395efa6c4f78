use Rattle.std.proofs.Common.{◌≡◌, ◌≤◌, map, length, vec_capacity, [], All}
use Rattle.pp_running.proofs.jobs.jobs_of.Given as goal

-- the jobs so far have the passes and the lists that were taken so far
abbrev pub invariant-loop-pass : goal.invariant-loop-pass
invariant-loop-pass g l = record {
  passes : map (λ job. job.pass) l.jobs.items ≡ map (λ p. p.0) l.yielded;
  calls : map (λ job. job.calls) l.jobs.items ≡ map (λ p. p.1) l.yielded;
  empty : All (λ job. job.answers.items ≡ []) l.jobs.items;
  room : All (λ job. length job.calls.items ≤ vec_capacity job.answers) l.jobs.items;
}
