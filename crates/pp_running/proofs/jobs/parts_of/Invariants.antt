use Rattle.std.proofs.Common.{◌≡◌, map}
use Rattle.pp_running.proofs.jobs.parts_of.Given as goal

-- the parts so far are those of the jobs that were taken so far
abbrev pub invariant-loop-job : goal.invariant-loop-job
invariant-loop-job g l = record {
  passes : l.passes.items ≡ map (λ job. job.pass) l.yielded;
  answers : l.answers.items ≡ map (λ job. job.answers) l.yielded;
}
