use Rattle.std.proofs.Common.{◌≡◌, map, take}
use Rattle.pp_trace.specs.Text.{counts_of}
use Rattle.pp_trace.proofs.Counts.of.Given as goal

abbrev pub invariant-loop-answers : goal.invariant-loop-answers
invariant-loop-answers l = l.counts ≡ counts_of (map (λ answers. answers.items) (take l.answers-index l.lists))
