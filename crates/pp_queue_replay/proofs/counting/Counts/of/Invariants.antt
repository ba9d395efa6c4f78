use Rattle.std.proofs.Common.{◌≡◌, map, take}
use Rattle.pp_trace.specs.Text.{count_all}
use Rattle.pp_queue_replay.specs.Text.{is_full, is_lost}
use Rattle.pp_queue_replay.proofs.counting.Counts.of.Given as goal

abbrev pub invariant-loop-answers : goal.invariant-loop-answers
invariant-loop-answers l = record {
  full : l.counts.full ≡ count_all is_full (map (λ answers. answers.items) (take l.answers-index l.lists));
  lost : l.counts.lost ≡ count_all is_lost (map (λ answers. answers.items) (take l.answers-index l.lists));
}
