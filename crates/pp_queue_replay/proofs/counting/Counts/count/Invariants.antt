use Rattle.std.proofs.Common.{◌≡◌, ◌+◌, take}
use Rattle.std.specs.Prelude.{count_by}
use Rattle.pp_queue_replay.specs.Text.{is_full, is_lost}
use Rattle.pp_queue_replay.proofs.counting.Counts.count.Given as goal

abbrev pub invariant-loop-answer : goal.invariant-loop-answer
invariant-loop-answer l = record {
  full : l.self.full ≡ l.initial.self.full + count_by is_full (take l.answer-index l.answers);
  lost : l.self.lost ≡ l.initial.self.lost + count_by is_lost (take l.answer-index l.answers);
}
