use Rattle.std.proofs.Common.{◌≡◌, map, take}
use Rattle.std.specs.Prelude.{string_bytes}
use Rattle.pp_queue_replay.specs.Replay.{and_list}
use Rattle.pp_queue_replay.proofs.attempt.with_list.Given as goal

abbrev pub invariant-loop-word : goal.invariant-loop-word
invariant-loop-word l = map string_bytes l.all.items ≡ and_list (map string_bytes (take l.word-index l.words))
