use Rattle.std.proofs.Common.{◌≡◌, ◌<◌, ◌-◌, ℕ, true}
use Rattle.pp_unlink.proofs.Pigeons.{is_guard}
use Rattle.pp_unlink.proofs.unlinking.free_word.Given as goal

abbrev pub invariant-loop-word : goal.invariant-loop-word
invariant-loop-word l = (j : ℕ) → j < l.word → is_guard j l.chains ≡ true

abbrev pub decreases-loop-word : goal.decreases-loop-word
decreases-loop-word l = 4 - l.word
