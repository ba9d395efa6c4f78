use Rattle.std.proofs.Common.{◌≡◌, ◌⊎◌, ℕ, ◌<◌}
use Rattle.pp_walk.proofs.walk.spare.Given as goal

abbrev pub invariant-loop-word : goal.invariant-loop-word
invariant-loop-word l = (k : ℕ) → k < l.word → (k ≡ l.a) ⊎ ((k ≡ l.b) ⊎ (k ≡ l.c))
