use Rattle.std.proofs.Common.{◌≡◌, ◌≤◌, ◌++◌, replicate, vec_capacity}
use Rattle.pp_pool.proofs.opening.add_zeros.Given as goal

abbrev pub invariant-loop : goal.invariant-loop
invariant-loop l = (l.words.items ≡ l.fn.words.items ++ replicate l.counter 0) × (vec_capacity l.fn.words ≤ vec_capacity l.words)
