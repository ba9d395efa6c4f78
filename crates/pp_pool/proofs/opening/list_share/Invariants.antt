use Rattle.std.proofs.Common.{◌≡◌, ◌≤◌, vec_capacity}
use Rattle.pp_rule.specs.Opening.{numbers_from}
use Rattle.pp_pool.proofs.opening.list_share.Given as goal

abbrev pub invariant-loop-count : goal.invariant-loop-count
invariant-loop-count l = (l.free.items ≡ numbers_from l.first l.count) × (vec_capacity l.fn.free ≤ vec_capacity l.free)
