use Rattle.std.proofs.Common.{◌≡◌, map, take}
use Rattle.pp_claims.specs.Claimed.{sum_at}
use Rattle.pp_claims.proofs.totals.sum_of.Given as goal

-- the sum of the tables so far
abbrev pub invariant-loop-counted : goal.invariant-loop-counted
invariant-loop-counted l = l.sum ≡ sum_at (map (λ v. v.items) (take l.counted-index l.counts)) l.rest l.value
