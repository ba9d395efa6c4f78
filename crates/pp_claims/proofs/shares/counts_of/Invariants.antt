use Rattle.std.proofs.Common.{◌≡◌, map}
use Rattle.pp_claims.proofs.shares.counts_of.Given as goal

-- the counts of the shares that were taken so far
abbrev pub invariant-loop-share : goal.invariant-loop-share
invariant-loop-share l = l.counts.items ≡ map (λ s. s.counts) l.yielded
