use Rattle.std.proofs.Common.{◌≡◌, ◌<◌, ℕ, map, length, get_or}
use Rattle.pp_claims.specs.Claimed.{sum_at}
use Rattle.pp_claims.proofs.totals.total_of.Given as goal

-- the sums at the values so far
abbrev pub invariant-loop-value : goal.invariant-loop-value
invariant-loop-value l = record {
  long : length l.total.items ≡ l.value;
  each : (b : ℕ) → b < l.value → get_or l.total.items b 0 ≡ sum_at (map (λ v. v.items) l.counts) l.rest b;
}
