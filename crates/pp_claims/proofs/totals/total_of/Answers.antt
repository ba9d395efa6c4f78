use Rattle.std.proofs.Common.{arith, [], ◌∷◌, length, map, get_or, ap, ◌∙◌, length-append}
use Rattle.pp_claims.specs.Claimed.{sum_at}
use Rattle.pp_claims.proofs.Sums.{sums_more}
use Rattle.pp_claims.proofs.totals.total_of.Goals as goal

pub loop-value-preserved : goal.loop-value-preserved
loop-value-preserved c = record {
  long = let more = ap length c.in_ok-append.ensures ∙ length-append c.loop-value.total.items (c.sum_of.result ∷ []) in
      omega (arith, c.loop-value.invariant.long, more);
  each = λ b low. ap (λ l. get_or l b 0) c.in_ok-append.ensures ∙ sums_more (sum_at (map (λ v. v.items) c.args.counts.now) c.args.rest.now)
      c.loop-value.total.items c.loop-value.value c.sum_of.result c.loop-value.invariant.long c.loop-value.invariant.each
      c.sum_of.ensures b low;
}
