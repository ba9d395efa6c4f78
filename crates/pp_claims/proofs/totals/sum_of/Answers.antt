use Rattle.std.proofs.Common.{arith, ap}
use Rattle.std.specs.Prelude.{get_or}
use Rattle.pp_claims.proofs.Sums.{sum_more, sum_more_le}
use Rattle.pp_claims.proofs.totals.sum_of.Goals as goal

pub overflow_add-sum : goal.overflow_add-sum
overflow_add-sum c =
    let most = sum_more_le c.args.counts.now c.args.rest.now c.args.value c.loop-counted.counted-index c.counted-item.result
    c.counted-item.is c.loop-counted-test.true in
    let table = ap (λ l. get_or l c.args.value 0) c.deref.ensures.value in
    omega (arith, most, table, c.requires, c.loop-counted.invariant, c.count_at-sum-in-loop-counted.ensures)

pub loop-counted-preserved : goal.loop-counted-preserved
loop-counted-preserved c =
    let more = sum_more c.args.counts.now c.args.rest.now c.args.value c.loop-counted.counted-index c.counted-item.result c.counted-item.is
    c.loop-counted-test.true in
    let table = ap (λ l. get_or l c.args.value 0) c.deref.ensures.value in
    omega (arith, more, table, c.loop-counted.invariant, c.count_at-sum-in-loop-counted.ensures)
