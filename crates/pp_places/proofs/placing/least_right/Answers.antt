use Rattle.std.proofs.Common.{arith, sym, ◌∙◌}
use Rattle.std.proofs.lemmas.Bool.{true≢false}
use Rattle.pp_places.proofs.Listed.{Wrong, before_more, here_more}
use Rattle.pp_places.proofs.placing.least_right.Goals as goal
use Rattle.pp_places.proofs.placing.least_right.Goals.{else-stale-via-then-stale+else-is_right, else-stale-via-else-stale}

pub loop-place-preserved : goal.loop-place-preserved
loop-place-preserved c =
    let wrong : Wrong c.args.log.now c.args.call.now c.args.reply.now c.loop-place.place = elim c.else-stale.branch [
      | else-stale-via-then-stale+else-is_right w ↦ λ right.
          true≢false (sym (w.is_right.ensures.1 right) ∙ w.if-is_right.false)
      | else-stale-via-else-stale w ↦ c.loop-place.invariant.here w.if-stale.false
    ] in
    record {
      from_mark = let f = c.loop-place.invariant.from_mark in omega (arith, f);
      before = before_more c.args.log.now c.args.call.now c.args.reply.now c.args.mark c.loop-place.place
          c.loop-place.invariant.before wrong;
      here = here_more c.args.log.now c.args.call.now c.args.reply.now c.loop-place.place _ c.key_of.result c.key_of-key.result
          c.loop-place-test.true c.key_of.ensures c.key_of-key.ensures wrong;
    }
