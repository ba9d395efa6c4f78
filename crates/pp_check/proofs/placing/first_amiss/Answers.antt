use Rattle.std.proofs.Common.{arith}
use Rattle.pp_check.proofs.Standing.{in_place_more, in_place_first}
use Rattle.pp_check.proofs.placing.first_amiss.Goals as goal
use Rattle.pp_check.proofs.placing.first_amiss.Goals.{else-position-gt0-via-then-position-gt0+else-not-follows}
use Rattle.pp_check.proofs.placing.first_amiss.Goals.{else-position-gt0-via-else-position-gt0}

pub loop-position-preserved : goal.loop-position-preserved
loop-position-preserved c =
    elim c.else-position-gt0.branch [
      | else-position-gt0-via-then-position-gt0+else-not-follows w ↦
          in_place_more c.args.log.now c.args.caller c.args.list.now c.loop-position.position _ _ c.loop-position-test.true
          c.loop-position.invariant
          (c.fits.ensures.0 c.if-not-fits.false) (λ some. w.follows.ensures.0 w.if-not-follows.false)
      | else-position-gt0-via-else-position-gt0 w ↦
          in_place_first c.args.log.now c.args.caller c.args.list.now c.loop-position.position _ c.loop-position-test.true
          w.if-position-gt0.false
          c.loop-position.invariant (c.fits.ensures.0 c.if-not-fits.false)
    ]

pub returns : goal.returns
returns c = λ n s within at. c.loop-position.invariant n s (omega arith) at
