use Rattle.std.proofs.Common.{arith, sym, ◌∙◌}
use Rattle.std.proofs.lemmas.Bool.{true≢false}
use Rattle.std.proofs.lemmas.Option.{slice_get_within, slice_get-get_or}
use Rattle.pp_check.proofs.Standing.{left_out, listed_more}
use Rattle.pp_check.proofs.placing.leaves_out.Goals as goal
use Rattle.pp_check.proofs.placing.leaves_out.Goals.{else-change-caller-via-then-change-caller+else-not-has_change}
use Rattle.pp_check.proofs.placing.leaves_out.Goals.{else-change-caller-via-else-change-caller}

pub loop-at-preserved : goal.loop-at-preserved
loop-at-preserved c =
    elim c.else-change-caller.branch [
      | else-change-caller-via-then-change-caller+else-not-has_change w ↦
          listed_more c.args.log.now c.args.caller c.args.list.now c.loop-at.at _ c.loop-at-test.true c.loop-at.invariant
          (λ its. w.has_change.ensures.0 w.if-not-has_change.false)
      | else-change-caller-via-else-change-caller w ↦
          listed_more c.args.log.now c.args.caller c.args.list.now c.loop-at.at _ c.loop-at-test.true c.loop-at.invariant
          (λ its. absurd (w.if-change-caller.false its))
    ]

pub returns-then-not-has_change : goal.returns-then-not-has_change
returns-then-not-has_change c =
    left_out c.args.log.now c.args.caller c.args.list.now c.requires c.loop-at.at _
    (slice_get-get_or c.args.log.now c.loop-at.at _ c.loop-at-test.true) c.if-change-caller.true
    (λ is. true≢false (sym (c.has_change.ensures.1 is) ∙ c.if-not-has_change.true))

pub returns : goal.returns
returns c = λ p d at its. c.loop-at.invariant p d (omega (arith, slice_get_within c.args.log.now p d at)) at its
