use Rattle.pp_trace.proofs.Tallies.{HasRoom-next, counts_of-next}
use Rattle.pp_trace.proofs.Counts.of.Goals as goal

pub count_all-requires : goal.count_all-requires
count_all-requires c =
    HasRoom-next (λ answers. answers.items) c.args.lists.now c.loop-answers.answers-index c.answers-item.result c.deref.result.now
    c.loop-answers.counts c.loop-answers-test.true c.answers-item.is c.deref.ensures.value c.loop-answers.invariant c.requires

pub loop-answers-preserved : goal.loop-answers-preserved
loop-answers-preserved c =
    counts_of-next (λ answers. answers.items) c.args.lists.now c.loop-answers.answers-index c.answers-item.result c.deref.result.now
    c.loop-answers.counts c.count_all.new.self c.loop-answers-test.true c.answers-item.is c.deref.ensures.value c.loop-answers.invariant
    c.count_all.ensures
