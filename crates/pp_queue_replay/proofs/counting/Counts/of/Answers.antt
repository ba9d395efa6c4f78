use Rattle.pp_queue_replay.specs.Text.{is_full, is_lost}
use Rattle.pp_queue_replay.proofs.Tallies.{all_fit}
use Rattle.pp_queue_replay.proofs.counting.Counts.of.Goals as goal

pub count-requires-clause-full : goal.count-requires-clause-full
count-requires-clause-full c =
    all_fit is_full (λ answers. answers.items) c.args.lists.now c.loop-answers.answers-index c.answers-item.result c.deref.result.now
    c.loop-answers.counts.full c.loop-answers-test.true c.answers-item.is c.deref.ensures.value c.loop-answers.invariant.full c.requires

pub count-requires-clause-lost : goal.count-requires-clause-lost
count-requires-clause-lost c =
    all_fit is_lost (λ answers. answers.items) c.args.lists.now c.loop-answers.answers-index c.answers-item.result c.deref.result.now
    c.loop-answers.counts.lost c.loop-answers-test.true c.answers-item.is c.deref.ensures.value c.loop-answers.invariant.lost c.requires
