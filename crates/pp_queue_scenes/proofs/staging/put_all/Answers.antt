use Rattle.pp_queue_scenes.proofs.Staying.{ready_at, pass_at, ready_set}
use Rattle.pp_queue_scenes.proofs.staging.put_all.Goals as goal

pub put-requires-clause-ready : goal.put-requires-clause-ready
put-requires-clause-ready g c = ready_at c.args.queue.now c.loop-value.passes.items c.args.caller c.index_mut-pass.result.now
    c.loop-value.invariant c.requires.caller c.index_mut-pass.ensures.value

pub loop-value-preserved : goal.loop-value-preserved
loop-value-preserved g c = let passes = c.loop-value.passes.items in let was = c.index_mut-pass.result.now in
    let at = pass_at c.args.queue.now passes c.args.caller was c.loop-value.invariant c.requires.caller c.index_mut-pass.ensures.value in
    ready_set c.args.queue.now passes c.args.caller was c.put.new.pass c.loop-value.invariant at c.put.ensures.ready
    c.put.ensures.answered.grew.caller
