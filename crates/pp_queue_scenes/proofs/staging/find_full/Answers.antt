use Rattle.pp_queue_scenes.proofs.Staying.{ready_at, pass_at, ready_set}
use Rattle.pp_queue_scenes.proofs.staging.find_full.Goals as goal

pub put-requires-clause-ready : goal.put-requires-clause-ready
put-requires-clause-ready g c = ready_at c.args.queue.now c.args.passes.now.items c.args.caller c.index_mut-pass.result.now
    c.requires.ready c.requires.caller c.index_mut-pass.ensures.value

pub returns : goal.returns
returns g c = let passes = c.args.passes.now.items in let was = c.index_mut-pass.result.now in
    let at = pass_at c.args.queue.now passes c.args.caller was c.requires.ready c.requires.caller c.index_mut-pass.ensures.value in
    record {
      ready = ready_set c.args.queue.now passes c.args.caller was c.put.new.pass c.requires.ready at c.put.ensures.ready
          c.put.ensures.answered.grew.caller;
    }
