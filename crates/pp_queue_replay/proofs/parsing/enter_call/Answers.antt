use Rattle.pp_queue_replay.proofs.Growth.{with_call-set}
use Rattle.pp_queue_replay.proofs.parsing.enter_call.Goals as goal

pub returns : goal.returns
returns c = with_call-set (λ v. v.items) c.args.lists.now.items c.args.caller _ _ c.args.call c.requires c.index_mut.ensures.value
    c.in_ok-push.ensures.items
