use Rattle.pp_tree_calls.proofs.Idling.{reads_idle}
use Rattle.pp_tree_calls.proofs.stored.stored.Goals as goal

pub returns-clause-idles : goal.returns-clause-idles
returns-clause-idles c = reads_idle c.args.pool.now.layout c.args.word c.value.result c.args.pass.now.seat c.value.new.pass.seat
    c.value.ensures.read
