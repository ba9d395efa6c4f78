use Rattle.pp_devices.proofs.Tellings.{none_sent, more_sent}
use Rattle.pp_devices.proofs.telling.write_text.Goals as goal

pub loop-rest-init : goal.loop-rest-init
loop-rest-init g c = none_sent _ _ _ _ c.args.text.now

pub loop-rest-preserved : goal.loop-rest-preserved
loop-rest-preserved g c = more_sent _ _ _ _ _ _ c.loop-rest.rest.now
    c.args.text.now c.in-Ok.count c.in-Ok.ensures.bound c.loop-rest.invariant
    c.in-Ok.ensures.bytes c.in-Ok.ensures.cause.kept c.in-Ok.ensures.made
