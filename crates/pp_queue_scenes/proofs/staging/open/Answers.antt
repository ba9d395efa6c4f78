use Rattle.pp_queue_scenes.proofs.Staying.{ready_new}
use Rattle.pp_queue_scenes.proofs.staging.open.Goals as goal

pub returns-clause-ready : goal.returns-clause-ready
returns-clause-ready g c = let s = c.in-Ok.ensures in
    ready_new c.in-Ok.made.0 c.args.callers c.args.records c.in-Ok.made.1.items s.sizes s.count s.ready s.fresh
