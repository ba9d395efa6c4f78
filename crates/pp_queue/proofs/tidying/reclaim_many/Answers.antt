use Rattle.std.proofs.Common.{refl}
use Rattle.pp_base.specs.Passes.{view}
use Rattle.pp_queue.proofs.Idling.{idles_none, idles_reclaimed}
use Rattle.pp_queue.proofs.tidying.reclaim_many.Goals as goal
use Rattle.pp_queue.proofs.Finding.{up_reclaimed}

pub returns-then-many-clause-idles : goal.returns-then-many-clause-idles
returns-then-many-clause-idles c = let z = c.args.pool.now.layout in
    idles_reclaimed z.passes z _ c.args.pass.now.seat c.reclaim.new.pass.seat c.args.pass.now.purse c.reclaim.new.pass.purse
    c.reclaim.ensures.reclaims

pub returns-else-many-clause-idles : goal.returns-else-many-clause-idles
returns-else-many-clause-idles c = idles_none c.args.pool.now.layout.passes (view c.args.pass.now.seat)
    (view c.args.pass.now.seat) refl

pub returns-then-many-clause-up : goal.returns-then-many-clause-up
returns-then-many-clause-up c = up_reclaimed c.args.pool.now.layout _ c.args.pass.now.seat c.reclaim.new.pass.seat
    c.args.pass.now.purse c.reclaim.new.pass.purse c.reclaim.ensures.reclaims

pub returns-else-many-clause-up : goal.returns-else-many-clause-up
returns-else-many-clause-up c = λ up. up
