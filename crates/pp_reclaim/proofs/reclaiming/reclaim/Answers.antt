use Rattle.std.proofs.Common.{length, refl}
use Rattle.pp_base.specs.Passes.{known, view}
use Rattle.pp_reclaim.proofs.Flushing.{flushed_none, swept_none}
use Rattle.pp_reclaim.proofs.reclaiming.reclaim.Goals as goal

pub returns-clause-reclaims : goal.returns-clause-reclaims
returns-clause-reclaims g c = let z = c.args.pool.now.layout in let start = c.args.pass.now.seat in
    let flushed = c.flush.new.pass in let done = c.scan.new.pass in record {
      between = flushed.seat;
      lists = flushed.purse;
      flushed = c.flush.ensures.flushed;
      free = c.flush.ensures.purse;
      swept = c.scan.ensures.swept;
      none = swept_none z c.scan.result flushed.seat done.seat flushed.purse done.purse c.scan.ensures.swept
          (flushed_none g.S.Shape.SIDES z (length (known start).chains) (view start) (view flushed.seat) refl c.flush.ensures.flushed);
    }
