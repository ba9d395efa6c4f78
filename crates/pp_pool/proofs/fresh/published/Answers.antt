use Rattle.std.proofs.Common.{arith}
use Rattle.pp_pool.proofs.Taking.{free_short}
use Rattle.pp_pool.proofs.fresh.published.Goals as goal

pub overflow_sub-pass : goal.overflow_sub-pass
overflow_sub-pass g c = let pass = c.args.pass.now in let untold = c.requires.untold in
    let short = free_short g.S.Shape.SENTINELS g.S.Shape.SIDES pass.seat _ _ _ pass.purse pass.keeping in omega arith
