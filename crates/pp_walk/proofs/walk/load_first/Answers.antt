-- The first load of a turn, of a call's first turn or of a later one.
use Rattle.pp_base.specs.Passes.{known, view}
use Rattle.pp_walk.proofs.Standing.{standing_of, stands_at, readable}
use Rattle.pp_walk.proofs.Loading.{loads_fresh, loads_later, under_false}
use Rattle.pp_walk.proofs.walk.load_first.Goals as goal

pub reach-requires-clause-going : goal.reach-requires-clause-going
reach-requires-clause-going c = (under_false c.args.pool.now.layout (known c.args.pass.now.seat) c.args.walk c.requires.walk
    c.if-walk.false).going

pub reach-requires-clause-readable : goal.reach-requires-clause-readable
reach-requires-clause-readable c = let z = c.args.pool.now.layout in let q = known c.args.pass.now.seat in let walk = c.args.walk in
    readable z q walk.call walk.at walk.anchor
    (standing_of z q walk.call walk.at walk.anchor (under_false z q walk c.requires.walk c.if-walk.false))

pub reach-requires-clause-stands : goal.reach-requires-clause-stands
reach-requires-clause-stands c = let z = c.args.pool.now.layout in let q = known c.args.pass.now.seat in let walk = c.args.walk in
    stands_at z q walk.call walk.at walk.anchor
    (standing_of z q walk.call walk.at walk.anchor (under_false z q walk c.requires.walk c.if-walk.false))

pub returns-then-walk-clause-loads : goal.returns-then-walk-clause-loads
returns-then-walk-clause-loads c = loads_fresh c.args.pool.now.layout c.args.walk c.begin.result (view c.args.pass.now.seat)
    (view c.begin.new.pass.seat) c.requires.walk c.if-walk.true c.begin.ensures.begins

pub returns-clause-loads : goal.returns-clause-loads
returns-clause-loads c = loads_later c.args.pool.now.layout c.args.walk c.reach.result (view c.args.pass.now.seat)
    (view c.reach.new.pass.seat) c.requires.fits.sizes c.requires.walk c.if-walk.false c.reach.ensures.reached
