use Rattle.pp_base.specs.Passes.{view}
use Rattle.pp_seek.proofs.Going.{looked_first, looked_again}
use Rattle.pp_seek.proofs.turn.look_at_head.Goals as goal

pub returns-then-fresh-clause-looked : goal.returns-then-fresh-clause-looked
returns-then-fresh-clause-looked c = looked_first c.args.pool.now.layout c.args.call c.args.fresh c.begin.result
    (view c.args.pass.now.seat)
    (view c.begin.new.pass.seat) c.if-fresh.true c.begin.ensures.begins

pub returns-clause-looked : goal.returns-clause-looked
returns-clause-looked c = looked_again c.args.pool.now.layout c.args.call c.args.fresh c.look_again.result
    (view c.args.pass.now.seat)
    (view c.look_again.new.pass.seat) c.if-fresh.false c.requires.head c.look_again.ensures.looks
