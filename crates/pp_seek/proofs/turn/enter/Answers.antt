use Rattle.pp_base.specs.Passes.{view}
use Rattle.pp_seek.proofs.Going.{enters}
use Rattle.std.proofs.Common.{refl, ◌∙◌}
use Rattle.pp_seek.proofs.LoneSpots.{sees_of}
use Rattle.pp_seek.proofs.LoneEnters.{lone_enters}
use Rattle.pp_seek.proofs.turn.enter.Goals as goal

pub returns-clause-enters : goal.returns-clause-enters
returns-clause-enters c = enters c.args.pool.now.layout c.args.call c.args.fresh c.come_to_root.result c.read-key.result _ _
    (view c.args.pass.now.seat)
    (view c.look_at_head.new.pass.seat) (view c.announce.new.pass.seat) (view c.come_to_root.new.pass.seat)
    (view c.read-key.new.pass.seat)
    c.requires.head c.look_at_head.ensures.looked c.look_at_head.new.pass.keeping.pass.five c.announce.ensures.made
    c.come_to_root.ensures.comes
    c.read-key.ensures.read.made (c.read-key.ensures.read.key refl)

pub returns-clause-alone : goal.returns-clause-alone
returns-clause-alone c = λ lone. let z = c.args.pool.now.layout in let old = c.args.pass.now in let last = c.read-key.new.pass in
    lone_enters z c.args.call c.args.fresh c.read-key.result (view old.seat) (view last.seat)
    (sees_of z old.seat _ _ _ _ old.keeping old.run c.requires.fits.sizes)
    (sees_of z last.seat _ _ _ _ last.keeping last.run (c.read-key.ensures.same.sizes ∙ (c.come_to_root.ensures.same.sizes
    ∙ (c.announce.ensures.same.sizes ∙ (c.look_at_head.ensures.same.sizes ∙ c.requires.fits.sizes))))) c.requires.head.pair
    (returns-clause-enters c) lone
