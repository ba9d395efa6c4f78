use Rattle.std.proofs.Common.{refl, sym, ◌∙◌}
use Rattle.std.specs.Prelude.{nat_eq}
use Rattle.pp_base.specs.Passes.{known, view}
use Rattle.pp_seek.proofs.Ending.{ended_back, ended_held, ends_there, may_end}
use Rattle.pp_trees.specs.Edges.{end_step}
use Rattle.pp_seek.proofs.LoneSpots.{sees_of}
use Rattle.pp_seek.proofs.LoneComes.{second_same}
use Rattle.pp_seek.proofs.LoneEnds.{lone_ends}
use Rattle.pp_seek.proofs.turn.end_at.Goals as goal

pub returns-then-second-first-clause-ended : goal.returns-then-second-first-clause-ended
returns-then-second-first-clause-ended c = ended_back c.args.pool.now.layout c.args.key c.args.spot c.args.next
    c.end-second.result (view c.args.pass.now.seat)
    (view c.end-second.new.pass.seat) (view c.lose.new.pass.seat) (c.end-second.ensures.ends.other c.if-second-first.true)
    (λ e. c.if-second-first.true (e ∙ sym c.word-first.ensures.word)) c.lose.result c.lose.ensures.lost

pub read-here-requires-clause-held : goal.read-here-requires-clause-held
read-here-requires-clause-held c = let pass = c.args.pass.now in let t = c.end-second.ensures.ends.same c.if-second-first.false in
    ended_held c.args.next.word _ _ _ t.0 t.1.0 (view pass.seat)
    (view c.end-second.new.pass.seat) c.requires.near.low pass.keeping.pass.five t.1.1

pub returns-clause-ended : goal.returns-clause-ended
returns-clause-ended c = let pass = c.args.pass.now in let t = c.end-second.ensures.ends.same c.if-second-first.false in
    ends_there c.args.pool.now.layout c.args.key c.args.spot c.in-Some.above c.args.next c.word-first.result t.0
    c.read-here.result _ t.1.0
    (nat_eq c.read-here.result c.args.key) (view pass.seat) (view c.end-second.new.pass.seat)
    (view c.read-here.new.pass.seat) c.requires.near c.in-Some.is
    pass.keeping.pass.five c.word-first.ensures.word c.requires.leaf t.1.1 c.read-here.ensures.read.made
    (c.read-here.ensures.read.key refl) refl

pub end-second-requires-clause-may : goal.end-second-requires-clause-may
end-second-requires-clause-may c = may_end c.args.pool.now.layout c.args.key c.args.spot c.args.next c.word-first.result
    (known c.args.pass.now.seat) c.requires.near c.word-first.ensures.word c.requires.leaf

pub returns-then-second-first-clause-alone : goal.returns-then-second-first-clause-alone
returns-then-second-first-clause-alone c = λ lone. let z = c.args.pool.now.layout in let old = c.args.pass.now in
    let new = c.end-second.new.pass in
    absurd (c.if-second-first.true (second_same z c.args.key c.args.spot c.args.next (view old.seat)
    (sees_of z old.seat _ _ _ _ old.keeping old.run c.requires.fits.sizes) c.requires.near lone end_step c.end-second.result _
    (view new.seat) (sees_of z new.seat _ _ _ _ new.keeping new.run (c.end-second.ensures.same.sizes ∙ c.requires.fits.sizes))
    (c.end-second.ensures.ends.other c.if-second-first.true) refl ∙ sym c.word-first.ensures.word))

pub returns-clause-alone : goal.returns-clause-alone
returns-clause-alone c = λ lone. let z = c.args.pool.now.layout in let old = c.args.pass.now in let new = c.end-second.new.pass in
    let last = c.read-here.new.pass in let t = c.end-second.ensures.ends.same c.if-second-first.false in
    let sizes1 = c.end-second.ensures.same.sizes ∙ c.requires.fits.sizes in
    lone_ends z c.args.key c.args.spot c.in-Some.above c.args.next c.word-first.result t.0 c.read-here.result _ _ t.1.0
    (nat_eq c.read-here.result c.args.key) (view old.seat) (view new.seat) (view last.seat)
    (sees_of z old.seat _ _ _ _ old.keeping old.run c.requires.fits.sizes) (sees_of z new.seat _ _ _ _ new.keeping new.run sizes1)
    (sees_of z last.seat _ _ _ _ last.keeping last.run (c.read-here.ensures.same.sizes ∙ sizes1)) c.requires.near c.in-Some.is
    old.keeping.pass.five c.word-first.ensures.word t.1.1 c.read-here.ensures.read.made lone
