use Rattle.std.proofs.Common.{sym, ap, ◌∙◌, subst, arith}
use Rattle.pp_link.specs.Links.{bit}
use Rattle.pp_base.specs.Passes.{view}
use Rattle.pp_seek.specs.declared.keeping.Words.{Words}
use Rattle.pp_seek.specs.Keeping.{IsOf}
use Rattle.pp_seek.proofs.Coming.{broken, near, still_empty}
use Rattle.pp_seek.proofs.LoneSpots.{sees_of}
use Rattle.pp_seek.proofs.LoneNear.{first_valid, lone_near}
use Rattle.pp_seek.proofs.turn.approach.Goals as goal

pub returns-then-invalid-clause-approaches : goal.returns-then-invalid-clause-approaches
returns-then-invalid-clause-approaches c = broken c.args.pool.now.layout _ _ c.look-first.result (view c.args.pass.now.seat)
    (view c.look-first.new.pass.seat)
    c.look-first.ensures.looks (omega arith) (sym c.unpacked-link.ensures.invalid ∙ ap bit (sym c.invalid.ensures ∙ c.if-invalid.true))

pub announce-requires-clause-free : goal.announce-requires-clause-free
announce-requires-clause-free c = (still_empty c.args.spot _ _ c.look-first.result (view c.args.pass.now.seat)
    (view c.look-first.new.pass.seat)
    c.requires.stands c.args.pass.now.keeping.pass.five c.look-first.ensures.looks c.other_than-word.result
    c.other_than-word.ensures.low
    (subst (λ (w : Words). IsOf w c.other_than-word.result → ⊥) c.words.ensures c.other_than-word.ensures.other)).free

pub returns-clause-approaches : goal.returns-clause-approaches
returns-clause-approaches c = near c.args.pool.now.layout c.args.key c.args.spot c.side_of-side.result c.look-first.result
    c.unpacked-link.result
    c.other_than-word.result c.number.result _ (view c.args.pass.now.seat) (view c.look-first.new.pass.seat)
    (view c.announce.new.pass.seat)
    c.requires.stands c.requires.call c.side_of-side.ensures c.args.pass.now.keeping.pass.five
    c.look-first.new.pass.keeping.pass.five
    c.look-first.ensures.looks c.unpacked-link.ensures.word (sym c.unpacked-link.ensures.invalid
    ∙ ap bit (sym c.invalid.ensures ∙ c.if-invalid.false))
    c.other_than-word.ensures.low (subst (λ (w : Words). IsOf w c.other_than-word.result
    → ⊥) c.words.ensures c.other_than-word.ensures.other)
    (c.number.ensures ∙ c.unpacked-link.ensures.number) c.announce.ensures.made

pub returns-then-invalid-clause-alone : goal.returns-then-invalid-clause-alone
returns-then-invalid-clause-alone c = λ lone. let z = c.args.pool.now.layout in let old = c.args.pass.now in
    let new = c.look-first.new.pass in
    let bad = sym c.unpacked-link.ensures.invalid ∙ ap bit (sym c.invalid.ensures ∙ c.if-invalid.true) in
    let ok = first_valid z c.args.spot c.side_of-side.result c.look-first.result (view old.seat) (view new.seat)
    (sees_of z old.seat _ _ _ _ old.keeping old.run c.requires.fits.sizes)
    (sees_of z new.seat _ _ _ _ new.keeping new.run (c.look-first.ensures.same.sizes ∙ c.requires.fits.sizes))
    5 c.requires.stands lone c.look-first.ensures.looks in absurd (omega arith)

pub returns-clause-alone : goal.returns-clause-alone
returns-clause-alone c = λ lone. let z = c.args.pool.now.layout in let old = c.args.pass.now in let look = c.look-first.new.pass in
    let new = c.announce.new.pass in let sizes1 = c.look-first.ensures.same.sizes ∙ c.requires.fits.sizes in
    lone_near z c.args.key c.args.spot c.side_of-side.result c.look-first.result c.unpacked-link.result c.other_than-word.result
    c.number.result _ 5 (view old.seat) (view look.seat) (view new.seat)
    (sees_of z old.seat _ _ _ _ old.keeping old.run c.requires.fits.sizes) (sees_of z look.seat _ _ _ _ look.keeping look.run sizes1)
    (sees_of z new.seat _ _ _ _ new.keeping new.run (c.announce.ensures.same.sizes ∙ sizes1)) c.requires.stands old.keeping.pass.five
    look.keeping.pass.five c.look-first.ensures.looks c.unpacked-link.ensures.word c.other_than-word.ensures.low
    (subst (λ (w : Words). IsOf w c.other_than-word.result → ⊥) c.words.ensures c.other_than-word.ensures.other) c.announce.ensures.made
    (returns-clause-approaches c) lone
