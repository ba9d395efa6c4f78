use Rattle.std.proofs.Common.{inl, inr, ⊎_elim, refl, sym, ◌∙◌, subst}
use Rattle.pp_seek.specs.declared.keeping.Words.{Words}
use Rattle.pp_seek.specs.declared.seek.Spot.{Spot}
use Rattle.pp_seek.specs.Keeping.{KeepsOnly}
use Rattle.pp_seek.specs.Seeking.{words_of, CameOn}
use Rattle.pp_seek.specs.declared.turn.Down.TheVariants as downs
use Rattle.pp_seek.proofs.Going.{path_ends}
use Rattle.pp_seek.proofs.Further.{came_back, goes_back, came_held, comes_further, confirmed_word}
use Rattle.pp_rule.specs.Orders.{confirm_step}
use Rattle.pp_base.specs.Passes.{view}
use Rattle.pp_seek.specs.Lone.{LoneSpot}
use Rattle.pp_seek.proofs.LoneSpots.{sees_of}
use Rattle.pp_seek.proofs.LoneComes.{second_same, inside, lone_comes}
use Rattle.pp_seek.proofs.turn.come_on.Goals as goal

pub come-second-requires-clause-ends : goal.come-second-requires-clause-ends
come-second-requires-clause-ends c = λ _. path_ends c.args.next.word _ c.args.spot c.requires.near.stands

pub returns-then-second-first-clause-came : goal.returns-then-second-first-clause-came
returns-then-second-first-clause-came c = came_back c.args.pool.now.layout c.args.spot c.args.next c.come-second.result
    (view c.args.pass.now.seat)
    (view c.come-second.new.pass.seat) (view c.lose.new.pass.seat) (c.come-second.ensures.comes.other c.if-second-first.true)
    (λ e. c.if-second-first.true (e ∙ sym c.word-first.ensures.word)) c.lose.result c.lose.ensures.lost

pub read-here-requires-clause-held : goal.read-here-requires-clause-held
read-here-requires-clause-held c = let pass = c.args.pass.now in let first = c.word-first.result in
    let t = c.come-second.ensures.comes.same c.if-second-first.false in
    came_held c.args.next _ _ first t.0 t.1.0 t.1.1.0 (view pass.seat)
    (view c.come-second.new.pass.seat) c.requires.near.low pass.keeping.pass.five
    (confirmed_word _ _ first t.1.1.1 c.if-second-first.false)

pub returns-then-here-spot-clause-came : goal.returns-then-here-spot-clause-came
returns-then-here-spot-clause-came c = let pass = c.args.pass.now in let first = c.word-first.result in
    let t = c.come-second.ensures.comes.same c.if-second-first.false in
    goes_back c.args.pool.now.layout c.args.key c.args.spot c.args.next first t.0 t.1.0 c.read-here.result _ t.1.1.0
    (view pass.seat)
    (view c.come-second.new.pass.seat) (view c.read-here.new.pass.seat)
    (view c.keep_only.new.pass.seat) c.requires.near pass.keeping.pass.five
    c.word-first.ensures.word c.requires.inner c.requires.pair
    (confirmed_word _ _ first t.1.1.1 c.if-second-first.false) c.read-here.ensures.read.made
    (c.read-here.ensures.read.key refl)
    (⊎_elim inl (λ y. inr y.1) c.then-here-spot.either) c.keep_only.ensures.keeps

pub returns-clause-came : goal.returns-clause-came
returns-clause-came c = let pass = c.args.pass.now in let first = c.word-first.result in
    let t = c.come-second.ensures.comes.same c.if-second-first.false in let on = c.further-on.result in
    subst (λ (x : Spot). CameOn c.args.pool.now.layout c.args.spot c.args.next (view pass.seat) (view c.keep_only-2.new.pass.seat)
    (downs.Came x))
    (sym c.further-on.ensures)
    (comes_further c.args.pool.now.layout c.args.key c.args.spot c.args.next first t.0 t.1.0 c.read-here.result _ t.1.1.0
    (view pass.seat)
    (view c.come-second.new.pass.seat) (view c.read-here.new.pass.seat)
    (view c.keep_only-2.new.pass.seat) c.requires.near pass.keeping.pass.five
    c.word-first.ensures.word c.requires.inner c.requires.pair
    (confirmed_word _ _ first t.1.1.1 c.if-second-first.false) c.read-here.ensures.read.made
    (c.read-here.ensures.read.key refl) c.if-here-spot.false c.if-here-spot-2.false
    (subst (λ (x : Spot). KeepsOnly (words_of x) 5 (view c.read-here.new.pass.seat)
    (view c.keep_only-2.new.pass.seat)) c.further-on.ensures
    (subst (λ (w : Words). KeepsOnly w 5 (view c.read-here.new.pass.seat)
    (view c.keep_only-2.new.pass.seat)) c.words.ensures c.keep_only-2.ensures.keeps)))

pub returns-then-second-first-clause-alone : goal.returns-then-second-first-clause-alone
returns-then-second-first-clause-alone c = λ lone. let z = c.args.pool.now.layout in let old = c.args.pass.now in
    let new = c.come-second.new.pass in
    absurd (c.if-second-first.true (second_same z c.args.key c.args.spot c.args.next (view old.seat)
    (sees_of z old.seat _ _ _ _ old.keeping old.run c.requires.fits.sizes) c.requires.near lone confirm_step c.come-second.result _
    (view new.seat) (sees_of z new.seat _ _ _ _ new.keeping new.run (c.come-second.ensures.same.sizes ∙ c.requires.fits.sizes))
    (c.come-second.ensures.comes.other c.if-second-first.true) refl ∙ sym c.word-first.ensures.word))

pub returns-then-here-spot-clause-alone : goal.returns-then-here-spot-clause-alone
returns-then-here-spot-clause-alone c = λ lone. let z = c.args.pool.now.layout in let old = c.args.pass.now in
    let new = c.come-second.new.pass in let first = c.word-first.result in
    let t = c.come-second.ensures.comes.same c.if-second-first.false in
    absurd (inside z c.args.key c.args.spot c.args.next first t.0 t.1.0 c.read-here.result _ t.1.1.0 (view old.seat) (view new.seat)
    (view c.read-here.new.pass.seat) (sees_of z old.seat _ _ _ _ old.keeping old.run c.requires.fits.sizes)
    (sees_of z new.seat _ _ _ _ new.keeping new.run (c.come-second.ensures.same.sizes ∙ c.requires.fits.sizes)) c.requires.near lone
    old.keeping.pass.five c.word-first.ensures.word c.requires.inner (confirmed_word _ _ first t.1.1.1 c.if-second-first.false)
    c.read-here.ensures.read.made (c.read-here.ensures.read.key refl) (⊎_elim inl (λ y. inr y.1) c.then-here-spot.either))

pub returns-clause-alone : goal.returns-clause-alone
returns-clause-alone c = λ lone. let z = c.args.pool.now.layout in let old = c.args.pass.now in
    let new = c.come-second.new.pass in let last = c.keep_only-2.new.pass in let first = c.word-first.result in
    let t = c.come-second.ensures.comes.same c.if-second-first.false in
    let sizes1 = c.come-second.ensures.same.sizes ∙ c.requires.fits.sizes in
    subst (λ (x : Spot). LoneSpot z x (view last.seat)) (sym c.further-on.ensures)
    (lone_comes z c.args.key c.args.spot c.args.next first t.0 t.1.0 c.read-here.result _ t.1.1.0 (view old.seat) (view new.seat)
    (view c.read-here.new.pass.seat) (sees_of z old.seat _ _ _ _ old.keeping old.run c.requires.fits.sizes)
    (sees_of z new.seat _ _ _ _ new.keeping new.run sizes1) c.requires.near lone
    old.keeping.pass.five c.word-first.ensures.word c.requires.inner (confirmed_word _ _ first t.1.1.1 c.if-second-first.false)
    c.read-here.ensures.read.made (c.read-here.ensures.read.key refl) (view last.seat)
    (sees_of z last.seat _ _ _ _ last.keeping last.run
    (c.keep_only-2.ensures.same.sizes ∙ (c.read-here.ensures.same.sizes ∙ sizes1)))
    (subst (λ (x : Spot). KeepsOnly (words_of x) 5 (view c.read-here.new.pass.seat) (view last.seat)) c.further-on.ensures
    (subst (λ (w : Words). KeepsOnly w 5 (view c.read-here.new.pass.seat) (view last.seat)) c.words.ensures c.keep_only-2.ensures.keeps))
    (returns-clause-came c).0.trail)
