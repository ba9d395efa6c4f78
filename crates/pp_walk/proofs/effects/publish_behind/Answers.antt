-- The exchange of an anchor's link.
use Rattle.std.proofs.Common.{ℕ, nat_eq, sym, ap, ◌∙◌, subst, arith, eq-eqb}
use Rattle.std.proofs.Math.Decide.{ℕ_discrete}
use mathlib.Core.Logic.{dite}
use Rattle.pp_base.specs.declared.source.Side.TheVariants.{Left}
use Rattle.pp_base.specs.Passes.{known, view}
use Rattle.pp_base.specs.Sources.{source_place}
use Rattle.pp_link.specs.Links.{word_of}
use Rattle.pp_link.specs.declared.link.Link.{Link}
use Rattle.pp_walk.specs.Steps.{MayPublishAt, PublishedAt}
use Rattle.pp_walk.proofs.Effecting.{anchor_readable, anchor_past, may_publish, publishes_so}
use Rattle.pp_walk.proofs.Lone.{lone_exchanges, sees_of}
use Rattle.pp_walk.proofs.effects.publish_behind.Goals as goal

pub publish-found-requires-clause-readable : goal.publish-found-requires-clause-readable
publish-found-requires-clause-readable c = anchor_readable c.args.pool.now.layout (known c.args.pass.now.seat) c.args.pair.0 c.args.anchor
    c.requires.may.anchored

pub publish-found-requires-clause-may : goal.publish-found-requires-clause-may
publish-found-requires-clause-may c = let z = c.args.pool.now.layout in let q = known c.args.pass.now.seat in
    subst (λ (l : Link). MayPublishAt z q c.args.pass.now.purse c.args.number
    (source_place z q c.args.anchor Left) c.args.pair.0 c.args.pair.1
    (word_of c.args.end) (word_of l)) (sym c.pack-new.ensures)
    (may_publish z q c.args.pass.now.purse c.args.anchor c.args.end c.args.number c.args.pair.0 c.args.pair.1 (omega arith) c.requires.may
    c.requires.filled)

pub returns-clause-published : goal.returns-clause-published
returns-clause-published c = let z = c.args.pool.now.layout in let q = known c.args.pass.now.seat in
    let place : ℕ = source_place z q c.args.anchor Left in
    publishes_so z place c.args.number c.args.pair.0 c.args.pair.1 (word_of c.args.end) c.publish-found.result _
    (view c.args.pass.now.seat)
    (view c.publish-found.new.pass.seat) c.requires.fits.sizes (anchor_past z q c.args.anchor)
    (ap (λ (e : ℕ). nat_eq c.publish-found.result e) c.word.ensures.word)
    (subst (λ (l : Link). PublishedAt c.args.number place c.args.pair.0 c.args.pair.1 (word_of c.args.end)
    (word_of l) c.publish-found.result
    (view c.args.pass.now.seat) (view c.publish-found.new.pass.seat)) c.pack-new.ensures c.publish-found.ensures.published)

pub returns-clause-alone : goal.returns-clause-alone
returns-clause-alone c = λ st. let z = c.args.pool.now.layout in let old = c.args.pass.now in let new = c.publish-found.new.pass in
    ap (λ (e : ℕ). nat_eq c.publish-found.result e) c.word.ensures.word ∙ dite (ℕ_discrete c.publish-found.result (word_of c.args.end))
    (λ hit. eq-eqb c.publish-found.result (word_of c.args.end) hit)
    (λ ne. absurd (lone_exchanges z (source_place z (known old.seat) c.args.anchor Left) (word_of c.args.end) c.publish-found.result
    (view old.seat) (view new.seat)
    (sees_of z old.seat _ _ _ _ old.keeping old.run c.requires.fits.sizes)
    (sees_of z new.seat _ _ _ _ new.keeping new.run (c.publish-found.ensures.same.sizes ∙ c.requires.fits.sizes))
    c.publish-found.ensures.published.made.other st ne))
