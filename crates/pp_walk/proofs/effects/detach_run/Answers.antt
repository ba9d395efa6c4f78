-- The exchange that takes the run out.
use Rattle.std.proofs.Common.{◌≤◌, List, length, ap, ◌∙◌, arith}
use Rattle.std.proofs.lemmas.List.{length-map}
use Rattle.pp_link.specs.Links.{word_of}
use Rattle.pp_base.specs.declared.purse.InHand.{InHand}
use Rattle.pp_base.specs.Passes.{known, view, in_hand_of}
use Rattle.pp_walk.proofs.Lone.{sees_of}
use Rattle.pp_walk.proofs.LoneRuns.{lone_detaches, own_anchor}
use Rattle.pp_walk.proofs.Effecting.{anchor_readable, may_unlink, detaches_so, misses_so}
use Rattle.pp_walk.proofs.effects.detach_run.Goals as goal

pub try_unlink-requires-clause-readable : goal.try_unlink-requires-clause-readable
try_unlink-requires-clause-readable c = anchor_readable c.args.pool.now.layout
    (known c.args.pass.now.seat) c.requires.may.key c.args.anchor
    c.requires.may.anchored

pub try_unlink-requires-clause-may : goal.try_unlink-requires-clause-may
try_unlink-requires-clause-may c = may_unlink c.args.pool.now.layout
    (known c.args.pass.now.seat) c.args.anchor c.args.first c.args.end c.requires.may

pub returns-in-Detached-clause-detaches : goal.returns-in-Detached-clause-detaches
returns-in-Detached-clause-detaches c = let pass = c.args.pass.now in
    let few : length (known pass.seat).chains ≤ 4 = (let count = ap (λ (l : List InHand). length l) pass.keeping.chains in
    let long = length-map (known pass.seat).chains in_hand_of in let most = pass.keeping.few in omega arith) in
    detaches_so c.args.pool.now.layout c.args.anchor (word_of c.args.first) (word_of c.args.end) (view pass.seat)
    (view c.try_unlink.new.pass.seat) c.requires.fits.sizes few c.in-Detached.ensures.unlinks

pub returns-in-Changed-clause-detaches : goal.returns-in-Changed-clause-detaches
returns-in-Changed-clause-detaches c = let pass = c.args.pass.now in
    let few : length (known pass.seat).chains ≤ 4 = (let count = ap (λ (l : List InHand). length l) pass.keeping.chains in
    let long = length-map (known pass.seat).chains in_hand_of in let most = pass.keeping.few in omega arith) in
    misses_so c.args.pool.now.layout c.args.anchor (word_of c.args.first) (word_of c.args.end) _ (view pass.seat)
    (view c.try_unlink.new.pass.seat) c.requires.fits.sizes few c.in-Changed.ensures.unlinks

pub returns-in-Changed-clause-alone : goal.returns-in-Changed-clause-alone
returns-in-Changed-clause-alone c = λ st. let z = c.args.pool.now.layout in let old = c.args.pass.now in let new = c.try_unlink.new.pass in
    let few : length (known old.seat).chains ≤ 4 = (let count = ap (λ (l : List InHand). length l) old.keeping.chains in
    let long = length-map (known old.seat).chains in_hand_of in let most = old.keeping.few in omega arith) in
    absurd (lone_detaches z c.args.anchor (word_of c.args.first) (view old.seat)
    (sees_of z old.seat _ _ _ _ old.keeping old.run c.requires.fits.sizes)
    (own_anchor z (known old.seat) c.requires.may.key c.args.anchor c.requires.may.anchored) c.requires.may.plain_first st
    (word_of c.args.end)
    (view new.seat) (sees_of z new.seat _ _ _ _ new.keeping new.run (c.try_unlink.ensures.same.sizes ∙ c.requires.fits.sizes)) few
    (returns-in-Changed-clause-detaches c))
