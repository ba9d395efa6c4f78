use Rattle.std.proofs.Common.{sym, ap, ◌∙◌}
use Rattle.pp_link.specs.Links.{bit}
use Rattle.pp_base.specs.Passes.{view}
use Rattle.pp_tree_calls.proofs.Arriving.{opens_tag, opens_flag, tag_of}
use Rattle.std.proofs.Common.{arith, refl}
use Rattle.pp_model.specs.Calls.{key_of}
use Rattle.pp_seek.proofs.LoneSpots.{sees_of}
use Rattle.pp_tree_calls.proofs.Alone.{sought_plain}
use Rattle.pp_tree_calls.proofs.parts.open_removal.Goals as goal

pub returns-then-tag-clause-part : goal.returns-then-tag-clause-part
returns-then-tag-clause-part c = let old = c.args.pass.now in let r = c.requires in
    opens_tag c.args.pool.now.layout old.share c.args.going.now c.args.sought (view old.seat) old.purse r.ready r.equal r.plain
    (tag_of c.args.sought.edge ∙ ap bit (sym c.tag.ensures ∙ c.if-tag.true)) r.takes r.unstruck

pub returns-clause-part : goal.returns-clause-part
returns-clause-part c = let old = c.args.pass.now in let r = c.requires in
    opens_flag c.args.pool.now.layout old.share c.args.going.now c.args.sought (view old.seat) old.purse r.ready r.equal r.plain
    (tag_of c.args.sought.edge ∙ ap bit (sym c.tag.ensures ∙ c.if-tag.false)) r.takes r.unstruck

pub returns-then-tag-clause-alone : goal.returns-then-tag-clause-alone
returns-then-tag-clause-alone c = λ l. let z = c.args.pool.now.layout in let old = c.args.pass.now in let s = c.args.sought in
    let none = (sought_plain z (key_of c.args.going.now.call) s (view old.seat)
    (sees_of z old.seat _ _ _ _ old.keeping old.run c.requires.fits.sizes) c.requires.ready.sought l).1 in
    let set = tag_of s.edge ∙ ap bit (sym c.tag.ensures ∙ c.if-tag.true) in absurd (omega arith)

pub returns-clause-alone : goal.returns-clause-alone
returns-clause-alone c = λ l. record { lost = refl; on = l; done = tt }
