use Rattle.std.proofs.Common.{sym, ap, ◌∙◌, subst}
use Rattle.atomic_table.specs.declared.shared.Seat.{Seat}
use Rattle.pp_base.specs.declared.purse.Purse.{Purse}
use Rattle.pp_base.specs.Passes.{known}
use Rattle.pp_pool.specs.Taken.{IsPublished, one_fewer_out}
use Rattle.pp_trees.specs.Edges.{TreeView}
use Rattle.pp_edges.proofs.Staying.{spends_leaf, spends_inner}
use Rattle.pp_edges.proofs.edges.publish.Goals as goal

pub published-requires : goal.published-requires
published-requires c = let pass = c.args.pass.now in let e = c.publish_pair-found.ensures in
    let new = c.publish_pair-found.new.pass in
    let s = spends_leaf pass.seat new.seat _ _ _ _ pass.purse c.args.leaf.number c.args.inner.number _ _ _ pass.keeping
    new.keeping.pass new.keeping.lone.0
    c.requires.leaf c.requires.inner e.publishes (c.if-found-word.false ∙ c.word.ensures.word) in
    subst (λ (p : Purse). IsPublished (known new.seat) p c.args.leaf.number) (sym e.purse) (record { gone = s.0; untold = s.1 })

pub published-requires-2 : goal.published-requires-2
published-requires-2 c = let pass = c.args.pass.now in let e = c.publish_pair-found.ensures in
    let new = c.publish_pair-found.new.pass in
    let s = spends_inner pass.seat new.seat _ _ _ _ pass.purse c.args.leaf.number c.args.inner.number _ _ _ pass.keeping
    new.keeping.pass new.keeping.lone.0
    c.requires.leaf c.requires.inner e.publishes (c.if-found-word.false ∙ c.word.ensures.word) in
    subst (λ (v : Seat Unit TreeView). IsPublished (known v) c.published.new.pass.purse c.args.inner.number)
    (sym c.published.ensures.seat)
    (subst (λ (p : Purse). IsPublished (known new.seat) p c.args.inner.number) (sym (c.published.ensures.purse
    ∙ ap one_fewer_out e.purse))
    (record { gone = s.0; untold = s.1 }))
