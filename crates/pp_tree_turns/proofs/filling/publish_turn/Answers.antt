use Rattle.std.proofs.Common.{◌≡◌, ℕ, false, ap, sym, ◌∙◌, subst}
use Rattle.pp_base.specs.Passes.{view, IsAtRest}
use Rattle.pp_base.specs.declared.purse.Purse.{Purse}
use Rattle.pp_link.specs.Links.{word_of}
use Rattle.pp_link.specs.declared.link.Link.{Link}
use Rattle.pp_pool.specs.Taken.{one_fewer_out}
use Rattle.pp_trees.specs.Edges.{TreeView}
use Rattle.pp_tree_turns.specs.Filling.{Filled, FilledOver}
use Rattle.pp_tree_turns.proofs.Adding.{publish_readable, may_publish, publish_far, alike_then, published_to, number_small}
use Rattle.pp_tree_turns.proofs.Adding.{rest_alike, rest_published}
use Rattle.pp_seek.proofs.LoneSpots.{sees_of}
use Rattle.pp_tree_turns.proofs.LonePublishes.{publish_alone}
use Rattle.pp_tree_turns.proofs.filling.publish_turn.Goals as goal

-- the new leaf, by its fields
leaf_filled : (m key value : ℕ) (nil : Link) (v w : TreeView) → nil ≡ record {
  number = 0;
  flag = false;
  tag = false;
  invalid = false;
  leaf = false;
} → Filled m key value (word_of nil) (word_of nil) v w → Filled m key value 0 0 v w
leaf_filled m key value nil v w is f = subst (λ (x : ℕ). Filled m key value x x v w) (ap word_of is) f

over_filled : (c m n key here first : ℕ) (v w : TreeView) → n ≡ m → FilledOver c n key here first v w → FilledOver c m key here first v w
over_filled c m n key here first v w is f = subst (λ (x : ℕ). FilledOver c x key here first v w) is f

pub publish-requires-clause-readable : goal.publish-requires-clause-readable
publish-requires-clause-readable c = let z = c.args.pool.now.layout in let s = c.args.sought in let v = view c.args.pass.now.seat in
    let v1 = view c.key-here.new.pass.seat in let v2 = view c.fill.new.pass.seat in let v3 = view c.fill_over.new.pass.seat in
    publish_readable z v.known v3.known s c.args.key c.args.value c.requires.may
    (alike_then z s c.args.key c.args.value c.args.leaf.number c.args.inner.number c.key-here.result _ v v1 v2 v3 v3 c.requires.may
    c.key-here.ensures.read.made (leaf_filled _ _ _ c.pack-nil.result v1 v2 c.pack-nil.ensures c.fill.ensures.filled)
    (over_filled _ _ c.number.result _ _ _ v2 v3 c.number.ensures c.fill_over.ensures.filled))

pub publish-requires-clause-may : goal.publish-requires-clause-may
publish-requires-clause-may c = let z = c.args.pool.now.layout in let s = c.args.sought in let v = view c.args.pass.now.seat in
    let v1 = view c.key-here.new.pass.seat in let v2 = view c.fill.new.pass.seat in let v3 = view c.fill_over.new.pass.seat in
    let leaf = leaf_filled _ _ _ c.pack-nil.result v1 v2 c.pack-nil.ensures c.fill.ensures.filled in
    let inner = over_filled _ _ c.number.result _ _ _ v2 v3 c.number.ensures c.fill_over.ensures.filled in
    let m : ℕ = c.args.leaf.number in let k : ℕ = c.args.inner.number in
    let has = inner.others m leaf.is c.requires.apart leaf.has in let pass = c.fill_over.new.pass.keeping.pass in
    may_publish z v.known v3.known s c.args.key c.args.value c.requires.may
    (alike_then z s c.args.key c.args.value m k c.key-here.result _ v v1 v2 v3 v3 c.requires.may
    c.key-here.ensures.read.made leaf inner)
    m k c.key-here.result leaf.is inner.is c.requires.apart has inner.has leaf.key_is leaf.value_is leaf.left_is leaf.right_is
    c.key-here.ensures.key inner.below inner.above (number_small _ v3.known m leaf.is pass has)
    (number_small _ v3.known k inner.is pass inner.has)

pub returns-clause-published : goal.returns-clause-published
returns-clause-published c = let z = c.args.pool.now.layout in let s = c.args.sought in let v = view c.args.pass.now.seat in
    let v1 = view c.key-here.new.pass.seat in let v2 = view c.fill.new.pass.seat in let v3 = view c.fill_over.new.pass.seat in
    let w = view c.publish.new.pass.seat in
    let leaf = leaf_filled _ _ _ c.pack-nil.result v1 v2 c.pack-nil.ensures c.fill.ensures.filled in
    let inner = over_filled _ _ c.number.result _ _ _ v2 v3 c.number.ensures c.fill_over.ensures.filled in
    published_to z s c.args.key c.args.value c.args.leaf.number c.args.inner.number c.key-here.result _ v v1 v2 v3 w c.requires.may
    c.key-here.ensures.read.made leaf inner _ (publish_far z v.known v3.known s c.args.key c.args.value c.requires.may
    (alike_then z s c.args.key c.args.value c.args.leaf.number c.args.inner.number c.key-here.result _ v v1 v2 v3 w c.requires.may
    c.key-here.ensures.read.made leaf inner)) c.publish.result c.publish.ensures.published

pub returns-clause-rest : goal.returns-clause-rest
returns-clause-rest c = let z = c.args.pool.now.layout in let s = c.args.sought in let old = c.args.pass.now in let v = view old.seat in
    let v1 = view c.key-here.new.pass.seat in let v2 = view c.fill.new.pass.seat in let v3 = view c.fill_over.new.pass.seat in
    let leaf = leaf_filled _ _ _ c.pack-nil.result v1 v2 c.pack-nil.ensures c.fill.ensures.filled in
    let inner = over_filled _ _ c.number.result _ _ _ v2 v3 c.number.ensures c.fill_over.ensures.filled in
    let alike = alike_then z s c.args.key c.args.value c.args.leaf.number c.args.inner.number c.key-here.result _ v v1 v2 v3 v3
    c.requires.may
    c.key-here.ensures.read.made leaf inner in
    let same = c.fill_over.ensures.purse ∙ (c.fill.ensures.purse ∙ c.key-here.ensures.purse) in
    rest_published _ _ _ _ v3 (view c.publish.new.pass.seat) c.fill_over.new.pass.purse c.publish.new.pass.purse c.publish.result
    c.publish.ensures.published c.publish.ensures.spent c.publish.ensures.kept
    (subst (λ (p : Purse). IsAtRest v3.known p) (sym same) (rest_alike v.known v3.known old.purse alike c.requires.rest))

pub returns-clause-spent : goal.returns-clause-spent
returns-clause-spent c = λ is. c.publish.ensures.spent is
    ∙ ap (λ (p : Purse). one_fewer_out (one_fewer_out p)) (c.fill_over.ensures.purse ∙ (c.fill.ensures.purse ∙ c.key-here.ensures.purse))

pub returns-clause-kept : goal.returns-clause-kept
returns-clause-kept c = λ no. c.publish.ensures.kept no
    ∙ (c.fill_over.ensures.purse ∙ (c.fill.ensures.purse ∙ c.key-here.ensures.purse))

pub returns-clause-alone : goal.returns-clause-alone
returns-clause-alone c = λ lone. let z = c.args.pool.now.layout in let s = c.args.sought in let old = c.args.pass.now in
    let v1 = view c.key-here.new.pass.seat in let v2 = view c.fill.new.pass.seat in let mid = c.fill_over.new.pass in
    let new = c.publish.new.pass in
    let leaf = leaf_filled _ _ _ c.pack-nil.result v1 v2 c.pack-nil.ensures c.fill.ensures.filled in
    let inner = over_filled _ _ c.number.result _ _ _ v2 (view mid.seat) c.number.ensures c.fill_over.ensures.filled in
    let sizes = c.fill_over.ensures.same.sizes ∙ (c.fill.ensures.same.sizes ∙ (c.key-here.ensures.same.sizes ∙ c.requires.fits.sizes)) in
    publish_alone z s c.args.key c.args.value c.args.leaf.number c.args.inner.number c.key-here.result _ (view old.seat) v1 v2
    (view mid.seat) (sees_of z old.seat _ _ _ _ old.keeping old.run c.requires.fits.sizes)
    (sees_of z mid.seat _ _ _ _ mid.keeping mid.run sizes)
    c.key-here.ensures.read.made leaf inner c.requires.apart c.key-here.ensures.key c.requires.may lone (view new.seat)
    (sees_of z new.seat _ _ _ _ new.keeping new.run (c.publish.ensures.same.sizes ∙ sizes)) c.publish.result c.publish.ensures.published
