use Rattle.std.proofs.Common.{refl, sym, ap, ◌∙◌}
use Rattle.pp_link.specs.Links.{bit, word_of}
use Rattle.pp_base.specs.Passes.{view}
use Rattle.pp_tree_turns.proofs.Exchanges.{tags_there, splices_next, invalid_of}
use Rattle.std.proofs.Common.{arith}
use Rattle.pp_seek.proofs.LoneSpots.{sees_of}
use Rattle.pp_tree_turns.proofs.LoneTags.{found_valid, tagged_lone}
use Rattle.pp_tree_turns.proofs.turns.tag_turn.Goals as goal

pub returns-then-invalid-clause-tagged : goal.returns-then-invalid-clause-tagged
returns-then-invalid-clause-tagged c = let link = c.tag-sibling.result in (
  word_of link,
  (
    tags_there c.args.pool.now.layout c.args.sought c.args.side _ (word_of link) (view c.args.pass.now.seat)
        (view c.tag-sibling.new.pass.seat) c.requires.may c.tag-sibling.ensures.tagged,
    invalid_of link ∙ ap bit (sym c.invalid.ensures ∙ c.if-invalid.true),
  ),
)

pub returns-clause-tagged : goal.returns-clause-tagged
returns-clause-tagged c = let link = c.tag-sibling.result in let z = c.args.pool.now.layout in let v = view c.args.pass.now.seat in
    let w = view c.tag-sibling.new.pass.seat in (
      tags_there z c.args.sought c.args.side _ (word_of link) v w c.requires.may c.tag-sibling.ensures.tagged,
      invalid_of link ∙ ap bit (sym c.invalid.ensures ∙ c.if-invalid.false),
      splices_next z c.args.sought c.args.side _ (word_of link) v w c.requires.may c.tag-sibling.ensures.tagged link refl,
    )

pub returns-then-invalid-clause-alone : goal.returns-then-invalid-clause-alone
returns-then-invalid-clause-alone c = λ l. let z = c.args.pool.now.layout in let old = c.args.pass.now in
    let mid = c.tag-sibling.new.pass in let link = c.tag-sibling.result in
    let valid = found_valid z c.args.sought c.args.side (view old.seat) (view mid.seat)
    (sees_of z old.seat _ _ _ _ old.keeping old.run c.requires.fits.sizes)
    (sees_of z mid.seat _ _ _ _ mid.keeping mid.run (c.tag-sibling.ensures.same.sizes ∙ c.requires.fits.sizes)) l c.requires.may
    (word_of link) c.tag-sibling.ensures.tagged in
    let bad = invalid_of link ∙ ap bit (sym c.invalid.ensures ∙ c.if-invalid.true) in absurd (omega arith)

pub returns-clause-alone : goal.returns-clause-alone
returns-clause-alone c = λ l. let z = c.args.pool.now.layout in let old = c.args.pass.now in let mid = c.tag-sibling.new.pass in
    let link = c.tag-sibling.result in (
      link,
      (
        refl,
        tagged_lone z c.args.sought c.args.side (view old.seat) (view mid.seat)
            (sees_of z old.seat _ _ _ _ old.keeping old.run c.requires.fits.sizes)
            (sees_of z mid.seat _ _ _ _ mid.keeping mid.run (c.tag-sibling.ensures.same.sizes ∙ c.requires.fits.sizes)) l c.requires.may
            (word_of link) c.tag-sibling.ensures.tagged link refl,
      ),
    )
