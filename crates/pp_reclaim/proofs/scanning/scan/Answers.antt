use Rattle.std.proofs.Common.{◌-◌, ◌*◌, length, ap, sym, ◌∙◌, subst, arith}
use Rattle.pp_link.specs.declared.layout.Sizes.{Sizes}
use Rattle.pp_base.specs.declared.purse.Purse.{Purse}
use Rattle.pp_reclaim.specs.Sweeps.{Swept}
use Rattle.pp_reclaim.proofs.Owned.{few_freed}
use Rattle.pp_reclaim.proofs.Sweeping.{swept_by, left_words, first_words}
use Rattle.pp_reclaim.proofs.Resting.{rest_after}
use Rattle.pp_reclaim.proofs.scanning.scan.Goals as goal

pub scan_last-requires-clause-words : goal.scan_last-requires-clause-words
scan_last-requires-clause-words g c = left_words c.args.pool.now.layout c.read_words.new.words c.args.pass.now.seat
    c.read_words.new.pass.seat _ (first_words _ c.read_words.new.words _
    (c.read_words.ensures.read.all_words ∙ ap (λ (z : Sizes). 9 * z.passes) (sym c.sizes.ensures.same)))
    c.read_words.ensures.read c.requires.next

pub returns-clause-swept : goal.returns-clause-swept
returns-clause-swept g c = let before = c.args.pass.now in let read = c.read_words.new.pass in let after = c.scan_last.new.pass in
    let many = length c.free.result.now - length c.free-before.result.now in
    subst (λ (p : Purse). Swept c.args.pool.now.layout many before.seat after.seat p after.purse) c.read_words.ensures.purse
    (swept_by c.args.pool.now.layout c.read_words.new.words before.seat read.seat c.scan_last.result after.seat c.read_words.ensures.read
    c.requires.next many read.purse after.purse c.sizes.ensures.within.some_passes after.keeping.pass.retired_once c.scan_last.ensures.made
    c.scan_last.ensures.purse (omega (arith, ap (λ l. length l) c.free.ensures, ap (λ l. length l) c.free-before.ensures)))

pub returns-clause-rest : goal.returns-clause-rest
returns-clause-rest g c = rest_after c.args.pool.now.layout _ c.args.pass.now.seat c.scan_last.new.pass.seat c.args.pass.now.purse
    c.scan_last.new.pass.purse (returns-clause-swept g c)

pub overflow_cast-result : goal.overflow_cast-result
overflow_cast-result g c = let after = c.scan_last.new.pass in
    let few = few_freed c.args.pool.now.layout _ c.args.pass.now.seat after.seat c.args.pass.now.purse after.purse
    (returns-clause-swept g c)
    after.keeping.pass (c.scan_last.ensures.same.sizes ∙ (c.read_words.ensures.read.second.same.sizes
    ∙ (c.read_words.ensures.read.first.same.sizes ∙ c.requires.fits.sizes))) in
    omega (arith, few, c.sizes.ensures.within.records)
