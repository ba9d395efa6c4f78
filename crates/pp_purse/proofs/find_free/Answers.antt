use Rattle.std.proofs.Common.{ℕ, ◌<◌, ◌≤◌, List, length, sym, ◌∙◌, subst, ⊎_elim, arith}
use Rattle.std.proofs.Math.Bool.{false≢true}
use Rattle.pp_link.specs.declared.layout.Sizes.{Sizes}
use Rattle.pp_base.specs.Passes.{view}
use Rattle.pp_purse.proofs.Purses.{found, ran_out}
use Rattle.pp_purse.proofs.find_free.Goals as goal

pub returns-clause-finds : goal.returns-clause-finds
returns-clause-finds g c = let old = c.args.pass.now in let mid = c.reclaim.new.pass in let new = c.collect.new.pass in
    found g.S.Shape.SIDES c.args.pool.now.layout c.reclaim.result c.args.need old.seat mid.seat (view new.seat) old.purse mid.purse
    new.purse
    c.reclaim.ensures.reclaims c.collect.ensures.shelves c.collect.ensures.only c.collect.ensures.begins

pub returns-clause-out : goal.returns-clause-out
returns-clause-out g c failed = let old = c.args.pass.now in let mid = c.reclaim.new.pass in let new = c.collect.new.pass in
    let z : Sizes = c.args.pool.now.layout in let need : ℕ = c.args.need in
    let short : length old.purse.free.items < need = subst (λ (l : List ℕ). length l < need) c.free.ensures c.if-need-free.false in
    let less : need ≤ length new.purse.free.items → ⊥ = λ enough. false≢true (sym failed ∙ c.collect.ensures.told.1 enough) in
    let still : length new.purse.free.items < need = omega arith in
    let some_passes : 0 < z.passes = subst (λ (y : Sizes). 0 < y.passes) c.requires.fits.sizes old.keeping.pass.within.some_passes in
    ran_out g.S.Shape.SIDES z c.reclaim.result need old.seat mid.seat (view new.seat) old.purse mid.purse new.purse
    c.reclaim.ensures.reclaims c.collect.ensures.shelves c.collect.ensures.only short still some_passes mid.keeping.counted
    new.keeping.counted c.requires.none_out c.collect.ensures.begins
    (⊎_elim (λ (enough : need ≤ length new.purse.free.items). absurd (omega arith)) (λ empty. empty) c.collect.ensures.ends)
