use Rattle.std.proofs.Common.{ℕ, ◌*◌, ◌≤◌, List, length, subst}
use Rattle.pp_link.specs.declared.layout.Sizes.{Sizes}
use Rattle.pp_base.specs.Passes.{view}
use Rattle.pp_purse.proofs.Purses.{reclaims_many, idle_many}
use Rattle.pp_purse.proofs.reclaim_many.Goals as goal

pub returns-then-retired-many-clause-reclaims : goal.returns-then-retired-many-clause-reclaims
returns-then-retired-many-clause-reclaims g c = let old = c.args.pass.now in let new = c.reclaim.new.pass in
    reclaims_many g.S.Shape.SIDES c.args.pool.now.layout c.reclaim.result old.seat new.seat old.purse new.purse c.reclaim.ensures.reclaims

pub returns-else-retired-many-clause-reclaims : goal.returns-else-retired-many-clause-reclaims
returns-else-retired-many-clause-reclaims g c = let v = view c.args.pass.now.seat in
    idle_many c.args.pool.now.layout v c.args.pass.now.purse
    (subst (λ (l : List ℕ). length l ≤ 18 * c.args.pool.now.layout.passes) c.retired.ensures
    (subst (λ (z : Sizes). length c.retired.result.now ≤ 18 * z.passes) c.sizes.ensures.same c.if-retired-many.false))
