use Rattle.std.proofs.Common.{◌⊎◌, ℕ, ◌≤◌, min, length, subst}
use Rattle.pp_rule.specs.Causes.{FoundTaken}
use Rattle.pp_base.specs.Passes.{view}
use Rattle.pp_shelf.specs.Runs.{map_sizes, steps_made}
use Rattle.pp_shelf.proofs.Trying.{same_share}
use Rattle.pp_purse.proofs.Purses.{tidied}
use Rattle.pp_purse.proofs.tidy.Goals as goal

pub returns-clause-tidies : goal.returns-clause-tidies
returns-clause-tidies g c = let S = g.S.Shape in let old = c.args.pass.now in let mid = c.reclaim_many.new.pass in
    let new = c.tidy.new.pass in
    let share = same_share S.SENTINELS S.SIDES old.seat mid.seat _ _ _ _ _ _ _ _ old.keeping mid.keeping c.reclaim_many.ensures.same in
    tidied c.args.pool.now.layout old.share (view old.seat) (view mid.seat) (view new.seat) old.purse mid.purse new.purse
    c.reclaim_many.ensures.reclaims c.tidy.ensures.shelves c.tidy.ensures.only
    (subst (λ (n : ℕ). (length new.purse.free.items ≤ n)
    ⊎ FoundTaken (map_sizes c.args.pool.now.layout) (steps_made (view mid.seat) (view new.seat))) share c.tidy.ensures.ends)
    (subst (λ (n : ℕ). min n (length mid.purse.free.items) ≤ length new.purse.free.items) share c.tidy.ensures.share)
