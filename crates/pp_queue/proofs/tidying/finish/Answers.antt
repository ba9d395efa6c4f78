use Rattle.std.proofs.Common.{◌≡◌, ℕ, subst}
use Rattle.pp_base.specs.Passes.{known, view}
use Rattle.pp_calls.proofs.Purses.{same_share}
use Rattle.pp_queue.specs.Answers.{Tidies}
use Rattle.pp_queue.proofs.Idling.{idles_both, idles_tidied}
use Rattle.pp_queue.proofs.Finishing.{tidied}
use Rattle.pp_queue.proofs.tidying.finish.Goals as goal
use Rattle.pp_queue.proofs.Finding.{up_on, up_shelved}

pub returns-clause-idles : goal.returns-clause-idles
returns-clause-idles c = let z = c.args.pool.now.layout in let v0 = view c.args.pass.now.seat in
    let v1 = view c.reclaim_many.new.pass.seat in
    let v2 = view c.tidy.new.pass.seat in
    idles_both z.passes v0 v1 v2 c.reclaim_many.ensures.same.number c.reclaim_many.ensures.idles
    (idles_tidied z c.reclaim_many.new.pass.share v1 v2 c.reclaim_many.new.pass.purse c.tidy.new.pass.purse c.tidy.ensures.tidies)

pub returns-clause-tidies : goal.returns-clause-tidies
returns-clause-tidies c = let z = c.args.pool.now.layout in let v0 = view c.args.pass.now.seat in
    let v1 = view c.reclaim_many.new.pass.seat in
    let v2 = view c.tidy.new.pass.seat in let share : ℕ = c.reclaim_many.new.pass.share in
    let same : share ≡ c.args.pass.now.share = same_share 1 1 c.args.pass.now.seat c.reclaim_many.new.pass.seat _ _ _ _ _ _ _ _
    c.args.pass.now.keeping c.reclaim_many.new.pass.keeping c.reclaim_many.ensures.same in
    subst (λ (n : ℕ). Tidies z n v0 v2 c.args.pass.now.purse c.tidy.new.pass.purse) same
    (tidied z share v0 v1 v2 c.args.pass.now.purse c.reclaim_many.new.pass.purse c.tidy.new.pass.purse
    c.reclaim_many.ensures.idles
    (idles_tidied z share v1 v2 c.reclaim_many.new.pass.purse c.tidy.new.pass.purse c.tidy.ensures.tidies)
    c.reclaim_many.ensures.few
    c.reclaim_many.ensures.free c.reclaim_many.ensures.counts c.tidy.ensures.ends c.tidy.ensures.share c.tidy.ensures.only)

pub returns-clause-rest : goal.returns-clause-rest
returns-clause-rest c = c.tidy.ensures.only.rest c.reclaim_many.ensures.rest

pub returns-clause-up : goal.returns-clause-up
returns-clause-up c = let p1 = c.reclaim_many.new.pass in let p2 = c.tidy.new.pass in
    up_on (known c.args.pass.now.seat) (known p1.seat) (known p2.seat) c.reclaim_many.ensures.up
    (up_shelved (known p1.seat) (known p2.seat) p1.purse p2.purse c.tidy.ensures.only)
