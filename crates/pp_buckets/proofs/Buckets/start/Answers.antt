use Rattle.std.proofs.Common.{sym, ◌∙◌}
use Rattle.pp_ends.proofs.Opening.{fresh, starts_standing}
use Rattle.pp_calls.specs.PoolViews.{pass_view}
use Rattle.pp_buckets.proofs.Starting.{starts_clean}
use Rattle.pp_buckets.proofs.Buckets.start.Goals as goal

pub returns-clause-belong : goal.returns-clause-belong
returns-clause-belong c = λ k p at. let n = c.in_ok-pool.ensures.passes k p at in record {
  fits = record { table_is = n.fits.table_is; sizes = n.fits.sizes ∙ sym c.in_ok-pool.ensures.sizes };
  stands = starts_standing _ _ p.seat _ k n.knows;
}

pub returns-clause-fresh : goal.returns-clause-fresh
returns-clause-fresh c = λ k p at. fresh _ _ k p (c.in_ok-pool.ensures.passes k p at)

pub returns-clause-share : goal.returns-clause-share
returns-clause-share c = λ k p at. (c.in_ok-pool.ensures.passes k p at).share_is

pub returns-clause-clean : goal.returns-clause-clean
returns-clause-clean c = λ k p at. starts_clean c.in_ok-pool.pool.layout (pass_view p) (fresh _ _ k p (c.in_ok-pool.ensures.passes k p at))
