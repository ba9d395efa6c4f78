use Rattle.std.proofs.Common.{ℕ, sym, ap, ◌∙◌, subst}
use Rattle.pp_model.specs.declared.Call.{Call}
use Rattle.pp_base.specs.declared.purse.Purse.{Purse}
use Rattle.pp_base.specs.Passes.{known, view, IsAtRest}
use Rattle.pp_calls.specs.PoolViews.{pool_view}
use Rattle.pp_lists.specs.Walks.{bucket}
use Rattle.pp_walk.proofs.Lone.{sees_of}
use Rattle.pp_list.specs.Begun.{BeginsOn}
use Rattle.pp_list.proofs.LoneGoing.{lone_begun}
use Rattle.pp_turns.proofs.Resting.{rest_going}
use Rattle.pp_buckets.proofs.Beginning.{under_begun, all_empty}
use Rattle.pp_buckets.proofs.calls.BucketsMapCalls.begin.Goals as goal

pub returns-clause-going : goal.returns-clause-going
returns-clause-going c = let z = c.args.self.now.pool.layout in let old = c.args.pass.now in let mid = c.set_going.new.pass in
    let s = c.set_going.ensures in let parts = c.parts_of-key.ensures in let idle = c.requires.idle in
    let begins = subst (λ (x : Call). BeginsOn c.bucket.result x c.args.races c.begin.result) parts.call c.begin.ensures.begins in
    let empty = all_empty (known mid.seat).sizes (known mid.seat) mid.walk mid.keeping.pass mid.keeping.walk_is
    (s.walk ∙ idle.idle.0) in record {
      from = view mid.seat;
      free = mid.purse.free.items;
      seen_so = ap (λ x. pool_view (view x) old.purse.free.items old.share) (sym s.seat)
          ∙ (ap (λ (p : Purse). pool_view (view mid.seat) p.free.items old.share) (sym s.purse)
          ∙ ap (λ (n : ℕ). pool_view (view mid.seat) mid.purse.free.items n) (sym s.share));
      under = (
        under_begun z mid.share c.bucket.result c.args.call c.args.races c.begin.result (view mid.seat) mid.purse begins
            c.bucket.ensures.low (c.bucket.ensures.home ∙ ap (bucket z.heads) parts.key) c.requires.may.budget_left empty
            (rest_going (known mid.seat) old.purse mid.purse s.purse (subst (λ x. IsAtRest (known x) old.purse) (sym s.seat) idle.rest))
            (ap (λ (p : Purse). p.taken) s.purse ∙ idle.idle.2),
        lone_begun z c.begin.result begins.walk (view mid.seat)
            (sees_of z mid.seat _ _ _ _ mid.keeping mid.run (ap (λ x. (known x).sizes) s.seat ∙ c.requires.belongs.fits.sizes)) begins.next
            begins.lost empty,
      );
    }
