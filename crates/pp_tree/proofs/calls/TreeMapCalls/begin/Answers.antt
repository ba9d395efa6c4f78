use Rattle.std.proofs.Common.{ℕ, ◌<◌, sym, ap, ◌∙◌, subst, arith}
use Rattle.pp_model.specs.Calls.{key_of}
use Rattle.pp_base.specs.declared.purse.Purse.{Purse}
use Rattle.pp_base.specs.Passes.{known, view, IsAtRest}
use Rattle.pp_calls.specs.PoolViews.{pool_view}
use Rattle.pp_trees.specs.Trees.{inf0}
use Rattle.pp_seek.proofs.LoneSpots.{sees_of}
use Rattle.pp_tree_calls.proofs.AloneLearns.{lone_begun}
use Rattle.pp_turns.proofs.Resting.{rest_going}
use Rattle.pp_tree.proofs.Beginning.{under_begun, all_empty}
use Rattle.pp_tree.proofs.calls.TreeMapCalls.begin.Goals as goal

pub returns-clause-going : goal.returns-clause-going
returns-clause-going c = let z = c.args.self.now.pool.layout in let old = c.args.pass.now in let mid = c.set_going.new.pass in
    let s = c.set_going.ensures in let idle = c.requires.idle in let key = c.requires.may.key in
    let empty = all_empty (known mid.seat).sizes (known mid.seat) mid.walk mid.keeping.pass mid.keeping.walk_is (s.walk ∙ idle.idle.0) in
    record {
      from = view mid.seat;
      free = mid.purse.free.items;
      seen_so = ap (λ x. pool_view (view x) old.purse.free.items old.share) (sym s.seat)
          ∙ (ap (λ (p : Purse). pool_view (view mid.seat) p.free.items old.share) (sym s.purse)
          ∙ ap (λ (n : ℕ). pool_view (view mid.seat) mid.purse.free.items n) (sym s.share));
      under = (
        under_begun z mid.share c.args.call c.args.races c.begin.result (view mid.seat) mid.purse c.begin.ensures.begins
            (let below : key_of c.args.call < inf0 = omega arith in below) c.requires.may.budget_left empty
            (rest_going (known mid.seat) old.purse mid.purse s.purse (subst (λ x. IsAtRest (known x) old.purse) (sym s.seat) idle.rest))
            (ap (λ (p : Purse). p.taken) s.purse ∙ idle.idle.2),
        lone_begun z c.args.call c.args.races c.begin.result (view mid.seat)
            (sees_of z mid.seat _ _ _ _ mid.keeping mid.run (ap (λ x. (known x).sizes) s.seat ∙ c.requires.belongs.fits.sizes))
            c.begin.ensures.begins empty,
      );
    }
