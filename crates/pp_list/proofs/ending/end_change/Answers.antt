use Rattle.std.proofs.Common.{ℕ, ◌+◌, length, sym, ap, ◌∙◌, subst}
use Rattle.pp_base.specs.Passes.{known, view, IsAtRest, IsSame}
use Rattle.pp_base.specs.declared.purse.Purse.{Purse}
use Rattle.pp_calls.proofs.Purses.{same_share}
use Rattle.pp_purse.specs.Purses.{TidiesPurse}
use Rattle.pp_walk.specs.Trod.{Idles}
use Rattle.pp_list.specs.Purses.{out_of}
use Rattle.pp_list.proofs.Resting.{rest_kept, walk_zero}
use Rattle.pp_list.proofs.ending.end_change.Goals as goal

pub give-requires-clause-rest : goal.give-requires-clause-rest
give-requires-clause-rest c = let old = c.args.pass.now in let mid = c.rest.new.pass in
    rest_kept (known old.seat) (known mid.seat) old.purse mid.purse c.rest.ensures.rest (ap (λ p. p.spent) c.rest.ensures.purse)
    c.requires.rest

pub returns-clause-tidies : goal.returns-clause-tidies
returns-clause-tidies c = let old = c.args.pass.now in let mid = c.rest.new.pass in let given = c.give.new.pass in
    let done = c.tidy.new.pass in
    let new = c.set_going.new.pass in record {
      between = view given.seat;
      middle = given.purse;
      clears = subst (λ s. Idles (view old.seat) (view s)) (sym c.give.ensures.seat) c.rest.ensures.idles;
      long = c.give.ensures.gave.long ∙ ap (λ (p : Purse). length p.free.items + out_of c.args.fresh) c.rest.ensures.purse;
      last = done.purse;
      tidies = subst (λ s. TidiesPurse c.args.pool.now.layout old.share (view given.seat) (view s) given.purse done.purse)
          (sym c.set_going.ensures.seat)
          (subst (λ (n : ℕ). TidiesPurse c.args.pool.now.layout n (view given.seat) (view done.seat) given.purse done.purse)
          (same_share 0 1 old.seat given.seat _ _ _ _ _ _ _ _ old.keeping given.keeping
          (subst (λ s. IsSame old.seat s) (sym c.give.ensures.seat) c.rest.ensures.same)) c.tidy.ensures.tidies);
      free = ap (λ (p : Purse). p.free) c.set_going.ensures.purse;
    }

pub returns-clause-resting : goal.returns-clause-resting
returns-clause-resting c = let old = c.args.pass.now in let mid = c.rest.new.pass in let given = c.give.new.pass in
    let done = c.tidy.new.pass in
    let new = c.set_going.new.pass in let purse = c.set_going.ensures.purse in record {
      idle = (
        c.set_going.ensures.walk ∙ (c.tidy.ensures.walk ∙ (c.give.ensures.walk
            ∙ walk_zero (known mid.seat) mid.walk mid.keeping.pass.five mid.keeping.walk_is c.rest.ensures.empty)),
        ap (λ p. p.going) purse,
        ap (λ p. p.taken) purse ∙ (c.tidy.ensures.tidies.lists.taken ∙ c.give.ensures.gave.taken),
      );
      rest = subst (λ s. IsAtRest (known s) new.purse) (sym c.set_going.ensures.seat) record {
        scan = c.tidy.ensures.rest.scan;
        spent = ap (λ p. p.spent) purse ∙ c.tidy.ensures.rest.spent;
        frontier = c.tidy.ensures.rest.frontier;
      };
    }
