use Rattle.std.proofs.Common.{ℕ, sym, ap, ◌∙◌, subst}
use Rattle.pp_base.specs.Passes.{known, view, IsAtRest}
use Rattle.pp_base.specs.declared.purse.Purse.{Purse}
use Rattle.pp_calls.proofs.Purses.{same_share}
use Rattle.pp_tree_calls.specs.Purses.{PutsAway}
use Rattle.pp_tree_calls.proofs.Resting.{rest_kept, walk_zero, puts_away}
use Rattle.pp_tree_calls.proofs.ending.end_full.Goals as goal

pub returns-clause-puts : goal.returns-clause-puts
returns-clause-puts c = let old = c.args.pass.now in let mid = c.done.new.pass in let tidy = c.tidy.new.pass in
    let new = c.set_going.new.pass in
    let share = same_share 5 2 old.seat mid.seat _ _ _ _ _ _ _ _ old.keeping mid.keeping c.done.ensures.same in
    subst (λ s. PutsAway c.args.pool.now.layout old.share (view old.seat) (view s) old.purse new.purse) (sym c.set_going.ensures.seat)
    (subst (λ (n : ℕ). PutsAway c.args.pool.now.layout n (view old.seat) (view tidy.seat) old.purse new.purse) share
    (puts_away c.args.pool.now.layout mid.share (view old.seat) (view mid.seat) (view tidy.seat) old.purse mid.purse tidy.purse new.purse
    c.done.ensures.clears c.done.ensures.purse c.tidy.ensures.shelves c.tidy.ensures.only c.tidy.ensures.ends c.tidy.ensures.begins
    c.tidy.ensures.share (ap (λ (p : Purse). p.free) c.set_going.ensures.purse)))

pub returns-clause-resting : goal.returns-clause-resting
returns-clause-resting c = let old = c.args.pass.now in let mid = c.done.new.pass in let tidy = c.tidy.new.pass in
    let new = c.set_going.new.pass in
    let purse = c.set_going.ensures.purse in let only = c.tidy.ensures.only in
    let rest = only.rest (rest_kept (known old.seat) (known mid.seat) old.purse mid.purse c.done.ensures.clears.trail.rest
    (ap (λ p. p.spent) c.done.ensures.purse) c.requires.rest) in record {
      idle = (
        c.set_going.ensures.walk ∙ (c.tidy.ensures.walk
            ∙ walk_zero (known mid.seat) mid.walk mid.keeping.pass.five mid.keeping.walk_is c.done.ensures.lets.empty),
        ap (λ p. p.going) purse,
        ap (λ p. p.taken) purse ∙ (ap (λ p. p.taken) only.lists ∙ (ap (λ p. p.taken) c.done.ensures.purse ∙ c.requires.none)),
      );
      rest = subst (λ s. IsAtRest (known s) new.purse) (sym c.set_going.ensures.seat) record {
        scan = rest.scan;
        spent = ap (λ p. p.spent) purse ∙ rest.spent;
        frontier = rest.frontier;
      };
    }
