use Rattle.std.proofs.Common.{sym, ap, ◌∙◌, subst}
use Rattle.pp_base.specs.Passes.{known}
use Rattle.pp_walk.specs.Words.{AllEmpty, SameRest}
use Rattle.pp_list.proofs.Resting.{rest_kept, walk_zero}
use Rattle.pp_list.proofs.ending.end_look.Goals as goal

pub returns-clause-resting : goal.returns-clause-resting
returns-clause-resting c = let old = c.args.pass.now in let mid = c.rest.new.pass in let new = c.set_going.new.pass in
    let seat = c.set_going.ensures.seat in let purse = c.set_going.ensures.purse in record {
      idle = (
        walk_zero (known new.seat) new.walk new.keeping.pass.five new.keeping.walk_is
            (subst (λ s. AllEmpty (known s)) (sym seat) c.rest.ensures.empty),
        ap (λ p. p.going) purse,
        ap (λ p. p.taken) purse ∙ (ap (λ p. p.taken) c.rest.ensures.purse ∙ c.requires.none),
      );
      rest = rest_kept (known old.seat) (known new.seat) old.purse new.purse
          (subst (λ s. SameRest (known old.seat) (known s)) (sym seat) c.rest.ensures.rest)
          (ap (λ p. p.spent) purse ∙ ap (λ p. p.spent) c.rest.ensures.purse) c.requires.rest;
    }
