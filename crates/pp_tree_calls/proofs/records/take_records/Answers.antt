use Rattle.std.proofs.Common.{◌≡◌, sym, ap, ◌∙◌, subst}
use Rattle.pp_base.specs.Passes.{known, view, IsAtRest}
use Rattle.pp_pool.specs.Taken.{IsPrivate}
use Rattle.pp_tree_calls.specs.Purses.{HasOut}
use Rattle.pp_tree_calls.proofs.Taking.{took_found}
use Rattle.pp_tree_calls.proofs.records.take_records.Goals as goal

pub returns-clause-some : goal.returns-clause-some
returns-clause-some c = let old = c.args.pass.now in let mid = c.find_free.new.pass in let first = c.take.new.pass in
    let new = c.take-2.new.pass in
    let none : old.purse.taken ≡ 0 = subst (HasOut (known old.seat) old.purse) c.in_default.is c.requires.out in
    let leaf = c.in-Some-take in let inner = c.in-Some-take-2 in
    took_found c.args.pool.now.layout c.args.records (view old.seat) (view mid.seat)
    (view new.seat) old.purse mid.purse first.purse new.purse
    leaf.leaf inner.inner c.in_default.is c.find_free.ensures.finds (ap view (c.take-2.ensures.seat ∙ c.take.ensures.seat)) none
    new.keeping.pass.owned_once leaf.ensures.some inner.ensures.some
    (subst (λ s. IsPrivate (known s) first.purse leaf.leaf.number) (sym c.take-2.ensures.seat) leaf.ensures.private) inner.ensures.private

pub returns-clause-rest : goal.returns-clause-rest
returns-clause-rest c = let new = c.take-2.new.pass in
    subst (λ s. IsAtRest (known s) new.purse) (sym (c.take-2.ensures.seat ∙ c.take.ensures.seat)) record {
      scan = c.find_free.ensures.rest.scan;
      spent = c.in-Some-take-2.ensures.some.spent ∙ (c.in-Some-take.ensures.some.spent ∙ c.find_free.ensures.rest.spent);
      frontier = c.find_free.ensures.rest.frontier;
    }
