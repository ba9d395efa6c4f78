use Rattle.std.proofs.Common.{◌≡◌, sym, ap, ◌∙◌, subst}
use Rattle.pp_base.specs.Passes.{known, view, IsAtRest}
use Rattle.pp_list.specs.Purses.{HasOut}
use Rattle.pp_list.proofs.Taking.{take_some, take_none, take_spent}
use Rattle.pp_list.proofs.records.take_record.Goals as goal

pub returns-clause-rest : goal.returns-clause-rest
returns-clause-rest c = let old = c.args.pass.now in let mid = c.find_free.new.pass in let new = c.take.new.pass in
    let out : old.purse.taken ≡ 0 = subst (HasOut (known old.seat) old.purse) c.in_default.is c.requires.out in
    let seat = c.take.ensures.seat in subst (λ s. IsAtRest (known s) new.purse) (sym seat) record {
      scan = c.find_free.ensures.rest.scan;
      spent = take_spent c.args.pool.now.layout c.args.fresh (view old.seat) (view mid.seat) (view new.seat) old.purse mid.purse new.purse
          c.in_default.is c.find_free.ensures.finds (ap view seat) out (c.find_free.ensures.told.0 c.if-not-find_free.false)
          c.take.result c.take.ensures.some c.take.ensures.none ∙ c.find_free.ensures.rest.spent;
      frontier = c.find_free.ensures.rest.frontier;
    }

pub returns-clause-some : goal.returns-clause-some
returns-clause-some c = let old = c.args.pass.now in let mid = c.find_free.new.pass in let new = c.take.new.pass in
    let out : old.purse.taken ≡ 0 = subst (HasOut (known old.seat) old.purse) c.in_default.is c.requires.out in
    take_some c.args.pool.now.layout c.args.fresh (view old.seat) (view mid.seat) (view new.seat) old.purse mid.purse new.purse
    c.in_default.is c.find_free.ensures.finds (ap view c.take.ensures.seat) out (c.find_free.ensures.told.0 c.if-not-find_free.false)
    c.take.result c.take.ensures.some c.take.ensures.private

pub returns-clause-none : goal.returns-clause-none
returns-clause-none c = let old = c.args.pass.now in let mid = c.find_free.new.pass in let new = c.take.new.pass in
    let out : old.purse.taken ≡ 0 = subst (HasOut (known old.seat) old.purse) c.in_default.is c.requires.out in
    take_none c.args.pool.now.layout c.args.fresh (view old.seat) (view mid.seat) (view new.seat) old.purse mid.purse new.purse
    c.in_default.is c.find_free.ensures.finds (ap view c.take.ensures.seat) out (c.find_free.ensures.told.0 c.if-not-find_free.false)
    c.take.result c.take.ensures.none
