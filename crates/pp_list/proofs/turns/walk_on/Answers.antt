use Rattle.std.proofs.Common.{[], refl, sym, ap, ◌∙◌, subst}
use Rattle.pp_base.specs.declared.purse.Purse.{Purse}
use Rattle.pp_base.specs.Passes.{known, view}
use Rattle.pp_calls.proofs.Purses.{same_share}
use Rattle.pp_model.specs.declared.Turned.TheVariants.{On}
use Rattle.pp_list.specs.declared.going.Next.TheVariants.{Walks}
use Rattle.pp_list.specs.Turned.{HasLost, HasArrived, HasEnded, ListTurned}
use Rattle.pp_list.proofs.Resting.{rest_kept}
use Rattle.pp_list.proofs.Treading.{treads_on, treads_back, treads_to, treads_ready, turned_by, lost_as, arrived_as, trod_long, unstruck}
use Rattle.pp_walk.proofs.Lone.{sees_of}
use Rattle.pp_walk.proofs.LoneEnds.{lone_arrives}
use Rattle.pp_list.specs.Going.{Stands}
use Rattle.pp_list.specs.declared.going.Next.{Next}
use Rattle.pp_list.specs.Lone.{LoneAt}
use Rattle.pp_list.proofs.turns.walk_on.Goals as goal

pub lose-requires-clause-rest : goal.lose-requires-clause-rest
lose-requires-clause-rest c = let old = c.args.pass.now in let mid = c.turn.new.pass in let x = c.requires.under.1.1 in
    let t = c.in-Lost.ensures.turned in
    rest_kept (known old.seat) (known mid.seat) old.purse mid.purse t.goes.turned.rest (ap (λ p. p.spent) c.turn.ensures.purse) x.rest

pub arrive-requires-clause-ready : goal.arrive-requires-clause-ready
arrive-requires-clause-ready c = let z = c.args.pool.now.layout in let g = c.args.going.now in let old = c.args.pass.now in
    let mid = c.turn.new.pass in let u = c.requires.under in
    subst (λ (p : Purse). HasEnded z g (known mid.seat) p c.in-At.found) (sym c.turn.ensures.purse)
    (treads_ready z old.share g c.args.walk (view old.seat) (view mid.seat) old.purse c.requires.at c.in-At.found c.in-At.ensures.turned
    u.0 u.1.0 u.1.1)

pub returns-in-On-clause-turned : goal.returns-in-On-clause-turned
returns-in-On-clause-turned c = let z = c.args.pool.now.layout in let g = c.args.going.now in let old = c.args.pass.now in
    let mid = c.turn.new.pass in let u = c.requires.under in
    subst (λ (p : Purse). ListTurned z old.share g (record g { next = Walks c.turn.new.self }) (view old.seat) (view mid.seat) old.purse p
    On)
    (sym c.turn.ensures.purse)
    (treads_on z old.share g c.args.walk (view old.seat) (view mid.seat) old.purse c.requires.at c.turn.new.self c.in-On.ensures.turned
    c.turn.ensures.call.1 u.0 u.1.0 u.1.1)

pub returns-in-Lost-clause-turned : goal.returns-in-Lost-clause-turned
returns-in-Lost-clause-turned c = let z = c.args.pool.now.layout in let g = c.args.going.now in let old = c.args.pass.now in
    let mid = c.turn.new.pass in let new = c.lose.new.pass in let x = c.requires.under in let t = c.in-Lost.ensures.turned in
    let v = view old.seat in let u = view mid.seat in let w = view new.seat in
    turned_by z old.share (HasLost z old.share g u old.purse) g c.lose.new.going v u w old.purse old.purse new.purse c.lose.result
    t.goes.turned.trod.stepped (trod_long 1 [] v u t.goes.turned.trod) t.goes.turned.stands
    (unstruck z old.share g c.args.walk v u old.purse c.requires.at x.0 x.1.0 x.1.1)
    (treads_back z old.share g c.args.walk v u old.purse c.requires.at c.turn.new.self t)
    (lost_as z old.share mid.share g c.lose.new.going u w old.purse mid.purse new.purse c.lose.result
    (same_share 0 1 old.seat mid.seat _ _ _ _ _ _ _ _ old.keeping mid.keeping c.turn.ensures.same) c.turn.ensures.purse c.lose.ensures.part)
    c.lose.ensures.early

pub returns-in-At-clause-turned : goal.returns-in-At-clause-turned
returns-in-At-clause-turned c = let z = c.args.pool.now.layout in let g = c.args.going.now in let old = c.args.pass.now in
    let mid = c.turn.new.pass in let new = c.arrive.new.pass in let x = c.requires.under in let t = c.in-At.ensures.turned in
    let f = c.in-At.found in let v = view old.seat in let u = view mid.seat in let w = view new.seat in
    turned_by z old.share (HasArrived z old.share g f u old.purse) g c.arrive.new.going v u w old.purse old.purse new.purse c.arrive.result
    t.turned.trod.stepped (trod_long 0 t.calls v u t.turned.trod) t.turned.stands
    (unstruck z old.share g c.args.walk v u old.purse c.requires.at x.0 x.1.0 x.1.1)
    (treads_to z old.share g c.args.walk v u old.purse c.requires.at f t)
    (arrived_as z old.share mid.share g c.arrive.new.going f u w old.purse mid.purse new.purse c.arrive.result
    (same_share 0 1 old.seat mid.seat _ _ _ _ _ _ _ _ old.keeping mid.keeping c.turn.ensures.same) c.turn.ensures.purse
    c.arrive.ensures.part) c.arrive.ensures.early

pub returns-in-On-clause-alone : goal.returns-in-On-clause-alone
returns-in-On-clause-alone c = λ lone. let z = c.args.pool.now.layout in let old = c.args.pass.now in
    let l = subst (λ (n : Next). LoneAt z n (view old.seat)) c.requires.at lone in
    record { lost = refl; on = (c.in-On.ensures.alone l).1; done = tt }

pub returns-in-Lost-clause-alone : goal.returns-in-Lost-clause-alone
returns-in-Lost-clause-alone c = λ lone. let z = c.args.pool.now.layout in let old = c.args.pass.now in
    let l = subst (λ (n : Next). LoneAt z n (view old.seat)) c.requires.at lone in
    absurd ((c.in-Lost.ensures.alone l).0 refl)

pub returns-in-At-clause-alone : goal.returns-in-At-clause-alone
returns-in-At-clause-alone c = λ lone. let z = c.args.pool.now.layout in let g = c.args.going.now in let old = c.args.pass.now in
    let mid = c.turn.new.pass in let x = c.requires.under in let t = c.in-At.ensures.turned in let v = view old.seat in
    let l = subst (λ (n : Next). LoneAt z n v) c.requires.at lone in
    let stands = subst (λ (n : Next). Stands z g.call g.races g.lost n x.0 v) c.requires.at x.1.1.stands in
    c.arrive.ensures.alone (
      (c.in-At.ensures.alone l).1,
      lone_arrives z c.args.walk c.in-At.found v (view mid.seat)
          (sees_of z old.seat _ _ _ _ old.keeping old.run c.requires.fits.sizes)
          (sees_of z mid.seat _ _ _ _ mid.keeping mid.run (c.turn.ensures.same.sizes ∙ c.requires.fits.sizes)) stands.1.0 t l,
    )
