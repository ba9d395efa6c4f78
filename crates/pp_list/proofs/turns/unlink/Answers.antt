use Rattle.std.proofs.Common.{◌≡◌, ◌+◌, refl, ap, subst, arith}
use Rattle.pp_model.specs.declared.Answer.TheVariants.{Said}
use Rattle.pp_model.specs.declared.Reply.TheVariants.{Took}
use Rattle.pp_base.specs.Passes.{view}
use Rattle.pp_calls.proofs.Purses.{same_share}
use Rattle.pp_list.proofs.Arriving.{over_same, ends_as}
use Rattle.pp_list.proofs.Unlinking.{unlinked, at_unlink, out_still}
use Rattle.pp_list.specs.declared.going.Next.{Next}
use Rattle.pp_list.specs.Lone.{LoneAt}
use Rattle.pp_list.proofs.Alone.{over_turn}
use Rattle.pp_list.proofs.turns.unlink.Goals as goal

pub try_detach-requires-clause-rest : goal.try_detach-requires-clause-rest
try_detach-requires-clause-rest c = c.requires.under.1.1.rest

pub try_detach-requires-clause-may : goal.try_detach-requires-clause-may
try_detach-requires-clause-may c = let old = c.args.pass.now in let x = c.requires.under in
    let k = at_unlink c.args.pool.now.layout old.share c.args.going.now c.args.marked (view old.seat) old.purse c.requires.at x.0 x.1.0
    x.1.1 in
    (k.0, k.1.1)

pub end-requires-clause-out : goal.end-requires-clause-out
end-requires-clause-out c = let old = c.args.pass.now in let mid = c.try_detach.new.pass in let t = c.try_detach.ensures.tries in
    out_still c.args.going.now.fresh (view old.seat) (view mid.seat) old.purse mid.purse t.owned t.free c.requires.under.1.1.carries.out

pub returns-clause-turned : goal.returns-clause-turned
returns-clause-turned c = let z = c.args.pool.now.layout in let g = c.args.going.now in let old = c.args.pass.now in
    let mid = c.try_detach.new.pass in let e = c.end in let new = e.new.pass in let x = c.requires.under in let m = c.args.marked in
    let share = same_share 0 1 old.seat mid.seat _ _ _ _ _ _ _ _ old.keeping mid.keeping c.try_detach.ensures.same in
    let same = over_same (record g { lost = g.lost + c.try_detach.result }) e.new.going _ _ e.ensures.over in
    unlinked z old.share g m (view old.seat) (view mid.seat) old.purse mid.purse c.requires.at c.try_detach.ensures.same.sizes
    c.try_detach.result c.try_detach.ensures.tries e.new.going (view new.seat) new.purse e.result
    (record { head = same.head; call = same.call; races = same.races })
    (ap (λ y. y.lost) e.ensures.over) (ap (λ y. y.struck) e.ensures.over) e.ensures.done
    (ends_as z old.share mid.share g.races g.call g.fresh (Said (Took m.value)) (view mid.seat) (view new.seat) mid.purse mid.purse
    new.purse
    share refl e.ensures.ended) x.0 x.1.0 x.1.1

pub returns-clause-alone : goal.returns-clause-alone
returns-clause-alone c = λ lone. let z = c.args.pool.now.layout in let g = c.args.going.now in let e = c.end in
    let l = subst (λ (n : Next). LoneAt z n (view c.args.pass.now.seat)) c.requires.at lone in let gone = c.try_detach.ensures.alone l in
    let lost : e.new.going.lost ≡ g.lost = (let now = ap (λ x. x.lost) e.ensures.over in let none = gone.0 in omega arith) in
    over_turn z g e.new.going (view e.new.pass.seat) _ e.result lost e.ensures.done (e.ensures.alone l.1.one gone.1)
