use Rattle.std.proofs.Common.{◌≡◌, ℕ, length, Option, sym, ap, ◌∙◌, subst, arith}
use Rattle.pp_pool.specs.declared.fresh.Fresh.{Fresh}
use Rattle.pp_base.specs.Passes.{known, view}
use Rattle.pp_model.specs.declared.Turned.{Turned}
use Rattle.pp_calls.proofs.Purses.{same_share}
use Rattle.pp_list.specs.declared.going.Next.TheVariants.{Over}
use Rattle.pp_list.specs.Purses.{TakesOne, TakesNone}
use Rattle.pp_list.specs.Turned.{Part, HasRecord, ListTurned}
use Rattle.pp_turns.proofs.Resting.{four_chains}
use Rattle.pp_list.proofs.Taken.{bare, not_struck, inserts_now, put_turned, full_turned}
use Rattle.std.proofs.Common.{List}
use Rattle.pp_model.specs.Calls.{key_of}
use Rattle.pp_rule.specs.declared.views.WalkSlot.{WalkSlot}
use Rattle.pp_lists.specs.Lists.{slot_in}
use Rattle.pp_walk.proofs.Lone.{sees_of}
use Rattle.pp_list.specs.Going.{Stands}
use Rattle.pp_list.specs.declared.going.Next.{Next}
use Rattle.pp_list.specs.Lone.{LoneAt}
use Rattle.pp_walk.proofs.LoneStays.{end_stays, same_bare, named_same, quiet_same}
use Rattle.pp_list.proofs.Alone.{over_turn, purse_calm}
use Rattle.pp_list.proofs.turns.publish.Goals as goal

pub put_in-requires-clause-inserts : goal.put_in-requires-clause-inserts
put_in-requires-clause-inserts c = let z = c.args.pool.now.layout in let g = c.args.going.now in let old = c.args.pass.now in
    let mid = c.take_record.new.pass in let x = c.requires.under in let fresh = c.in-Some.fresh in
    inserts_now z old.share g c.args.found (view old.seat) (view mid.seat) old.purse mid.purse c.requires.at fresh
    c.take_record.ensures.same.sizes
    (subst (λ (h : Option Fresh). TakesOne z h fresh (view old.seat) (view mid.seat) old.purse mid.purse) c.take-had.ensures.value
    c.in-Some.ensures.some) x.0 x.1.0 x.1.1

pub returns-in-Some-clause-turned : goal.returns-in-Some-clause-turned
returns-in-Some-clause-turned c = let z = c.args.pool.now.layout in let g = c.args.going.now in let old = c.args.pass.now in
    let mid = c.take_record.new.pass in let x = c.requires.under in let fresh = c.in-Some.fresh in let new = c.put_in.new.pass in
    let share = same_share 0 1 old.seat mid.seat _ _ _ _ _ _ _ _ old.keeping mid.keeping c.take_record.ensures.same in
    put_turned z old.share g c.args.found (view old.seat) (view mid.seat) old.purse mid.purse c.requires.at fresh
    c.take_record.ensures.same.sizes
    (subst (λ (h : Option Fresh). TakesOne z h fresh (view old.seat) (view mid.seat) old.purse mid.purse) c.take-had.ensures.value
    c.in-Some.ensures.some) c.put_in.new.going (view new.seat) new.purse c.put_in.result
    (not_struck z old.share g c.args.found (view old.seat) old.purse c.requires.at x.0 x.1.0 x.1.1)
    (subst (λ (n : ℕ). Part z n (HasRecord z n (bare g) fresh (view mid.seat) mid.purse) (bare g) c.put_in.new.going (view mid.seat)
    (view new.seat) new.purse c.put_in.result) share
    (subst (λ (h : Option Fresh). Part z mid.share (HasRecord z mid.share (record g { fresh = h }) fresh (view mid.seat) mid.purse)
    (record g { fresh = h }) c.put_in.new.going (view mid.seat) (view new.seat) new.purse c.put_in.result) c.take-had.ensures.after
    c.put_in.ensures.part)) c.put_in.ensures.some_made

pub returns-in-None-clause-turned : goal.returns-in-None-clause-turned
returns-in-None-clause-turned c = let z = c.args.pool.now.layout in let g = c.args.going.now in let old = c.args.pass.now in
    let mid = c.take_record.new.pass in let x = c.requires.under in let new = c.full.new.pass in
    let counted = new.keeping.counted in let none : new.purse.taken ≡ 0 = c.full.ensures.resting.idle.2 in
    let looks = c.full.ensures.looks in let still = c.in-None.ensures.none.ran_out.still_short in
    let short = ap (λ l. length l.items) looks.free in
    subst (λ (r : Turned). ListTurned z old.share g c.full.new.going (view old.seat) (view new.seat) old.purse new.purse r)
    (sym c.full.ensures.done)
    (full_turned z old.share g c.args.found (view old.seat) (view mid.seat) (view new.seat) old.purse mid.purse new.purse c.requires.at
    (c.full.ensures.same.sizes ∙ c.take_record.ensures.same.sizes)
    (subst (λ (h : Option Fresh). TakesNone z h (view old.seat) (view mid.seat) old.purse mid.purse) c.take-had.ensures.value
    c.in-None.ensures.none) looks (omega arith)
    (four_chains (known new.seat) new.purse new.keeping.chains new.keeping.few) c.full.new.going
    (subst (λ (h : Option Fresh). c.full.new.going ≡ record g { next = Over; fresh = h }) c.take-had.ensures.after c.full.ensures.over) x.0
    x.1.0 x.1.1)

pub returns-in-Some-clause-alone : goal.returns-in-Some-clause-alone
returns-in-Some-clause-alone c = λ lone. let z = c.args.pool.now.layout in let g = c.args.going.now in let old = c.args.pass.now in
    let mid = c.take_record.new.pass in let x = c.requires.under in let f = c.args.found in let v = view old.seat in
    let u = view mid.seat in
    let l = subst (λ (n : Next). LoneAt z n v) c.requires.at lone in
    let sv = sees_of z old.seat _ _ _ _ old.keeping old.run c.requires.fits.sizes in
    let size_u = c.take_record.ensures.same.sizes ∙ c.requires.fits.sizes in
    let su = sees_of z mid.seat _ _ _ _ mid.keeping mid.run size_u in
    let takes = c.in-Some.ensures.some in
    let stands = subst (λ (n : Next). Stands z g.call g.races g.lost n x.0 v) c.requires.at x.1.1.stands in let may = stands.1.1.0 in
    let t = c.put_in.ensures.alone (end_stays z v u sv su l.0.one f (key_of g.call) may.anchored may.plain
    (named_same z v u sv su l.0.one takes.names takes.steps.made (λ s i. purse_calm z s (takes.steps.each s i)))
    (λ (j : ℕ). ap (λ (w : List WalkSlot). slot_in w j) takes.steps.walk) l) in
    record { lost = t.lost; on = t.on; done = t.done }

pub returns-in-None-clause-alone : goal.returns-in-None-clause-alone
returns-in-None-clause-alone c = λ lone. let z = c.args.pool.now.layout in let g = c.args.going.now in let old = c.args.pass.now in
    let mid = c.take_record.new.pass in let x = c.requires.under in let f = c.args.found in let v = view old.seat in
    let u = view mid.seat in
    let l = subst (λ (n : Next). LoneAt z n v) c.requires.at lone in
    let sv = sees_of z old.seat _ _ _ _ old.keeping old.run c.requires.fits.sizes in
    let size_u = c.take_record.ensures.same.sizes ∙ c.requires.fits.sizes in
    let su = sees_of z mid.seat _ _ _ _ mid.keeping mid.run size_u in
    let takes = c.in-None.ensures.none in let new = c.full.new.pass in let w = view new.seat in
    let sw = sees_of z new.seat _ _ _ _ new.keeping new.run (c.full.ensures.same.sizes ∙ size_u) in
    over_turn z g c.full.new.going w _ c.full.result (ap (λ y. y.lost) c.full.ensures.over) c.full.ensures.done
    (same_bare z u w su sw l.0.one (quiet_same z u w su sw l.0.one 0 c.full.ensures.looks.clears)
    (same_bare z v u sv su l.0.one
    (named_same z v u sv su l.0.one takes.names takes.steps.made (λ s i. purse_calm z s (takes.steps.each s i))) l.0.bare))
