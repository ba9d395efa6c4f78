use Rattle.std.proofs.Common.{ℕ, Some, refl, sym, ap, ◌∙◌}
use Rattle.pp_model.specs.declared.Answer.TheVariants.{Said}
use Rattle.pp_model.specs.declared.Reply.TheVariants.{Held}
use Rattle.pp_base.specs.Passes.{known, view}
use Rattle.pp_calls.proofs.Purses.{same_share}
use Rattle.pp_walk.specs.Roles.{found_in}
use Rattle.pp_list.proofs.Arriving.{arrived_ends, found_value, insert_held, insert_looks, comes_to_detach, comes_to_publish}
use Rattle.pp_list.proofs.Arriving.{over_same, ends_as}
use Rattle.pp_walk.proofs.Lone.{sees_of}
use Rattle.pp_walk.proofs.LoneEnds.{found_end}
use Rattle.pp_walk.proofs.LoneStays.{same_bare, quiet_same}
use Rattle.pp_list.proofs.Alone.{over_turn}
use Rattle.pp_list.proofs.parts.arrive_insert.Goals as goal

pub returns-then-found-clause-part : goal.returns-then-found-clause-part
returns-then-found-clause-part c = let z = c.args.pool.now.layout in let g = c.args.going.now in let old = c.args.pass.now in
    let s = c.stored-value in let mid = s.new.pass in let e = c.end in let new = e.new.pass in let q = known old.seat in
    let f = c.args.found in let r = c.requires.ready in let i = c.requires.inserts in
    arrived_ends z old.share g f (view old.seat) (view mid.seat) old.purse s.ensures.idles s.ensures.known (view new.seat) e.new.going
    new.purse e.result (Held s.result) (over_same g e.new.going _ _ e.ensures.over) (ap (λ x. x.lost) e.ensures.over)
    (ap (λ x. x.struck) e.ensures.over ∙ r.unstruck) r.below
    (insert_held g.call i.0 i.1 (found_in q f) s.result i.2 (found_value q f c.if-found.true
    (r.found.unmarked (insert_looks g.call i.0 i.1 i.2))
    ∙ ap (λ (n : ℕ). Some n) (sym s.ensures.value))) refl e.ensures.done
    (ends_as z old.share mid.share g.races g.call g.fresh (Said (Held s.result)) (view mid.seat) (view new.seat) old.purse mid.purse
    new.purse
    (same_share 0 1 old.seat mid.seat _ _ _ _ _ _ _ _ old.keeping mid.keeping s.ensures.same) s.ensures.purse e.ensures.ended)

pub returns-then-found-ne0-clause-part : goal.returns-then-found-ne0-clause-part
returns-then-found-ne0-clause-part c = let old = c.args.pass.now in let i = c.requires.inserts in
    comes_to_detach c.args.pool.now.layout old.share c.args.going.now c.args.found (view old.seat) old.purse c.requires.ready i.0 i.1 i.2
    c.if-found.false c.if-found-ne0.true

pub returns-else-found-ne0-clause-part : goal.returns-else-found-ne0-clause-part
returns-else-found-ne0-clause-part c = let old = c.args.pass.now in let i = c.requires.inserts in
    comes_to_publish c.args.pool.now.layout old.share c.args.going.now c.args.found (view old.seat) old.purse c.requires.ready i.0 i.1 i.2
    c.if-found.false

pub returns-then-found-clause-alone : goal.returns-then-found-clause-alone
returns-then-found-clause-alone c = λ lone. let z = c.args.pool.now.layout in let g = c.args.going.now in let old = c.args.pass.now in
    let s = c.stored-value in let mid = s.new.pass in let e = c.end in
    let sv = sees_of z old.seat _ _ _ _ old.keeping old.run c.requires.fits.sizes in
    let su = sees_of z mid.seat _ _ _ _ mid.keeping mid.run (s.ensures.same.sizes ∙ c.requires.fits.sizes) in
    over_turn z g e.new.going (view e.new.pass.seat) _ e.result (ap (λ x. x.lost) e.ensures.over) e.ensures.done
    (e.ensures.alone lone.0.one (same_bare z (view old.seat) (view mid.seat) sv su lone.0.one
    (quiet_same z (view old.seat) (view mid.seat) sv su lone.0.one 0 s.ensures.idles) lone.0.bare))

pub returns-then-found-ne0-clause-alone : goal.returns-then-found-ne0-clause-alone
returns-then-found-ne0-clause-alone c = λ lone. let z = c.args.pool.now.layout in let old = c.args.pass.now in
    absurd (c.if-found-ne0.true (found_end z (view old.seat) (sees_of z old.seat _ _ _ _ old.keeping old.run c.requires.fits.sizes) lone.0
    c.args.going.now.call c.args.found c.requires.ready.found).1)

pub returns-else-found-ne0-clause-alone : goal.returns-else-found-ne0-clause-alone
returns-else-found-ne0-clause-alone c = λ lone. record { lost = refl; on = lone; done = tt }
