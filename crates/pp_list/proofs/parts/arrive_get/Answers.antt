use Rattle.std.proofs.Common.{ℕ, Some, refl, sym, ap, ◌∙◌}
use Rattle.pp_model.specs.declared.Answer.TheVariants.{Said}
use Rattle.pp_model.specs.declared.Reply.TheVariants.{Value, Absent}
use Rattle.pp_base.specs.Passes.{known, view}
use Rattle.pp_calls.proofs.Purses.{same_share}
use Rattle.pp_walk.specs.Roles.{found_in}
use Rattle.pp_list.proofs.Arriving.{idles_none, arrived_ends, found_absent, found_marked, found_value, get_reply, get_value}
use Rattle.pp_list.proofs.Arriving.{over_same, ends_as}
use Rattle.pp_list.proofs.Arriving.{not_so, so}
use Rattle.pp_walk.proofs.Lone.{sees_of}
use Rattle.pp_walk.proofs.LoneStays.{same_bare, quiet_same}
use Rattle.pp_list.proofs.Alone.{over_turn}
use Rattle.pp_list.proofs.parts.arrive_get.Goals as goal

pub returns-then-not-found-clause-part : goal.returns-then-not-found-clause-part
returns-then-not-found-clause-part c = let g = c.args.going.now in let old = c.args.pass.now in let e = c.end in let new = e.new.pass in
    let v = view old.seat in let q = known old.seat in let f = c.args.found in
    arrived_ends c.args.pool.now.layout old.share g f v v old.purse (idles_none v v refl) refl (view new.seat) e.new.going new.purse
    e.result
    Absent (over_same g e.new.going _ _ e.ensures.over) (ap (λ x. x.lost) e.ensures.over)
    (ap (λ x. x.struck) e.ensures.over ∙ c.requires.ready.unstruck) c.requires.ready.below
    (get_reply g.call (found_in q f) c.requires.gets (found_absent q f (not_so f.equal c.if-not-found.true))) refl e.ensures.done
    e.ensures.ended

pub returns-then-found-clause-part : goal.returns-then-found-clause-part
returns-then-found-clause-part c = let g = c.args.going.now in let old = c.args.pass.now in let e = c.end-then-found in
    let new = e.new.pass in let v = view old.seat in let q = known old.seat in let f = c.args.found in
    arrived_ends c.args.pool.now.layout old.share g f v v old.purse (idles_none v v refl) refl (view new.seat) e.new.going new.purse
    e.result
    Absent (over_same g e.new.going _ _ e.ensures.over) (ap (λ x. x.lost) e.ensures.over)
    (ap (λ x. x.struck) e.ensures.over ∙ c.requires.ready.unstruck) c.requires.ready.below
    (get_reply g.call (found_in q f) c.requires.gets (found_marked q f (so f.equal c.if-not-found.false) c.if-found.true)) refl
    e.ensures.done
    e.ensures.ended

pub returns-clause-part : goal.returns-clause-part
returns-clause-part c = let z = c.args.pool.now.layout in let g = c.args.going.now in let old = c.args.pass.now in
    let s = c.stored-value in let mid = s.new.pass in
    let e = c.end-2 in let new = e.new.pass in let q = known old.seat in let f = c.args.found in
    arrived_ends z old.share g f (view old.seat) (view mid.seat) old.purse s.ensures.idles s.ensures.known (view new.seat) e.new.going
    new.purse e.result (Value s.result) (over_same g e.new.going _ _ e.ensures.over) (ap (λ x. x.lost) e.ensures.over)
    (ap (λ x. x.struck) e.ensures.over ∙ c.requires.ready.unstruck) c.requires.ready.below
    (get_value g.call (found_in q f) s.result c.requires.gets (found_value q f (so f.equal c.if-not-found.false) c.if-found.false
    ∙ ap (λ (n : ℕ). Some n) (sym s.ensures.value))) refl e.ensures.done
    (ends_as z old.share mid.share g.races g.call g.fresh (Said (Value s.result)) (view mid.seat) (view new.seat) old.purse mid.purse
    new.purse
    (same_share 0 1 old.seat mid.seat _ _ _ _ _ _ _ _ old.keeping mid.keeping s.ensures.same) s.ensures.purse e.ensures.ended)

pub returns-then-not-found-clause-alone : goal.returns-then-not-found-clause-alone
returns-then-not-found-clause-alone c = λ lone. let z = c.args.pool.now.layout in let g = c.args.going.now in let e = c.end in
    over_turn z g e.new.going (view e.new.pass.seat) _ e.result (ap (λ x. x.lost) e.ensures.over) e.ensures.done
    (e.ensures.alone lone.0.one lone.0.bare)

pub returns-then-found-clause-alone : goal.returns-then-found-clause-alone
returns-then-found-clause-alone c = λ lone. let z = c.args.pool.now.layout in let g = c.args.going.now in let e = c.end-then-found in
    over_turn z g e.new.going (view e.new.pass.seat) _ e.result (ap (λ x. x.lost) e.ensures.over) e.ensures.done
    (e.ensures.alone lone.0.one lone.0.bare)

pub returns-clause-alone : goal.returns-clause-alone
returns-clause-alone c = λ lone. let z = c.args.pool.now.layout in let g = c.args.going.now in let old = c.args.pass.now in
    let s = c.stored-value in let mid = s.new.pass in let e = c.end-2 in
    let sv = sees_of z old.seat _ _ _ _ old.keeping old.run c.requires.fits.sizes in
    let su = sees_of z mid.seat _ _ _ _ mid.keeping mid.run (s.ensures.same.sizes ∙ c.requires.fits.sizes) in
    over_turn z g e.new.going (view e.new.pass.seat) _ e.result (ap (λ x. x.lost) e.ensures.over) e.ensures.done
    (e.ensures.alone lone.0.one (same_bare z (view old.seat) (view mid.seat) sv su lone.0.one
    (quiet_same z (view old.seat) (view mid.seat) sv su lone.0.one 0 s.ensures.idles) lone.0.bare))
