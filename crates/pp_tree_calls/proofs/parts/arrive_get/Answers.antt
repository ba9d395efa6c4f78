use Rattle.std.proofs.Common.{Some, refl, sym, ap, ◌∙◌}
use Rattle.pp_link.specs.Links.{bit}
use Rattle.pp_model.specs.declared.Answer.TheVariants.{Said}
use Rattle.pp_model.specs.declared.Reply.TheVariants.{Value, Absent}
use Rattle.pp_model.specs.Calls.{reply_at}
use Rattle.pp_base.specs.Passes.{known, view}
use Rattle.pp_calls.proofs.Purses.{same_share}
use Rattle.pp_tree_calls.specs.Turned.{found_by, HasArrived}
use Rattle.pp_tree_calls.proofs.Lasting.{part_after}
use Rattle.pp_tree_calls.proofs.Arriving.{arrived_says, arrived_idle, found_other, found_flag, found_value, flag_of, get_absent}
use Rattle.pp_tree_calls.proofs.Arriving.{get_value, ends_as}
use Rattle.pp_seek.proofs.LoneSpots.{sees_of}
use Rattle.pp_tree_calls.proofs.Alone.{same_bare, idles_same, over_turn}
use Rattle.pp_tree_calls.proofs.parts.arrive_get.Goals as goal

pub returns-then-not-sought-clause-part : goal.returns-then-not-sought-clause-part
returns-then-not-sought-clause-part c = let old = c.args.pass.now in let g = c.args.going.now in let s = c.args.sought in
    let r = c.requires in
    let q = known old.seat in let e = c.end in let new = e.new.pass in
    arrived_says c.args.pool.now.layout old.share g s (view old.seat) old.purse (view new.seat) e.new.going new.purse e.result Absent
    e.ensures.over ((r.ready.looks r.gets).1) r.ready.below (get_absent g.call (found_by g s q) r.gets
    (found_other g s q r.ready.sought c.if-not-sought.true)) refl e.ensures.done e.ensures.ended

pub returns-then-flag-clause-part : goal.returns-then-flag-clause-part
returns-then-flag-clause-part c = let old = c.args.pass.now in let g = c.args.going.now in let s = c.args.sought in let r = c.requires in
    let q = known old.seat in let e = c.end-then-flag in let new = e.new.pass in
    arrived_says c.args.pool.now.layout old.share g s (view old.seat) old.purse (view new.seat) e.new.going new.purse e.result Absent
    e.ensures.over ((r.ready.looks r.gets).1) r.ready.below (get_absent g.call (found_by g s q) r.gets
    (found_flag g s q (flag_of s.edge ∙ ap bit (sym c.flag.ensures ∙ c.if-flag.true)))) refl e.ensures.done e.ensures.ended

pub returns-clause-part : goal.returns-clause-part
returns-clause-part c = let old = c.args.pass.now in let g = c.args.going.now in let s = c.args.sought in let r = c.requires in
    let z = c.args.pool.now.layout in let q = known old.seat in let x = c.stored-value in let mid = x.new.pass in
    let e = c.end-2 in let new = e.new.pass in
    part_after z old.share (HasArrived z old.share g s (view old.seat) old.purse)
    (HasArrived z old.share g s (view mid.seat) old.purse) g e.new.going
    (view old.seat) (view mid.seat) (view new.seat) new.purse e.result x.ensures.idles.stepped x.ensures.idles.stands
    (arrived_idle z old.share g s (view old.seat) (view mid.seat) old.purse x.ensures.idles)
    (arrived_says z old.share g s (view mid.seat) old.purse (view new.seat) e.new.going new.purse e.result (Value x.result)
    e.ensures.over ((r.ready.looks r.gets).1) r.ready.below (ap (λ p. reply_at g.call (found_by g s p)) x.ensures.idles.known
    ∙ get_value g.call (found_by g s q) x.result r.gets (found_value g s q r.ready.sought c.if-not-sought.false
    (flag_of s.edge ∙ ap bit (sym c.flag.ensures ∙ c.if-flag.false)) ∙ ap (λ n. Some n) (sym x.ensures.value))) refl e.ensures.done
    (ends_as z old.share mid.share g.races g.call g.records (Said (Value x.result)) (view mid.seat)
    (view new.seat) old.purse mid.purse new.purse
    (same_share 5 2 old.seat mid.seat _ _ _ _ _ _ _ _ old.keeping mid.keeping x.ensures.same) x.ensures.purse e.ensures.ended))

pub returns-then-not-sought-clause-alone : goal.returns-then-not-sought-clause-alone
returns-then-not-sought-clause-alone c = λ l. let z = c.args.pool.now.layout in let g = c.args.going.now in let e = c.end in
    over_turn z g e.new.going (view e.new.pass.seat) _ e.result (ap (λ x. x.lost) e.ensures.over) e.ensures.done
    (e.ensures.alone l.lone.one l.lone.bare)

pub returns-then-flag-clause-alone : goal.returns-then-flag-clause-alone
returns-then-flag-clause-alone c = λ l. let z = c.args.pool.now.layout in let g = c.args.going.now in let e = c.end-then-flag in
    over_turn z g e.new.going (view e.new.pass.seat) _ e.result (ap (λ x. x.lost) e.ensures.over) e.ensures.done
    (e.ensures.alone l.lone.one l.lone.bare)

pub returns-clause-alone : goal.returns-clause-alone
returns-clause-alone c = λ l. let z = c.args.pool.now.layout in let g = c.args.going.now in let old = c.args.pass.now in
    let x = c.stored-value in let mid = x.new.pass in let e = c.end-2 in
    let sv = sees_of z old.seat _ _ _ _ old.keeping old.run c.requires.fits.sizes in
    let su = sees_of z mid.seat _ _ _ _ mid.keeping mid.run (x.ensures.same.sizes ∙ c.requires.fits.sizes) in
    let same = idles_same z (view old.seat) (view mid.seat) sv su l.lone.one x.ensures.idles in
    over_turn z g e.new.going (view e.new.pass.seat) _ e.result (ap (λ x. x.lost) e.ensures.over) e.ensures.done
    (e.ensures.alone l.lone.one (same_bare z (view old.seat) (view mid.seat) sv su l.lone.one same l.lone.bare))
