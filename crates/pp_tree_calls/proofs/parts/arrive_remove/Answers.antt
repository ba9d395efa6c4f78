use Rattle.std.proofs.Common.{refl, sym, ap, ◌∙◌}
use Rattle.pp_link.specs.Links.{bit}
use Rattle.pp_model.specs.declared.Reply.TheVariants.{Absent}
use Rattle.pp_rule.specs.Views.{slot, value_of}
use Rattle.pp_base.specs.Passes.{known, view}
use Rattle.pp_tree_calls.specs.Turned.{found_by}
use Rattle.pp_tree_calls.proofs.Arriving.{arrived_says, found_other, found_flag, flag_of, remove_absent, remove_takes}
use Rattle.pp_tree_calls.proofs.Alone.{over_turn}
use Rattle.pp_tree_calls.proofs.parts.arrive_remove.Goals as goal

pub returns-then-not-sought-clause-part : goal.returns-then-not-sought-clause-part
returns-then-not-sought-clause-part c = let old = c.args.pass.now in let g = c.args.going.now in let s = c.args.sought in
    let r = c.requires in
    let q = known old.seat in let e = c.end in let new = e.new.pass in
    arrived_says c.args.pool.now.layout old.share g s (view old.seat) old.purse (view new.seat) e.new.going new.purse e.result Absent
    e.ensures.over r.unstruck r.ready.below (remove_absent g.call r.removes.0 (found_by g s q) r.removes.1
    (found_other g s q r.ready.sought c.if-not-sought.true)) refl e.ensures.done e.ensures.ended

pub returns-then-flag-clause-part : goal.returns-then-flag-clause-part
returns-then-flag-clause-part c = let old = c.args.pass.now in let g = c.args.going.now in let s = c.args.sought in let r = c.requires in
    let q = known old.seat in let e = c.end-then-flag in let new = e.new.pass in
    arrived_says c.args.pool.now.layout old.share g s (view old.seat) old.purse (view new.seat) e.new.going new.purse e.result Absent
    e.ensures.over r.unstruck r.ready.below (remove_absent g.call r.removes.0 (found_by g s q) r.removes.1
    (found_flag g s q (flag_of s.edge ∙ ap bit (sym c.flag.ensures ∙ c.if-flag.true)))) refl e.ensures.done e.ensures.ended

pub open_removal-requires-clause-takes : goal.open_removal-requires-clause-takes
open_removal-requires-clause-takes c = remove_takes c.args.going.now.call c.requires.removes.0
    (value_of (slot (known c.args.pass.now.seat) c.args.sought.word).value) c.requires.removes.1

pub returns-then-not-sought-clause-alone : goal.returns-then-not-sought-clause-alone
returns-then-not-sought-clause-alone c = λ l. let z = c.args.pool.now.layout in let g = c.args.going.now in let e = c.end in
    over_turn z g e.new.going (view e.new.pass.seat) _ e.result (ap (λ x. x.lost) e.ensures.over) e.ensures.done
    (e.ensures.alone l.lone.one l.lone.bare)

pub returns-then-flag-clause-alone : goal.returns-then-flag-clause-alone
returns-then-flag-clause-alone c = λ l. let z = c.args.pool.now.layout in let g = c.args.going.now in let e = c.end-then-flag in
    over_turn z g e.new.going (view e.new.pass.seat) _ e.result (ap (λ x. x.lost) e.ensures.over) e.ensures.done
    (e.ensures.alone l.lone.one l.lone.bare)
