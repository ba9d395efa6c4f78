use Rattle.std.proofs.Common.{sym, ap, ◌∙◌, inl, inr}
use Rattle.pp_link.specs.Links.{bit}
use Rattle.pp_model.specs.Calls.{changes, reply_at}
use Rattle.pp_base.specs.Passes.{known, view}
use Rattle.pp_tree_calls.specs.Turned.{found_by}
use Rattle.pp_tree_calls.proofs.Arriving.{arrived_took, opens_beside, flag_of, other_key, changing_struck, no_change}
use Rattle.pp_tree_calls.proofs.parts.arrive_after.Goals as goal

pub returns-then-not-sought-clause-part : goal.returns-then-not-sought-clause-part
returns-then-not-sought-clause-part c = let old = c.args.pass.now in let g = c.args.going.now in let s = c.args.sought in
    let r = c.requires in
    let e = c.end in let new = e.new.pass in
    arrived_took c.args.pool.now.layout old.share g s (view old.seat) old.purse (view new.seat) e.new.going new.purse e.result
    e.ensures.over r.struck (inr (other_key g s (known old.seat) r.ready.sought c.if-not-sought.true)) e.ensures.done e.ensures.ended

pub returns-then-not-flag-clause-part : goal.returns-then-not-flag-clause-part
returns-then-not-flag-clause-part c = let old = c.args.pass.now in let g = c.args.going.now in let s = c.args.sought in
    let r = c.requires in
    let e = c.end-then-not-flag in let new = e.new.pass in
    arrived_took c.args.pool.now.layout old.share g s (view old.seat) old.purse (view new.seat) e.new.going new.purse e.result
    e.ensures.over r.struck (inl (flag_of s.edge ∙ ap bit (sym c.flag.ensures ∙ c.if-not-flag.true))) e.ensures.done e.ensures.ended

pub returns-clause-part : goal.returns-clause-part
returns-clause-part c = let old = c.args.pass.now in let g = c.args.going.now in let s = c.args.sought in let r = c.requires in
    opens_beside c.args.pool.now.layout old.share g s (view old.seat) old.purse r.ready
    (no_change g r.struck (changes (reply_at g.call (found_by g s (known old.seat))))) c.other.result
    (changing_struck g r.struck (λ is. (r.ready.looks is).1)) c.other.ensures
    (flag_of s.edge ∙ ap bit (sym c.flag.ensures ∙ c.if-not-flag.false))
