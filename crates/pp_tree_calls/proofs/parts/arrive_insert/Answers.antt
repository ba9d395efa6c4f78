use Rattle.std.proofs.Common.{Some, refl, sym, ap, ◌∙◌}
use Rattle.pp_link.specs.Links.{bit}
use Rattle.pp_model.specs.declared.Answer.TheVariants.{Said}
use Rattle.pp_model.specs.declared.Reply.TheVariants.{Held}
use Rattle.pp_model.specs.Calls.{reply_at}
use Rattle.pp_base.specs.Passes.{known, view}
use Rattle.pp_calls.proofs.Purses.{same_share}
use Rattle.pp_turns.specs.Answers.{is_look}
use Rattle.pp_tree_calls.specs.Turned.{found_by, HasArrived}
use Rattle.pp_tree_calls.proofs.Lasting.{part_after}
use Rattle.pp_tree_calls.proofs.Arriving.{arrived_says, arrived_idle, opens_beside, opens_again, opens_publish, found_other}
use Rattle.pp_tree_calls.proofs.Arriving.{found_flag, found_value, flag_of, tag_of, insert_held, insert_added, ends_as}
use Rattle.std.proofs.Common.{arith}
use Rattle.pp_model.specs.Calls.{key_of}
use Rattle.pp_seek.proofs.LoneSpots.{sees_of}
use Rattle.pp_tree_calls.proofs.Alone.{same_bare, idles_same, over_turn, sought_plain}
use Rattle.pp_tree_calls.proofs.parts.arrive_insert.Goals as goal

pub returns-then-flag-clause-part : goal.returns-then-flag-clause-part
returns-then-flag-clause-part c = let old = c.args.pass.now in let g = c.args.going.now in let s = c.args.sought in let r = c.requires in
    let i = r.inserts in let q = known old.seat in let flag = flag_of s.edge ∙ ap bit (sym c.flag.ensures ∙ c.if-flag.true) in
    opens_beside c.args.pool.now.layout old.share g s (view old.seat) old.purse r.ready
    (λ _. insert_added g.call i.0 i.1 (found_by g s q) i.2 (found_flag g s q flag)) c.other.result (ap is_look i.2) c.other.ensures flag

pub returns-then-sought-clause-part : goal.returns-then-sought-clause-part
returns-then-sought-clause-part c = let old = c.args.pass.now in let g = c.args.going.now in let s = c.args.sought in let r = c.requires in
    let z = c.args.pool.now.layout in let q = known old.seat in let x = c.stored-value in let mid = x.new.pass in
    let e = c.end in let new = e.new.pass in
    part_after z old.share (HasArrived z old.share g s (view old.seat) old.purse)
    (HasArrived z old.share g s (view mid.seat) old.purse) g e.new.going
    (view old.seat) (view mid.seat) (view new.seat) new.purse e.result x.ensures.idles.stepped x.ensures.idles.stands
    (arrived_idle z old.share g s (view old.seat) (view mid.seat) old.purse x.ensures.idles)
    (arrived_says z old.share g s (view mid.seat) old.purse (view new.seat) e.new.going new.purse e.result (Held x.result)
    e.ensures.over r.unstruck r.ready.below (ap (λ p. reply_at g.call (found_by g s p)) x.ensures.idles.known
    ∙ insert_held g.call r.inserts.0 r.inserts.1 (found_by g s q) x.result r.inserts.2
    (found_value g s q r.ready.sought c.if-sought.true (flag_of s.edge ∙ ap bit (sym c.flag.ensures ∙ c.if-flag.false))
    ∙ ap (λ n. Some n) (sym x.ensures.value))) refl e.ensures.done
    (ends_as z old.share mid.share g.races g.call g.records (Said (Held x.result)) (view mid.seat)
    (view new.seat) old.purse mid.purse new.purse
    (same_share 5 2 old.seat mid.seat _ _ _ _ _ _ _ _ old.keeping mid.keeping x.ensures.same) x.ensures.purse e.ensures.ended))

pub returns-then-tag-clause-part : goal.returns-then-tag-clause-part
returns-then-tag-clause-part c = let old = c.args.pass.now in let g = c.args.going.now in let s = c.args.sought in let r = c.requires in
    let i = r.inserts in let q = known old.seat in
    opens_again c.args.pool.now.layout old.share g s (view old.seat) old.purse r.ready
    (λ _. insert_added g.call i.0 i.1 (found_by g s q) i.2 (found_other g s q r.ready.sought c.if-sought.false)) (ap is_look i.2) r.unstruck
    (tag_of s.edge ∙ ap bit (sym c.tag.ensures ∙ c.if-tag.true))

pub returns-clause-part : goal.returns-clause-part
returns-clause-part c = let old = c.args.pass.now in let g = c.args.going.now in let s = c.args.sought in let r = c.requires in
    let i = r.inserts in
    opens_publish c.args.pool.now.layout old.share g s (view old.seat) old.purse r.ready i.0 i.1 i.2 c.if-sought.false
    (flag_of s.edge ∙ ap bit (sym c.flag.ensures ∙ c.if-flag.false)) (tag_of s.edge ∙ ap bit
    (sym c.tag.ensures ∙ c.if-tag.false)) r.unstruck

pub returns-then-flag-clause-alone : goal.returns-then-flag-clause-alone
returns-then-flag-clause-alone c = λ l. let z = c.args.pool.now.layout in let old = c.args.pass.now in let s = c.args.sought in
    let none = (sought_plain z (key_of c.args.going.now.call) s (view old.seat)
    (sees_of z old.seat _ _ _ _ old.keeping old.run c.requires.fits.sizes) c.requires.ready.sought l).0 in
    let set = flag_of s.edge ∙ ap bit (sym c.flag.ensures ∙ c.if-flag.true) in absurd (omega arith)

pub returns-then-sought-clause-alone : goal.returns-then-sought-clause-alone
returns-then-sought-clause-alone c = λ l. let z = c.args.pool.now.layout in let g = c.args.going.now in let old = c.args.pass.now in
    let x = c.stored-value in let mid = x.new.pass in let e = c.end in
    let sv = sees_of z old.seat _ _ _ _ old.keeping old.run c.requires.fits.sizes in
    let su = sees_of z mid.seat _ _ _ _ mid.keeping mid.run (x.ensures.same.sizes ∙ c.requires.fits.sizes) in
    let same = idles_same z (view old.seat) (view mid.seat) sv su l.lone.one x.ensures.idles in
    over_turn z g e.new.going (view e.new.pass.seat) _ e.result (ap (λ x. x.lost) e.ensures.over) e.ensures.done
    (e.ensures.alone l.lone.one (same_bare z (view old.seat) (view mid.seat) sv su l.lone.one same l.lone.bare))

pub returns-then-tag-clause-alone : goal.returns-then-tag-clause-alone
returns-then-tag-clause-alone c = λ l. let z = c.args.pool.now.layout in let old = c.args.pass.now in let s = c.args.sought in
    let none = (sought_plain z (key_of c.args.going.now.call) s (view old.seat)
    (sees_of z old.seat _ _ _ _ old.keeping old.run c.requires.fits.sizes) c.requires.ready.sought l).1 in
    let set = tag_of s.edge ∙ ap bit (sym c.tag.ensures ∙ c.if-tag.true) in absurd (omega arith)

pub returns-clause-alone : goal.returns-clause-alone
returns-clause-alone c = λ l. record { lost = refl; on = l; done = tt }
