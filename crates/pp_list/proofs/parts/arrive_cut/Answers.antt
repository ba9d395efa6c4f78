use Rattle.std.proofs.Common.{ℕ, Some, refl, sym, ap, ◌∙◌, subst}
use Rattle.pp_model.specs.declared.Answer.TheVariants.{Said}
use Rattle.pp_model.specs.declared.Reply.TheVariants.{Absent, Other}
use Rattle.pp_rule.specs.Views.{slot, value_of}
use Rattle.pp_base.specs.declared.purse.Purse.{Purse}
use Rattle.pp_base.specs.Passes.{known, view}
use Rattle.pp_calls.proofs.Purses.{same_share}
use Rattle.pp_model.specs.Calls.{key_of}
use Rattle.pp_model.specs.declared.Turned.TheVariants.{On}
use Rattle.pp_walk.specs.Roles.{found_in, is_look}
use Rattle.pp_lists.specs.Lists.{ListPass}
use Rattle.pp_list.proofs.Arriving.{idles_none, arrived_ends, found_absent, found_value, cut_absent, cut_other, cut_opens}
use Rattle.pp_list.proofs.Arriving.{cut_takes, comes_to_mark}
use Rattle.pp_list.proofs.Arriving.{ends_at_key, over_same, ends_as, not_so, so}
use Rattle.pp_list.specs.declared.going.Next.TheVariants.{Marks}
use Rattle.pp_list.specs.Turned.{Part, HasArrived}
use Rattle.pp_walk.proofs.Lone.{sees_of}
use Rattle.pp_walk.proofs.LoneEnds.{found_end}
use Rattle.pp_walk.proofs.LoneStays.{same_bare, quiet_same, end_stays}
use Rattle.pp_list.proofs.Alone.{over_turn}
use Rattle.pp_list.proofs.parts.arrive_cut.Goals as goal

pub returns-then-not-found-clause-part : goal.returns-then-not-found-clause-part
returns-then-not-found-clause-part c = let g = c.args.going.now in let old = c.args.pass.now in let e = c.end in let new = e.new.pass in
    let v = view old.seat in let q = known old.seat in let f = c.args.found in let i = c.requires.cuts in
    arrived_ends c.args.pool.now.layout old.share g f v v old.purse (idles_none v v refl) refl (view new.seat) e.new.going new.purse
    e.result
    Absent (over_same g e.new.going _ _ e.ensures.over) (ap (λ x. x.lost) e.ensures.over)
    (ap (λ x. x.struck) e.ensures.over ∙ c.requires.ready.unstruck) c.requires.ready.below
    (cut_absent g.call i.0 c.args.wanted (found_in q f) i.1 (found_absent q f (not_so f.equal c.if-not-found.true))) refl e.ensures.done
    e.ensures.ended

pub returns-then-value-wanted-clause-part : goal.returns-then-value-wanted-clause-part
returns-then-value-wanted-clause-part c = let z = c.args.pool.now.layout in let g = c.args.going.now in let old = c.args.pass.now in
    let s = c.stored-value in let mid = s.new.pass in let e = c.end-then-value-wanted in let new = e.new.pass in let q = known old.seat in
    let f = c.args.found in let r = c.requires.ready in let i = c.requires.cuts in
    let has = so f.equal c.if-not-found.false in let changing = ap is_look i.1 in
    arrived_ends z old.share g f (view old.seat) (view mid.seat) old.purse s.ensures.idles s.ensures.known (view new.seat) e.new.going
    new.purse e.result (Other s.result) (over_same g e.new.going _ _ e.ensures.over) (ap (λ x. x.lost) e.ensures.over)
    (ap (λ x. x.struck) e.ensures.over ∙ r.unstruck) r.below
    (cut_other g.call i.0 c.args.wanted (found_in q f) s.result i.1 (found_value q f has (r.found.unmarked changing)
    ∙ ap (λ (n : ℕ). Some n) (sym s.ensures.value)) c.if-value-wanted.true) refl e.ensures.done
    (ends_as z old.share mid.share g.races g.call g.fresh (Said (Other s.result)) (view mid.seat) (view new.seat) old.purse mid.purse
    new.purse
    (same_share 0 1 old.seat mid.seat _ _ _ _ _ _ _ _ old.keeping mid.keeping s.ensures.same) s.ensures.purse e.ensures.ended)

pub returns-clause-part : goal.returns-clause-part
returns-clause-part c = let z = c.args.pool.now.layout in let g = c.args.going.now in let old = c.args.pass.now in let v = view old.seat in
    let q = known old.seat in let f = c.args.found in let i = c.requires.cuts in let r = c.requires.ready in
    let s = c.stored-value in let mid = s.new.pass in let wanted = sym s.ensures.value ∙ c.if-value-wanted.false in
    let has = so f.equal c.if-not-found.false in let changing = ap is_look i.1 in
    let at = ends_at_key z q (key_of g.call) f r.found.end has in
    subst (λ (p : Purse). Part z old.share (HasArrived z old.share g f v old.purse) g (record g { next = Marks f }) v (view mid.seat) p On)
    (sym s.ensures.purse)
    (comes_to_mark z old.share g f v (view mid.seat) old.purse r s.ensures.idles s.ensures.known has changing
    (cut_opens g.call i.0 c.args.wanted (found_in q f) (value_of (slot q f.word).value) i.1
    (found_value q f has (r.found.unmarked changing)) wanted)
    (cut_takes g.call i.0 c.args.wanted (slot q f.word).key (value_of (slot q f.word).value) i.1 at.key wanted))

pub returns-then-not-found-clause-alone : goal.returns-then-not-found-clause-alone
returns-then-not-found-clause-alone c = λ lone. let z = c.args.pool.now.layout in let g = c.args.going.now in let e = c.end in
    over_turn z g e.new.going (view e.new.pass.seat) _ e.result (ap (λ x. x.lost) e.ensures.over) e.ensures.done
    (e.ensures.alone lone.0.one lone.0.bare)

pub returns-then-value-wanted-clause-alone : goal.returns-then-value-wanted-clause-alone
returns-then-value-wanted-clause-alone c = λ lone. let z = c.args.pool.now.layout in let g = c.args.going.now in
    let old = c.args.pass.now in
    let s = c.stored-value in let mid = s.new.pass in let e = c.end-then-value-wanted in
    let sv = sees_of z old.seat _ _ _ _ old.keeping old.run c.requires.fits.sizes in
    let su = sees_of z mid.seat _ _ _ _ mid.keeping mid.run (s.ensures.same.sizes ∙ c.requires.fits.sizes) in
    over_turn z g e.new.going (view e.new.pass.seat) _ e.result (ap (λ x. x.lost) e.ensures.over) e.ensures.done
    (e.ensures.alone lone.0.one (same_bare z (view old.seat) (view mid.seat) sv su lone.0.one
    (quiet_same z (view old.seat) (view mid.seat) sv su lone.0.one 0 s.ensures.idles) lone.0.bare))

pub returns-clause-alone : goal.returns-clause-alone
returns-clause-alone c = λ lone. let z = c.args.pool.now.layout in let g = c.args.going.now in let old = c.args.pass.now in
    let s = c.stored-value in let mid = s.new.pass in let f = c.args.found in let found = c.requires.ready.found in
    let sv = sees_of z old.seat _ _ _ _ old.keeping old.run c.requires.fits.sizes in
    let su = sees_of z mid.seat _ _ _ _ mid.keeping mid.run (s.ensures.same.sizes ∙ c.requires.fits.sizes) in
    record {
      lost = refl;
      on = (
        end_stays z (view old.seat) (view mid.seat) sv su lone.0.one f (key_of g.call) found.anchored found.plain_end
            (quiet_same z (view old.seat) (view mid.seat) sv su lone.0.one 0 s.ensures.idles)
            (λ j. ap (λ (q : ListPass). slot q j) s.ensures.known) lone,
        (found_end z (view old.seat) sv lone.0 g.call f found).0,
      );
      done = tt;
    }
