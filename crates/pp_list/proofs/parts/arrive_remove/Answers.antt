use Rattle.std.proofs.Common.{refl, ap, ◌∙◌}
use Rattle.pp_model.specs.declared.Reply.TheVariants.{Absent}
use Rattle.pp_rule.specs.Views.{slot, value_of}
use Rattle.pp_base.specs.Passes.{known, view}
use Rattle.pp_model.specs.Calls.{key_of}
use Rattle.pp_walk.specs.Roles.{found_in, is_look}
use Rattle.pp_list.proofs.Arriving.{idles_none, arrived_ends, found_absent, found_value, remove_absent, remove_opens}
use Rattle.pp_list.proofs.Arriving.{remove_takes, comes_to_mark}
use Rattle.pp_list.proofs.Arriving.{ends_at_key, over_same, not_so, so}
use Rattle.pp_walk.proofs.Lone.{sees_of}
use Rattle.pp_walk.proofs.LoneEnds.{found_end}
use Rattle.pp_list.proofs.Alone.{over_turn}
use Rattle.pp_list.proofs.parts.arrive_remove.Goals as goal

pub returns-then-not-found-clause-part : goal.returns-then-not-found-clause-part
returns-then-not-found-clause-part c = let g = c.args.going.now in let old = c.args.pass.now in let e = c.end in let new = e.new.pass in
    let v = view old.seat in let q = known old.seat in let f = c.args.found in let i = c.requires.removes in
    arrived_ends c.args.pool.now.layout old.share g f v v old.purse (idles_none v v refl) refl (view new.seat) e.new.going new.purse
    e.result
    Absent (over_same g e.new.going _ _ e.ensures.over) (ap (λ x. x.lost) e.ensures.over)
    (ap (λ x. x.struck) e.ensures.over ∙ c.requires.ready.unstruck) c.requires.ready.below
    (remove_absent g.call i.0 (found_in q f) i.1 (found_absent q f (not_so f.equal c.if-not-found.true))) refl e.ensures.done
    e.ensures.ended

pub returns-clause-part : goal.returns-clause-part
returns-clause-part c = let z = c.args.pool.now.layout in let g = c.args.going.now in let old = c.args.pass.now in let v = view old.seat in
    let q = known old.seat in let f = c.args.found in let i = c.requires.removes in let r = c.requires.ready in
    let has = so f.equal c.if-not-found.false in let changing = ap is_look i.1 in
    let at = ends_at_key z q (key_of g.call) f r.found.end has in
    comes_to_mark z old.share g f v v old.purse r (idles_none v v refl) refl has changing
    (remove_opens g.call i.0 (found_in q f) (value_of (slot q f.word).value) i.1 (found_value q f has (r.found.unmarked changing)))
    (remove_takes g.call i.0 (slot q f.word).key (value_of (slot q f.word).value) i.1 at.key)

pub returns-then-not-found-clause-alone : goal.returns-then-not-found-clause-alone
returns-then-not-found-clause-alone c = λ lone. let z = c.args.pool.now.layout in let g = c.args.going.now in let e = c.end in
    over_turn z g e.new.going (view e.new.pass.seat) _ e.result (ap (λ x. x.lost) e.ensures.over) e.ensures.done
    (e.ensures.alone lone.0.one lone.0.bare)

pub returns-clause-alone : goal.returns-clause-alone
returns-clause-alone c = λ lone. let z = c.args.pool.now.layout in let old = c.args.pass.now in
    record {
      lost = refl;
      on = (
        lone,
        (found_end z (view old.seat) (sees_of z old.seat _ _ _ _ old.keeping old.run c.requires.fits.sizes) lone.0
            c.args.going.now.call c.args.found c.requires.ready.found).0,
      );
      done = tt;
    }
