use Rattle.std.proofs.Common.{refl, sym, ap, ◌∙◌, subst}
use Rattle.pp_base.specs.declared.purse.Purse.{Purse}
use Rattle.pp_link.specs.Places.{cell_place, IsNumber}
use Rattle.pp_link.specs.declared.layout.Sizes.{Sizes}
use Rattle.pp_rule.specs.Views.{slot}
use Rattle.pp_model.specs.Calls.{key_of}
use Rattle.pp_model.specs.declared.Turned.TheVariants.{On}
use Rattle.pp_base.specs.Passes.{known, view, IsAtRest}
use Rattle.pp_calls.proofs.Purses.{same_share}
use Rattle.pp_calls.proofs.Growing.{stepped_made}
use Rattle.pp_calls.proofs.Remaining.{stands_made}
use Rattle.pp_lists.specs.Lists.{ListPass}
use Rattle.pp_walk.proofs.Finding.{leads_end}
use Rattle.pp_list.specs.declared.going.Next.TheVariants.{Unlinks}
use Rattle.std.proofs.Common.{true}
use Rattle.std.proofs.lemmas.Bool.{false≢true}
use Rattle.pp_list.specs.Turned.{HasLost, ListTurned}
use Rattle.pp_list.proofs.Marking.{at_mark, mark_changes, real_end, mark_lost, unmarked_yet, marked_on}
use Rattle.pp_list.proofs.Treading.{turned_by, lost_as}
use Rattle.pp_list.proofs.Trying.{tried_long}
use Rattle.pp_walk.proofs.Lone.{sees_of}
use Rattle.pp_list.specs.declared.going.Next.{Next}
use Rattle.pp_list.specs.Lone.{LoneAt}
use Rattle.pp_walk.proofs.LoneEffects.{marks_lone}
use Rattle.pp_list.proofs.turns.mark.Goals as goal

pub mark_end-requires-clause-leads : goal.mark_end-requires-clause-leads
mark_end-requires-clause-leads c = let z = c.args.pool.now.layout in let g = c.args.going.now in let old = c.args.pass.now in
    let x = c.requires.under in let f = c.args.found in let q = known old.seat in
    let k = at_mark z old.share g f (view old.seat) old.purse c.requires.at x.0 x.1.0 x.1.1 in
    leads_end z q g.call f k.1.0 (real_end z q (key_of g.call) f k.1.0.end k.1.1.0)

pub begin_again-requires-clause-changing : goal.begin_again-requires-clause-changing
begin_again-requires-clause-changing c = let old = c.args.pass.now in let x = c.requires.under in
    mark_changes c.args.pool.now.layout old.share c.args.going.now c.args.found (view old.seat) old.purse c.requires.at x.0 x.1.0 x.1.1

pub returns-in_default-clause-turned : goal.returns-in_default-clause-turned
returns-in_default-clause-turned c = let z = c.args.pool.now.layout in let g = c.args.going.now in let old = c.args.pass.now in
    let mid = c.mark_end.new.pass in let new = c.begin_again.new.pass in let x = c.requires.under in let f = c.args.found in
    let v = view old.seat in let u = view mid.seat in let w = view new.seat in
    let m = c.in_default.ensures.marks in let t = m.tried in
    let share = same_share 0 1 old.seat mid.seat _ _ _ _ _ _ _ _ old.keeping mid.keeping c.mark_end.ensures.same in
    turned_by z old.share (HasLost z old.share g u old.purse) g c.begin_again.new.going v u w old.purse old.purse new.purse
    c.begin_again.result (stepped_made t.steps v u t.did) (tried_long z v u t (ap (λ s. s.passes) (sym c.requires.fits.sizes)))
    (λ own s. stands_made t.steps v u t.did own s) (unmarked_yet z old.share g f v old.purse c.requires.at x.0 x.1.0 x.1.1)
    (mark_lost z old.share g f v u old.purse (cell_place z (slot v.known f.word).named 2) c.requires.at (sym c.requires.fits.sizes) m)
    (lost_as z old.share mid.share g c.begin_again.new.going u w old.purse mid.purse new.purse c.begin_again.result share
    c.mark_end.ensures.purse c.begin_again.ensures.part) c.begin_again.ensures.early

pub returns-clause-turned : goal.returns-clause-turned
returns-clause-turned c = let z = c.args.pool.now.layout in let g = c.args.going.now in let old = c.args.pass.now in
    let mid = c.mark_end.new.pass in let x = c.requires.under in let f = c.args.found in
    let v = view old.seat in let u = view mid.seat in let m = c.in-Some.ensures.marks in
    let k = at_mark z old.share g f v old.purse c.requires.at x.0 x.1.0 x.1.1 in
    let number = subst (λ (s : Sizes). IsNumber s (slot v.known f.word).named) c.requires.fits.sizes
    (old.keeping.pass.held f.word k.1.1.2 k.1.1.3) in
    subst (λ (p : Purse). ListTurned z old.share g (record g {
      struck = true;
      next = Unlinks (record {
        anchor = f.anchor;
        first = f.first;
        next = c.in-Some.taken.next;
        word = f.word;
        value = c.in-Some.taken.value;
      });
    }) v u old.purse p On) (sym c.mark_end.ensures.purse)
    (marked_on z old.share g f c.in-Some.taken v u old.purse c.requires.at (sym c.requires.fits.sizes) m number
    (λ from free y. subst (λ (q : ListPass). IsAtRest q old.purse) (sym m.known) record {
      scan = y.rest.scan;
      spent = y.rest.spent;
      frontier = y.rest.frontier;
    }) x.0 x.1.0 x.1.1)

pub returns-in_default-clause-alone : goal.returns-in_default-clause-alone
returns-in_default-clause-alone c = λ lone.
    let l = subst (λ (n : Next). LoneAt c.args.pool.now.layout n (view c.args.pass.now.seat)) c.requires.at lone in
    absurd (false≢true (c.in_default.ensures.alone l.0.0))

pub returns-clause-alone : goal.returns-clause-alone
returns-clause-alone c = λ lone. let z = c.args.pool.now.layout in let g = c.args.going.now in let old = c.args.pass.now in
    let mid = c.mark_end.new.pass in let x = c.requires.under in let f = c.args.found in let v = view old.seat in let u = view mid.seat in
    let l = subst (λ (n : Next). LoneAt z n v) c.requires.at lone in
    let k = at_mark z old.share g f v old.purse c.requires.at x.0 x.1.0 x.1.1 in record {
      lost = refl;
      on = marks_lone z f g.call c.in-Some.taken v u (sees_of z old.seat _ _ _ _ old.keeping old.run c.requires.fits.sizes)
          (sees_of z mid.seat _ _ _ _ mid.keeping mid.run (c.mark_end.ensures.same.sizes ∙ c.requires.fits.sizes)) k.1.0 k.1.1.0 k.1.1.2
          k.1.1.3 c.in-Some.ensures.marks l.0 l.1;
      done = tt;
    }
