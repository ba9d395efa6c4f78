use Rattle.std.proofs.Common.{◌≡◌, ℕ, sym, ◌∙◌, subst}
use Rattle.pp_base.specs.Passes.{known, view}
use Rattle.pp_model.specs.declared.Turned.{Turned}
use Rattle.pp_calls.proofs.Purses.{same_share}
use Rattle.pp_tree_calls.specs.declared.going.Next.TheVariants.{Over}
use Rattle.pp_tree_calls.specs.Going.{IsUnder}
use Rattle.pp_tree_calls.specs.Purses.{TwoRecords, TakesTwo, TakesNone, PutsAway}
use Rattle.pp_tree_calls.specs.Turned.{TreeTurned}
use Rattle.pp_turns.proofs.Resting.{four_chains}
use Rattle.pp_tree_calls.proofs.Publishing.{with_records}
use Rattle.pp_tree_calls.proofs.Taken.{has_records, put_turned, full_owned, full_turned}
use Rattle.std.proofs.Common.{ap}
use Rattle.pp_seek.proofs.LoneSpots.{sees_of}
use Rattle.pp_tree_calls.specs.declared.going.Next.{Next}
use Rattle.pp_tree_calls.specs.Lone.{LoneNext}
use Rattle.pp_tree_calls.proofs.Publishing.{may_publish}
use Rattle.pp_tree_calls.proofs.Alone.{same_bare, purse_same, puts_bare, over_turn, slots_same}
use Rattle.pp_seek.proofs.LoneStays.{sought_stays}
use Rattle.pp_tree_calls.proofs.turns.publish_on.Goals as goal

pub put_in-requires-clause-under : goal.put_in-requires-clause-under
put_in-requires-clause-under c = let z = c.args.pool.now.layout in let g = c.args.going.now in let old = c.args.pass.now in
    let mid = c.take_records.new.pass in let x = c.requires.under in let f = c.in-Some.records in
    let takes = subst (λ (h : TwoRecords). TakesTwo z h f (view old.seat) (view mid.seat) old.purse mid.purse) c.take-had.ensures.value
    c.in-Some.ensures.some in (
      x.0,
      (
        x.1.0,
        subst (λ (n : ℕ). IsUnder z n (with_records g f) (view mid.seat) mid.purse x.0 x.1.0)
            (sym (same_share 5 2 old.seat mid.seat _ _ _ _ _ _ _ _ old.keeping mid.keeping c.take_records.ensures.same))
            (has_records z old.share g c.args.sought f (view old.seat) (view mid.seat) old.purse mid.purse c.requires.at
            c.take_records.ensures.same.sizes takes c.take_records.ensures.rest x.0 x.1.0 x.1.1),
      ),
    )

pub returns-in-Some-clause-turned : goal.returns-in-Some-clause-turned
returns-in-Some-clause-turned c = let z = c.args.pool.now.layout in let g = c.args.going.now in let old = c.args.pass.now in
    let mid = c.take_records.new.pass in let f = c.in-Some.records in let new = c.put_in.new.pass in
    let takes = subst (λ (h : TwoRecords). TakesTwo z h f (view old.seat) (view mid.seat) old.purse mid.purse) c.take-had.ensures.value
    c.in-Some.ensures.some in
    put_turned z old.share g c.args.sought f (view old.seat) (view mid.seat) old.purse mid.purse c.requires.at
    c.take_records.ensures.same.sizes takes c.take_records.ensures.rest c.put_in.new.going (view new.seat) new.purse c.put_in.result
    (subst (λ (n : ℕ). TreeTurned z n (with_records g f) c.put_in.new.going (view mid.seat) (view new.seat) mid.purse new.purse
    c.put_in.result) (same_share 5 2 old.seat mid.seat _ _ _ _ _ _ _ _ old.keeping mid.keeping c.take_records.ensures.same)
    c.put_in.ensures.turned)

pub returns-in-None-clause-turned : goal.returns-in-None-clause-turned
returns-in-None-clause-turned c = let z = c.args.pool.now.layout in let g = c.args.going.now in let old = c.args.pass.now in
    let mid = c.take_records.new.pass in let x = c.requires.under in let new = c.full.new.pass in
    let counted = new.keeping.counted in let none : new.purse.taken ≡ 0 = c.full.ensures.resting.idle.2 in
    let share = same_share 5 2 old.seat mid.seat _ _ _ _ _ _ _ _ old.keeping mid.keeping c.take_records.ensures.same in
    let puts = subst (λ (n : ℕ). PutsAway z n (view mid.seat) (view new.seat) mid.purse new.purse) share c.full.ensures.puts in
    let takes = subst (λ (h : TwoRecords). TakesNone z h (view old.seat) (view mid.seat) old.purse mid.purse) c.take-had.ensures.value
    c.in-None.ensures.none in
    subst (λ (r : Turned). TreeTurned z old.share g c.full.new.going (view old.seat) (view new.seat) old.purse new.purse r)
    (sym c.full.ensures.done)
    (full_turned z old.share g c.args.sought (view old.seat) (view mid.seat) (view new.seat) old.purse mid.purse new.purse c.requires.at
    (c.full.ensures.same.sizes ∙ c.take_records.ensures.same.sizes) takes puts
    (full_owned z old.share (view mid.seat) (view new.seat) mid.purse new.purse puts takes.ran_out.still_short counted none)
    (four_chains (known new.seat) new.purse new.keeping.chains new.keeping.few) c.full.new.going
    (subst (λ (h : TwoRecords). c.full.new.going ≡ record g { next = Over; records = h }) c.take-had.ensures.after c.full.ensures.over)
    x.0 x.1.0 x.1.1)

pub returns-in-Some-clause-alone : goal.returns-in-Some-clause-alone
returns-in-Some-clause-alone c = λ lone. let z = c.args.pool.now.layout in let g = c.args.going.now in let old = c.args.pass.now in
    let mid = c.take_records.new.pass in let x = c.requires.under in let v = view old.seat in let u = view mid.seat in
    let l = subst (λ (n : Next). LoneNext z g.struck n v) c.requires.at lone in let takes = c.in-Some.ensures.some in
    let sv = sees_of z old.seat _ _ _ _ old.keeping old.run c.requires.fits.sizes in
    let su = sees_of z mid.seat _ _ _ _ mid.keeping mid.run (c.take_records.ensures.same.sizes ∙ c.requires.fits.sizes) in
    let m = may_publish z g c.args.sought x.0 v c.requires.at x.1.1.stands in
    let t = c.put_in.ensures.alone (sought_stays z v u sv su (purse_same z v u sv su l.lone.one takes.names takes.steps)
    (slots_same v u takes.steps.walk) m.key c.args.sought takes.steps.own m.next.sought l) in
    record { lost = t.lost; on = t.on; done = t.done }

pub returns-in-None-clause-alone : goal.returns-in-None-clause-alone
returns-in-None-clause-alone c = λ lone. let z = c.args.pool.now.layout in let g = c.args.going.now in let old = c.args.pass.now in
    let mid = c.take_records.new.pass in let new = c.full.new.pass in let v = view old.seat in let u = view mid.seat in
    let l = subst (λ (n : Next). LoneNext z g.struck n v) c.requires.at lone in let takes = c.in-None.ensures.none in
    let sv = sees_of z old.seat _ _ _ _ old.keeping old.run c.requires.fits.sizes in
    let su = sees_of z mid.seat _ _ _ _ mid.keeping mid.run (c.take_records.ensures.same.sizes ∙ c.requires.fits.sizes) in
    let sw = sees_of z new.seat _ _ _ _ new.keeping new.run
    (c.full.ensures.same.sizes ∙ (c.take_records.ensures.same.sizes ∙ c.requires.fits.sizes)) in
    over_turn z g c.full.new.going (view new.seat) _ c.full.result (ap (λ y. y.lost) c.full.ensures.over) c.full.ensures.done
    (puts_bare z u (view new.seat) su sw l.lone.one mid.share mid.purse new.purse c.full.ensures.puts
    (same_bare z v u sv su l.lone.one (purse_same z v u sv su l.lone.one takes.names takes.steps) l.lone.bare))
