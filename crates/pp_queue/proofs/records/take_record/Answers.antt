use Rattle.std.proofs.Common.{◌≡◌, ℕ, ◌<◌, ◌≤◌, ⊎_elim, List, [], length, length-append, sym, ap, ◌∙◌, subst}
use Rattle.std.proofs.Common.{arith}
use Rattle.pp_base.specs.Passes.{known, view, IsAtRest}
use Rattle.pp_link.specs.declared.layout.Sizes.{Sizes}
use Rattle.pp_reclaim.specs.Sweeps.{Reclaims}
use Rattle.pp_queue.specs.Answers.{Idles}
use Rattle.pp_queue.proofs.Idling.{idles_none, idles_both, idles_reclaimed, idles_collected}
use Rattle.pp_queue.proofs.Reclaiming.{ran_out, if_none}
use Rattle.pp_queue.proofs.records.take_record.Goals as goal
use Rattle.pp_queue.proofs.Finding.{up_on, up_seat, up_reclaimed, up_shelved}

pub returns-in-Some-clause-idles : goal.returns-in-Some-clause-idles
returns-in-Some-clause-idles c = idles_none c.args.pool.now.layout.passes (view c.args.pass.now.seat) (view c.take.new.pass.seat)
    (ap (λ s. view s) c.take.ensures.seat)

pub returns-in-Some-clause-rest : goal.returns-in-Some-clause-rest
returns-in-Some-clause-rest c = subst (λ s. IsAtRest (known s) c.take.new.pass.purse) (sym c.take.ensures.seat)
    record {
      scan = c.requires.rest.scan;
      spent = c.in-Some.ensures.some.spent
          ∙ c.requires.rest.spent;
      frontier = c.requires.rest.frontier;
    }

pub returns-in-None-clause-idles : goal.returns-in-None-clause-idles
returns-in-None-clause-idles c = let z = c.args.pool.now.layout in let s0 = c.args.pass.now.seat in
    let s1 = c.reclaim.new.pass.seat in
    let s2 = c.collect.new.pass.seat in let first = c.take.new.pass in
    let a = subst (λ s. Idles z.passes (view s) (view s1)) c.take.ensures.seat
    (idles_reclaimed z.passes z _ first.seat s1 first.purse c.reclaim.new.pass.purse c.reclaim.ensures.reclaims) in
    let b = idles_collected z 1 (view s1) (view s2) c.reclaim.new.pass.purse c.collect.new.pass.purse
    c.collect.ensures.collects in
    subst (λ s. Idles z.passes (view s0) (view s)) (sym c.take-in-None.ensures.seat)
    (idles_both z.passes (view s0) (view s1) (view s2)
    (c.reclaim.ensures.same.number ∙ ap (λ s. (known s).number) c.take.ensures.seat) a b)

pub returns-in-None-clause-none : goal.returns-in-None-clause-none
returns-in-None-clause-none c = let z = c.args.pool.now.layout in let s0 = c.args.pass.now.seat in
    let s1 = c.reclaim.new.pass.seat in
    let s2 = c.collect.new.pass.seat in let p0 = c.args.pass.now.purse in let p1 = c.reclaim.new.pass.purse in
    let p2 = c.collect.new.pass.purse in let last = c.take-in-None.new.pass in let first = c.in-None.ensures.none in
    let many = c.reclaim.result in let swept = c.reclaim.ensures.reclaims in
    if_none c.take-in-None.result (λ e.
    let none2 : p2.free.items ≡ [] = e.0 in
    let taken1 : p1.taken ≡ 0 = swept.swept.purse.taken ∙ (swept.free.taken ∙ (ap (λ p. p.taken) first.1 ∙ c.requires.back)) in
    let grown = c.collect.ensures.begins in
    let long = ap (λ l. length l) grown.1 ∙ length-append p1.free.items grown.0 in
    let gone = ap (λ (l : List ℕ). length l) none2 in
    let counted = c.reclaim.new.pass.keeping.counted in
    let reclaims = subst (λ s. Reclaims 1 z many s s1 p0 p1) c.take.ensures.seat
    (subst (λ p. Reclaims 1 z many c.take.new.pass.seat s1 p p1) first.1 swept) in
    let passes = c.args.pass.now.keeping.pass.within.some_passes in
    let z_is : (known s0).sizes ≡ z = c.requires.fits.sizes in
    let real : 0 < z.passes = subst (λ (y : Sizes). 0 < y.passes) z_is (omega arith) in
    ran_out z many s0 s1 s2 p0 p1 p2 last.seat last.purse first.0 real reclaims c.collect.ensures.collects none2
    (⊎_elim (λ (enough : 1 ≤ length p2.free.items). absurd (omega arith)) (λ x. x) c.collect.ensures.ends) (omega arith)
    c.take-in-None.ensures.seat e.1 c.collect.ensures.only)
    c.take-in-None.ensures.none

pub returns-in-Some-clause-up : goal.returns-in-Some-clause-up
returns-in-Some-clause-up c = up_seat c.args.pass.now.seat c.take.new.pass.seat c.take.ensures.seat

pub returns-in-None-clause-up : goal.returns-in-None-clause-up
returns-in-None-clause-up c = let z = c.args.pool.now.layout in let s0 = c.args.pass.now.seat in let first = c.take.new.pass in
    let p1 = c.reclaim.new.pass in let p2 = c.collect.new.pass in let s3 = c.take-in-None.new.pass.seat in
    up_on (known s0) (known first.seat) (known s3) (up_seat s0 first.seat c.take.ensures.seat)
    (up_on (known first.seat) (known p1.seat) (known s3)
    (up_reclaimed z _ first.seat p1.seat first.purse p1.purse c.reclaim.ensures.reclaims)
    (up_on (known p1.seat) (known p2.seat) (known s3) (up_shelved (known p1.seat) (known p2.seat) p1.purse p2.purse c.collect.ensures.only)
    (up_seat p2.seat s3 c.take-in-None.ensures.seat)))
