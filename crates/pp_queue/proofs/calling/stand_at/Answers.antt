use Rattle.std.proofs.Common.{ℕ, ◌+◌, true, false, refl, eq-eqb, ne_eqb}
use Rattle.pp_queues.specs.Losses.{Tally, losing}
use Rattle.pp_queues.proofs.Counting.{ran_both}
use Rattle.pp_queue.proofs.Running.{ran_idle, ran_came}
use Rattle.pp_base.specs.Passes.{view}
use Rattle.pp_queue.proofs.Going.{rest_walk, rest_cleared, rest_self, goes_made, goes_on}
use Rattle.pp_queue.proofs.calling.stand_at.Goals as goal
use Rattle.std.proofs.Common.{◌∙◌, sym, ap, get_or, arith, List}
use Rattle.pp_link.specs.Places.{head_place}
use Rattle.pp_link.specs.declared.layout.Sizes.{Sizes}
use Rattle.pp_queue.proofs.Standing.{seen_of, others_stay}
use Rattle.pp_queue.proofs.Finding.{up_made, up_on, came_found, came_stay}

pub returns-then-second-first-clause-on : goal.returns-then-second-first-clause-on
returns-then-second-first-clause-on c = let v = view c.args.pass.now.seat in let a = view c.announce.new.pass.seat in
    let b = view c.come-second.new.pass.seat in let w = view c.clear.new.pass.seat in
    goes_on v a w (goes_made v a c.announce.ensures.made (rest_walk v.known 0 _))
    (goes_on a b w (goes_made a b (c.come-second.ensures.came.other c.if-second-first.true) (rest_self a.known))
    (goes_made b w c.clear.ensures.made (rest_cleared b.known 0)))

pub returns-clause-on : goal.returns-clause-on
returns-clause-on c = let v = view c.args.pass.now.seat in let a = view c.announce.new.pass.seat in
    let b = view c.come-second.new.pass.seat in
    goes_on v a b (goes_made v a c.announce.ensures.made (rest_walk v.known 0 _))
    (goes_made a b (c.come-second.ensures.came.same c.if-second-first.false).1.1 record {
      number = refl;
      sizes = refl;
      owned = refl;
      retired_are = refl;
      frontier = refl;
      chains = refl;
      scan = refl;
      going = refl;
      start = refl;
    })

pub returns-then-second-first-clause-steps : goal.returns-then-second-first-clause-steps
returns-then-second-first-clause-steps c = λ n. let passes = c.args.pool.now.layout.passes in let word : ℕ = c.args.first in
    let t : ℕ → Tally = λ k. losing word k in
    let v = view c.args.pass.now.seat in let a = view c.announce.new.pass.seat in
    let b = view c.come-second.new.pass.seat in let w = view c.clear.new.pass.seat in
    ran_both passes (t n) (t n) (t (n + 1)) v a w (ran_idle passes v a (t n) c.announce.ensures.made refl refl)
    (ran_both passes (t n) (t (n + 1)) (t (n + 1)) a b w
    (ran_came passes a b _ _ word _ _ n c.come-second.ensures.came false (ne_eqb _ word c.if-second-first.true))
    (ran_idle passes b w (t (n + 1)) c.clear.ensures.made refl refl))

pub returns-clause-steps : goal.returns-clause-steps
returns-clause-steps c = λ n. let passes = c.args.pool.now.layout.passes in let word : ℕ = c.args.first in
    let t : ℕ → Tally = λ k. losing word k in
    let v = view c.args.pass.now.seat in let a = view c.announce.new.pass.seat in
    let b = view c.come-second.new.pass.seat in
    ran_both passes (t n) (t n) (t n) v a b (ran_idle passes v a (t n) c.announce.ensures.made refl refl)
    (ran_came passes a b _ _ word _ _ n c.come-second.ensures.came true (eq-eqb _ word c.if-second-first.false))

pub returns-then-second-first-clause-up : goal.returns-then-second-first-clause-up
returns-then-second-first-clause-up c = let v = view c.args.pass.now.seat in let a = view c.announce.new.pass.seat in
    let b = view c.come-second.new.pass.seat in let w = view c.clear.new.pass.seat in
    up_on v.known a.known w.known (up_made v a c.announce.ensures.made refl)
    (up_on a.known b.known w.known (up_made a b (c.come-second.ensures.came.other c.if-second-first.true) refl)
    (up_made b w c.clear.ensures.made refl))

pub returns-clause-up : goal.returns-clause-up
returns-clause-up c = let v = view c.args.pass.now.seat in let a = view c.announce.new.pass.seat in
    let b = view c.come-second.new.pass.seat in
    up_on v.known a.known b.known (up_made v a c.announce.ensures.made refl)
    (up_made a b (c.come-second.ensures.came.same c.if-second-first.false).1.1 refl)

pub returns-then-second-first-clause-alone : goal.returns-then-second-first-clause-alone
returns-then-second-first-clause-alone c = λ one is. let z = c.args.pool.now.layout in let pass = c.args.pass.now in
    let next = c.announce.new.pass in let then = c.come-second.new.pass in
    let v = view pass.seat in let a = view next.seat in let b = view then.seat in let place : ℕ = head_place z c.args.head in
    let low = pass.keeping.pass.pass in let few = c.requires.fits.sizes in
    let one0 = ap (λ (y : Sizes). y.passes) few ∙ one in
    let one1 = ap (λ (y : Sizes). y.passes) (c.announce.ensures.same.sizes ∙ few) ∙ one in
    absurd (c.if-second-first.true (came_found a b one1 next.keeping.pass.pass (seen_of then.seat then.keeping.lone then.run)
    _ _ _ _ _ c.come-second.ensures.came
    ∙ (others_stay v a c.announce.ensures.made refl one0 low (seen_of next.seat next.keeping.lone next.run) place
    (λ e. omega arith) ∙ sym is)))

pub returns-clause-there : goal.returns-clause-there
returns-clause-there c = λ one _. let z = c.args.pool.now.layout in
    let next = c.announce.new.pass in let then = c.come-second.new.pass in
    let a = view next.seat in let b = view then.seat in let place : ℕ = head_place z c.args.head in
    let seen = seen_of then.seat then.keeping.lone then.run in
    let one1 = ap (λ (y : Sizes). y.passes) (c.announce.ensures.same.sizes ∙ c.requires.fits.sizes) ∙ one in
    ap (λ (ws : List ℕ). get_or ws place 0) (came_stay a b one1 next.keeping.pass.pass seen _ _ _ _ _ c.come-second.ensures.came)
    ∙ (sym (came_found a b one1 next.keeping.pass.pass seen _ _ _ _ _ c.come-second.ensures.came) ∙ c.if-second-first.false)
