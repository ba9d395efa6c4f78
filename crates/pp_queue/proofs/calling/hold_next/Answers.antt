use Rattle.std.proofs.Common.{◌≡◌, ℕ, ◌+◌, true, false, refl, eq-eqb, ne_eqb}
use Rattle.pp_queues.specs.Losses.{Tally, losing}
use Rattle.pp_queues.proofs.Counting.{ran_both}
use Rattle.pp_queue.proofs.Running.{ran_idle, ran_confirmed}
use Rattle.pp_base.specs.Passes.{view}
use Rattle.pp_queue.proofs.Going.{rest_walk, rest_cleared, rest_self, goes_made, goes_on}
use Rattle.pp_queue.proofs.calling.hold_next.Goals as goal
use Rattle.std.proofs.Common.{◌∙◌, sym, ap, arith}
use Rattle.pp_link.specs.Places.{cell_place}
use Rattle.pp_link.specs.declared.layout.Sizes.{Sizes}
use Rattle.pp_rule.specs.declared.views.WalkSlot.{WalkSlot}
use Rattle.pp_rule.specs.Views.{slot}
use Rattle.pp_rule.proofs.Made.{known_after}
use Rattle.pp_rule.proofs.Slots.{slot_else}
use Rattle.pp_queues.specs.Queues.{QueuePass}
use Rattle.pp_queue.specs.Standing.{word_in}
use Rattle.pp_queue.proofs.Standing.{seen_of, others_stay}
use Rattle.pp_queue.proofs.Finding.{up_made, up_on, confirmed_found}

pub returns-then-second-link-clause-on : goal.returns-then-second-link-clause-on
returns-then-second-link-clause-on c = let v = view c.args.pass.now.seat in let a = view c.announce.new.pass.seat in
    let b = view c.confirm-second.new.pass.seat in let w = view c.clear.new.pass.seat in
    goes_on v a w (goes_made v a c.announce.ensures.made (rest_walk v.known 1 _))
    (goes_on a b w (goes_made a b (c.confirm-second.ensures.confirmed.other c.if-second-link.true) (rest_self a.known))
    (goes_made b w c.clear.ensures.made (rest_cleared b.known 1)))

pub returns-clause-on : goal.returns-clause-on
returns-clause-on c = let v = view c.args.pass.now.seat in let a = view c.announce.new.pass.seat in
    let b = view c.confirm-second.new.pass.seat in
    goes_on v a b (goes_made v a c.announce.ensures.made (rest_walk v.known 1 _))
    (goes_made a b (c.confirm-second.ensures.confirmed.same c.if-second-link.false).1.1 (rest_walk a.known 1 _))

pub returns-then-second-link-clause-steps : goal.returns-then-second-link-clause-steps
returns-then-second-link-clause-steps c = λ n. let passes = c.args.pool.now.layout.passes in let word : ℕ = c.args.link in
    let t : ℕ → Tally = λ k. losing word k in
    let v = view c.args.pass.now.seat in let a = view c.announce.new.pass.seat in
    let b = view c.confirm-second.new.pass.seat in let w = view c.clear.new.pass.seat in
    ran_both passes (t n) (t n) (t (n + 1)) v a w (ran_idle passes v a (t n) c.announce.ensures.made refl refl)
    (ran_both passes (t n) (t (n + 1)) (t (n + 1)) a b w
    (ran_confirmed passes a b _ word _ _ n _ refl c.confirm-second.ensures.confirmed false (ne_eqb _ word c.if-second-link.true))
    (ran_idle passes b w (t (n + 1)) c.clear.ensures.made refl refl))

pub returns-clause-steps : goal.returns-clause-steps
returns-clause-steps c = λ n. let passes = c.args.pool.now.layout.passes in let word : ℕ = c.args.link in
    let t : ℕ → Tally = λ k. losing word k in
    let v = view c.args.pass.now.seat in let a = view c.announce.new.pass.seat in
    let b = view c.confirm-second.new.pass.seat in
    ran_both passes (t n) (t n) (t n) v a b (ran_idle passes v a (t n) c.announce.ensures.made refl refl)
    (ran_confirmed passes a b _ word _ _ n _ refl c.confirm-second.ensures.confirmed true (eq-eqb _ word c.if-second-link.false))

pub returns-then-second-link-clause-up : goal.returns-then-second-link-clause-up
returns-then-second-link-clause-up c = let v = view c.args.pass.now.seat in let a = view c.announce.new.pass.seat in
    let b = view c.confirm-second.new.pass.seat in let w = view c.clear.new.pass.seat in
    up_on v.known a.known w.known (up_made v a c.announce.ensures.made refl)
    (up_on a.known b.known w.known (up_made a b (c.confirm-second.ensures.confirmed.other c.if-second-link.true) refl)
    (up_made b w c.clear.ensures.made refl))

pub returns-clause-up : goal.returns-clause-up
returns-clause-up c = let v = view c.args.pass.now.seat in let a = view c.announce.new.pass.seat in
    let b = view c.confirm-second.new.pass.seat in
    up_on v.known a.known b.known (up_made v a c.announce.ensures.made refl)
    (up_made a b (c.confirm-second.ensures.confirmed.same c.if-second-link.false).1.1 refl)

pub returns-then-second-link-clause-alone : goal.returns-then-second-link-clause-alone
returns-then-second-link-clause-alone c = λ one is. let z = c.args.pool.now.layout in let pass = c.args.pass.now in
    let next = c.announce.new.pass in let then = c.confirm-second.new.pass in
    let v = view pass.seat in let a = view next.seat in let b = view then.seat in
    let place : ℕ = cell_place z (slot v.known 0).named 2 in
    let low = pass.keeping.pass.pass in let few = c.requires.fits.sizes in
    let one0 = ap (λ (y : Sizes). y.passes) few ∙ one in
    let one1 = ap (λ (y : Sizes). y.passes) (c.announce.ensures.same.sizes ∙ few) ∙ one in
    let here : slot a.known 0 ≡ slot v.known 0 = slot_else v.known a.known 1 _
    (ap (λ (q : QueuePass). q.walk) (known_after _ _ _ _ _ _ _ v a c.announce.ensures.made)) 0 (λ e. omega arith) in
    absurd (c.if-second-link.true (confirmed_found a b one1 next.keeping.pass.pass
    (seen_of then.seat then.keeping.lone then.run) _ _ _ _ _ refl c.confirm-second.ensures.confirmed
    ∙ (ap (λ (w : WalkSlot). word_in a (cell_place z w.named 2)) here
    ∙ (others_stay v a c.announce.ensures.made refl one0 low (seen_of next.seat next.keeping.lone next.run) place
    (λ e. omega arith) ∙ sym is))))
