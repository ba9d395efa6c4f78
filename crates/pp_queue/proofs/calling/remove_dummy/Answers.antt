use Rattle.std.proofs.Common.{◌≡◌, ◌<◌, ◌+◌, ℕ, List, length, get_or, refl, sym, ap, ◌∙◌, subst, arith}
use Rattle.pp_link.specs.Links.{target}
use Rattle.pp_rule.specs.declared.views.WalkSlot.{WalkSlot}
use Rattle.pp_rule.specs.Lists.{IsIn}
use Rattle.pp_rule.specs.Views.{slot, blank, value_of}
use Rattle.pp_rule.specs.Steps.{IsUnused, with_frontier, detaching}
use Rattle.pp_rule.proofs.Made.{known_after}
use Rattle.pp_rule.proofs.Slots.{guarding_here}
use Rattle.pp_base.specs.Passes.{known, view, IsAtRest}
use Rattle.pp_base.proofs.Chaining.{chains_count}
use Rattle.pp_unlink.specs.Unlinking.{GuardsNone}
use Rattle.pp_unlink.proofs.Settling.{rest_detached, rest_missed}
use Rattle.pp_queue.proofs.Turning.{rest_same_lists}
use Rattle.pp_unlink.proofs.Exchanging.{unused_of}
use Rattle.pp_queues.specs.Queues.{QueuePass, dummy_chain}
use Rattle.pp_queues.specs.Turns.{stand, resting, with_own}
use Rattle.pp_queues.proofs.Lining.{leads_to}
use Rattle.pp_queue.specs.Calling.{TookOff}
use Rattle.pp_queue.proofs.Removing.{order_trans, order_made, flush_order, may_take, took_off}
use Rattle.pp_queues.specs.Losses.{Tally, losing, striking}
use Rattle.pp_queues.proofs.Counting.{ran_both}
use Rattle.pp_queue.proofs.Running.{ran_idle, ran_flush, ran_took, ran_missed}
use Rattle.pp_queue.proofs.calling.remove_dummy.Goals as goal
use Rattle.std.proofs.Common.{ap₂, ◌*◌}
use Rattle.pp_link.specs.declared.layout.Sizes.{Sizes}
use Rattle.pp_queues.specs.declared.own.QueueOwn.{QueueOwn}
use Rattle.pp_queue.specs.Standing.{StaysUp}
use Rattle.pp_queue.proofs.Standing.{seen_of, found_here, dummy_stays}
use Rattle.pp_queue.proofs.Finding.{up_made, up_on}

pub guard-requires-clause-unused : goal.guard-requires-clause-unused
guard-requires-clause-unused c = let now = c.flush_full.new.pass in
    unused_of (known now.seat) now.purse.chains.items c.free_word-word.result now.keeping.chains
    (subst (λ hs. GuardsNone c.free_word-word.result hs) c.deref.ensures.value c.free_word-word.ensures.free)

pub detach_dummy-found-requires-clause-may : goal.detach_dummy-found-requires-clause-may
detach_dummy-found-requires-clause-may c = let now = c.flush_full.new.pass in let word : ℕ = c.free_word-word.result in
    let q0 = known c.args.pass.now.seat in let q1 = known now.seat in let q2 = known c.guard.new.pass.seat in
    let n : ℕ = target c.args.new in let held = c.flush_full.ensures.held in
    let is : q2 ≡ with_frontier word n q1 = known_after _ _ _ _ _ _ _ (view now.seat)
    (view c.guard.new.pass.seat) c.guard.ensures.made in
    let low = c.free_word-word.ensures.low in let four : length q1.frontier ≡ 4 = now.keeping.pass.four in
    may_take c.args.pool.now.layout q0 q2 c.args.first c.args.new word c.requires.may (ap (λ (q : QueuePass). q.own) is
    ∙ held.own)
    (ap (λ (q : QueuePass). q.walk) is ∙ held.walk) low
    (guarding_here q1 q2 word n (ap (λ (q : QueuePass). q.frontier) is) (omega arith)
    ∙ leads_to c.args.new q0.own.next c.requires.may.new_is)
    (λ d i. unused_of q1 now.purse.chains.items word now.keeping.chains
    (subst (λ hs. GuardsNone word hs) c.deref.ensures.value c.free_word-word.ensures.free) d
    (subst (λ (q : QueuePass). IsIn d q.chains) is i))

pub unguard-requires-clause-unused : goal.unguard-requires-clause-unused
unguard-requires-clause-unused c = let now = c.flush_full.new.pass in let word : ℕ = c.free_word-word.result in
    let guarded = known_after _ _ _ _ _ _ _ (view now.seat) (view c.guard.new.pass.seat) c.guard.ensures.made in
    let missed = known_after _ _ _ _ _ _ _ (view c.guard.new.pass.seat) (view c.detach_dummy-found.new.pass.seat)
    (c.detach_dummy-found.ensures.took.other c.if-found-first.false) in
    λ d i. unused_of (known now.seat) now.purse.chains.items word now.keeping.chains
    (subst (λ hs. GuardsNone word hs) c.deref.ensures.value c.free_word-word.ensures.free) d
    (subst (λ (q : QueuePass). IsIn d q.chains) (missed ∙ guarded) i)

pub returns-then-found-first-clause-took : goal.returns-then-found-first-clause-took
returns-then-found-first-clause-took c = λ _. let pass = c.args.pass.now in let now = c.flush_full.new.pass in
    let word : ℕ = c.free_word-word.result in
    let z = c.args.pool.now.layout in
    let v0 = view pass.seat in let v1 = view now.seat in let v2 = view c.guard.new.pass.seat in
    let v3 = view c.detach_dummy-found.new.pass.seat in
    let count = chains_count v0.known.chains pass.purse.chains.items pass.keeping.chains in let few = pass.keeping.few in
    let held = c.flush_full.ensures.held in
    let is = known_after _ _ _ _ _ _ _ v1 v2 c.guard.ensures.made in
    let walk : v2.known.walk ≡ v0.known.walk = ap (λ (q : QueuePass). q.walk) is ∙ held.walk in
    let a = order_trans v0 v1 v2 (flush_order z v0 v1 (omega arith) c.flush_full.ensures.flushed)
    (order_made v1 v2 c.guard.ensures.made refl) in
    subst (λ (ws : List WalkSlot). TookOff (value_of (get_or ws 1 blank).value) v0 v3) walk
    (took_off (value_of (slot v2.known 1).value) v0 v2 v3 a (c.detach_dummy-found.ensures.took.same c.if-found-first.true) refl)

pub returns-then-found-first-clause-rest : goal.returns-then-found-first-clause-rest
returns-then-found-first-clause-rest c = let now = c.flush_full.new.pass in let word : ℕ = c.free_word-word.result in
    let n : ℕ = target c.args.new in
    let v1 = view now.seat in let v2 = view c.guard.new.pass.seat in let v3 = view c.detach_dummy-found.new.pass.seat in
    let hit = c.if-found-first.true in let p' = c.detach_dummy-found.new.pass.purse in
    let is : v2.known ≡ with_frontier word n v1.known = known_after _ _ _ _ _ _ _ v1 v2 c.guard.ensures.made in
    let made = known_after _ _ _ _ _ _ _ v2 v3 (c.detach_dummy-found.ensures.took.same hit) in
    let chain = dummy_chain (stand v2.known) word c.args.new in let own = resting v2.known.own in
    let took = c.detach_dummy-found.ensures.purse.taken hit in
    let all : IsAtRest (with_own own (detaching chain (with_frontier word n v1.known))) p' =
    rest_detached v1.known (with_own own (detaching chain (with_frontier word n v1.known))) now.purse p' chain word n own refl
    refl
    (took.spent ∙ (ap (λ p. p.spent) c.guard.ensures.purse ∙ c.flush_full.ensures.rest.spent)) c.flush_full.ensures.rest in
    subst (λ (q : QueuePass). IsAtRest q p') (sym made)
    (subst (λ (q : QueuePass). IsAtRest (with_own own (detaching chain q)) p') (sym is) all)

pub returns-clause-missed : goal.returns-clause-missed
returns-clause-missed c = λ _. let pass = c.args.pass.now in let now = c.flush_full.new.pass in let z = c.args.pool.now.layout in
    let v0 = view pass.seat in let v1 = view now.seat in let v2 = view c.guard.new.pass.seat in
    let v3 = view c.detach_dummy-found.new.pass.seat in
    let v4 = view c.unguard.new.pass.seat in
    let count = chains_count v0.known.chains pass.purse.chains.items pass.keeping.chains in let few = pass.keeping.few in
    let held = c.flush_full.ensures.held in let missed = c.detach_dummy-found.ensures.took.other c.if-found-first.false in
    let is2 = known_after _ _ _ _ _ _ _ v1 v2 c.guard.ensures.made in let is3 = known_after _ _ _ _ _ _ _ v2 v3 missed in
    let is4 = known_after _ _ _ _ _ _ _ v3 v4 c.unguard.ensures.made in
    let a = order_trans v0 v1 v2 (flush_order z v0 v1 (omega arith) c.flush_full.ensures.flushed)
    (order_made v1 v2 c.guard.ensures.made refl) in
    let b = order_trans v2 v3 v4 (order_made v2 v3 missed refl) (order_made v3 v4 c.unguard.ensures.made refl) in
    let all = order_trans v0 v2 v4 a b in record {
      order = all.order;
      mine = all.mine;
      number = all.number;
      walk = ap (λ (q : QueuePass). q.walk) is4
          ∙ (ap (λ (q : QueuePass). q.walk) is3 ∙ (ap (λ (q : QueuePass). q.walk) is2 ∙ held.walk));
      own = ap (λ (q : QueuePass). q.own) is4 ∙ (ap (λ (q : QueuePass). q.own) is3
          ∙ (ap (λ (q : QueuePass). q.own) is2 ∙ held.own));
    }

pub returns-clause-rest : goal.returns-clause-rest
returns-clause-rest c = let now = c.flush_full.new.pass in let word : ℕ = c.free_word-word.result in
    let n : ℕ = target c.args.new in
    let v1 = view now.seat in let v2 = view c.guard.new.pass.seat in let v3 = view c.detach_dummy-found.new.pass.seat in
    let v4 = view c.unguard.new.pass.seat in let missed = c.detach_dummy-found.ensures.took.other c.if-found-first.false in
    let is2 : v2.known ≡ with_frontier word n v1.known = known_after _ _ _ _ _ _ _ v1 v2 c.guard.ensures.made in
    let is3 = known_after _ _ _ _ _ _ _ v2 v3 missed in
    let is4 = known_after _ _ _ _ _ _ _ v3 v4 c.unguard.ensures.made in
    let unused : IsUnused word v1.known = unused_of v1.known now.purse.chains.items word now.keeping.chains
    (subst (λ hs. GuardsNone word hs) c.deref.ensures.value c.free_word-word.ensures.free) in
    let kept = c.detach_dummy-found.ensures.purse.kept c.if-found-first.false in
    let same : v4.known ≡ v1.known = (is4 ∙ (ap (λ (q : QueuePass). with_frontier word 0 q) (is3 ∙ is2)
    ∙ rest_missed v1.known now.purse word n c.free_word-word.ensures.low unused c.flush_full.ensures.rest)) in
    rest_same_lists v1.known v4.known now.purse c.unguard.new.pass.purse (ap (λ (q : QueuePass). q.scan) same)
    (ap (λ (q : QueuePass). q.chains) same) (ap (λ (q : QueuePass). q.frontier) same)
    (ap (λ p. p.spent) c.unguard.ensures.purse ∙ (ap (λ p. p.spent) kept ∙ ap (λ p. p.spent) c.guard.ensures.purse))
    c.flush_full.ensures.rest

pub returns-then-found-first-clause-walk : goal.returns-then-found-first-clause-walk
returns-then-found-first-clause-walk c = let now = c.flush_full.new.pass in
    let v1 = view now.seat in let v2 = view c.guard.new.pass.seat in let v3 = view c.detach_dummy-found.new.pass.seat in
    ap (λ (q : QueuePass). q.walk) (known_after _ _ _ _ _ _ _ v2 v3
    (c.detach_dummy-found.ensures.took.same c.if-found-first.true))
    ∙ (ap (λ (q : QueuePass). q.walk) (known_after _ _ _ _ _ _ _ v1 v2 c.guard.ensures.made) ∙ c.flush_full.ensures.held.walk)

pub returns-clause-walk : goal.returns-clause-walk
returns-clause-walk c = let now = c.flush_full.new.pass in
    let v1 = view now.seat in let v2 = view c.guard.new.pass.seat in let v3 = view c.detach_dummy-found.new.pass.seat in
    let v4 = view c.unguard.new.pass.seat in
    ap (λ (q : QueuePass). q.walk) (known_after _ _ _ _ _ _ _ v3 v4 c.unguard.ensures.made)
    ∙ (ap (λ (q : QueuePass). q.walk) (known_after _ _ _ _ _ _ _ v2 v3
    (c.detach_dummy-found.ensures.took.other c.if-found-first.false))
    ∙ (ap (λ (q : QueuePass). q.walk) (known_after _ _ _ _ _ _ _ v1 v2 c.guard.ensures.made) ∙ c.flush_full.ensures.held.walk))

pub returns-then-found-first-clause-steps : goal.returns-then-found-first-clause-steps
returns-then-found-first-clause-steps c = λ word n. let z = c.args.pool.now.layout in let t : ℕ → Tally = λ k. losing word k in
    let v0 = view c.args.pass.now.seat in let v1 = view c.flush_full.new.pass.seat in let v2 = view c.guard.new.pass.seat in
    let v3 = view c.detach_dummy-found.new.pass.seat in
    let count = chains_count v0.known.chains c.args.pass.now.purse.chains.items c.args.pass.now.keeping.chains in
    let few = c.args.pass.now.keeping.few in
    ran_both z.passes (t n) (t n) (striking word n) v0 v1 v3
    (ran_flush z.passes (t n) z v0 v1 (omega arith) c.flush_full.ensures.flushed)
    (ran_both z.passes (t n) (t n) (striking word n) v1 v2 v3 (ran_idle z.passes v1 v2 (t n) c.guard.ensures.made refl refl)
    (ran_took z.passes v2 v3 _ _ _ _ _ _ word n c.if-found-first.true c.detach_dummy-found.ensures.took))

pub returns-clause-steps : goal.returns-clause-steps
returns-clause-steps c = λ word n. let z = c.args.pool.now.layout in let t : ℕ → Tally = λ k. losing word k in
    let v0 = view c.args.pass.now.seat in let v1 = view c.flush_full.new.pass.seat in let v2 = view c.guard.new.pass.seat in
    let v3 = view c.detach_dummy-found.new.pass.seat in let v4 = view c.unguard.new.pass.seat in
    let count = chains_count v0.known.chains c.args.pass.now.purse.chains.items c.args.pass.now.keeping.chains in
    let few = c.args.pass.now.keeping.few in
    ran_both z.passes (t n) (t n) (t (n + 1)) v0 v1 v4
    (ran_flush z.passes (t n) z v0 v1 (omega arith) c.flush_full.ensures.flushed)
    (ran_both z.passes (t n) (t n) (t (n + 1)) v1 v2 v4 (ran_idle z.passes v1 v2 (t n) c.guard.ensures.made refl refl)
    (ran_both z.passes (t n) (t (n + 1)) (t (n + 1)) v2 v3 v4
    (ran_missed z.passes v2 v3 _ _ _ _ _ _ word n c.if-found-first.false (omega arith) c.detach_dummy-found.ensures.took)
    (ran_idle z.passes v3 v4 (t (n + 1)) c.unguard.ensures.made refl refl)))

pub returns-then-found-first-clause-up : goal.returns-then-found-first-clause-up
returns-then-found-first-clause-up c = let v0 = view c.args.pass.now.seat in let v1 = view c.flush_full.new.pass.seat in
    let v2 = view c.guard.new.pass.seat in let v3 = view c.detach_dummy-found.new.pass.seat in
    let kept : StaysUp v0.known v1.known = λ up. ap (λ (o : QueueOwn). o.behind) c.flush_full.ensures.held.own ∙ up in
    up_on v0.known v1.known v3.known kept (up_on v1.known v2.known v3.known (up_made v1 v2 c.guard.ensures.made refl)
    (up_made v2 v3 (c.detach_dummy-found.ensures.took.same c.if-found-first.true) refl))

pub returns-clause-up : goal.returns-clause-up
returns-clause-up c = let v0 = view c.args.pass.now.seat in let v1 = view c.flush_full.new.pass.seat in
    let v2 = view c.guard.new.pass.seat in let v3 = view c.detach_dummy-found.new.pass.seat in
    let v4 = view c.unguard.new.pass.seat in
    let kept : StaysUp v0.known v1.known = λ up. ap (λ (o : QueueOwn). o.behind) c.flush_full.ensures.held.own ∙ up in
    up_on v0.known v1.known v4.known kept (up_on v1.known v2.known v4.known (up_made v1 v2 c.guard.ensures.made refl)
    (up_on v2.known v3.known v4.known (up_made v2 v3 (c.detach_dummy-found.ensures.took.other c.if-found-first.false) refl)
    (up_made v3 v4 c.unguard.ensures.made refl)))

pub returns-clause-alone : goal.returns-clause-alone
returns-clause-alone c = λ one going. let z = c.args.pool.now.layout in let now = c.flush_full.new.pass in
    let word : ℕ = c.free_word-word.result in let guarded = c.guard.new.pass in let then = c.detach_dummy-found.new.pass in
    let v0 = view c.args.pass.now.seat in let v1 = view now.seat in let v2 = view guarded.seat in let v3 = view then.seat in
    let held = c.flush_full.ensures.held in let m = c.requires.may in
    let is : v2.known ≡ with_frontier word (target c.args.new) v1.known = known_after _ _ _ _ _ _ _ v1 v2 c.guard.ensures.made in
    let own : v2.known.own ≡ v0.known.own = ap (λ (q : QueuePass). q.own) is ∙ held.own in
    let walk : v2.known.walk ≡ v0.known.walk = ap (λ (q : QueuePass). q.walk) is ∙ held.walk in
    let same : stand v2.known ≡ stand v0.known =
    ap₂ (λ (ws : List WalkSlot) (o : QueueOwn). (get_or ws o.at blank).named) walk own in
    let few : v2.known.sizes ≡ z = c.guard.ensures.same.sizes ∙ (c.flush_full.ensures.same.sizes ∙ c.requires.fits.sizes) in
    let one2 : v2.known.sizes.passes ≡ 1 = ap (λ (y : Sizes). y.passes) few ∙ one in
    let low2 = guarded.keeping.pass.pass in
    let low : v2.known.number < z.passes = subst (λ (y : Sizes). v2.known.number < y.passes) few low2 in
    absurd (c.if-found-first.false (found_here v2 v3 (c.detach_dummy-found.ensures.took.other c.if-found-first.false) refl one2 low2
    (seen_of then.seat then.keeping.lone then.run) refl
    ∙ (dummy_stays z v2 few one m.two low (seen_of guarded.seat guarded.keeping.lone guarded.run)
    (subst (λ (o : QueueOwn). o.at < 5) (sym own) m.word) (ap (λ (o : QueueOwn). o.front) own ∙ m.front)
    (ap (λ (o : QueueOwn). o.going) own ∙ going)
    ∙ (ap (λ (n : ℕ). 16 * n) same ∙ sym m.first_is))))
