use Rattle.std.proofs.Common.{◌≡◌, ◌≢◌, ◌+◌, ◌*◌, ℕ, false, refl, sym, ap, ◌∙◌, subst, arith}
use Rattle.pp_link.specs.Links.{target}
use mathlib.Core.Option.{some}
use lib.ListN.{get_elem?}
use Rattle.pp_link.specs.Places.{IsNumber, head_place}
use Rattle.pp_rule.proofs.Made.{known_after}
use Rattle.pp_base.specs.Passes.{known, view}
use Rattle.pp_queues.specs.declared.calls.QueueCall.TheVariants as call
use Rattle.pp_queues.specs.declared.calls.QueueReply.TheVariants as said
use Rattle.pp_queues.specs.Queues.{QueuePass}
use Rattle.pp_queues.specs.Turns.{with_own, leading, linked, MayAdvance}
use Rattle.pp_queue.specs.Steps.{value_in}
use Rattle.pp_queue.specs.Calling.{GoesOn, Struck}
use Rattle.pp_queue.proofs.Going.{goes_made, goes_on, rest_cleared, rest_self}
use Rattle.pp_queue.proofs.Turning.{goes_advanced}
use Rattle.pp_queue.proofs.Putting.{goes_looked, may_advance, struck_between, same_record}
use Rattle.std.proofs.Common.{true, false, eq-eqb, ne_eqb}
use Rattle.pp_link.specs.Links.{invalid_bit}
use Rattle.pp_link.specs.Places.{cell_place}
use Rattle.pp_rule.specs.Lists.{remove_at}
use Rattle.pp_rule.specs.Views.{slot}
use Rattle.pp_queues.specs.Losses.{Tally, losing}
use Rattle.pp_queues.proofs.Counting.{ran_both}
use Rattle.pp_queue.specs.Steps.{LinkedAt}
use Rattle.pp_queue.specs.Calling.{SameLists}
use Rattle.pp_queue.proofs.Running.{ran_idle, ran_is, ran_looked, ran_unlinked, ran_advanced}
use Rattle.pp_queue.proofs.Publishing.{published_linked, put_struck, lists_on, lists_rest, record_private}
use Rattle.pp_queue.proofs.calling.put_turn.Goals as goal
use Rattle.pp_queue.proofs.Standing.{seen_of}
use Rattle.pp_queue.proofs.Finding.{up_made, put_last, put_links, put_advances}
use Rattle.std.proofs.Math.Bool.{false≢true}

pub advance-requires-clause-may : goal.advance-requires-clause-may
advance-requires-clause-may c = let z = c.args.pool.now.layout in let q1 = known c.stand_at.new.pass.seat in
    let v2 = view c.look-link.new.pass.seat in let v3 = view c.link_behind-found.new.pass.seat in
    let t = c.link_behind-found.ensures.linked in
    let link : ℕ = target c.look-link.result in
    let is2 : v2.known ≡ with_own (leading link q1.own) q1 = known_after _ _ _ _ _ _ _
    (view c.stand_at.new.pass.seat) v2 c.look-link.ensures.looked.made in
    let is3 : v3.known ≡ linked t.index t.was.number v2.known = known_after _ _ _ _ _ _ _ v2 v3 (t.made.same c.if-linked.true) in
    let number : IsNumber (known c.look-link.new.pass.seat).sizes t.was.number = c.look-link.new.pass.keeping.pass.owned t.was
    (t.index, t.at) in
    subst (λ (q : QueuePass). MayAdvance z q (head_place z 1) c.args.first (16 * c.args.number)) (sym is3)
    (subst (λ (q : QueuePass). MayAdvance z (linked t.index t.was.number q) (head_place z 1) c.args.first (16 * c.args.number))
    (sym is2)
    (may_advance z q1 link t.index t.was.number c.args.first (16 * c.args.number) c.requires.two
    (c.stand_at.ensures.stands c.if-not-stand_at.false)
    c.requires.first (λ e. let one = number.0 in omega arith) (ap (λ (n : ℕ). 16 * n) (sym t.number_is))))

pub returns-then-linked-clause-put : goal.returns-then-linked-clause-put
returns-then-linked-clause-put c = λ v has _. let v0 = view c.args.pass.now.seat in let v1 = view c.stand_at.new.pass.seat in
    let v2 = view c.look-link.new.pass.seat in let v3 = view c.link_behind-found.new.pass.seat in
    let v4 = view c.advance.new.pass.seat in
    let v5 = view c.clear.new.pass.seat in let t = c.link_behind-found.ensures.linked in
    let a : GoesOn v0 v2 = goes_on v0 v1 v2 c.stand_at.ensures.on (goes_looked _ _ v1 v2 c.look-link.ensures.looked) in
    let b : GoesOn v3 v5 = goes_on v3 v4 v5 (goes_advanced _ _ _ _ v3 v4 c.advance.ensures.advanced)
    (goes_made v4 v5 c.clear.ensures.made (rest_cleared v4.known 0)) in
    let same : t.was ≡ has.was = same_record v0.known.owned t.index has.index t.was has.was
    c.args.pass.now.keeping.pass.owned_once
    (subst (λ ds. get_elem? ds t.index ≡ some t.was) a.rest.owned t.at) has.at (t.number_is ∙ sym has.number_is) in
    subst (λ (n : ℕ). Struck (call.Put n) said.Put v0 v5) (ap value_in same ∙ has.value_is)
    (struck_between (call.Put (value_in t.was)) said.Put v0 v2 v3 v5 a (t.made.same c.if-linked.true) refl b)

pub returns-then-last-clause-again : goal.returns-then-last-clause-again
returns-then-last-clause-again c = λ _. let v0 = view c.args.pass.now.seat in let v1 = view c.stand_at.new.pass.seat in
    let v2 = view c.look-link.new.pass.seat in let v3 = view c.link_behind-found.new.pass.seat in
    let v5 = view c.clear-then-last.new.pass.seat in let t = c.link_behind-found.ensures.linked in
    goes_on v0 v2 v5 (goes_on v0 v1 v2 c.stand_at.ensures.on (goes_looked _ _ v1 v2 c.look-link.ensures.looked))
    (goes_on v2 v3 v5 (goes_made v2 v3 (t.made.other c.if-linked.false) (rest_self v2.known))
    (goes_made v3 v5 c.clear-then-last.ensures.made (rest_cleared v3.known 0)))

pub returns-then-invalid-clause-again : goal.returns-then-invalid-clause-again
returns-then-invalid-clause-again c = λ _. let v0 = view c.args.pass.now.seat in let v1 = view c.stand_at.new.pass.seat in
    let v2 = view c.look-link.new.pass.seat in let v5 = view c.clear-then-invalid.new.pass.seat in
    goes_on v0 v2 v5 (goes_on v0 v1 v2 c.stand_at.ensures.on (goes_looked _ _ v1 v2 c.look-link.ensures.looked))
    (goes_made v2 v5 c.clear-then-invalid.ensures.made (rest_cleared v2.known 0))

pub returns-clause-again : goal.returns-clause-again
returns-clause-again c = λ _. let v0 = view c.args.pass.now.seat in let v1 = view c.stand_at.new.pass.seat in
    let v2 = view c.look-link.new.pass.seat in let v4 = view c.advance-2.new.pass.seat in let v5 = view c.clear-2.new.pass.seat in
    goes_on v0 v2 v5 (goes_on v0 v1 v2 c.stand_at.ensures.on (goes_looked _ _ v1 v2 c.look-link.ensures.looked))
    (goes_on v2 v4 v5 (goes_advanced _ _ _ _ v2 v4 c.advance-2.ensures.advanced)
    (goes_made v4 v5 c.clear-2.ensures.made (rest_cleared v4.known 0)))

nil_valid : (link : ℕ) → link ≡ 0 → invalid_bit link ≢ 1
nil_valid link e bad = let none : invalid_bit link ≡ 0 = ap invalid_bit e in omega arith

pub returns-then-not-stand_at-clause-steps : goal.returns-then-not-stand_at-clause-steps
returns-then-not-stand_at-clause-steps c = λ n.
    let z = c.args.pool.now.layout in let passes = z.passes in let first : ℕ = c.args.first in let t : ℕ → ℕ
    → Tally = λ w k. losing w k in
    let v0 = view c.args.pass.now.seat in let v1 = view c.stand_at.new.pass.seat in
    (first, ran_is passes v0 v1 (t first n) first n c.stand_at.result false c.if-not-stand_at.true (c.stand_at.ensures.steps n))

pub returns-then-linked-clause-steps : goal.returns-then-linked-clause-steps
returns-then-linked-clause-steps c = λ n.
    let z = c.args.pool.now.layout in let passes = z.passes in let first : ℕ = c.args.first in let t : ℕ → ℕ
    → Tally = λ w k. losing w k in
    let v0 = view c.args.pass.now.seat in let v1 = view c.stand_at.new.pass.seat in
    let v2 = view c.look-link.new.pass.seat in let link : ℕ = c.look-link.result in
    let stood = ran_is passes v0 v1 (t first n) first n c.stand_at.result true c.if-not-stand_at.false
    (c.stand_at.ensures.steps n) in
    let seen = ran_both passes (t first n) (t first n) (t link n) v0 v1 v2 stood
    (ran_looked passes v1 v2 _ link first n false
    (ne_eqb (invalid_bit link) 1 (nil_valid link c.if-last.true)) c.look-link.ensures.looked) in
    let v3 = view c.link_behind-found.new.pass.seat in let v4 = view c.advance.new.pass.seat in
    let v5 = view c.clear.new.pass.seat in
    let place : ℕ = cell_place z (slot (known c.look-link.new.pass.seat) 0).named 2 in
    let l = subst (λ (found : ℕ). LinkedAt c.args.number place (16 * c.args.number) found v2 v3) c.if-linked.true
    c.link_behind-found.ensures.linked in
    put_struck z first link n v0 v2 v3 v4 v5 seen c.args.number place (16 * c.args.number) l first
    (16 * c.args.number) c.advance.result
    c.advance.ensures.advanced (λ t. ran_idle passes v4 v5 t c.clear.ensures.made refl refl)
    (ap (λ (q : QueuePass). q.own.behind) (known_after _ _ _ _ _ _ _ v4 v5 c.clear.ensures.made))

pub returns-then-last-clause-steps : goal.returns-then-last-clause-steps
returns-then-last-clause-steps c = λ n.
    let z = c.args.pool.now.layout in let passes = z.passes in let first : ℕ = c.args.first in let t : ℕ → ℕ
    → Tally = λ w k. losing w k in
    let v0 = view c.args.pass.now.seat in let v1 = view c.stand_at.new.pass.seat in
    let v2 = view c.look-link.new.pass.seat in let link : ℕ = c.look-link.result in
    let stood = ran_is passes v0 v1 (t first n) first n c.stand_at.result true c.if-not-stand_at.false
    (c.stand_at.ensures.steps n) in
    let seen = ran_both passes (t first n) (t first n) (t link n) v0 v1 v2 stood
    (ran_looked passes v1 v2 _ link first n false
    (ne_eqb (invalid_bit link) 1 (nil_valid link c.if-last.true)) c.look-link.ensures.looked) in
    let v3 = view c.link_behind-found.new.pass.seat in let v4 = view c.clear-then-last.new.pass.seat in (
      link,
      ran_both passes (t first n) (t link n) (t link (n + 1)) v0 v2 v4 seen
          (ran_both passes (t link n) (t link (n + 1)) (t link (n + 1)) v2 v3 v4
          (ran_unlinked passes v2 v3 _ _ _ _ link n c.if-linked.false (omega arith) c.link_behind-found.ensures.linked)
          (ran_idle passes v3 v4 (t link (n + 1)) c.clear-then-last.ensures.made refl refl)),
    )

pub returns-then-invalid-clause-steps : goal.returns-then-invalid-clause-steps
returns-then-invalid-clause-steps c = λ n.
    let z = c.args.pool.now.layout in let passes = z.passes in let first : ℕ = c.args.first in let t : ℕ → ℕ
    → Tally = λ w k. losing w k in
    let v0 = view c.args.pass.now.seat in let v1 = view c.stand_at.new.pass.seat in
    let v2 = view c.look-link.new.pass.seat in let link : ℕ = c.look-link.result in
    let stood = ran_is passes v0 v1 (t first n) first n c.stand_at.result true c.if-not-stand_at.false
    (c.stand_at.ensures.steps n) in
    let seen = ran_both passes (t first n) (t first n) (t link (n + 1)) v0 v1 v2 stood
    (ran_looked passes v1 v2 _ link first n true (eq-eqb (invalid_bit link) 1 c.if-invalid.true) c.look-link.ensures.looked) in
    let v3 = view c.clear-then-invalid.new.pass.seat in (
      link,
      ran_both passes (t first n) (t link (n + 1)) (t link (n + 1)) v0 v2 v3 seen
          (ran_idle passes v2 v3 (t link (n + 1)) c.clear-then-invalid.ensures.made refl refl),
    )

pub returns-clause-steps : goal.returns-clause-steps
returns-clause-steps c = λ n.
    let z = c.args.pool.now.layout in let passes = z.passes in let first : ℕ = c.args.first in let t : ℕ → ℕ
    → Tally = λ w k. losing w k in
    let v0 = view c.args.pass.now.seat in let v1 = view c.stand_at.new.pass.seat in
    let v2 = view c.look-link.new.pass.seat in let link : ℕ = c.look-link.result in
    let stood = ran_is passes v0 v1 (t first n) first n c.stand_at.result true c.if-not-stand_at.false
    (c.stand_at.ensures.steps n) in
    let seen = ran_both passes (t first n) (t first n) (t link n) v0 v1 v2 stood
    (ran_looked passes v1 v2 _ link first n false (ne_eqb (invalid_bit link) 1 c.if-invalid.false) c.look-link.ensures.looked) in
    let v3 = view c.advance-2.new.pass.seat in let v4 = view c.clear-2.new.pass.seat in (
      link,
      ran_both passes (t first n) (t link n) (t link (n + 1)) v0 v2 v4 seen
          (ran_both passes (t link n) (t link (n + 1)) (t link (n + 1)) v2 v3 v4
          (ran_advanced passes v2 v3 _ _ _ _ link n (omega arith) c.advance-2.ensures.advanced)
          (ran_idle passes v3 v4 (t link (n + 1)) c.clear-2.ensures.made refl refl)),
    )

pub returns-then-linked-clause-published : goal.returns-then-linked-clause-published
returns-then-linked-clause-published c = λ _. let v0 = view c.args.pass.now.seat in let v1 = view c.stand_at.new.pass.seat in
    let v2 = view c.look-link.new.pass.seat in let v3 = view c.link_behind-found.new.pass.seat in
    let v4 = view c.advance.new.pass.seat in
    let v5 = view c.clear.new.pass.seat in let t = c.link_behind-found.ensures.linked in
    let a : GoesOn v0 v2 = goes_on v0 v1 v2 c.stand_at.ensures.on (goes_looked _ _ v1 v2 c.look-link.ensures.looked) in
    let b : GoesOn v3 v5 = goes_on v3 v4 v5 (goes_advanced _ _ _ _ v3 v4 c.advance.ensures.advanced)
    (goes_made v4 v5 c.clear.ensures.made (rest_cleared v4.known 0)) in
    let is3 : v3.known ≡ linked t.index t.was.number v2.known = known_after _ _ _ _ _ _ _ v2 v3 (t.made.same c.if-linked.true) in
    let purse = c.clear.ensures.purse ∙ (c.advance.ensures.purse ∙ (c.link_behind-found.ensures.purse ∙ (c.look-link.ensures.purse
    ∙ c.stand_at.ensures.purse))) in
    published_linked v0.known v5.known c.args.pass.now.purse c.clear.new.pass.purse c.args.number t.index t.was
    c.args.pass.now.keeping.pass.owned_once (subst (λ ds. get_elem? ds t.index ≡ some t.was) a.rest.owned t.at) t.number_is
    (b.rest.owned ∙ (ap (λ (q : QueuePass). q.owned) is3
    ∙ ap (remove_at t.index) a.rest.owned)) purse c.args.pass.now.keeping.counted

pub returns-then-linked-clause-same_lists : goal.returns-then-linked-clause-same_lists
returns-then-linked-clause-same_lists c = let v0 = view c.args.pass.now.seat in let v1 = view c.stand_at.new.pass.seat in
    let v2 = view c.look-link.new.pass.seat in let v3 = view c.link_behind-found.new.pass.seat in
    let v4 = view c.advance.new.pass.seat in
    let v5 = view c.clear.new.pass.seat in let t = c.link_behind-found.ensures.linked in
    let a : GoesOn v0 v2 = goes_on v0 v1 v2 c.stand_at.ensures.on (goes_looked _ _ v1 v2 c.look-link.ensures.looked) in
    let b : GoesOn v3 v5 = goes_on v3 v4 v5 (goes_advanced _ _ _ _ v3 v4 c.advance.ensures.advanced)
    (goes_made v4 v5 c.clear.ensures.made (rest_cleared v4.known 0)) in
    let is3 : v3.known ≡ linked t.index t.was.number v2.known = known_after _ _ _ _ _ _ _ v2 v3 (t.made.same c.if-linked.true) in
    lists_on v0.known v2.known v5.known (lists_rest v0.known v2.known a.rest) (lists_on v2.known v3.known v5.known
    (subst (λ (q : QueuePass). SameLists v2.known q) (sym is3) record {
      number = refl;
      sizes = refl;
      retired_are = refl;
      frontier = refl;
      chains = refl;
      scan = refl;
    }) (lists_rest v3.known v5.known b.rest))

pub returns-then-not-stand_at-clause-private : goal.returns-then-not-stand_at-clause-private
returns-then-not-stand_at-clause-private c = λ _. let v0 = view c.args.pass.now.seat in let v1 = view c.stand_at.new.pass.seat in
    record_private v0.known v1.known c.args.pass.now.purse c.stand_at.new.pass.purse c.args.number c.requires.record.0
    c.requires.record.1
    c.stand_at.ensures.on.rest c.stand_at.ensures.purse

pub returns-then-not-stand_at-clause-same_lists : goal.returns-then-not-stand_at-clause-same_lists
returns-then-not-stand_at-clause-same_lists c = lists_rest (known c.args.pass.now.seat)
    (known c.stand_at.new.pass.seat) c.stand_at.ensures.on.rest

pub returns-then-last-clause-private : goal.returns-then-last-clause-private
returns-then-last-clause-private c = λ _. let v0 = view c.args.pass.now.seat in let v1 = view c.stand_at.new.pass.seat in
    let v2 = view c.look-link.new.pass.seat in
    let a : GoesOn v0 v2 = goes_on v0 v1 v2 c.stand_at.ensures.on (goes_looked _ _ v1 v2 c.look-link.ensures.looked) in
    let purse2 = c.look-link.ensures.purse ∙ c.stand_at.ensures.purse in
    let v3 = view c.link_behind-found.new.pass.seat in let v5 = view c.clear-then-last.new.pass.seat in
    let t = c.link_behind-found.ensures.linked in
    let all = (goes_on v0 v2 v5 a (goes_on v2 v3 v5 (goes_made v2 v3 (t.made.other c.if-linked.false) (rest_self v2.known))
    (goes_made v3 v5 c.clear-then-last.ensures.made (rest_cleared v3.known 0)))).rest in
    let purse = c.clear-then-last.ensures.purse ∙ (c.link_behind-found.ensures.purse ∙ purse2) in
    record_private v0.known v5.known c.args.pass.now.purse c.clear-then-last.new.pass.purse c.args.number c.requires.record.0
    c.requires.record.1 all purse

pub returns-then-last-clause-same_lists : goal.returns-then-last-clause-same_lists
returns-then-last-clause-same_lists c = let v0 = view c.args.pass.now.seat in let v1 = view c.stand_at.new.pass.seat in
    let v2 = view c.look-link.new.pass.seat in
    let a : GoesOn v0 v2 = goes_on v0 v1 v2 c.stand_at.ensures.on (goes_looked _ _ v1 v2 c.look-link.ensures.looked) in
    let purse2 = c.look-link.ensures.purse ∙ c.stand_at.ensures.purse in
    let v3 = view c.link_behind-found.new.pass.seat in let v5 = view c.clear-then-last.new.pass.seat in
    let t = c.link_behind-found.ensures.linked in
    let all = (goes_on v0 v2 v5 a (goes_on v2 v3 v5 (goes_made v2 v3 (t.made.other c.if-linked.false) (rest_self v2.known))
    (goes_made v3 v5 c.clear-then-last.ensures.made (rest_cleared v3.known 0)))).rest in
    let purse = c.clear-then-last.ensures.purse ∙ (c.link_behind-found.ensures.purse ∙ purse2) in
    lists_rest v0.known v5.known all

pub returns-then-invalid-clause-private : goal.returns-then-invalid-clause-private
returns-then-invalid-clause-private c = λ _. let v0 = view c.args.pass.now.seat in let v1 = view c.stand_at.new.pass.seat in
    let v2 = view c.look-link.new.pass.seat in
    let a : GoesOn v0 v2 = goes_on v0 v1 v2 c.stand_at.ensures.on (goes_looked _ _ v1 v2 c.look-link.ensures.looked) in
    let purse2 = c.look-link.ensures.purse ∙ c.stand_at.ensures.purse in
    let v5 = view c.clear-then-invalid.new.pass.seat in
    let all = (goes_on v0 v2 v5 a (goes_made v2 v5 c.clear-then-invalid.ensures.made (rest_cleared v2.known 0))).rest in
    let purse = c.clear-then-invalid.ensures.purse ∙ purse2 in
    record_private v0.known v5.known c.args.pass.now.purse c.clear-then-invalid.new.pass.purse c.args.number c.requires.record.0
    c.requires.record.1 all purse

pub returns-then-invalid-clause-same_lists : goal.returns-then-invalid-clause-same_lists
returns-then-invalid-clause-same_lists c = let v0 = view c.args.pass.now.seat in let v1 = view c.stand_at.new.pass.seat in
    let v2 = view c.look-link.new.pass.seat in
    let a : GoesOn v0 v2 = goes_on v0 v1 v2 c.stand_at.ensures.on (goes_looked _ _ v1 v2 c.look-link.ensures.looked) in
    let purse2 = c.look-link.ensures.purse ∙ c.stand_at.ensures.purse in
    let v5 = view c.clear-then-invalid.new.pass.seat in
    let all = (goes_on v0 v2 v5 a (goes_made v2 v5 c.clear-then-invalid.ensures.made (rest_cleared v2.known 0))).rest in
    let purse = c.clear-then-invalid.ensures.purse ∙ purse2 in
    lists_rest v0.known v5.known all

pub returns-clause-private : goal.returns-clause-private
returns-clause-private c = λ _. let v0 = view c.args.pass.now.seat in let v1 = view c.stand_at.new.pass.seat in
    let v2 = view c.look-link.new.pass.seat in
    let a : GoesOn v0 v2 = goes_on v0 v1 v2 c.stand_at.ensures.on (goes_looked _ _ v1 v2 c.look-link.ensures.looked) in
    let purse2 = c.look-link.ensures.purse ∙ c.stand_at.ensures.purse in
    let v4 = view c.advance-2.new.pass.seat in let v5 = view c.clear-2.new.pass.seat in
    let all = (goes_on v0 v2 v5 a (goes_on v2 v4 v5 (goes_advanced _ _ _ _ v2 v4 c.advance-2.ensures.advanced)
    (goes_made v4 v5 c.clear-2.ensures.made (rest_cleared v4.known 0)))).rest in
    let purse = c.clear-2.ensures.purse ∙ (c.advance-2.ensures.purse ∙ purse2) in
    record_private v0.known v5.known c.args.pass.now.purse c.clear-2.new.pass.purse c.args.number c.requires.record.0
    c.requires.record.1 all purse

pub returns-clause-same_lists : goal.returns-clause-same_lists
returns-clause-same_lists c = let v0 = view c.args.pass.now.seat in let v1 = view c.stand_at.new.pass.seat in
    let v2 = view c.look-link.new.pass.seat in
    let a : GoesOn v0 v2 = goes_on v0 v1 v2 c.stand_at.ensures.on (goes_looked _ _ v1 v2 c.look-link.ensures.looked) in
    let purse2 = c.look-link.ensures.purse ∙ c.stand_at.ensures.purse in
    let v4 = view c.advance-2.new.pass.seat in let v5 = view c.clear-2.new.pass.seat in
    let all = (goes_on v0 v2 v5 a (goes_on v2 v4 v5 (goes_advanced _ _ _ _ v2 v4 c.advance-2.ensures.advanced)
    (goes_made v4 v5 c.clear-2.ensures.made (rest_cleared v4.known 0)))).rest in
    let purse = c.clear-2.ensures.purse ∙ (c.advance-2.ensures.purse ∙ purse2) in
    lists_rest v0.known v5.known all

pub returns-then-not-stand_at-clause-alone : goal.returns-then-not-stand_at-clause-alone
returns-then-not-stand_at-clause-alone c = λ one up is.
    absurd (false≢true (sym c.if-not-stand_at.true ∙ c.stand_at.ensures.alone one is))

pub returns-then-linked-clause-alone : goal.returns-then-linked-clause-alone
returns-then-linked-clause-alone c = λ one up is. let z = c.args.pool.now.layout in let p1 = c.stand_at.new.pass in
    let p2 = c.look-link.new.pass in
    let v1 = view p1.seat in let v2 = view p2.seat in
    let few : v1.known.sizes ≡ z = c.stand_at.ensures.same.sizes ∙ c.requires.fits.sizes in
    let stood : c.stand_at.result ≡ true = c.if-not-stand_at.false in
    let st = c.stand_at.ensures.stands stood in
    let seen1 = seen_of p1.seat p1.keeping.lone p1.run in let seen2 = seen_of p2.seat p2.keeping.lone p2.run in
    let there = c.stand_at.ensures.there one stood in
    let p3 = c.link_behind-found.new.pass in let p4 = c.advance.new.pass in let v5 = view c.clear.new.pass.seat in (
      refl,
      up_made (view p4.seat) v5 c.clear.ensures.made refl (put_advances z one c.requires.two v1 v2 c.args.first c.look-link.result few
          p1.keeping.pass.pass seen1 seen2 st c.requires.first there (c.stand_at.ensures.up up) c.look-link.ensures.looked
          (view p3.seat) (seen_of p3.seat p3.keeping.lone p3.run) c.args.number (16 * c.args.number) c.link_behind-found.result
          c.link_behind-found.ensures.linked (view p4.seat) (seen_of p4.seat p4.keeping.lone p4.run) _ _ c.advance.ensures.advanced),
    )

pub returns-then-last-clause-alone : goal.returns-then-last-clause-alone
returns-then-last-clause-alone c = λ one up is. let z = c.args.pool.now.layout in let p1 = c.stand_at.new.pass in
    let p2 = c.look-link.new.pass in
    let v1 = view p1.seat in let v2 = view p2.seat in
    let few : v1.known.sizes ≡ z = c.stand_at.ensures.same.sizes ∙ c.requires.fits.sizes in
    let stood : c.stand_at.result ≡ true = c.if-not-stand_at.false in
    let st = c.stand_at.ensures.stands stood in
    let seen1 = seen_of p1.seat p1.keeping.lone p1.run in let seen2 = seen_of p2.seat p2.keeping.lone p2.run in
    let there = c.stand_at.ensures.there one stood in
    let p3 = c.link_behind-found.new.pass in
    absurd (c.if-linked.false (put_links z one c.requires.two v1 v2 c.args.first c.look-link.result few
    p1.keeping.pass.pass seen1 seen2 st c.requires.first there (c.stand_at.ensures.up up) c.look-link.ensures.looked
    (view p3.seat) (seen_of p3.seat p3.keeping.lone p3.run) c.args.number (16 * c.args.number) c.link_behind-found.result
    c.link_behind-found.ensures.linked))

pub returns-then-invalid-clause-alone : goal.returns-then-invalid-clause-alone
returns-then-invalid-clause-alone c = λ one up is. let z = c.args.pool.now.layout in let p1 = c.stand_at.new.pass in
    let p2 = c.look-link.new.pass in
    let v1 = view p1.seat in let v2 = view p2.seat in
    let few : v1.known.sizes ≡ z = c.stand_at.ensures.same.sizes ∙ c.requires.fits.sizes in
    let stood : c.stand_at.result ≡ true = c.if-not-stand_at.false in
    let st = c.stand_at.ensures.stands stood in
    let seen1 = seen_of p1.seat p1.keeping.lone p1.run in let seen2 = seen_of p2.seat p2.keeping.lone p2.run in
    let there = c.stand_at.ensures.there one stood in
    absurd (c.if-last.false (put_last z one c.requires.two v1 v2 c.args.first c.look-link.result few
    p1.keeping.pass.pass seen1 seen2 st c.requires.first there (c.stand_at.ensures.up up) c.look-link.ensures.looked))

pub returns-clause-alone : goal.returns-clause-alone
returns-clause-alone c = λ one up is. let z = c.args.pool.now.layout in let p1 = c.stand_at.new.pass in
    let p2 = c.look-link.new.pass in
    let v1 = view p1.seat in let v2 = view p2.seat in
    let few : v1.known.sizes ≡ z = c.stand_at.ensures.same.sizes ∙ c.requires.fits.sizes in
    let stood : c.stand_at.result ≡ true = c.if-not-stand_at.false in
    let st = c.stand_at.ensures.stands stood in
    let seen1 = seen_of p1.seat p1.keeping.lone p1.run in let seen2 = seen_of p2.seat p2.keeping.lone p2.run in
    let there = c.stand_at.ensures.there one stood in
    absurd (c.if-last.false (put_last z one c.requires.two v1 v2 c.args.first c.look-link.result few
    p1.keeping.pass.pass seen1 seen2 st c.requires.first there (c.stand_at.ensures.up up) c.look-link.ensures.looked))
