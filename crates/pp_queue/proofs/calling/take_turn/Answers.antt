use Rattle.std.proofs.Common.{◌≡◌, ℕ, get_or, refl, sym, ap, ◌∙◌, subst}
use Rattle.pp_rule.specs.Views.{slot, blank, value_of}
use Rattle.pp_base.specs.Passes.{known, view}
use Rattle.pp_queue.specs.Calling.{GoesOn, TookOff}
use Rattle.pp_queue.proofs.Turning.{rest_goes, goes_saw, goes_tried, goes_advanced, went_on, went_free, took_between}
use Rattle.pp_queue.proofs.Turning.{said_empty, rest_settled, goes_read}
use Rattle.pp_queue.proofs.Going.{goes_made, goes_on, rest_cleared}
use Rattle.std.proofs.Common.{◌+◌, Bool, true, false, cond, arith, eq-eqb, ne_eqb}
use Rattle.pp_link.specs.Links.{invalid_bit}
use Rattle.pp_queues.specs.Losses.{Tally, losing, striking, Ran}
use Rattle.pp_queues.proofs.Counting.{ran_both}
use Rattle.pp_queue.proofs.Running.{ran_idle, ran_is, ran_saw, ran_tried, ran_settled, ran_advanced, ran_read}
use Rattle.pp_queue.proofs.calling.take_turn.Goals as goal
use Rattle.pp_queue.proofs.Passing.{may_remove}
use Rattle.pp_queue.specs.Standing.{StaysUp}
use Rattle.pp_queue.proofs.Standing.{seen_of}
use Rattle.pp_queue.proofs.Finding.{up_made, up_on, up_saw, up_tried, up_advanced, take_valid, take_link, take_past}
use Rattle.std.proofs.Math.Bool.{false≢true}

pub returns-then-not-stand_at-clause-rest : goal.returns-then-not-stand_at-clause-rest
returns-then-not-stand_at-clause-rest c = let pass = c.args.pass.now in let a = c.stand_at.new.pass in
    rest_goes (view pass.seat) (view a.seat) pass.purse a.purse c.stand_at.ensures.on c.stand_at.ensures.purse c.requires.rest

pub returns-then-empty-clause-turned : goal.returns-then-empty-clause-turned
returns-then-empty-clause-turned c = let v0 = view c.args.pass.now.seat in let v1 = view c.stand_at.new.pass.seat in
    let v2 = view c.see-last.new.pass.seat in
    let v3 = view c.try_next-link.new.pass.seat in
    let p0 = c.args.pass.now.purse in
    let seen : GoesOn v0 v2 = goes_on v0 v1 v2 c.stand_at.ensures.on (goes_saw _ _ v1 v2 c.see-last.ensures.saw) in
    let purse2 = c.see-last.ensures.purse ∙ c.stand_at.ensures.purse in let purse3 = c.try_next-link.ensures.purse ∙ purse2 in
    let v4 = view c.clear.new.pass.seat in
    said_empty _ _ v0 v2 v3 v4 seen (c.try_next-link.ensures.tried.none c.if-empty.true)
    (goes_made v3 v4 c.clear.ensures.made (rest_cleared v3.known 0))

pub returns-then-empty-clause-rest : goal.returns-then-empty-clause-rest
returns-then-empty-clause-rest c = let v0 = view c.args.pass.now.seat in let v1 = view c.stand_at.new.pass.seat in
    let v2 = view c.see-last.new.pass.seat in
    let v3 = view c.try_next-link.new.pass.seat in
    let p0 = c.args.pass.now.purse in
    let seen : GoesOn v0 v2 = goes_on v0 v1 v2 c.stand_at.ensures.on (goes_saw _ _ v1 v2 c.see-last.ensures.saw) in
    let purse2 = c.see-last.ensures.purse ∙ c.stand_at.ensures.purse in let purse3 = c.try_next-link.ensures.purse ∙ purse2 in
    let v4 = view c.clear.new.pass.seat in
    rest_goes v3 v4 c.try_next-link.new.pass.purse c.clear.new.pass.purse
    (goes_made v3 v4 c.clear.ensures.made (rest_cleared v3.known 0)) c.clear.ensures.purse
    (rest_settled _ _ v2 v3 c.see-last.new.pass.purse c.try_next-link.new.pass.purse
    (c.try_next-link.ensures.tried.none c.if-empty.true)
    c.try_next-link.ensures.purse (rest_goes v0 v2 p0 c.see-last.new.pass.purse seen purse2 c.requires.rest))

pub returns-then-invalid-clause-turned : goal.returns-then-invalid-clause-turned
returns-then-invalid-clause-turned c = let v0 = view c.args.pass.now.seat in let v1 = view c.stand_at.new.pass.seat in
    let v2 = view c.see-last.new.pass.seat in
    let v3 = view c.try_next-link.new.pass.seat in
    let p0 = c.args.pass.now.purse in
    let seen : GoesOn v0 v2 = goes_on v0 v1 v2 c.stand_at.ensures.on (goes_saw _ _ v1 v2 c.see-last.ensures.saw) in
    let purse2 = c.see-last.ensures.purse ∙ c.stand_at.ensures.purse in let purse3 = c.try_next-link.ensures.purse ∙ purse2 in
    let tried : GoesOn v0 v3 = goes_on v0 v2 v3 seen (goes_tried _ _ v2 v3 c.if-empty.false c.try_next-link.ensures.tried) in
    let v4 = view c.clear-then-invalid.new.pass.seat in
    let all : GoesOn v0 v4 = goes_on v0 v3 v4 tried (goes_made v3 v4 c.clear-then-invalid.ensures.made
    (rest_cleared v3.known 0)) in
    went_on v0 v4 c.requires.going all

pub returns-then-invalid-clause-rest : goal.returns-then-invalid-clause-rest
returns-then-invalid-clause-rest c = let v0 = view c.args.pass.now.seat in let v1 = view c.stand_at.new.pass.seat in
    let v2 = view c.see-last.new.pass.seat in
    let v3 = view c.try_next-link.new.pass.seat in
    let p0 = c.args.pass.now.purse in
    let seen : GoesOn v0 v2 = goes_on v0 v1 v2 c.stand_at.ensures.on (goes_saw _ _ v1 v2 c.see-last.ensures.saw) in
    let purse2 = c.see-last.ensures.purse ∙ c.stand_at.ensures.purse in let purse3 = c.try_next-link.ensures.purse ∙ purse2 in
    let tried : GoesOn v0 v3 = goes_on v0 v2 v3 seen (goes_tried _ _ v2 v3 c.if-empty.false c.try_next-link.ensures.tried) in
    let v4 = view c.clear-then-invalid.new.pass.seat in
    let all : GoesOn v0 v4 = goes_on v0 v3 v4 tried (goes_made v3 v4 c.clear-then-invalid.ensures.made
    (rest_cleared v3.known 0)) in
    rest_goes v0 v4 p0 c.clear-then-invalid.new.pass.purse all (c.clear-then-invalid.ensures.purse ∙ purse3) c.requires.rest

pub returns-then-not-hold_next-clause-turned : goal.returns-then-not-hold_next-clause-turned
returns-then-not-hold_next-clause-turned c = let v0 = view c.args.pass.now.seat in let v1 = view c.stand_at.new.pass.seat in
    let v2 = view c.see-last.new.pass.seat in
    let v3 = view c.try_next-link.new.pass.seat in
    let p0 = c.args.pass.now.purse in
    let seen : GoesOn v0 v2 = goes_on v0 v1 v2 c.stand_at.ensures.on (goes_saw _ _ v1 v2 c.see-last.ensures.saw) in
    let purse2 = c.see-last.ensures.purse ∙ c.stand_at.ensures.purse in let purse3 = c.try_next-link.ensures.purse ∙ purse2 in
    let tried : GoesOn v0 v3 = goes_on v0 v2 v3 seen (goes_tried _ _ v2 v3 c.if-empty.false c.try_next-link.ensures.tried) in
    let v4 = view c.hold_next.new.pass.seat in
    let held : GoesOn v0 v4 = goes_on v0 v3 v4 tried c.hold_next.ensures.on in let purse4 = c.hold_next.ensures.purse ∙ purse3 in
    let v5 = view c.clear-then-not-hold_next.new.pass.seat in
    let all : GoesOn v0 v5 = goes_on v0 v4 v5 held (goes_made v4 v5 c.clear-then-not-hold_next.ensures.made
    (rest_cleared v4.known 0)) in
    went_on v0 v5 c.requires.going all

pub returns-then-not-hold_next-clause-rest : goal.returns-then-not-hold_next-clause-rest
returns-then-not-hold_next-clause-rest c = let v0 = view c.args.pass.now.seat in let v1 = view c.stand_at.new.pass.seat in
    let v2 = view c.see-last.new.pass.seat in
    let v3 = view c.try_next-link.new.pass.seat in
    let p0 = c.args.pass.now.purse in
    let seen : GoesOn v0 v2 = goes_on v0 v1 v2 c.stand_at.ensures.on (goes_saw _ _ v1 v2 c.see-last.ensures.saw) in
    let purse2 = c.see-last.ensures.purse ∙ c.stand_at.ensures.purse in let purse3 = c.try_next-link.ensures.purse ∙ purse2 in
    let tried : GoesOn v0 v3 = goes_on v0 v2 v3 seen (goes_tried _ _ v2 v3 c.if-empty.false c.try_next-link.ensures.tried) in
    let v4 = view c.hold_next.new.pass.seat in
    let held : GoesOn v0 v4 = goes_on v0 v3 v4 tried c.hold_next.ensures.on in let purse4 = c.hold_next.ensures.purse ∙ purse3 in
    let v5 = view c.clear-then-not-hold_next.new.pass.seat in
    let all : GoesOn v0 v5 = goes_on v0 v4 v5 held (goes_made v4 v5 c.clear-then-not-hold_next.ensures.made
    (rest_cleared v4.known 0)) in
    rest_goes v0 v5 p0 c.clear-then-not-hold_next.new.pass.purse all (c.clear-then-not-hold_next.ensures.purse
    ∙ purse4) c.requires.rest

pub returns-then-last-first-clause-turned : goal.returns-then-last-first-clause-turned
returns-then-last-first-clause-turned c = let v0 = view c.args.pass.now.seat in let v1 = view c.stand_at.new.pass.seat in
    let v2 = view c.see-last.new.pass.seat in
    let v3 = view c.try_next-link.new.pass.seat in
    let p0 = c.args.pass.now.purse in
    let seen : GoesOn v0 v2 = goes_on v0 v1 v2 c.stand_at.ensures.on (goes_saw _ _ v1 v2 c.see-last.ensures.saw) in
    let purse2 = c.see-last.ensures.purse ∙ c.stand_at.ensures.purse in let purse3 = c.try_next-link.ensures.purse ∙ purse2 in
    let tried : GoesOn v0 v3 = goes_on v0 v2 v3 seen (goes_tried _ _ v2 v3 c.if-empty.false c.try_next-link.ensures.tried) in
    let v4 = view c.hold_next.new.pass.seat in
    let held : GoesOn v0 v4 = goes_on v0 v3 v4 tried c.hold_next.ensures.on in let purse4 = c.hold_next.ensures.purse ∙ purse3 in
    let v5 = view c.advance.new.pass.seat in let v6 = view c.let_go.new.pass.seat in
    let all : GoesOn v0 v6 = goes_on v0 v5 v6
    (goes_on v0 v4 v5 held (goes_advanced _ _ _ _ v4 v5 c.advance.ensures.advanced)) c.let_go.ensures.on in
    went_on v0 v6 c.requires.going all

pub returns-then-last-first-clause-rest : goal.returns-then-last-first-clause-rest
returns-then-last-first-clause-rest c = let v0 = view c.args.pass.now.seat in let v1 = view c.stand_at.new.pass.seat in
    let v2 = view c.see-last.new.pass.seat in
    let v3 = view c.try_next-link.new.pass.seat in
    let p0 = c.args.pass.now.purse in
    let seen : GoesOn v0 v2 = goes_on v0 v1 v2 c.stand_at.ensures.on (goes_saw _ _ v1 v2 c.see-last.ensures.saw) in
    let purse2 = c.see-last.ensures.purse ∙ c.stand_at.ensures.purse in let purse3 = c.try_next-link.ensures.purse ∙ purse2 in
    let tried : GoesOn v0 v3 = goes_on v0 v2 v3 seen (goes_tried _ _ v2 v3 c.if-empty.false c.try_next-link.ensures.tried) in
    let v4 = view c.hold_next.new.pass.seat in
    let held : GoesOn v0 v4 = goes_on v0 v3 v4 tried c.hold_next.ensures.on in let purse4 = c.hold_next.ensures.purse ∙ purse3 in
    let v5 = view c.advance.new.pass.seat in let v6 = view c.let_go.new.pass.seat in
    let all : GoesOn v0 v6 = goes_on v0 v5 v6
    (goes_on v0 v4 v5 held (goes_advanced _ _ _ _ v4 v5 c.advance.ensures.advanced)) c.let_go.ensures.on in
    rest_goes v0 v6 p0 c.let_go.new.pass.purse all (c.let_go.ensures.purse ∙ (c.advance.ensures.purse ∙ purse4)) c.requires.rest

pub remove_dummy-requires-clause-rest : goal.remove_dummy-requires-clause-rest
remove_dummy-requires-clause-rest c = let v0 = view c.args.pass.now.seat in let v1 = view c.stand_at.new.pass.seat in
    let v2 = view c.see-last.new.pass.seat in
    let v3 = view c.try_next-link.new.pass.seat in
    let p0 = c.args.pass.now.purse in
    let seen : GoesOn v0 v2 = goes_on v0 v1 v2 c.stand_at.ensures.on (goes_saw _ _ v1 v2 c.see-last.ensures.saw) in
    let purse2 = c.see-last.ensures.purse ∙ c.stand_at.ensures.purse in let purse3 = c.try_next-link.ensures.purse ∙ purse2 in
    let tried : GoesOn v0 v3 = goes_on v0 v2 v3 seen (goes_tried _ _ v2 v3 c.if-empty.false c.try_next-link.ensures.tried) in
    let v4 = view c.hold_next.new.pass.seat in
    let held : GoesOn v0 v4 = goes_on v0 v3 v4 tried c.hold_next.ensures.on in let purse4 = c.hold_next.ensures.purse ∙ purse3 in
    rest_goes v0 v4 p0 c.hold_next.new.pass.purse held purse4 c.requires.rest

pub returns-then-not-remove_dummy-clause-turned : goal.returns-then-not-remove_dummy-clause-turned
returns-then-not-remove_dummy-clause-turned c = let v0 = view c.args.pass.now.seat in let v1 = view c.stand_at.new.pass.seat in
    let v2 = view c.see-last.new.pass.seat in
    let v3 = view c.try_next-link.new.pass.seat in
    let p0 = c.args.pass.now.purse in
    let seen : GoesOn v0 v2 = goes_on v0 v1 v2 c.stand_at.ensures.on (goes_saw _ _ v1 v2 c.see-last.ensures.saw) in
    let purse2 = c.see-last.ensures.purse ∙ c.stand_at.ensures.purse in let purse3 = c.try_next-link.ensures.purse ∙ purse2 in
    let tried : GoesOn v0 v3 = goes_on v0 v2 v3 seen (goes_tried _ _ v2 v3 c.if-empty.false c.try_next-link.ensures.tried) in
    let v4 = view c.hold_next.new.pass.seat in
    let held : GoesOn v0 v4 = goes_on v0 v3 v4 tried c.hold_next.ensures.on in let purse4 = c.hold_next.ensures.purse ∙ purse3 in
    let v5 = view c.remove_dummy.new.pass.seat in let v6 = view c.let_go-then-not-remove_dummy.new.pass.seat in
    went_free v0 v4 v5 v6 c.requires.going held
    (c.remove_dummy.ensures.missed c.if-not-remove_dummy.true) c.let_go-then-not-remove_dummy.ensures.on

pub returns-then-not-remove_dummy-clause-rest : goal.returns-then-not-remove_dummy-clause-rest
returns-then-not-remove_dummy-clause-rest c = let v0 = view c.args.pass.now.seat in let v1 = view c.stand_at.new.pass.seat in
    let v2 = view c.see-last.new.pass.seat in
    let v3 = view c.try_next-link.new.pass.seat in
    let p0 = c.args.pass.now.purse in
    let seen : GoesOn v0 v2 = goes_on v0 v1 v2 c.stand_at.ensures.on (goes_saw _ _ v1 v2 c.see-last.ensures.saw) in
    let purse2 = c.see-last.ensures.purse ∙ c.stand_at.ensures.purse in let purse3 = c.try_next-link.ensures.purse ∙ purse2 in
    let tried : GoesOn v0 v3 = goes_on v0 v2 v3 seen (goes_tried _ _ v2 v3 c.if-empty.false c.try_next-link.ensures.tried) in
    let v4 = view c.hold_next.new.pass.seat in
    let held : GoesOn v0 v4 = goes_on v0 v3 v4 tried c.hold_next.ensures.on in let purse4 = c.hold_next.ensures.purse ∙ purse3 in
    let v5 = view c.remove_dummy.new.pass.seat in let v6 = view c.let_go-then-not-remove_dummy.new.pass.seat in
    rest_goes v5 v6 c.remove_dummy.new.pass.purse c.let_go-then-not-remove_dummy.new.pass.purse
    c.let_go-then-not-remove_dummy.ensures.on c.let_go-then-not-remove_dummy.ensures.purse c.remove_dummy.ensures.rest

pub returns-clause-turned : goal.returns-clause-turned
returns-clause-turned c = let v0 = view c.args.pass.now.seat in let v1 = view c.stand_at.new.pass.seat in
    let v2 = view c.see-last.new.pass.seat in
    let v3 = view c.try_next-link.new.pass.seat in
    let p0 = c.args.pass.now.purse in
    let seen : GoesOn v0 v2 = goes_on v0 v1 v2 c.stand_at.ensures.on (goes_saw _ _ v1 v2 c.see-last.ensures.saw) in
    let purse2 = c.see-last.ensures.purse ∙ c.stand_at.ensures.purse in let purse3 = c.try_next-link.ensures.purse ∙ purse2 in
    let tried : GoesOn v0 v3 = goes_on v0 v2 v3 seen (goes_tried _ _ v2 v3 c.if-empty.false c.try_next-link.ensures.tried) in
    let v4 = view c.hold_next.new.pass.seat in
    let held : GoesOn v0 v4 = goes_on v0 v3 v4 tried c.hold_next.ensures.on in let purse4 = c.hold_next.ensures.purse ∙ purse3 in
    let v5 = view c.remove_dummy.new.pass.seat in let v6 = view c.value-taken.new.pass.seat in
    let v7 = view c.let_go-2.new.pass.seat in
    let z = c.args.pool.now.layout in
    let read : GoesOn v5 v6 = goes_read z 1 c.value-taken.result c.remove_dummy.new.pass.seat c.value-taken.new.pass.seat
    c.value-taken.ensures.read in
    let rest : GoesOn v5 v7 = goes_on v5 v6 v7 read c.let_go-2.ensures.on in
    let same : value_of (slot v4.known 1).value ≡ c.value-taken.result =
    sym (c.value-taken.ensures.value ∙ ap (λ ws. value_of (get_or ws 1 blank).value) c.remove_dummy.ensures.walk) in
    subst (λ (n : ℕ). TookOff n v0 v7) same (took_between _ v0 v4 v5 v7 held
    (c.remove_dummy.ensures.took c.if-not-remove_dummy.false) rest)

pub returns-clause-rest : goal.returns-clause-rest
returns-clause-rest c = let v0 = view c.args.pass.now.seat in let v1 = view c.stand_at.new.pass.seat in
    let v2 = view c.see-last.new.pass.seat in
    let v3 = view c.try_next-link.new.pass.seat in
    let p0 = c.args.pass.now.purse in
    let seen : GoesOn v0 v2 = goes_on v0 v1 v2 c.stand_at.ensures.on (goes_saw _ _ v1 v2 c.see-last.ensures.saw) in
    let purse2 = c.see-last.ensures.purse ∙ c.stand_at.ensures.purse in let purse3 = c.try_next-link.ensures.purse ∙ purse2 in
    let tried : GoesOn v0 v3 = goes_on v0 v2 v3 seen (goes_tried _ _ v2 v3 c.if-empty.false c.try_next-link.ensures.tried) in
    let v4 = view c.hold_next.new.pass.seat in
    let held : GoesOn v0 v4 = goes_on v0 v3 v4 tried c.hold_next.ensures.on in let purse4 = c.hold_next.ensures.purse ∙ purse3 in
    let v5 = view c.remove_dummy.new.pass.seat in let v6 = view c.value-taken.new.pass.seat in
    let v7 = view c.let_go-2.new.pass.seat in
    let z = c.args.pool.now.layout in
    let read : GoesOn v5 v6 = goes_read z 1 c.value-taken.result c.remove_dummy.new.pass.seat c.value-taken.new.pass.seat
    c.value-taken.ensures.read in
    let rest : GoesOn v5 v7 = goes_on v5 v6 v7 read c.let_go-2.ensures.on in
    rest_goes v5 v7 c.remove_dummy.new.pass.purse c.let_go-2.new.pass.purse rest (c.let_go-2.ensures.purse
    ∙ c.value-taken.ensures.purse) c.remove_dummy.ensures.rest

pub returns-then-not-stand_at-clause-steps : goal.returns-then-not-stand_at-clause-steps
returns-then-not-stand_at-clause-steps c = λ n.
    let passes = c.args.pool.now.layout.passes in let first : ℕ = c.args.first in let t : ℕ → ℕ → Tally = λ w k. losing w k in
    let v0 = view c.args.pass.now.seat in let v1 = view c.stand_at.new.pass.seat in
    (first, ran_is passes v0 v1 (t first n) first n c.stand_at.result false c.if-not-stand_at.true (c.stand_at.ensures.steps n))

pub returns-then-empty-clause-steps : goal.returns-then-empty-clause-steps
returns-then-empty-clause-steps c = λ n.
    let passes = c.args.pool.now.layout.passes in let first : ℕ = c.args.first in let t : ℕ → ℕ → Tally = λ w k. losing w k in
    let v0 = view c.args.pass.now.seat in let v1 = view c.stand_at.new.pass.seat in
    let v2 = view c.see-last.new.pass.seat in let v3 = view c.try_next-link.new.pass.seat in
    let last : ℕ = c.see-last.result in let link : ℕ = c.try_next-link.result in
    let seen = ran_both passes (t first n) (t first n) (t last n) v0 v1 v2
    (ran_is passes v0 v1 (t first n) first n c.stand_at.result true c.if-not-stand_at.false (c.stand_at.ensures.steps n))
    (ran_saw passes v1 v2 _ last first n c.see-last.ensures.saw) in
    let v4 = view c.clear.new.pass.seat in (
      last,
      ran_both passes (t first n) (t last n) (t last n) v0 v2 v4 seen
          (ran_both passes (t last n) (t last n) (t last n) v2 v3 v4
          (ran_settled passes v2 v3 _ link last n c.if-empty.true c.try_next-link.ensures.tried)
          (ran_idle passes v3 v4 (t last n) c.clear.ensures.made refl refl)),
    )

pub returns-then-invalid-clause-steps : goal.returns-then-invalid-clause-steps
returns-then-invalid-clause-steps c = λ n.
    let passes = c.args.pool.now.layout.passes in let first : ℕ = c.args.first in let t : ℕ → ℕ → Tally = λ w k. losing w k in
    let v0 = view c.args.pass.now.seat in let v1 = view c.stand_at.new.pass.seat in
    let v2 = view c.see-last.new.pass.seat in let v3 = view c.try_next-link.new.pass.seat in
    let last : ℕ = c.see-last.result in let link : ℕ = c.try_next-link.result in
    let seen = ran_both passes (t first n) (t first n) (t last n) v0 v1 v2
    (ran_is passes v0 v1 (t first n) first n c.stand_at.result true c.if-not-stand_at.false (c.stand_at.ensures.steps n))
    (ran_saw passes v1 v2 _ last first n c.see-last.ensures.saw) in
    let v4 = view c.clear-then-invalid.new.pass.seat in (
      link,
      ran_both passes (t first n) (t last n) (t link (n + 1)) v0 v2 v4 seen
          (ran_both passes (t last n) (t link (n + 1)) (t link (n + 1)) v2 v3 v4
          (ran_tried passes v2 v3 _ link last n true
          (eq-eqb (invalid_bit link) 1 c.if-invalid.true) c.if-empty.false c.try_next-link.ensures.tried)
          (ran_idle passes v3 v4 (t link (n + 1)) c.clear-then-invalid.ensures.made refl refl)),
    )

pub returns-then-not-hold_next-clause-steps : goal.returns-then-not-hold_next-clause-steps
returns-then-not-hold_next-clause-steps c = λ n.
    let passes = c.args.pool.now.layout.passes in let first : ℕ = c.args.first in let t : ℕ → ℕ → Tally = λ w k. losing w k in
    let v0 = view c.args.pass.now.seat in let v1 = view c.stand_at.new.pass.seat in
    let v2 = view c.see-last.new.pass.seat in let v3 = view c.try_next-link.new.pass.seat in
    let last : ℕ = c.see-last.result in let link : ℕ = c.try_next-link.result in
    let seen = ran_both passes (t first n) (t first n) (t last n) v0 v1 v2
    (ran_is passes v0 v1 (t first n) first n c.stand_at.result true c.if-not-stand_at.false (c.stand_at.ensures.steps n))
    (ran_saw passes v1 v2 _ last first n c.see-last.ensures.saw) in
    let tried = ran_both passes (t first n) (t last n) (t link n) v0 v2 v3 seen
    (ran_tried passes v2 v3 _ link last n false
    (ne_eqb (invalid_bit link) 1 c.if-invalid.false) c.if-empty.false c.try_next-link.ensures.tried) in
    let v4 = view c.hold_next.new.pass.seat in
    let v5 = view c.clear-then-not-hold_next.new.pass.seat in (
      link,
      ran_both passes (t first n) (t link n) (t link (n + 1)) v0 v3 v5 tried
          (ran_both passes (t link n) (t link (n + 1)) (t link (n + 1)) v3 v4 v5
          (ran_is passes v3 v4 (t link n) link n c.hold_next.result false c.if-not-hold_next.true (c.hold_next.ensures.steps n))
          (ran_idle passes v4 v5 (t link (n + 1)) c.clear-then-not-hold_next.ensures.made refl refl)),
    )

pub returns-then-last-first-clause-steps : goal.returns-then-last-first-clause-steps
returns-then-last-first-clause-steps c = λ n.
    let passes = c.args.pool.now.layout.passes in let first : ℕ = c.args.first in let t : ℕ → ℕ → Tally = λ w k. losing w k in
    let v0 = view c.args.pass.now.seat in let v1 = view c.stand_at.new.pass.seat in
    let v2 = view c.see-last.new.pass.seat in let v3 = view c.try_next-link.new.pass.seat in
    let last : ℕ = c.see-last.result in let link : ℕ = c.try_next-link.result in
    let seen = ran_both passes (t first n) (t first n) (t last n) v0 v1 v2
    (ran_is passes v0 v1 (t first n) first n c.stand_at.result true c.if-not-stand_at.false (c.stand_at.ensures.steps n))
    (ran_saw passes v1 v2 _ last first n c.see-last.ensures.saw) in
    let tried = ran_both passes (t first n) (t last n) (t link n) v0 v2 v3 seen
    (ran_tried passes v2 v3 _ link last n false
    (ne_eqb (invalid_bit link) 1 c.if-invalid.false) c.if-empty.false c.try_next-link.ensures.tried) in
    let v4 = view c.hold_next.new.pass.seat in
    let held = ran_both passes (t first n) (t link n) (t link n) v0 v3 v4 tried
    (ran_is passes v3 v4 (t link n) link n c.hold_next.result true c.if-not-hold_next.false (c.hold_next.ensures.steps n)) in
    let v5 = view c.advance.new.pass.seat in let v6 = view c.let_go.new.pass.seat in (
      link,
      ran_both passes (t first n) (t link n) (t link (n + 1)) v0 v4 v6 held
          (ran_both passes (t link n) (t link (n + 1)) (t link (n + 1)) v4 v5 v6
          (ran_advanced passes v4 v5 _ _ _ _ link n (omega arith) c.advance.ensures.advanced)
          (c.let_go.ensures.steps (t link (n + 1)))),
    )

pub returns-then-not-remove_dummy-clause-steps : goal.returns-then-not-remove_dummy-clause-steps
returns-then-not-remove_dummy-clause-steps c = λ n.
    let passes = c.args.pool.now.layout.passes in let first : ℕ = c.args.first in let t : ℕ → ℕ → Tally = λ w k. losing w k in
    let v0 = view c.args.pass.now.seat in let v1 = view c.stand_at.new.pass.seat in
    let v2 = view c.see-last.new.pass.seat in let v3 = view c.try_next-link.new.pass.seat in
    let last : ℕ = c.see-last.result in let link : ℕ = c.try_next-link.result in
    let seen = ran_both passes (t first n) (t first n) (t last n) v0 v1 v2
    (ran_is passes v0 v1 (t first n) first n c.stand_at.result true c.if-not-stand_at.false (c.stand_at.ensures.steps n))
    (ran_saw passes v1 v2 _ last first n c.see-last.ensures.saw) in
    let tried = ran_both passes (t first n) (t last n) (t link n) v0 v2 v3 seen
    (ran_tried passes v2 v3 _ link last n false
    (ne_eqb (invalid_bit link) 1 c.if-invalid.false) c.if-empty.false c.try_next-link.ensures.tried) in
    let v4 = view c.hold_next.new.pass.seat in
    let held = ran_both passes (t first n) (t link n) (t link n) v0 v3 v4 tried
    (ran_is passes v3 v4 (t link n) link n c.hold_next.result true c.if-not-hold_next.false (c.hold_next.ensures.steps n)) in
    let v5 = view c.remove_dummy.new.pass.seat in let v6 = view c.let_go-then-not-remove_dummy.new.pass.seat in (
      link,
      ran_both passes (t first n) (t link n) (t link (n + 1)) v0 v4 v6 held
          (ran_both passes (t link n) (t link (n + 1)) (t link (n + 1)) v4 v5 v6
          (subst (λ (b : Bool). Ran passes (t link n) (cond b (striking link n) (t link (n + 1))) v4 v5) c.if-not-remove_dummy.true
          (c.remove_dummy.ensures.steps link n)) (c.let_go-then-not-remove_dummy.ensures.steps (t link (n + 1)))),
    )

pub returns-clause-steps : goal.returns-clause-steps
returns-clause-steps c = λ n.
    let passes = c.args.pool.now.layout.passes in let first : ℕ = c.args.first in let t : ℕ → ℕ → Tally = λ w k. losing w k in
    let v0 = view c.args.pass.now.seat in let v1 = view c.stand_at.new.pass.seat in
    let v2 = view c.see-last.new.pass.seat in let v3 = view c.try_next-link.new.pass.seat in
    let last : ℕ = c.see-last.result in let link : ℕ = c.try_next-link.result in
    let seen = ran_both passes (t first n) (t first n) (t last n) v0 v1 v2
    (ran_is passes v0 v1 (t first n) first n c.stand_at.result true c.if-not-stand_at.false (c.stand_at.ensures.steps n))
    (ran_saw passes v1 v2 _ last first n c.see-last.ensures.saw) in
    let tried = ran_both passes (t first n) (t last n) (t link n) v0 v2 v3 seen
    (ran_tried passes v2 v3 _ link last n false
    (ne_eqb (invalid_bit link) 1 c.if-invalid.false) c.if-empty.false c.try_next-link.ensures.tried) in
    let v4 = view c.hold_next.new.pass.seat in
    let held = ran_both passes (t first n) (t link n) (t link n) v0 v3 v4 tried
    (ran_is passes v3 v4 (t link n) link n c.hold_next.result true c.if-not-hold_next.false (c.hold_next.ensures.steps n)) in
    let v5 = view c.remove_dummy.new.pass.seat in let v6 = view c.value-taken.new.pass.seat in
    let v7 = view c.let_go-2.new.pass.seat in
    let s : Tally = striking link n in let z = c.args.pool.now.layout in (
      link,
      ran_both passes (t first n) (t link n) s v0 v4 v7 held
          (ran_both passes (t link n) s s v4 v5 v7
          (subst (λ (b : Bool). Ran passes (t link n) (cond b s (t link (n + 1))) v4 v5) c.if-not-remove_dummy.false
          (c.remove_dummy.ensures.steps link n))
          (ran_both passes s s s v5 v6 v7
          (ran_read passes s z 1 c.value-taken.result c.remove_dummy.new.pass.seat c.value-taken.new.pass.seat
          c.value-taken.ensures.read)
          (c.let_go-2.ensures.steps s))),
    )

pub remove_dummy-requires-clause-may : goal.remove_dummy-requires-clause-may
remove_dummy-requires-clause-may c = may_remove c.args.pool.now.layout (view c.stand_at.new.pass.seat) (view c.see-last.new.pass.seat)
    (view c.try_next-link.new.pass.seat) (known c.hold_next.new.pass.seat) c.args.first c.see-last.result c.try_next-link.result _ _
    c.requires.two (c.stand_at.ensures.stands c.if-not-stand_at.false) c.requires.first c.see-last.ensures.saw c.if-last-first.false
    c.try_next-link.ensures.tried c.if-empty.false (c.hold_next.ensures.holds c.if-not-hold_next.false)

pub returns-then-empty-clause-up : goal.returns-then-empty-clause-up
returns-then-empty-clause-up c = let v0 = view c.args.pass.now.seat in let v1 = view c.stand_at.new.pass.seat in
    let v2 = view c.see-last.new.pass.seat in let v3 = view c.try_next-link.new.pass.seat in
    let up2 : StaysUp v0.known v2.known = up_on v0.known v1.known v2.known c.stand_at.ensures.up
    (up_saw _ _ v1 v2 c.see-last.ensures.saw) in
    let up3 : StaysUp v0.known v3.known = up_on v0.known v2.known v3.known up2 (up_tried _ _ v2 v3 c.try_next-link.ensures.tried) in
    let v4 = view c.clear.new.pass.seat in up_on v0.known v3.known v4.known up3 (up_made v3 v4 c.clear.ensures.made refl)

pub returns-then-invalid-clause-up : goal.returns-then-invalid-clause-up
returns-then-invalid-clause-up c = let v0 = view c.args.pass.now.seat in let v1 = view c.stand_at.new.pass.seat in
    let v2 = view c.see-last.new.pass.seat in let v3 = view c.try_next-link.new.pass.seat in
    let up2 : StaysUp v0.known v2.known = up_on v0.known v1.known v2.known c.stand_at.ensures.up
    (up_saw _ _ v1 v2 c.see-last.ensures.saw) in
    let up3 : StaysUp v0.known v3.known = up_on v0.known v2.known v3.known up2 (up_tried _ _ v2 v3 c.try_next-link.ensures.tried) in
    let v4 = view c.clear-then-invalid.new.pass.seat in
    up_on v0.known v3.known v4.known up3 (up_made v3 v4 c.clear-then-invalid.ensures.made refl)

pub returns-then-not-hold_next-clause-up : goal.returns-then-not-hold_next-clause-up
returns-then-not-hold_next-clause-up c = let v0 = view c.args.pass.now.seat in let v1 = view c.stand_at.new.pass.seat in
    let v2 = view c.see-last.new.pass.seat in let v3 = view c.try_next-link.new.pass.seat in
    let up2 : StaysUp v0.known v2.known = up_on v0.known v1.known v2.known c.stand_at.ensures.up
    (up_saw _ _ v1 v2 c.see-last.ensures.saw) in
    let up3 : StaysUp v0.known v3.known = up_on v0.known v2.known v3.known up2 (up_tried _ _ v2 v3 c.try_next-link.ensures.tried) in
    let v4 = view c.hold_next.new.pass.seat in let v5 = view c.clear-then-not-hold_next.new.pass.seat in
    up_on v0.known v3.known v5.known up3 (up_on v3.known v4.known v5.known c.hold_next.ensures.up
    (up_made v4 v5 c.clear-then-not-hold_next.ensures.made refl))

pub returns-then-last-first-clause-up : goal.returns-then-last-first-clause-up
returns-then-last-first-clause-up c = let v0 = view c.args.pass.now.seat in let v1 = view c.stand_at.new.pass.seat in
    let v2 = view c.see-last.new.pass.seat in let v3 = view c.try_next-link.new.pass.seat in
    let up2 : StaysUp v0.known v2.known = up_on v0.known v1.known v2.known c.stand_at.ensures.up
    (up_saw _ _ v1 v2 c.see-last.ensures.saw) in
    let up3 : StaysUp v0.known v3.known = up_on v0.known v2.known v3.known up2 (up_tried _ _ v2 v3 c.try_next-link.ensures.tried) in
    let v4 = view c.hold_next.new.pass.seat in let v5 = view c.advance.new.pass.seat in
    let v6 = view c.let_go.new.pass.seat in
    up_on v0.known v3.known v6.known up3 (up_on v3.known v4.known v6.known c.hold_next.ensures.up
    (up_on v4.known v5.known v6.known (up_advanced _ _ _ _ v4 v5 c.advance.ensures.advanced) c.let_go.ensures.up))

pub returns-then-not-remove_dummy-clause-up : goal.returns-then-not-remove_dummy-clause-up
returns-then-not-remove_dummy-clause-up c = let v0 = view c.args.pass.now.seat in let v1 = view c.stand_at.new.pass.seat in
    let v2 = view c.see-last.new.pass.seat in let v3 = view c.try_next-link.new.pass.seat in
    let up2 : StaysUp v0.known v2.known = up_on v0.known v1.known v2.known c.stand_at.ensures.up
    (up_saw _ _ v1 v2 c.see-last.ensures.saw) in
    let up3 : StaysUp v0.known v3.known = up_on v0.known v2.known v3.known up2 (up_tried _ _ v2 v3 c.try_next-link.ensures.tried) in
    let v4 = view c.hold_next.new.pass.seat in let v5 = view c.remove_dummy.new.pass.seat in
    let v6 = view c.let_go-then-not-remove_dummy.new.pass.seat in
    up_on v0.known v3.known v6.known up3 (up_on v3.known v4.known v6.known c.hold_next.ensures.up
    (up_on v4.known v5.known v6.known c.remove_dummy.ensures.up c.let_go-then-not-remove_dummy.ensures.up))

pub returns-clause-up : goal.returns-clause-up
returns-clause-up c = let v0 = view c.args.pass.now.seat in let v1 = view c.stand_at.new.pass.seat in
    let v2 = view c.see-last.new.pass.seat in let v3 = view c.try_next-link.new.pass.seat in
    let up2 : StaysUp v0.known v2.known = up_on v0.known v1.known v2.known c.stand_at.ensures.up
    (up_saw _ _ v1 v2 c.see-last.ensures.saw) in
    let up3 : StaysUp v0.known v3.known = up_on v0.known v2.known v3.known up2 (up_tried _ _ v2 v3 c.try_next-link.ensures.tried) in
    let v4 = view c.hold_next.new.pass.seat in let v5 = view c.remove_dummy.new.pass.seat in
    let v6 = view c.value-taken.new.pass.seat in let v7 = view c.let_go-2.new.pass.seat in
    let r = c.value-taken.ensures.read in let m = view r.middle in
    up_on v0.known v3.known v7.known up3 (up_on v3.known v4.known v7.known c.hold_next.ensures.up
    (up_on v4.known v5.known v7.known c.remove_dummy.ensures.up (up_on v5.known v6.known v7.known
    (up_on v5.known m.known v6.known (up_made v5 m r.first.made refl) (up_made m v6 r.second.made refl)) c.let_go-2.ensures.up)))

pub returns-then-not-stand_at-clause-alone : goal.returns-then-not-stand_at-clause-alone
returns-then-not-stand_at-clause-alone c = λ one up is.
    absurd (false≢true (sym c.if-not-stand_at.true ∙ c.stand_at.ensures.alone one is))

pub returns-then-invalid-clause-alone : goal.returns-then-invalid-clause-alone
returns-then-invalid-clause-alone c = λ one up is. let z = c.args.pool.now.layout in let p1 = c.stand_at.new.pass in
    let p2 = c.see-last.new.pass in let p3 = c.try_next-link.new.pass in
    let v1 = view p1.seat in let v2 = view p2.seat in let v3 = view p3.seat in
    let few : v1.known.sizes ≡ z = c.stand_at.ensures.same.sizes ∙ c.requires.fits.sizes in
    let st = c.stand_at.ensures.stands c.if-not-stand_at.false in
    let going : v1.known.own.going ≡ true = c.stand_at.ensures.on.rest.going ∙ c.requires.going in
    let seen1 = seen_of p1.seat p1.keeping.lone p1.run in let seen2 = seen_of p2.seat p2.keeping.lone p2.run in
    let seen3 = seen_of p3.seat p3.keeping.lone p3.run in
    absurd (take_valid z one c.requires.two v1 v2 v3 c.args.first c.see-last.result c.try_next-link.result few
    p1.keeping.pass.pass seen1 seen2 seen3 st going c.see-last.ensures.saw c.try_next-link.ensures.tried c.if-empty.false c.if-invalid.true)

pub returns-then-not-hold_next-clause-alone : goal.returns-then-not-hold_next-clause-alone
returns-then-not-hold_next-clause-alone c = λ one up is. let z = c.args.pool.now.layout in let p1 = c.stand_at.new.pass in
    let p2 = c.see-last.new.pass in let p3 = c.try_next-link.new.pass in
    let v1 = view p1.seat in let v2 = view p2.seat in let v3 = view p3.seat in
    let few : v1.known.sizes ≡ z = c.stand_at.ensures.same.sizes ∙ c.requires.fits.sizes in
    let st = c.stand_at.ensures.stands c.if-not-stand_at.false in
    let going : v1.known.own.going ≡ true = c.stand_at.ensures.on.rest.going ∙ c.requires.going in
    let seen1 = seen_of p1.seat p1.keeping.lone p1.run in let seen2 = seen_of p2.seat p2.keeping.lone p2.run in
    let seen3 = seen_of p3.seat p3.keeping.lone p3.run in
    absurd (false≢true (sym c.if-not-hold_next.true ∙ c.hold_next.ensures.alone one (take_link z one c.requires.two v1 v2 v3 c.args.first
    c.see-last.result c.try_next-link.result few
    p1.keeping.pass.pass seen1 seen2 seen3 st going c.see-last.ensures.saw c.try_next-link.ensures.tried c.if-empty.false)))

pub returns-then-last-first-clause-alone : goal.returns-then-last-first-clause-alone
returns-then-last-first-clause-alone c = λ one up is. let z = c.args.pool.now.layout in let p1 = c.stand_at.new.pass in
    let p2 = c.see-last.new.pass in let p3 = c.try_next-link.new.pass in
    let v1 = view p1.seat in let v2 = view p2.seat in let v3 = view p3.seat in
    let few : v1.known.sizes ≡ z = c.stand_at.ensures.same.sizes ∙ c.requires.fits.sizes in
    let st = c.stand_at.ensures.stands c.if-not-stand_at.false in
    let going : v1.known.own.going ≡ true = c.stand_at.ensures.on.rest.going ∙ c.requires.going in
    let seen1 = seen_of p1.seat p1.keeping.lone p1.run in let seen2 = seen_of p2.seat p2.keeping.lone p2.run in
    let seen3 = seen_of p3.seat p3.keeping.lone p3.run in
    absurd (take_past z one c.requires.two v1 v2 v3 c.args.first c.see-last.result c.try_next-link.result few
    p1.keeping.pass.pass seen1 seen2 seen3 st going c.see-last.ensures.saw c.try_next-link.ensures.tried c.if-empty.false
    (c.stand_at.ensures.up up) c.requires.first c.if-last-first.true)

pub returns-then-not-remove_dummy-clause-alone : goal.returns-then-not-remove_dummy-clause-alone
returns-then-not-remove_dummy-clause-alone c = λ one up is.
    let v0 = view c.args.pass.now.seat in let v1 = view c.stand_at.new.pass.seat in
    let v2 = view c.see-last.new.pass.seat in let v3 = view c.try_next-link.new.pass.seat in
    let seen : GoesOn v0 v2 = goes_on v0 v1 v2 c.stand_at.ensures.on (goes_saw _ _ v1 v2 c.see-last.ensures.saw) in
    let tried : GoesOn v0 v3 = goes_on v0 v2 v3 seen (goes_tried _ _ v2 v3 c.if-empty.false c.try_next-link.ensures.tried) in
    let held : GoesOn v0 (view c.hold_next.new.pass.seat) = goes_on v0 v3 (view c.hold_next.new.pass.seat) tried c.hold_next.ensures.on in
    absurd (false≢true (sym c.if-not-remove_dummy.true ∙ c.remove_dummy.ensures.alone one (held.rest.going ∙ c.requires.going)))
