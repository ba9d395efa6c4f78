use Rattle.std.proofs.Common.{refl, arith}
use Rattle.pp_rule.proofs.Made.{known_after}
use Rattle.pp_queues.proofs.Counting.{ran_both}
use Rattle.pp_queue.proofs.Running.{ran_idle}
use Rattle.pp_base.specs.Passes.{known, view}
use Rattle.pp_queue.proofs.Going.{cleared_empty, rest_cleared, goes_made, goes_on}
use Rattle.pp_queue.proofs.calling.let_go.Goals as goal
use Rattle.pp_queue.proofs.Finding.{up_made, up_on}

pub returns-clause-on : goal.returns-clause-on
returns-clause-on c = let v = view c.args.pass.now.seat in let a = view c.clear.new.pass.seat in
    let w = view c.clear-2.new.pass.seat in
    goes_on v a w (goes_made v a c.clear.ensures.made (rest_cleared v.known 0))
    (goes_made a w c.clear-2.ensures.made (rest_cleared a.known 1))

pub returns-clause-steps : goal.returns-clause-steps
returns-clause-steps c = λ t. let passes = c.args.pool.now.layout.passes in
    let v = view c.args.pass.now.seat in let a = view c.clear.new.pass.seat in let w = view c.clear-2.new.pass.seat in
    ran_both passes t t t v a w (ran_idle passes v a t c.clear.ensures.made refl refl)
    (ran_idle passes a w t c.clear-2.ensures.made refl refl)

pub returns-clause-empty : goal.returns-clause-empty
returns-clause-empty c = let q = known c.args.pass.now.seat in let q1 = known c.clear.new.pass.seat in
    let q2 = known c.clear-2.new.pass.seat in
    let is1 = known_after _ _ _ _ _ _ _ (view c.args.pass.now.seat) (view c.clear.new.pass.seat) c.clear.ensures.made in
    let is2 = known_after _ _ _ _ _ _ _ (view c.clear.new.pass.seat) (view c.clear-2.new.pass.seat) c.clear-2.ensures.made in
    λ j lo lt. cleared_empty q1 q2 1 j c.clear.new.pass.keeping.pass.five is2 lt
    (λ n1. cleared_empty q q1 0 j c.args.pass.now.keeping.pass.five is1 lt (λ n0. c.requires.others j (omega arith) lt))

pub returns-clause-up : goal.returns-clause-up
returns-clause-up c = let v = view c.args.pass.now.seat in let a = view c.clear.new.pass.seat in
    let w = view c.clear-2.new.pass.seat in
    up_on v.known a.known w.known (up_made v a c.clear.ensures.made refl) (up_made a w c.clear-2.ensures.made refl)
