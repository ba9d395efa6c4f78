use Rattle.std.proofs.Common.{ap, arith}
use Rattle.pp_base.specs.Passes.{view}
use Rattle.pp_tree_calls.proofs.Losing.{lost_goes, lost_ends, lost_took}
use Rattle.pp_tree_calls.proofs.parts.lose.Goals as goal

pub returns-then-going-2-clause-part : goal.returns-then-going-2-clause-part
returns-then-going-2-clause-part c = let g = c.args.going.now in let old = c.args.pass.now in let new = c.end.new.pass in
    let over = c.end.ensures.over in
    lost_took c.args.pool.now.layout old.share g c.args.seek (view old.seat) old.purse c.end.new.going (view new.seat) new.purse
    c.end.result record { call = ap (λ x. x.call) over; races = ap (λ x. x.races) over; struck = ap (λ x. x.struck) over }
    (ap (λ x. x.lost) over) (ap (λ x. x.next) over)
    c.if-going-2.true c.if-going.true c.end.ensures.done c.end.ensures.ended

pub returns-then-going-clause-part : goal.returns-then-going-clause-part
returns-then-going-clause-part c = let g = c.args.going.now in let old = c.args.pass.now in let new = c.end-then-going.new.pass in
    let over = c.end-then-going.ensures.over in
    lost_ends c.args.pool.now.layout old.share g c.args.seek (view old.seat) old.purse c.end-then-going.new.going (view new.seat) new.purse
    c.end-then-going.result record {
      call = ap (λ x. x.call) over;
      races = ap (λ x. x.races) over;
      struck = ap
          (λ x. x.struck) over;
    } (ap (λ x. x.lost) over) (ap (λ x. x.next) over)
    c.if-going-2.false c.if-going.true c.end-then-going.ensures.done c.end-then-going.ensures.ended

pub returns-clause-part : goal.returns-clause-part
returns-clause-part c = let g = c.args.going.now in let old = c.args.pass.now in
    lost_goes c.args.pool.now.layout old.share g c.args.seek (view old.seat) old.purse c.requires.pair c.requires.unstruck
    (let b = c.requires.below in let ne = c.if-going.false in omega arith) c.requires.rest c.requires.goes
    c.requires.seek.0 c.requires.seek.1.0 c.requires.seek.1.1 c.requires.high
