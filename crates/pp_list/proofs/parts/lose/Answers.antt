use Rattle.std.proofs.Common.{ap, ◌∙◌, arith}
use Rattle.pp_base.specs.Passes.{view}
use Rattle.pp_list.proofs.Losing.{lost_goes, lost_ends}
use Rattle.pp_list.proofs.parts.lose.Goals as goal

pub returns-then-going-clause-part : goal.returns-then-going-clause-part
returns-then-going-clause-part c = let g = c.args.going.now in let old = c.args.pass.now in let new = c.end.new.pass in
    let over = c.end.ensures.over in
    lost_ends c.args.pool.now.layout old.share g (view old.seat) old.purse c.requires.unstruck c.end.new.going (view new.seat) new.purse
    c.end.result record { head = ap (λ x. x.head) over; call = ap (λ x. x.call) over; races = ap (λ x. x.races) over }
    (ap (λ x. x.lost) over) (ap (λ x. x.struck) over ∙ c.requires.unstruck) c.if-going.true c.end.ensures.done c.end.ensures.ended

pub returns-clause-part : goal.returns-clause-part
returns-clause-part c = let g = c.args.going.now in let old = c.args.pass.now in
    lost_goes c.args.pool.now.layout old.share g (view old.seat) old.purse c.requires.unstruck c.args.walk c.requires.home.0
    c.requires.home.1 (let b = c.requires.below in omega arith) c.requires.rest c.requires.walk.0 c.requires.walk.1 c.requires.walk.2
