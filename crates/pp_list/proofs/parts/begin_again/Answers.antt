use Rattle.std.proofs.Common.{ap}
use Rattle.pp_base.specs.Passes.{known, view}
use Rattle.pp_calls.proofs.Purses.{same_share}
use Rattle.pp_list.specs.Turned.{HasLost}
use Rattle.pp_list.proofs.Again.{part_before, lost_later}
use Rattle.pp_list.proofs.Calm.{calm_quiet}
use Rattle.pp_list.proofs.Resting.{rest_kept}
use Rattle.pp_list.proofs.Treading.{lost_as}
use Rattle.pp_list.proofs.parts.begin_again.Goals as goal

pub lose-requires-clause-rest : goal.lose-requires-clause-rest
lose-requires-clause-rest c = let old = c.args.pass.now in let mid = c.rest.new.pass in
    rest_kept (known old.seat) (known mid.seat) old.purse mid.purse c.rest.ensures.rest (ap (λ p. p.spent) c.rest.ensures.purse)
    c.requires.rest

pub returns-clause-part : goal.returns-clause-part
returns-clause-part c = let z = c.args.pool.now.layout in let g = c.args.going.now in let old = c.args.pass.now in
    let mid = c.rest.new.pass in let new = c.lose.new.pass in let v = view old.seat in let u = view mid.seat in let w = view new.seat in
    let calm = calm_quiet z g.call v u c.rest.ensures.idles in
    part_before z old.share (HasLost z old.share g v old.purse) (HasLost z old.share g u old.purse) g c.lose.new.going v u w new.purse
    c.lose.result calm.stepped calm.stands calm.unplaced
    (lost_later z old.share g v u old.purse c.rest.ensures.idles c.rest.ensures.rest c.rest.ensures.call.start)
    (lost_as z old.share mid.share g c.lose.new.going u w old.purse mid.purse new.purse c.lose.result
    (same_share 0 1 old.seat mid.seat _ _ _ _ _ _ _ _ old.keeping mid.keeping c.rest.ensures.same) c.rest.ensures.purse c.lose.ensures.part)
