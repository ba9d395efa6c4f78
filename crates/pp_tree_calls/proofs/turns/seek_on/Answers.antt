use Rattle.std.proofs.Common.{refl, ap, ◌∙◌, subst}
use Rattle.pp_model.specs.Calls.{key_of}
use Rattle.pp_base.specs.Passes.{view}
use Rattle.pp_calls.proofs.Purses.{same_share}
use Rattle.pp_tree_calls.specs.declared.going.Next.{Next}
use Rattle.pp_tree_calls.specs.Going.{Stands, kind_of}
use Rattle.pp_tree_calls.specs.Turned.{HasLost, HasArrived}
use Rattle.pp_tree_calls.proofs.Lasting.{lost_shared}
use Rattle.pp_tree_calls.proofs.Arriving.{part_as}
use Rattle.pp_tree_turns.proofs.Seeks.{trail_names}
use Rattle.pp_tree_calls.proofs.Treading.{turned_same, rest_on}
use Rattle.pp_tree_calls.proofs.Seeking.{seek_turned, seek_lost, lost_turn}
use Rattle.pp_tree_calls.proofs.Landing.{at_record, has_ended, has_arrived, landed_stepped, landed_stands, landed_some}
use Rattle.pp_tree_calls.specs.Lone.{LoneNext}
use Rattle.pp_tree_calls.proofs.turns.seek_on.Goals as goal

pub lose-requires-clause-rest : goal.lose-requires-clause-rest
lose-requires-clause-rest c = let z = c.args.pool.now.layout in let old = c.args.pass.now in let mid = c.turn.new.pass in
    let g = c.args.going.now in
    rest_on z old.share g (view old.seat) (view mid.seat) old.purse mid.purse c.turn.ensures.purse
    (lost_turn z old.share g (view old.seat) (view mid.seat) old.purse mid.purse c.turn.ensures.purse c.args.seek c.turn.new.self
    c.in-Lost.ensures.turned.1).trail
    c.requires.under.1.1.rest

pub lose-requires-clause-seek : goal.lose-requires-clause-seek
lose-requires-clause-seek c = let u = c.requires.under.1.1 in
    let k = subst (λ (n : Next). Stands c.args.pool.now.layout c.args.going.now n c.requires.under.0 (view c.args.pass.now.seat))
    c.requires.at u.stands in
    (c.turn.ensures.call ∙ k.0, (c.in-Lost.ensures.turned.0, c.turn.ensures.begun))

pub arrive-requires-clause-ready : goal.arrive-requires-clause-ready
arrive-requires-clause-ready c = let z = c.args.pool.now.layout in let old = c.args.pass.now in let mid = c.turn.new.pass in
    let g = c.args.going.now in
    let u = c.requires.under.1.1 in let s = c.args.seek in let t = c.in-At.ensures.turned in
    let k = subst (λ (n : Next). Stands z g n c.requires.under.0 (view old.seat)) c.requires.at u.stands in
    let b = at_record z g s.fresh s.call s.spot t.1.0 c.requires.under.0 (view old.seat) t.1.1 k.1.0 k.1.2 in
    has_ended z old.share g (key_of s.call) c.in-At.sought (view old.seat) (view mid.seat) old.purse mid.purse c.turn.ensures.purse t.0 b.1
    (ap key_of k.0) c.requires.under.0 c.requires.under.1.0 u (ap kind_of c.requires.at)

pub returns-in-On-clause-turned : goal.returns-in-On-clause-turned
returns-in-On-clause-turned c = let z = c.args.pool.now.layout in let old = c.args.pass.now in let mid = c.turn.new.pass in
    let g = c.args.going.now in
    let u = c.requires.under.1.1 in let t = c.in-On.ensures.turned in
    let k = subst (λ (n : Next). Stands z g n c.requires.under.0 (view old.seat)) c.requires.at u.stands in
    seek_turned z old.share g (view old.seat) (view mid.seat) old.purse mid.purse c.turn.ensures.purse c.args.seek c.turn.new.self k.1.0 t.0
    c.turn.ensures.call t.1 c.requires.at k.0 u.pair k.1.1

pub returns-in-Lost-clause-turned : goal.returns-in-Lost-clause-turned
returns-in-Lost-clause-turned c = let z = c.args.pool.now.layout in let old = c.args.pass.now in let mid = c.turn.new.pass in
    let g = c.args.going.now in
    let new = c.lose.new.pass in let u = c.requires.under.1.1 in let t = c.in-Lost.ensures.turned in
    let k = subst (λ (n : Next). Stands z g n c.requires.under.0 (view old.seat)) c.requires.at u.stands in
    let l = lost_turn z old.share g (view old.seat) (view mid.seat) old.purse mid.purse c.turn.ensures.purse c.args.seek
    c.turn.new.self t.1 in
    let names = trail_names (view old.seat) (view mid.seat) l.trail in
    turned_same z old.share g c.lose.new.going (view old.seat) (view mid.seat) (view new.seat) old.purse new.purse c.lose.result
    (HasLost z old.share g c.turn.new.self (view mid.seat) mid.purse) names.stepped l.some_made names.stands
    (seek_lost z old.share g (view old.seat) (view mid.seat) old.purse mid.purse c.turn.ensures.purse c.args.seek
    c.turn.new.self k.1.0 t.1 c.requires.at)
    (lost_shared z old.share mid.share g c.lose.new.going c.turn.new.self (view mid.seat) (view new.seat) mid.purse new.purse c.lose.result
    (same_share 5 2 old.seat mid.seat _ _ _ _ _ _ _ _ old.keeping mid.keeping c.turn.ensures.same) c.lose.ensures.part)

pub returns-in-At-clause-turned : goal.returns-in-At-clause-turned
returns-in-At-clause-turned c = let z = c.args.pool.now.layout in let old = c.args.pass.now in let mid = c.turn.new.pass in
    let g = c.args.going.now in
    let new = c.arrive.new.pass in let s = c.args.seek in let t = c.in-At.ensures.turned in let e = t.0 in
    turned_same z old.share g c.arrive.new.going (view old.seat) (view mid.seat) (view new.seat) old.purse new.purse c.arrive.result
    (HasArrived z old.share g c.in-At.sought (view mid.seat) mid.purse)
    (landed_stepped z old.share g (key_of s.call) c.in-At.sought (view old.seat) (view mid.seat) old.purse mid.purse c.turn.ensures.purse e)
    (landed_some z old.share g (key_of s.call) c.in-At.sought (view old.seat) (view mid.seat) old.purse mid.purse c.turn.ensures.purse e)
    (landed_stands z old.share g (key_of s.call) c.in-At.sought (view old.seat) (view mid.seat) old.purse mid.purse c.turn.ensures.purse e)
    (λ from free u. let k = subst (λ (n : Next). Stands z g n from (view old.seat)) c.requires.at u.stands in
    let b = at_record z g s.fresh s.call s.spot t.1.0 from (view old.seat) t.1.1 k.1.0 k.1.2 in
    has_arrived z old.share g (key_of s.call) c.in-At.sought (view old.seat) (view mid.seat) old.purse mid.purse c.turn.ensures.purse e b.1
    from free u b.0)
    (part_as z old.share mid.share g c.arrive.new.going c.in-At.sought (view mid.seat)
    (view new.seat) mid.purse mid.purse new.purse c.arrive.result
    (same_share 5 2 old.seat mid.seat _ _ _ _ _ _ _ _ old.keeping mid.keeping c.turn.ensures.same) refl c.arrive.ensures.part)

pub returns-in-On-clause-alone : goal.returns-in-On-clause-alone
returns-in-On-clause-alone c = λ lone. let z = c.args.pool.now.layout in let g = c.args.going.now in
    let l = subst (λ (n : Next). LoneNext z g.struck n (view c.args.pass.now.seat)) c.requires.at lone in
    record { lost = refl; on = (l.0, c.in-On.ensures.alone l.1); done = tt }

pub returns-in-Lost-clause-alone : goal.returns-in-Lost-clause-alone
returns-in-Lost-clause-alone c = λ lone. let z = c.args.pool.now.layout in let g = c.args.going.now in
    let l = subst (λ (n : Next). LoneNext z g.struck n (view c.args.pass.now.seat)) c.requires.at lone in
    absurd (c.in-Lost.ensures.alone l.1)

pub returns-in-At-clause-alone : goal.returns-in-At-clause-alone
returns-in-At-clause-alone c = λ lone. let z = c.args.pool.now.layout in let g = c.args.going.now in
    let l = subst (λ (n : Next). LoneNext z g.struck n (view c.args.pass.now.seat)) c.requires.at lone in
    c.arrive.ensures.alone l.0 (c.in-At.ensures.alone l.1)
