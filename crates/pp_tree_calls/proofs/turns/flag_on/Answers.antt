use Rattle.std.proofs.Common.{subst}
use Rattle.pp_model.specs.declared.Call.{Call}
use Rattle.pp_base.specs.Passes.{view}
use Rattle.pp_calls.proofs.Purses.{same_share}
use Rattle.pp_shelf.specs.Runs.{steps_made}
use Rattle.pp_tree_turns.specs.Exchanging.{FlagsLeaf}
use Rattle.pp_tree_calls.specs.declared.going.Next.{Next}
use Rattle.pp_tree_calls.specs.Going.{Stands}
use Rattle.pp_tree_calls.specs.Turned.{HasMissed}
use Rattle.pp_tree_calls.proofs.Lasting.{missed_shared}
use Rattle.pp_tree_calls.proofs.Treading.{some_named, turned_same}
use Rattle.pp_tree_calls.proofs.Exchanged.{flag_missed, flag_turned}
use Rattle.std.proofs.Common.{refl}
use Rattle.pp_tree_calls.specs.Lone.{LoneNext}
use Rattle.pp_tree_calls.proofs.turns.flag_on.Goals as goal

pub returns-in-Some-clause-turned : goal.returns-in-Some-clause-turned
returns-in-Some-clause-turned c = let z = c.args.pool.now.layout in let old = c.args.pass.now in let mid = c.flag_turn.new.pass in
    let g = c.args.going.now in
    let k = subst (λ (n : Next). Stands z g n c.requires.under.0 (view old.seat)) c.requires.at c.requires.under.1.1.stands in
    flag_turned z old.share g c.args.sought (view old.seat) (view mid.seat) old.purse c.in-Some.value c.other.result
    c.other.ensures mid.purse
    c.flag_turn.ensures.purse c.requires.at (subst (λ (x : Call). FlagsLeaf z x c.args.sought c.in-Some.value (view old.seat)
    (view mid.seat))
    k.1.0.call c.in-Some.ensures.flagged)

pub returns-in-None-clause-turned : goal.returns-in-None-clause-turned
returns-in-None-clause-turned c = let z = c.args.pool.now.layout in let old = c.args.pass.now in let mid = c.flag_turn.new.pass in
    let g = c.args.going.now in
    let l = c.lose_again in let new = l.new.pass in
    turned_same z old.share g l.new.going (view old.seat) (view mid.seat) (view new.seat) old.purse new.purse l.result
    (HasMissed z old.share g (view mid.seat) mid.purse) c.in-None.ensures.flagged.names.stepped
    (some_named _ _ (steps_made (view old.seat) (view mid.seat)) c.in-None.ensures.flagged.names.named)
    c.in-None.ensures.flagged.names.stands
    (flag_missed z old.share g c.args.sought (view old.seat) (view mid.seat) old.purse c.requires.at
    c.in-None.ensures.flagged mid.purse c.flag_turn.ensures.purse)
    (missed_shared z old.share mid.share g l.new.going (view mid.seat) (view new.seat) mid.purse new.purse l.result
    (same_share 5 2 old.seat mid.seat _ _ _ _ _ _ _ _ old.keeping mid.keeping c.flag_turn.ensures.same) l.ensures.part)

pub returns-in-Some-clause-alone : goal.returns-in-Some-clause-alone
returns-in-Some-clause-alone c = λ lone. let z = c.args.pool.now.layout in let g = c.args.going.now in
    let l = subst (λ (n : Next). LoneNext z g.struck n (view c.args.pass.now.seat)) c.requires.at lone in
    record { lost = refl; on = (refl, (c.in-Some.ensures.alone l).1 c.other.result c.other.ensures); done = tt }

pub returns-in-None-clause-alone : goal.returns-in-None-clause-alone
returns-in-None-clause-alone c = λ lone. let z = c.args.pool.now.layout in let g = c.args.going.now in
    let l = subst (λ (n : Next). LoneNext z g.struck n (view c.args.pass.now.seat)) c.requires.at lone in
    absurd ((c.in-None.ensures.alone l).0 refl)
