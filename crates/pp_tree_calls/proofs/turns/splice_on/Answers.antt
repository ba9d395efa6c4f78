use Rattle.std.proofs.Common.{refl}
use Rattle.pp_model.specs.declared.Answer.TheVariants.{Said}
use Rattle.pp_model.specs.declared.Reply.TheVariants.{Took}
use Rattle.pp_base.specs.Passes.{view}
use Rattle.pp_calls.proofs.Purses.{same_share}
use Rattle.pp_shelf.specs.Runs.{steps_made}
use Rattle.pp_tree_calls.specs.Answers.{MayEnd}
use Rattle.pp_tree_calls.specs.Turned.{HasMissed}
use Rattle.pp_tree_calls.proofs.Lasting.{missed_shared}
use Rattle.pp_tree_calls.proofs.Arriving.{ends_as}
use Rattle.pp_tree_calls.proofs.Treading.{turned_same}
use Rattle.pp_tree_calls.proofs.Exchanged.{some_in, splice_missed}
use Rattle.pp_tree_calls.proofs.Exchanged.{splice_lost, splice_may, end_part}
use Rattle.std.proofs.Common.{sym, ◌∙◌, ap, subst, true≢false}
use Rattle.pp_tree_calls.specs.declared.going.Next.{Next}
use Rattle.pp_tree_calls.specs.Lone.{LoneNext}
use Rattle.pp_tree_calls.proofs.Alone.{over_turn}
use Rattle.pp_tree_calls.proofs.turns.splice_on.Goals as goal

pub returns-then-not-splice_turn-clause-turned : goal.returns-then-not-splice_turn-clause-turned
returns-then-not-splice_turn-clause-turned c = let z = c.args.pool.now.layout in let old = c.args.pass.now in
    let mid = c.splice_turn.new.pass in let g = c.args.going.now in
    let l = c.lose_again in let new = l.new.pass in
    turned_same z old.share g l.new.going (view old.seat) (view mid.seat) (view new.seat) old.purse new.purse l.result
    (HasMissed z old.share g (view mid.seat) mid.purse) c.if-not-splice_turn.ensures.spliced.names.stepped
    (some_in c.if-not-splice_turn.ensures.spliced.flush _ _ (steps_made (view old.seat) (view mid.seat))
    c.if-not-splice_turn.ensures.spliced.names.named) c.if-not-splice_turn.ensures.spliced.names.stands
    (splice_missed z old.share g c.args.sought (view old.seat) (view mid.seat) old.purse c.args.side c.args.sibling c.requires.at
    c.if-not-splice_turn.ensures.spliced mid.purse c.splice_turn.ensures.purse.free c.splice_turn.ensures.purse.taken
    c.splice_turn.ensures.same.sizes)
    (missed_shared z old.share mid.share g l.new.going (view mid.seat) (view new.seat) mid.purse new.purse l.result
    (same_share 5 2 old.seat mid.seat _ _ _ _ _ _ _ _ old.keeping mid.keeping c.splice_turn.ensures.same) l.ensures.part)

pub returns-then-going-clause-turned : goal.returns-then-going-clause-turned
returns-then-going-clause-turned c = let z = c.args.pool.now.layout in let old = c.args.pass.now in
    let mid = c.splice_turn.new.pass in let g = c.args.going.now in
    let l = c.end in let new = l.new.pass in let e = c.if-not-splice_turn.ensures.spliced in
    turned_same z old.share g l.new.going (view old.seat) (view mid.seat) (view new.seat) old.purse new.purse l.result
    (λ from free. MayEnd z old.share g.races g.call g.records (Said (Took g.taken)) g.lost from (view mid.seat) free mid.purse)
    e.names.stepped
    (some_in e.flush _ _ (steps_made (view old.seat) (view mid.seat)) e.names.named) e.names.stands
    (splice_may z old.share g c.args.sought (view old.seat) (view mid.seat) old.purse mid.purse c.args.side c.args.sibling c.requires.at
    c.if-going.true e c.splice_turn.ensures.purse.free c.splice_turn.ensures.same.sizes)
    (end_part z old.share g l.new.going (Said (Took g.taken)) (view mid.seat)
    (view new.seat) mid.purse new.purse l.result l.ensures.over l.ensures.done
    c.if-going.true
    (ends_as z old.share mid.share g.races g.call g.records (Said (Took g.taken)) (view mid.seat)
    (view new.seat) mid.purse mid.purse new.purse
    (same_share 5 2 old.seat mid.seat _ _ _ _ _ _ _ _ old.keeping mid.keeping c.splice_turn.ensures.same) refl l.ensures.ended))

pub returns-clause-turned : goal.returns-clause-turned
returns-clause-turned c = let z = c.args.pool.now.layout in let old = c.args.pass.now in let mid = c.splice_turn.new.pass in
    let g = c.args.going.now in
    let l = c.lose_again-2 in let new = l.new.pass in
    turned_same z old.share g l.new.going (view old.seat) (view mid.seat) (view new.seat) old.purse new.purse l.result
    (HasMissed z old.share g (view mid.seat) mid.purse) c.if-not-splice_turn.ensures.spliced.names.stepped
    (some_in c.if-not-splice_turn.ensures.spliced.flush _ _ (steps_made (view old.seat) (view mid.seat))
    c.if-not-splice_turn.ensures.spliced.names.named) c.if-not-splice_turn.ensures.spliced.names.stands
    (splice_lost z old.share g c.args.sought (view old.seat) (view mid.seat) old.purse c.args.side c.args.sibling c.requires.at
    c.if-going.false c.if-not-splice_turn.ensures.spliced mid.purse c.splice_turn.ensures.purse.free
    c.splice_turn.ensures.purse.taken c.splice_turn.ensures.same.sizes)
    (missed_shared z old.share mid.share g l.new.going (view mid.seat) (view new.seat) mid.purse new.purse l.result
    (same_share 5 2 old.seat mid.seat _ _ _ _ _ _ _ _ old.keeping mid.keeping c.splice_turn.ensures.same) l.ensures.part)

pub returns-then-not-splice_turn-clause-alone : goal.returns-then-not-splice_turn-clause-alone
returns-then-not-splice_turn-clause-alone c = λ lone. let z = c.args.pool.now.layout in let g = c.args.going.now in
    let l = subst (λ (n : Next). LoneNext z g.struck n (view c.args.pass.now.seat)) c.requires.at lone in
    absurd (true≢false (sym (c.splice_turn.ensures.alone l.1).0 ∙ c.if-not-splice_turn.true))

pub returns-then-going-clause-alone : goal.returns-then-going-clause-alone
returns-then-going-clause-alone c = λ lone. let z = c.args.pool.now.layout in let g = c.args.going.now in let e = c.end in
    let l = subst (λ (n : Next). LoneNext z g.struck n (view c.args.pass.now.seat)) c.requires.at lone in
    over_turn z g e.new.going (view e.new.pass.seat) _ e.result (ap (λ x. x.lost) e.ensures.over) e.ensures.done
    (e.ensures.alone l.1.one (c.splice_turn.ensures.alone l.1).1)

pub returns-clause-alone : goal.returns-clause-alone
returns-clause-alone c = λ lone. let z = c.args.pool.now.layout in let g = c.args.going.now in
    let l = subst (λ (n : Next). LoneNext z g.struck n (view c.args.pass.now.seat)) c.requires.at lone in
    absurd (true≢false (sym l.0 ∙ c.if-going.false))
