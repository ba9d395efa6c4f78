use Rattle.std.proofs.Common.{◌<◌, arith, refl, sym, ap, subst}
use Rattle.pp_base.specs.Passes.{known, view}
use Rattle.pp_calls.proofs.Purses.{same_share}
use Rattle.pp_shelf.specs.Runs.{steps_made}
use Rattle.pp_tree_calls.specs.declared.going.Next.{Next}
use Rattle.pp_tree_calls.specs.declared.going.Next.TheVariants.{Splices}
use Rattle.pp_tree_calls.specs.Going.{kind_of}
use Rattle.pp_tree_calls.specs.Turned.{HasMissed}
use Rattle.pp_tree_calls.proofs.Lasting.{missed_shared}
use Rattle.pp_tree_calls.proofs.Resting.{rest_kept}
use Rattle.pp_tree_calls.proofs.Treading.{some_named, turned_same}
use Rattle.pp_tree_calls.proofs.Exchanged.{tag_missed, tag_goes, comes_to}
use Rattle.std.proofs.Common.{◌≡◌, Some}
use Rattle.pp_link.specs.declared.link.Link.{Link}
use Rattle.pp_tree_turns.specs.Lone.{LoneTagged}
use Rattle.pp_tree_calls.specs.Lone.{LoneNext}
use Rattle.pp_tree_calls.proofs.turns.tag_on.Goals as goal

pub lose_again-requires-clause-rest : goal.lose_again-requires-clause-rest
lose_again-requires-clause-rest c = let old = c.args.pass.now in let mid = c.tag_turn.new.pass in
    rest_kept (known old.seat) (known mid.seat) old.purse mid.purse c.in-None.ensures.tagged.1.0.rest
    (ap (λ p. p.spent) c.tag_turn.ensures.purse)
    c.requires.under.1.1.rest

pub returns-in-Some-clause-turned : goal.returns-in-Some-clause-turned
returns-in-Some-clause-turned c = let z = c.args.pool.now.layout in let old = c.args.pass.now in let mid = c.tag_turn.new.pass in
    let g = c.args.going.now in let t = c.in-Some.ensures.tagged in let e = t.0 in let sibling = c.in-Some.sibling in
    comes_to z old.share g (view old.seat) (view mid.seat) old.purse mid.purse (Splices c.args.sought c.args.side sibling)
    (subst (λ (n : Next). kind_of n < 3) (sym c.requires.at) (omega arith)) refl e.names.stepped
    (some_named _ _ (steps_made (view old.seat) (view mid.seat)) e.names.named) e.names.stands
    (tag_goes z old.share g c.args.sought (view old.seat) (view mid.seat) old.purse c.args.side sibling c.requires.at e t.1 t.2 mid.purse
    c.tag_turn.ensures.purse (rest_kept (known old.seat) (known mid.seat) old.purse mid.purse e.rest
    (ap (λ p. p.spent) c.tag_turn.ensures.purse)
    c.requires.under.1.1.rest))

pub returns-in-None-clause-turned : goal.returns-in-None-clause-turned
returns-in-None-clause-turned c = let z = c.args.pool.now.layout in let old = c.args.pass.now in let mid = c.tag_turn.new.pass in
    let g = c.args.going.now in
    let l = c.lose_again in let new = l.new.pass in
    turned_same z old.share g l.new.going (view old.seat) (view mid.seat) (view new.seat) old.purse new.purse l.result
    (HasMissed z old.share g (view mid.seat) mid.purse) c.in-None.ensures.tagged.1.0.names.stepped
    (some_named _ _ (steps_made (view old.seat) (view mid.seat)) c.in-None.ensures.tagged.1.0.names.named)
    c.in-None.ensures.tagged.1.0.names.stands
    (tag_missed z old.share g c.args.sought (view old.seat) (view mid.seat) old.purse c.args.side c.requires.at
    c.in-None.ensures.tagged.0 c.in-None.ensures.tagged.1.0 c.in-None.ensures.tagged.1.1 mid.purse c.tag_turn.ensures.purse)
    (missed_shared z old.share mid.share g l.new.going (view mid.seat) (view new.seat) mid.purse new.purse l.result
    (same_share 5 2 old.seat mid.seat _ _ _ _ _ _ _ _ old.keeping mid.keeping c.tag_turn.ensures.same) l.ensures.part)

pub returns-in-Some-clause-alone : goal.returns-in-Some-clause-alone
returns-in-Some-clause-alone c = λ lone. let z = c.args.pool.now.layout in let g = c.args.going.now in
    let mid = c.tag_turn.new.pass in let sought = c.args.sought in let side = c.args.side in
    let l = subst (λ (n : Next). LoneNext z g.struck n (view c.args.pass.now.seat)) c.requires.at lone in
    let t = c.in-Some.ensures.alone l.1 in let same : c.in-Some.sibling ≡ t.0 = some_same c.in-Some.sibling t.0 t.1.0 in
    record { lost = refl; on = (l.0, subst (λ (x : Link). LoneTagged z sought side x (view mid.seat)) (sym same) t.1.1); done = tt }
  where
    some_same : (a b : Link) → Some a ≡ Some b → a ≡ b
    some_same a b e = let x : a ≡ b = cc in x

pub returns-in-None-clause-alone : goal.returns-in-None-clause-alone
returns-in-None-clause-alone c = λ lone. let z = c.args.pool.now.layout in let g = c.args.going.now in
    let l = subst (λ (n : Next). LoneNext z g.struck n (view c.args.pass.now.seat)) c.requires.at lone in
    absurd (let e = (c.in-None.ensures.alone l.1).1.0 in cc)
