use Rattle.std.proofs.Common.{eqb, sym, ◌∙◌, arith, rules, tests}
use Rattle.std.proofs.lemmas.Iterator.{YieldsList-from_slice}
use Rattle.std.proofs.lemmas.Iterator.Search.{any_from_yields_List}
use Rattle.pp_base.specs.declared.purse.InHand.{InHand}
use Rattle.pp_unlink.proofs.Pigeons.{as_many, guards_none, guards_one}
use Rattle.pp_unlink.proofs.unlinking.free_word.Goals as goal

pub overflow_add-word : goal.overflow_add-word
overflow_add-word c = let few = as_many c.loop-word.word c.args.chains.now c.loop-word.invariant in omega (arith, few, c.requires)

pub loop-word-smaller : goal.loop-word-smaller
loop-word-smaller c = let few = as_many c.loop-word.word c.args.chains.now c.loop-word.invariant in omega (arith, few, c.requires)

pub returns-clause-low : goal.returns-clause-low
returns-clause-low c = let few = as_many c.loop-word.word c.args.chains.now c.loop-word.invariant in omega (arith, few, c.requires)

pub returns-clause-free : goal.returns-clause-free
returns-clause-free c = let word = c.loop-word.word in let chains = c.args.chains.now in
    let exact = any_from_yields_List (λ (h : InHand). eqb h.guard word) _ _ c.any.result c.any.ensures.ran
    (YieldsList-from_slice chains cc) (λ x b q k. search (rules, tests)) in
    guards_none word chains (sym exact ∙ c.loop-word-test.false)

pub returns-clause-least : goal.returns-clause-least
returns-clause-least c j low none = guards_one j c.args.chains.now (c.loop-word.invariant j low) none
