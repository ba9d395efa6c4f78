use Rattle.std.proofs.Common.{arith, ◌≡◌, List, [], drop, subst}
use Rattle.std.proofs.lemmas.List.{drop_all}
use Rattle.pp_model.specs.declared.Call.{Call}
use Rattle.pp_places.specs.Places.{EntersOn}
use Rattle.pp_places.proofs.Entries.{enters_first, enters_more, enters_last}
use Rattle.pp_places.proofs.log.enter_caller.Goals as goal

pub loop-at-init : goal.loop-at-init
loop-at-init c = record {
  few = omega arith;
  entered = λ whole exact mine marked are stands had.
      enters_first whole c.args.caller mine stands c.args.calls.now c.args.answers.now exact c.args.log.now.items marked had;
}

pub loop-at-preserved : goal.loop-at-preserved
loop-at-preserved c = record {
  few = let f = c.loop-at.invariant.few in let n = c.in_ok-number.ensures.few in omega (arith, f, n);
  entered = λ whole exact mine marked are stands had.
      enters_more whole c.args.caller mine c.args.calls.now c.args.answers.now c.args.marks.now exact c.loop-at.at _ _ _ c.loop-at.number
      c.in_ok-number.number c.loop-at.log.items c.enter_call.new.log.items c.loop-at-test.true marked are
      (λ calls answers rest m is e. c.in_ok-number.ensures.entered whole mine calls answers rest m is stands e)
      (c.loop-at.invariant.entered whole exact mine marked are stands had);
}

pub returns : goal.returns
returns c = λ whole exact mine marked are stands had.
    let e = c.loop-at.invariant.entered whole exact mine marked are stands had in
    let none : drop c.loop-at.at c.args.calls.now ≡ [] = drop_all c.loop-at.at c.args.calls.now (omega (arith, c.loop-at-test.false)) in
    enters_last whole c.args.caller mine stands _ _ c.loop-at.number c.loop-at.log.items
    (subst (λ (cs : List Call). EntersOn whole c.args.caller mine cs (drop c.loop-at.at c.args.answers.now) (drop c.loop-at.at exact)
    c.loop-at.number c.loop-at.log.items) none e)
