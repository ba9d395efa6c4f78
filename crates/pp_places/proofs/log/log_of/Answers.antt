use Rattle.std.proofs.Common.{arith, length, sym, ap, ◌∙◌}
use Rattle.std.proofs.lemmas.List.{length-map}
use Rattle.pp_places.proofs.Callers.{at_caller, caller_of}
use Rattle.pp_places.proofs.Entries.{same_lists}
use Rattle.pp_places.proofs.log.log_of.Goals as goal

pub enter_caller-requires-clause-answers : goal.enter_caller-requires-clause-answers
enter_caller-requires-clause-answers c =
    let at = at_caller c.args.lists.now c.args.answers.now c.args.marks.now c.requires.lengths c.loop-caller.caller
    c.index-lists-caller.result c.index-answers-caller.result c.index-marks-caller.result c.loop-caller-test.true
    c.index-lists-caller.is c.index-answers-caller.is c.index-marks-caller.is in
    ap length c.deref-in-loop-caller.ensures.value ∙ (at.many_got ∙ sym (ap length c.deref.ensures.value))

pub enter_caller-requires-clause-marks : goal.enter_caller-requires-clause-marks
enter_caller-requires-clause-marks c =
    let at = at_caller c.args.lists.now c.args.answers.now c.args.marks.now c.requires.lengths c.loop-caller.caller
    c.index-lists-caller.result c.index-answers-caller.result c.index-marks-caller.result c.loop-caller-test.true
    c.index-lists-caller.is c.index-answers-caller.is c.index-marks-caller.is in
    ap length c.deref-in-loop-caller-2.ensures.value ∙ (at.many_own ∙ sym (ap length c.deref.ensures.value))

pub loop-caller-preserved : goal.loop-caller-preserved
loop-caller-preserved c = λ run placed.
    let at = at_caller c.args.lists.now c.args.answers.now c.args.marks.now c.requires.lengths c.loop-caller.caller
    c.index-lists-caller.result c.index-answers-caller.result c.index-marks-caller.result c.loop-caller-test.true
    c.index-lists-caller.is c.index-answers-caller.is c.index-marks-caller.is in
    let one = caller_of _ _ _ run placed c.loop-caller.caller _ _ _ at.calls_at at.got_at at.own_at in
    let entered = rw (c.deref.ensures.value, c.deref-in-loop-caller.ensures.value, c.deref-in-loop-caller-2.ensures.value)
    at c.in_ok-enter_caller.ensures in
    entered run.log one.exact one.caller.mine one.marked one.marks_are one.stands (c.loop-caller.invariant run placed)

pub returns : goal.returns
returns c = λ run placed.
    let e = c.loop-caller.invariant run placed in
    same_lists c.loop-caller.log.items run.log e.within (λ p x at.
    let low = placed.known p x at in
    e.each p x at (omega (arith, low, c.loop-caller-test.false, length-map c.args.lists.now (λ v. v.items))))
