use Rattle.std.proofs.Common.{List, length, map, sym, ap, ◌∙◌, subst}
use Rattle.pp_model.specs.declared.Change.{Change}
use Rattle.pp_schedule.specs.Marks.{MarkedAs}
use Rattle.pp_places.proofs.Callers.{at_caller, caller_of, lists_more}
use Rattle.pp_places.proofs.placing.lists_of.Goals as goal

pub list_of-requires-clause-answers : goal.list_of-requires-clause-answers
list_of-requires-clause-answers c =
    let at = at_caller c.args.lists.now c.args.answers.now c.args.marks.now c.requires.lengths c.loop-caller.caller
    c.index-lists-caller.result c.index-answers-caller.result c.index-marks-caller.result c.loop-caller-test.true
    c.index-lists-caller.is c.index-answers-caller.is c.index-marks-caller.is in
    ap length c.deref-in-loop-caller.ensures.value ∙ (at.many_got ∙ sym (ap length c.deref.ensures.value))

pub list_of-requires-clause-marks : goal.list_of-requires-clause-marks
list_of-requires-clause-marks c =
    let at = at_caller c.args.lists.now c.args.answers.now c.args.marks.now c.requires.lengths c.loop-caller.caller
    c.index-lists-caller.result c.index-answers-caller.result c.index-marks-caller.result c.loop-caller-test.true
    c.index-lists-caller.is c.index-answers-caller.is c.index-marks-caller.is in
    ap length c.deref-in-loop-caller-2.ensures.value ∙ (at.many_own ∙ sym (ap length c.deref.ensures.value))

pub loop-caller-preserved : goal.loop-caller-preserved
loop-caller-preserved c = λ run placed same.
    let at = at_caller c.args.lists.now c.args.answers.now c.args.marks.now c.requires.lengths c.loop-caller.caller
    c.index-lists-caller.result c.index-answers-caller.result c.index-marks-caller.result c.loop-caller-test.true
    c.index-lists-caller.is c.index-answers-caller.is c.index-marks-caller.is in
    let one = caller_of _ _ _ run placed c.loop-caller.caller _ _ _ at.calls_at at.got_at at.own_at in
    let listed = rw (c.deref.ensures.value, c.deref-in-loop-caller.ensures.value, c.deref-in-loop-caller-2.ensures.value)
    at c.in_ok-list.ensures in
    ap (map (λ v. v.items)) c.in_ok-append.ensures
    ∙ lists_more c.loop-caller.out.items c.in_ok-list.list run.callers c.loop-caller.caller one.caller one.at
    (c.loop-caller.invariant run placed same)
    (listed one.exact one.caller.mine (subst (λ (l : List Change).
    MarkedAs l c.index-lists-caller.result.items c.index-answers-caller.result.items one.exact one.caller.mine)
    same one.marked) one.marks_are)
