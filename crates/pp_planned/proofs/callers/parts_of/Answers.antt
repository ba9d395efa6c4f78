use Rattle.std.proofs.Common.{rules, map, [], ◌∷◌, ◌++◌, ap, ◌∙◌, sym}
use Rattle.std.proofs.lemmas.Iterator.Adapters.{YieldsList-from_vec}
use Rattle.std.proofs.lemmas.Iterator.Consumers.{YieldsList-end}
use Rattle.std.proofs.lemmas.List.{map-append}
use Rattle.pp_schedule.specs.Calls.{answers_of, marks_of}
use Rattle.pp_schedule.specs.Seats.{calls_of}
use Rattle.pp_planned.specs.Planned.{somes}
use Rattle.pp_planned.proofs.Openings.{same_again, somes_append}
use Rattle.pp_planned.proofs.callers.parts_of.Goals as goal

pub loop-caller-preserved : goal.loop-caller-preserved
loop-caller-preserved g c =
    let parts = c.into_parts-pass.ensures in
    let x = c.in-Some.caller in
    record {
      passes = c.in_ok-append_some.ensures ∙ ap (λ l. l ++ somes (c.into_parts-pass.result.0 ∷ [])) c.loop-caller.invariant.passes
          ∙ ap (λ o. somes (map (λ y. y.pass) c.loop-caller.yielded) ++ somes (o ∷ [])) parts.0
          ∙ sym (ap somes (map-append (λ y. y.pass) c.loop-caller.yielded (x ∷ []))
          ∙ somes_append (map (λ y. y.pass) c.loop-caller.yielded) (x.pass ∷ []));
      lists = c.in_ok-append.ensures ∙ ap (λ l. l ++ c.into_parts-pass.result.1 ∷ []) c.loop-caller.invariant.lists
          ∙ ap (λ o. calls_of c.loop-caller.yielded ++ o ∷ []) parts.1
          ∙ sym (map-append (λ y. y.calls) c.loop-caller.yielded (x ∷ []));
      answers = ap (map (λ v. v.items)) c.in_ok-append-2.ensures
          ∙ map-append (λ v. v.items) c.loop-caller.answers.items (c.in_ok-own_answers.own_answers ∷ [])
          ∙ ap (λ l. l ++ c.in_ok-own_answers.own_answers.items ∷ []) c.loop-caller.invariant.answers
          ∙ ap (λ o. map (λ y. answers_of y.answers.items) c.loop-caller.yielded ++ o ∷ [])
          (c.in_ok-own_answers.ensures.answers ∙ ap (λ v. answers_of v.items) parts.2)
          ∙ sym (map-append (λ y. answers_of y.answers.items) c.loop-caller.yielded (x ∷ []));
      marks = ap (map (λ v. v.items)) c.in_ok-append-3.ensures
          ∙ map-append (λ v. v.items) c.loop-caller.marks.items (c.in_ok-own_answers.own_marks ∷ [])
          ∙ ap (λ l. l ++ c.in_ok-own_answers.own_marks.items ∷ []) c.loop-caller.invariant.marks
          ∙ ap (λ o. map (λ y. marks_of y.answers.items) c.loop-caller.yielded ++ o ∷ [])
          (c.in_ok-own_answers.ensures.marks ∙ ap (λ v. marks_of v.items) parts.2)
          ∙ sym (map-append (λ y. marks_of y.answers.items) c.loop-caller.yielded (x ∷ []));
    }

pub returns-clause-passes : goal.returns-clause-passes
returns-clause-passes g c =
    let all = YieldsList-end (YieldsList-from_vec c.args.callers.items (search rules) (search rules))
    c.loop-caller.yielded _ c.loop-caller.yielded_by _ c.next.new.self c.in-None.is c.next.ensures.steps in
    c.loop-caller.invariant.passes ∙ ap (λ l. somes (map (λ y. y.pass) l)) (sym (same_again c.loop-caller.yielded) ∙ all.0)

pub returns-clause-lists : goal.returns-clause-lists
returns-clause-lists g c =
    let all = YieldsList-end (YieldsList-from_vec c.args.callers.items (search rules) (search rules))
    c.loop-caller.yielded _ c.loop-caller.yielded_by _ c.next.new.self c.in-None.is c.next.ensures.steps in
    c.loop-caller.invariant.lists ∙ ap (calls_of) (sym (same_again c.loop-caller.yielded) ∙ all.0)

pub returns-clause-answers : goal.returns-clause-answers
returns-clause-answers g c =
    let all = YieldsList-end (YieldsList-from_vec c.args.callers.items (search rules) (search rules))
    c.loop-caller.yielded _ c.loop-caller.yielded_by _ c.next.new.self c.in-None.is c.next.ensures.steps in
    c.loop-caller.invariant.answers ∙ ap (map (λ y. answers_of y.answers.items)) (sym (same_again c.loop-caller.yielded) ∙ all.0)

pub returns-clause-marks : goal.returns-clause-marks
returns-clause-marks g c =
    let all = YieldsList-end (YieldsList-from_vec c.args.callers.items (search rules) (search rules))
    c.loop-caller.yielded _ c.loop-caller.yielded_by _ c.next.new.self c.in-None.is c.next.ensures.steps in
    c.loop-caller.invariant.marks ∙ ap (map (λ y. marks_of y.answers.items)) (sym (same_again c.loop-caller.yielded) ∙ all.0)
