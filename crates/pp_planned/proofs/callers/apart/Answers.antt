use Rattle.std.proofs.Common.{rules, [], ◌∷◌, ◌++◌, ap, ◌∙◌, sym}
use Rattle.std.proofs.lemmas.Iterator.Adapters.{YieldsList-from_vec}
use Rattle.std.proofs.lemmas.Iterator.Consumers.{YieldsList-end}
use Rattle.std.proofs.lemmas.List.{map-append}
use Rattle.pp_schedule.specs.Calls.{answers_of, marks_of}
use Rattle.pp_planned.proofs.Openings.{same_again}
use Rattle.pp_planned.proofs.callers.apart.Goals as goal

pub loop-one-preserved : goal.loop-one-preserved
loop-one-preserved c =
    let x = c.in-Some.one in
    record {
      answers = c.in_ok-append.ensures ∙ ap (λ l. l ++ x.answer ∷ []) c.loop-one.invariant.answers
          ∙ sym (map-append (λ y. y.answer) c.loop-one.yielded (x ∷ []));
      marks = c.in_ok-append-2.ensures ∙ ap (λ l. l ++ x.mark ∷ []) c.loop-one.invariant.marks
          ∙ sym (map-append (λ y. y.mark) c.loop-one.yielded (x ∷ []));
    }

pub returns-clause-answers : goal.returns-clause-answers
returns-clause-answers c =
    let all = YieldsList-end (YieldsList-from_vec c.args.given.items (search rules) (search rules))
    c.loop-one.yielded _ c.loop-one.yielded_by _ c.next.new.self c.in-None.is c.next.ensures.steps in
    c.loop-one.invariant.answers ∙ ap answers_of (sym (same_again c.loop-one.yielded) ∙ all.0)

pub returns-clause-marks : goal.returns-clause-marks
returns-clause-marks c =
    let all = YieldsList-end (YieldsList-from_vec c.args.given.items (search rules) (search rules))
    c.loop-one.yielded _ c.loop-one.yielded_by _ c.next.new.self c.in-None.is c.next.ensures.steps in
    c.loop-one.invariant.marks ∙ ap marks_of (sym (same_again c.loop-one.yielded) ∙ all.0)
