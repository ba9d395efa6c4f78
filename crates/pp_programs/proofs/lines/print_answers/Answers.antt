use Rattle.std.proofs.Common.{arith, ◌+◌, length, refl, ap, ◌∙◌, Ok, Err}
use Rattle.std.specs.Prelude.{option_map}
use Rattle.std.proofs.lemmas.List.{length-map}
use Rattle.std.proofs.lemmas.Result.{err_from_is_err_and}
use Rattle.std.proofs.lemmas.Option.{slice_get_read, slice_get-map}
use Rattle.pp_trace.proofs.Buffered.{Puts-none}
use Rattle.pp_programs.proofs.PrintedTexts.{Puts-more, Puts-short, callers_more, callers_whole}
use Rattle.pp_programs.proofs.lines.print_answers.Goals as goal

pub loop-given-init : goal.loop-given-init
loop-given-init g c = record { caller = refl; printed = Puts-none _ _ _ _ _ c.requires.whole }

pub print_caller-requires-clause-short : goal.print_caller-requires-clause-short
print_caller-requires-clause-short g c =
    let here = slice_get_read c.args.answers.now (length c.args.answers.now) c.loop-given.given-index c.given-item.result refl
    c.loop-given-test.true c.given-item.is in
    let short = c.requires.short.each c.loop-given.given-index c.given-item.result.items
    (slice_get-map (λ v. v.items) c.args.answers.now c.loop-given.given-index ∙ ap (option_map (λ v. v.items)) here) in
    omega (arith, short, ap length c.deref.ensures.value)

pub returns-in_err-print_caller : goal.returns-in_err-print_caller
returns-in_err-print_caller g c =
    let p = err_from_is_err_and c.from_residual.result c.from_residual.ensures.1 in
    let answers = c.args.answers.now in
    let i = c.loop-given.given-index in
    let line = c.deref.ensures.value ∙ ap (λ v. v.items) c.given-item.is in
    rw p.1 (Puts-short _ _ _ p.0 (callers_whole g.L.AnswerLines.line (i + 1) answers)
    (Puts-more _ _ _ (Err p.0)
    (callers_more g.L.AnswerLines.line c.loop-given.caller answers i c.given-item.result
    c.loop-given-test.true c.loop-given.invariant.caller)
    c.loop-given.invariant.printed (rw line at c.in_err-print_caller.ensures)))

pub loop-given-preserved : goal.loop-given-preserved
loop-given-preserved g c =
    let line = c.deref.ensures.value ∙ ap (λ v. v.items) c.given-item.is in
    record {
      caller = omega (
        arith,
        c.loop-given.invariant.caller,
        c.saturating_add-caller.ensures,
        c.requires.short.callers,
        length-map c.args.answers.now (λ v. v.items),
      );
      printed = Puts-more _ _ _ (Ok tt)
          (callers_more g.L.AnswerLines.line c.loop-given.caller c.args.answers.now c.loop-given.given-index c.given-item.result
          c.loop-given-test.true c.loop-given.invariant.caller)
          c.loop-given.invariant.printed (rw line at c.in_ok-print_caller.ensures);
    }
