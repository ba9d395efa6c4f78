use Rattle.std.proofs.Common.{arith, refl, ◌+◌, Ok, Err}
use Rattle.std.proofs.lemmas.Result.{err_from_is_err_and}
use Rattle.pp_trace.proofs.Buffered.{Puts-none}
use Rattle.pp_programs.proofs.PrintedTexts.{Puts-more, Puts-short, caller_more, caller_whole}
use Rattle.pp_programs.proofs.lines.print_caller.Goals as goal

pub loop-answer-init : goal.loop-answer-init
loop-answer-init g c = record { number = refl; printed = Puts-none _ _ _ _ _ c.requires.whole }

pub returns-in_err-print : goal.returns-in_err-print
returns-in_err-print g c =
    let p = err_from_is_err_and c.from_residual.result c.from_residual.ensures.1 in
    let answers = c.args.answers.now in
    let i = c.loop-answer.answer-index in
    rw p.1 (Puts-short _ _ _ p.0 (caller_whole g.L.AnswerLines.line c.args.caller (i + 1) answers)
    (Puts-more _ _ _ (Err p.0)
    (caller_more g.L.AnswerLines.line c.args.caller c.loop-answer.number answers i c.answer-item.result
    c.loop-answer-test.true c.loop-answer.invariant.number)
    c.loop-answer.invariant.printed (rw c.answer-item.is at c.in_err-print.ensures)))

pub loop-answer-preserved : goal.loop-answer-preserved
loop-answer-preserved g c = record {
  number = omega (arith, c.loop-answer.invariant.number, c.saturating_add-number.ensures, c.requires.short);
  printed = Puts-more _ _ _ (Ok tt)
      (caller_more g.L.AnswerLines.line c.args.caller c.loop-answer.number c.args.answers.now c.loop-answer.answer-index
      c.answer-item.result c.loop-answer-test.true c.loop-answer.invariant.number)
      c.loop-answer.invariant.printed (rw c.answer-item.is at c.in_ok-print.ensures);
}
