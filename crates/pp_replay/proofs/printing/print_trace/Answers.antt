use Rattle.std.proofs.Common.{refl}
use Rattle.std.proofs.lemmas.Result.{err_from_is_err_and}
use Rattle.pp_trace.specs.Text.{contents_text}
use Rattle.pp_trace.proofs.Buffered.{Puts-then}
use Rattle.pp_programs.proofs.PrintedTexts.{Puts-short}
use Rattle.pp_replay.proofs.printing.print_trace.Goals as goal

pub returns-in_err-print_answers : goal.returns-in_err-print_answers
returns-in_err-print_answers g c =
    let p = err_from_is_err_and c.from_residual.result c.from_residual.ensures.1 in
    rw p.1 (Puts-short _ _ (contents_text c.args.contents.now) p.0 refl c.in_err-print_answers.ensures)

pub returns : goal.returns
returns g c = Puts-then c.contents.result c.in_ok-print_answers.ensures c.contents.ensures
