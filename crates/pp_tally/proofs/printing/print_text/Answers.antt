use Rattle.std.proofs.Common.{get_or, ◌∙◌}
use Rattle.std.proofs.lemmas.Result.{err_from_is_err_and}
use Rattle.pp_trace.proofs.Buffered.{Puts-front, Puts-then}
use Rattle.pp_tally.specs.Text.{head_text, values_text}
use Rattle.pp_tally.proofs.printing.print_text.Goals as goal

pub returns-in_err-put : goal.returns-in_err-put
returns-in_err-put g c =
    let p = err_from_is_err_and c.from_residual.result c.from_residual.ensures.1 in
    let is = c.as_bytes.ensures.value ∙ c.as_str.ensures.value ∙ c.of_head-head.ensures in
    rw p.1 (Puts-front (head_text c.args.bytes c.args.pieces) (values_text (λ value. get_or c.args.total.now value 0) 256) p.0 is
    c.in_err-put.ensures)

pub returns : goal.returns
returns g c =
    let is = c.as_bytes.ensures.value ∙ c.as_str.ensures.value ∙ c.of_head-head.ensures in
    Puts-then c.print_values.result (rw is at c.in_ok-put.ensures) c.print_values.ensures
