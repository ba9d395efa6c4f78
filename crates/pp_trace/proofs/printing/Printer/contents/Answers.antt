use Rattle.std.proofs.Common.{◌∙◌, length, codes}
use Rattle.std.specs.List.{flat_map}
use Rattle.std.proofs.lemmas.Result.{err_from_is_err_and}
use Rattle.pp_trace.specs.Text.{counted_line, pair_line}
use Rattle.pp_trace.proofs.Buffered.{Puts-front, Puts-item, Puts-cut}
use Rattle.pp_trace.proofs.printing.Printer.contents.Goals as goal

pub returns-in_err-put : goal.returns-in_err-put
returns-in_err-put g c =
    let p = err_from_is_err_and c.from_residual.result c.from_residual.ensures.1 in
    let is = c.as_bytes.ensures.value ∙ c.as_str.ensures.value ∙ c.of_length-line.ensures in
    rw p.1 (Puts-front (counted_line (codes "contents ") (length c.args.pairs.now)) (flat_map pair_line c.args.pairs.now) p.0 is
    c.in_err-put.ensures)

pub loop-pair-preserved : goal.loop-pair-preserved
loop-pair-preserved g c =
    let pairs = c.args.pairs.now in
    let is = c.as_bytes-in-loop-pair.ensures.value ∙ c.as_str-in-loop-pair.ensures.value ∙ c.of_pair-line.ensures in
    Puts-item (counted_line (codes "contents ") (length pairs)) pair_line pairs c.loop-pair.pair-index _ _ c.loop-pair-test.true is
    c.loop-pair.invariant c.in_ok-put-2.ensures

pub returns-in_err-put-2 : goal.returns-in_err-put-2
returns-in_err-put-2 g c =
    let pairs = c.args.pairs.now in
    let p = err_from_is_err_and c.from_residual-in_err-put-2.result c.from_residual-in_err-put-2.ensures.1 in
    let is = c.as_bytes-in-loop-pair.ensures.value ∙ c.as_str-in-loop-pair.ensures.value ∙ c.of_pair-line.ensures in
    rw p.1 (Puts-cut (counted_line (codes "contents ") (length pairs)) pair_line pairs _ p.0
    (Puts-item (counted_line (codes "contents ") (length pairs)) pair_line pairs c.loop-pair.pair-index _ _ c.loop-pair-test.true is
    c.loop-pair.invariant c.in_err-put-2.ensures))
