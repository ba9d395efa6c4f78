use Rattle.std.proofs.Common.{◌∙◌, length, codes, []}
use Rattle.std.specs.List.{flat_map}
use Rattle.std.proofs.lemmas.Result.{err_from_is_err_and}
use Rattle.pp_trace.specs.Text.{counted_line}
use Rattle.pp_trace.proofs.Buffered.{Puts-front, Puts-item, Puts-cut}
use Rattle.pp_queue_replay.proofs.printing.print_left.Goals as goal

pub returns-in_err-put : goal.returns-in_err-put
returns-in_err-put g c =
    let p = err_from_is_err_and c.from_residual.result c.from_residual.ensures.1 in
    let is = c.as_bytes.ensures.value ∙ c.as_str.ensures.value ∙ c.of_length-line.ensures in
    rw p.1 (Puts-front (counted_line (codes "left ") (length c.args.items.now)) (flat_map (counted_line []) c.args.items.now) p.0 is
    c.in_err-put.ensures)

pub loop-item-preserved : goal.loop-item-preserved
loop-item-preserved g c =
    let items = c.args.items.now in
    let is = c.as_bytes-in-loop-item.ensures.value ∙ c.as_str-in-loop-item.ensures.value ∙ c.of_item-line.ensures in
    Puts-item (counted_line (codes "left ") (length items)) (counted_line []) items c.loop-item.item-index _ _ c.loop-item-test.true is
    c.loop-item.invariant c.in_ok-put-2.ensures

pub returns-in_err-put-2 : goal.returns-in_err-put-2
returns-in_err-put-2 g c =
    let items = c.args.items.now in
    let p = err_from_is_err_and c.from_residual-in_err-put-2.result c.from_residual-in_err-put-2.ensures.1 in
    let is = c.as_bytes-in-loop-item.ensures.value ∙ c.as_str-in-loop-item.ensures.value ∙ c.of_item-line.ensures in
    rw p.1 (Puts-cut (counted_line (codes "left ") (length items)) (counted_line []) items _ p.0
    (Puts-item (counted_line (codes "left ") (length items)) (counted_line []) items c.loop-item.item-index _ _ c.loop-item-test.true is
    c.loop-item.invariant c.in_err-put-2.ensures))
