use Rattle.std.proofs.Common.{◌<◌, length, arith}
use Rattle.std.proofs.lemmas.List.{take_rest}
use Rattle.pp_trace.proofs.Cuts.{line_at}
use Rattle.pp_trace.proofs.scanning.next_line.Goals as goal

pub returns : goal.returns
returns c =
    let text = c.args.bytes.now in
    let from = c.args.from in
    let some : from < length text = omega arith in
    let place = rw (take_rest text from) at c.length_to_feed.ensures.place in
    line_at text from _ _ _ some place c.length_without_return.ensures.within c.length_without_return.ensures.cut c.min.ensures
