use Rattle.std.proofs.lemmas.List.{take_rest}
use Rattle.pp_certificate.proofs.Cutting.{last_part, line_to}
use Rattle.pp_certificate.proofs.reading.line_end.Goals as goal

pub returns-then-feed-bytes : goal.returns-then-feed-bytes
returns-then-feed-bytes c =
    let place = rw (take_rest c.args.bytes.now c.args.from) at c.length_to.ensures.place in
    last_part c.args.bytes.now c.args.from _ c.requires place c.if-feed-bytes.true

pub returns : goal.returns
returns c =
    let place = rw (take_rest c.args.bytes.now c.args.from) at c.length_to.ensures.place in
    line_to c.args.bytes.now c.args.from _ c.requires place c.if-feed-bytes.false
