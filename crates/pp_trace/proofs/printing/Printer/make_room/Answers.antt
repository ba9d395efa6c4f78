use Rattle.std.proofs.Common.{◌≡◌, length, ap, arith}
use Rattle.pp_outside.specs.Outside.{no_write}
use Rattle.pp_trace.proofs.Buffered.{Written-once}
use Rattle.pp_trace.proofs.printing.Printer.make_room.Goals as goal

pub returns-then-len-lt-BUFFER-clause-writes : goal.returns-then-len-lt-BUFFER-clause-writes
returns-then-len-lt-BUFFER-clause-writes g c = no_write

pub returns-clause-writes : goal.returns-clause-writes
returns-clause-writes g c =
    let same = ap (λ w. length w.waits) c.self.view_is in
    let full : length c.args.self.now.waits ≡ 65536 = omega (arith, same, c.len.ensures, c.self.inside.buffer.ok.0, c.self.invariant.0) in
    Written-once _ _ _ _ _ _ c.write.result full c.write.ensures.once
