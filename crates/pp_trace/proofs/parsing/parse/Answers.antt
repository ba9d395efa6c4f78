use Rattle.std.proofs.Common.{arith}
use Rattle.pp_trace.proofs.Readings.{good-none, read-none, past-call, trace-read}
use Rattle.pp_trace.proofs.parsing.parse.Goals as goal

pub loop-span-init : goal.loop-span-init
loop-span-init c =
    let opening = c.read_opening-form.ensures in
    record {
      within = opening.within;
      few = opening.few;
      good = good-none c.args.bytes.now c.args.callers c.read_opening-form.result opening;
      read = rw c.in_ok-trace.ensures (read-none c.args.bytes.now c.args.callers c.read_opening-form.result opening);
    }

pub loop-span-preserved : goal.loop-span-preserved
loop-span-preserved c =
    let before = c.loop-span.invariant in
    let is = c.in-Some.ensures in
    let past = past-call c.args.bytes.now _ c.args.callers _ _ c.in-Some.span _ _ _ is c.in-Asks.ensures before.good before.read in
    record {
      within = is.ordered.2;
      few = omega (arith, is.longer);
      good = past.0;
      read = rw c.in_ok-push-in-Asks.ensures past.1;
    }

pub returns-clause-lists : goal.returns-clause-lists
returns-clause-lists c =
    let end = c.loop-span.invariant in
    trace-read c.args.bytes.now _ c.args.callers c.loop-span.from _ c.loop-span.trace c.in_default.ensures c.requires.short end.good
    end.read
