use Rattle.std.proofs.Common.{arith, refl}
use Rattle.pp_queue_replay.proofs.Readings.{read-none, past-call, trace-read}
use Rattle.pp_queue_replay.proofs.parsing.parse.Goals as goal

pub loop-span-init : goal.loop-span-init
loop-span-init c = record {
  within = omega arith;
  few = omega arith;
  good = refl;
  read = rw c.in_ok-lists.ensures (read-none c.args.bytes.now c.args.callers);
}

pub loop-span-preserved : goal.loop-span-preserved
loop-span-preserved c =
    let before = c.loop-span.invariant in
    let is = c.in-Some.ensures in
    let past = past-call c.args.bytes.now c.args.callers _ _ c.in-Some.span _ _ _ is c.in-Asks.ensures before.good before.read in
    record {
      within = is.ordered.2;
      few = omega (arith, is.longer);
      good = past.0;
      read = rw c.in_ok-enter_call-in-Asks.ensures past.1;
    }

pub returns-clause-lists : goal.returns-clause-lists
returns-clause-lists c =
    let end = c.loop-span.invariant in
    trace-read c.args.bytes.now c.args.callers c.loop-span.from _ _ c.in_default.ensures c.requires.short end.good end.read
