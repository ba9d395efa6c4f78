use Rattle.std.proofs.Common.{arith, refl, sym, ◌∙◌}
use Rattle.std.specs.List.{between}
use Rattle.pp_certificate.proofs.Callers.{entry_fits}
use Rattle.pp_certificate.proofs.Growing.{read_none, reads_on, read_all, goes_on, stops_unread, stops_there}
use Rattle.pp_certificate.proofs.reading.read_certificate.Goals as goal

pub loop-feed-init : goal.loop-feed-init
loop-feed-init c = record {
  within = omega arith;
  few = omega arith;
  good = refl;
  read = read_none c.args.bytes.now c.in_ok-certificate.certificate c.in_ok-certificate.ensures.0 c.in_ok-certificate.ensures.1;
}

pub returns-in_default-read_entry-clause-fault : goal.returns-in_default-read_entry-clause-fault
returns-in_default-read_entry-clause-fault c =
    stops_unread c.args.bytes.now c.loop-feed.from c.in-Some.feed c.loop-feed.line c.loop-feed.stage c.in-Some.ensures
    c.in_default-read_entry.ensures c.loop-feed.invariant.good

pub returns-in_default-after-clause-fault : goal.returns-in_default-after-clause-fault
returns-in_default-after-clause-fault c =
    stops_there c.args.bytes.now c.loop-feed.from c.in-Some.feed c.loop-feed.line c.loop-feed.stage c.in-Some-read_entry.entry
    c.in-Some.ensures
    c.in-Some-read_entry.ensures c.in_default-after.ensures c.loop-feed.invariant.good

pub enter-requires : goal.enter-requires
enter-requires c = entry_fits (between c.loop-feed.from c.in-Some.feed c.args.bytes.now) c.in-Some-read_entry.entry
    c.in-Some-read_entry.ensures

pub loop-feed-preserved : goal.loop-feed-preserved
loop-feed-preserved c = record {
  within = omega (arith, c.in-Some.ensures.within);
  few = omega (arith, c.in-Some.ensures.order, c.loop-feed.invariant.few);
  good = goes_on c.args.bytes.now c.loop-feed.from c.in-Some.feed c.loop-feed.line c.loop-feed.stage c.in-Some-after.next
      c.in-Some-read_entry.entry
      c.in-Some.ensures c.in-Some-read_entry.ensures c.in-Some-after.ensures c.loop-feed.invariant.good;
  read = rw c.in_ok-enter.ensures
      (reads_on c.args.bytes.now c.loop-feed.from c.in-Some.feed c.in-Some-read_entry.entry c.loop-feed.certificate c.in-Some.ensures
      c.in-Some-read_entry.ensures c.loop-feed.invariant.read);
}

pub returns-clause-certificate : goal.returns-clause-certificate
returns-clause-certificate c =
    read_all c.args.bytes.now c.loop-feed.from c.loop-feed.line c.loop-feed.stage c.loop-feed.certificate c.in_default.ensures
    c.if-from-bytes.false
    (sym c.has_ended.ensures ∙ c.if-not-has_ended.false) c.loop-feed.invariant.good c.loop-feed.invariant.read
