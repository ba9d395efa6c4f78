use Rattle.std.proofs.Common.{◌∙◌, ◌++◌, ◌≤◌, ap, take, length, arith, rules, not, length-append}
use Rattle.std.proofs.lemmas.List.{length-take-le}
use Rattle.std.proofs.KnownBytes.{Consumes-nil, Consumes-trans}
use Rattle.pp_outside.specs.Outside.{no_read, next_read}
use Rattle.pp_outside.proofs.reading.read_all.Goals as goal

pub loop-bytes-init : goal.loop-bytes-init
loop-bytes-init g c = record {
  consumed = rw c.new-bytes.ensures.items (Consumes-nil _);
  kept = search rules;
  reads = no_read;
  few = search rules;
  room = search rules;
}

pub loop-bytes-preserved : goal.loop-bytes-preserved
loop-bytes-preserved g c =
    let enough : 64 ≤ length c.loop-bytes.chunk = omega (arith, c.loop-bytes.invariant.room) in
    let ok = c.is_err.ensures.negation ∙ ap not c.if-is_err.false in
    let items = rw ok at c.extend_from_slice.ensures.items in
    record {
      consumed = rw items (Consumes-trans _ _ _ _ _ c.loop-bytes.invariant.consumed c.in-Ok.ensures.bytes.0);
      kept = c.in-Ok.ensures.cause.kept ∙ c.loop-bytes.invariant.kept;
      reads = next_read _ _ _ _ c.loop-bytes.invariant.reads enough c.in-Ok.ensures.made;
      few = omega (
        arith,
        rw ok at c.extend_from_slice.ensures.len,
        c.in-Ok.ensures.bound.1,
        length-take-le c.in-Ok.count c.read.new.into
            c.in-Ok.ensures.bound.0,
        c.len.ensures,
      );
      room = search rules;
    }

pub returns-in-Ok-eq0-clause-reads : goal.returns-in-Ok-eq0-clause-reads
returns-in-Ok-eq0-clause-reads g c =
    let enough : 64 ≤ length c.loop-bytes.chunk = omega (arith, c.loop-bytes.invariant.room) in
    next_read _ _ _ _ c.loop-bytes.invariant.reads enough c.in-Ok-eq0.ensures.made

pub returns-then-count-most-clause-cause : goal.returns-then-count-most-clause-cause
returns-then-count-most-clause-cause g c = (
  record {
    bytes = c.loop-bytes.bytes.items ++ take c.in-Ok.count c.read.new.into;
    consumed = Consumes-trans _ _ _ _ _ c.loop-bytes.invariant.consumed c.in-Ok.ensures.bytes.0;
    many = omega (arith, length-append c.loop-bytes.bytes.items (take c.in-Ok.count c.read.new.into), c.in-Ok.ensures.bound.1);
  },
  c.in-Ok.ensures.cause.kept ∙ c.loop-bytes.invariant.kept,
)

pub returns-then-count-most-clause-reads : goal.returns-then-count-most-clause-reads
returns-then-count-most-clause-reads g c =
    let enough : 64 ≤ length c.loop-bytes.chunk = omega (arith, c.loop-bytes.invariant.room) in
    next_read _ _ _ _ c.loop-bytes.invariant.reads enough c.in-Ok.ensures.made

pub returns-then-is_err-clause-reads : goal.returns-then-is_err-clause-reads
returns-then-is_err-clause-reads g c =
    let enough : 64 ≤ length c.loop-bytes.chunk = omega (arith, c.loop-bytes.invariant.room) in
    next_read _ _ _ _ c.loop-bytes.invariant.reads enough c.in-Ok.ensures.made
