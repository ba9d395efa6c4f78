use Rattle.std.proofs.Common.{sym, ◌∙◌}
use Rattle.std.specs.List.{between}
use Rattle.pp_trace.proofs.Digits.{digits-more, no_number-at, number-more}
use Rattle.pp_trace.proofs.scanning.read_number.Goals as goal

pub returns-then-not-is_ascii_digit : goal.returns-then-not-is_ascii_digit
returns-then-not-is_ascii_digit c =
    let field = between c.args.start c.args.end c.args.bytes.now in
    sym (no_number-at field c.loop-byte.byte-index c.loop-byte-test.true (sym c.is_ascii_digit.ensures.value
    ∙ c.if-not-is_ascii_digit.true))

pub loop-byte-preserved : goal.loop-byte-preserved
loop-byte-preserved c =
    let field = between c.args.start c.args.end c.args.bytes.now in
    let digit = sym c.is_ascii_digit.ensures.value ∙ c.if-not-is_ascii_digit.false in
    record {
      digits = digits-more field c.loop-byte.byte-index c.loop-byte-test.true c.loop-byte.invariant.digits digit;
      value = c.with_digit-number.ensures ∙ number-more field c.loop-byte.byte-index _ c.loop-byte-test.true digit
          c.loop-byte.invariant.value;
    }
