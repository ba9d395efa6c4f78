use Rattle.std.proofs.Common.{◌++◌, ap, sym, ◌∙◌, arith}
use Rattle.pp_trace.proofs.Openings.{nothings, nothings-more, skipped_at, name_at, other_at, none_at}
use Rattle.pp_trace.proofs.forms.read_opening.Goals as goal

pub returns-then-names_second_form : goal.returns-then-names_second_form
returns-then-names_second_form c =
    let before = c.loop-line.invariant in
    let is = c.in-Some.ensures in
    let named = sym c.names_second_form.ensures ∙ c.if-names_second_form.true in
    record {
      within = is.ordered.2;
      few = omega (arith, is.longer);
      says = λ callers. before.says callers
          ∙ ap (λ l. nothings c.loop-line.lines ++ l) (name_at c.args.bytes.now c.loop-line.from c.in-Some.line is callers named)
          ∙ nothings-more c.loop-line.lines _;
    }

pub loop-line-preserved : goal.loop-line-preserved
loop-line-preserved c =
    let before = c.loop-line.invariant in
    let is = c.in-Some.ensures in
    let skipped = sym c.is_skipped.ensures ∙ c.if-not-is_skipped.false in
    record {
      within = is.ordered.2;
      few = omega (arith, is.longer);
      says = λ callers. before.says callers
          ∙ ap (λ l. nothings c.loop-line.lines ++ l) (skipped_at c.args.bytes.now c.loop-line.from c.in-Some.line is callers skipped)
          ∙ nothings-more c.loop-line.lines _;
    }

pub returns-then-not-is_skipped : goal.returns-then-not-is_skipped
returns-then-not-is_skipped c =
    let before = c.loop-line.invariant in
    let is = c.in-Some.ensures in
    let shown = sym c.is_skipped.ensures ∙ c.if-not-is_skipped.true in
    let other = sym c.names_second_form.ensures ∙ c.if-names_second_form.false in
    record {
      within = before.within;
      few = before.few;
      says = λ callers. before.says callers
          ∙ ap (λ l. nothings c.loop-line.lines ++ l) (other_at c.args.bytes.now c.loop-line.from c.in-Some.line is callers shown other);
    }

pub returns-in_default : goal.returns-in_default
returns-in_default c =
    let before = c.loop-line.invariant in
    record {
      within = before.within;
      few = before.few;
      says = λ callers. before.says callers
          ∙ ap (λ l. nothings c.loop-line.lines ++ l) (none_at c.args.bytes.now c.loop-line.from callers c.in_default.ensures);
    }
