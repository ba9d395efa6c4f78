use Rattle.pp_trace.proofs.Cuts.{no_field_at, field_at}
use Rattle.pp_trace.proofs.scanning.next_field.Goals as goal

pub returns-then-start-end : goal.returns-then-start-end
returns-then-start-end c =
    no_field_at c.args.bytes.now c.args.from c.args.end _ c.requires.within c.leading_blanks.ensures.place c.if-start-end.true

pub returns : goal.returns
returns c =
    field_at c.args.bytes.now c.args.from c.args.end _ _ c.requires.order c.requires.within c.leading_blanks.ensures.place
    c.if-start-end.false
    c.length_to_blank.ensures.place
