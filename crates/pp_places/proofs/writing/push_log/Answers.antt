use Rattle.std.proofs.Common.{arith, ◌++◌, ap, sym, ◌∙◌, append-nil}
use Rattle.std.specs.List.{flat_map}
use Rattle.std.proofs.lemmas.List.{take_all}
use Rattle.pp_certificate.specs.Printed.{change_line}
use Rattle.pp_places.specs.Held.{IsChangeHeld}
use Rattle.pp_places.proofs.Texts.{pushed}
use Rattle.pp_places.proofs.Holding.{first_none, first_more, first_all}
use Rattle.pp_places.proofs.writing.push_log.Goals as goal

pub loop-at-init : goal.loop-at-init
loop-at-init c = record { text = sym (append-nil c.args.text.now.items); held = first_none IsChangeHeld c.args.log.now 0 }

pub loop-at-preserved : goal.loop-at-preserved
loop-at-preserved c = record {
  text = pushed change_line c.args.log.now c.loop-at.at _ c.args.text.now.items c.loop-at.text.items c.push_text.new.text.items
      c.loop-at-test.true c.loop-at.invariant.text
      (c.in_ok-push_text.ensures ∙ ap (λ l. c.loop-at.text.items ++ l) (c.as_str.ensures.value ∙ c.of_change-line.ensures.line));
  held = first_more IsChangeHeld c.args.log.now c.loop-at.at _ c.loop-at.invariant.held c.of_change-line.ensures.held;
}

pub returns-clause-text : goal.returns-clause-text
returns-clause-text c =
    c.loop-at.invariant.text ∙ ap (λ l. c.args.text.now.items ++ flat_map change_line l)
    (take_all c.loop-at.at c.args.log.now (omega (arith, c.loop-at-test.false)))

pub returns-clause-held : goal.returns-clause-held
returns-clause-held c =
    first_all IsChangeHeld c.args.log.now c.loop-at.at (omega (arith, c.loop-at-test.false)) c.loop-at.invariant.held
