use Rattle.std.proofs.Common.{◌∙◌, rules, tests}
use Rattle.std.proofs.lemmas.Iterator.{YieldsList-from_slice}
use Rattle.std.proofs.lemmas.Iterator.Search.{position_from_yields_List}
use Rattle.pp_trace.specs.Lines.{is_line_feed}
use Rattle.pp_trace.proofs.Places.{unwrap_or-position}
use Rattle.pp_trace.proofs.scanning.length_to_feed.Goals as goal

pub returns-clause-place : goal.returns-clause-place
returns-clause-place c =
    let first = position_from_yields_List is_line_feed _ _ c.position.result c.position.ensures.ran (YieldsList-from_slice c.args.text.now
    cc)
    (λ x b q k. search (rules, tests)) in
    c.unwrap_or.ensures ∙ unwrap_or-position is_line_feed c.args.text.now _ first
