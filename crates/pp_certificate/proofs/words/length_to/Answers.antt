use Rattle.std.proofs.Common.{◌∙◌, ◌==◌, rules, tests}
use Rattle.std.proofs.lemmas.Iterator.{YieldsList-from_slice}
use Rattle.std.proofs.lemmas.Iterator.Search.{position_from_yields_List}
use Rattle.pp_certificate.proofs.Cutting.{unwrap_or-position}
use Rattle.pp_certificate.proofs.words.length_to.Goals as goal

pub returns-clause-place : goal.returns-clause-place
returns-clause-place c =
    let first = position_from_yields_List (λ byte. byte == c.args.wanted) _ _ c.position.result c.position.ensures.ran
    (YieldsList-from_slice c.args.text.now cc) (λ x b q k. search (rules, tests)) in
    c.unwrap_or.ensures ∙ unwrap_or-position (λ byte. byte == c.args.wanted) c.args.text.now _ first
