use Rattle.pp_check.proofs.EachVerdict.{each_has_verdict}
use Rattle.pp_check.proofs.laws.each_text_has_a_verdict.Goals as goal

pub returns : goal.returns
returns c = each_has_verdict
