use Rattle.std.proofs.Common.{◌∙◌}
use Rattle.pp_base.proofs.Parted.{is_found}
use Rattle.pp_base.proofs.scan.is_hazard.Goals as goal

pub returns : goal.returns
returns c = c.is_ok.ensures.value
    ∙ is_found c.args.words.now c.args.number c.binary_search.result c.requires c.binary_search.ensures.position
