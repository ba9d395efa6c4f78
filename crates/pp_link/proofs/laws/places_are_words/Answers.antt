use Rattle.pp_link.proofs.LayoutLaws.{is_layout}
use Rattle.pp_link.proofs.laws.places_are_words.Goals as goal

pub returns : goal.returns
returns c = is_layout
