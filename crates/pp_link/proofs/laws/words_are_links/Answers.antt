use Rattle.pp_link.proofs.Packing.{word_of-link_of, link_of-word_of}
use Rattle.pp_link.proofs.laws.words_are_links.Goals as goal

pub returns : goal.returns
returns c = record { link = word_of-link_of; parts = link_of-word_of }
