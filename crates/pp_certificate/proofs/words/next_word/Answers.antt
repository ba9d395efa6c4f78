use Rattle.std.proofs.Common.{arith}
use Rattle.pp_certificate.proofs.Cutting.{word_at}
use Rattle.pp_certificate.proofs.words.next_word.Goals as goal

pub returns : goal.returns
returns c = word_at c.args.bytes.now c.args.from c.args.end _ (omega arith) c.requires.within c.length_to.ensures.place
