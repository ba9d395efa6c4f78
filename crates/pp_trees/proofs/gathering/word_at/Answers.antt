use Rattle.std.proofs.Common.{ℕ, ap, get_or}
use Rattle.pp_link.specs.Words.{cell_word}
use Rattle.pp_trees.proofs.gathering.word_at.Goals as goal

pub returns : goal.returns
unfolding cell_word
returns c = ap (λ (k : ℕ). get_or c.args.words.now k 0) c.cell.ensures
