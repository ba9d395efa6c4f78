use Rattle.std.proofs.Common.{arith, ◌∙◌}
use Rattle.pp_rule.specs.Opening.{words_from}
use Rattle.pp_pool.proofs.Words.{none_yet, long, word_appended, no_words, length_words}
use Rattle.pp_pool.proofs.opening.add_heads.Goals as goal

pub loop-head-init : goal.loop-head-init
loop-head-init g c = let head = g.S.Shape.first_head in
    (none_yet c.args.words.now.items (words_from head 0 0) (no_words head), omega arith)

pub enter-requires : goal.enter-requires
enter-requires g c = let head = g.S.Shape.first_head in
    let count = long c.args.words.now.items c.loop-head.words.items (words_from head 0 c.loop-head.head) c.loop-head.head
    c.loop-head.invariant.0 (length_words head 0 c.loop-head.head) in omega arith

pub loop-head-preserved : goal.loop-head-preserved
loop-head-preserved g c = let head = g.S.Shape.first_head in (
  word_appended head c.args.words.now.items c.loop-head.words.items c.enter.new.list.items c.loop-head.head c.word.result
      c.loop-head.invariant.0 c.enter.ensures.items (c.word.ensures.word ∙ c.head.ensures),
  omega arith,
)
