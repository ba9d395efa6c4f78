use Rattle.std.proofs.Common.{◌≡◌, ◌≤◌, ◌++◌, vec_capacity}
use Rattle.pp_rule.specs.Opening.{words_from}
use Rattle.pp_pool.proofs.opening.add_heads.Given as goal

abbrev pub invariant-loop-head : goal.invariant-loop-head
invariant-loop-head g l = (l.words.items ≡ l.fn.words.items ++ words_from g.S.Shape.first_head 0 l.head)
    × (vec_capacity l.fn.words ≤ vec_capacity l.words)
