use Rattle.std.proofs.Common.{◌≡◌, ◌≤◌, ◌++◌, vec_capacity}
use Rattle.pp_rule.specs.Opening.{fields_from}
use Rattle.pp_pool.proofs.opening.add_sentinels.Given as goal

abbrev pub invariant-loop-before : goal.invariant-loop-before
invariant-loop-before g l = (l.words.items ≡ l.fn.words.items ++ fields_from g.S.Shape.first_field 1 l.before)
    × (vec_capacity l.fn.words ≤ vec_capacity l.words)
