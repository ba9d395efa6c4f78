use Rattle.std.proofs.Common.{ℕ, List, subst}
use Rattle.std.specs.List.Sorted.{IsPermutation}
use Rattle.std.proofs.lemmas.List.Sorted.{IsNonDecreasingBy-from_sort}
use Rattle.pp_base.proofs.Parted.{placed_last}
use Rattle.pp_base.proofs.scan.sort_with_last.Goals as goal

pub returns-clause-rise : goal.returns-clause-rise
returns-clause-rise c = IsNonDecreasingBy-from_sort (λ n. n) c.sort_unstable.new.self c.sort_unstable.ensures.sorted

pub returns-clause-same : goal.returns-clause-same
returns-clause-same c = subst (λ (l : List ℕ). IsPermutation l c.sort_unstable.new.self)
    (placed_last c.args.words.now c.args.last c.requires) c.sort_unstable.ensures.permutation
