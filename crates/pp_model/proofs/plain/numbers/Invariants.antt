use Rattle.std.proofs.Common.{◌≡◌, ◌+◌, ◌-◌, ◌≤◌}
use Rattle.std.specs.Prelude.{vec_capacity}
use Rattle.pp_model.specs.Lists.{upto}
use Rattle.pp_model.proofs.plain.numbers.Given as goal

abbrev pub invariant-loop-n : goal.invariant-loop-n
invariant-loop-n l = record {
  items : l.numbers.items ≡ upto (l.first + 1) (l.n - l.first);
  room : l.last - l.first ≤ vec_capacity l.numbers;
}
