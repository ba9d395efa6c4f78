use Rattle.std.proofs.Common.{◌≡◌, ◌+◌, ◌-◌, ◌≤◌, ◌++◌, map, take, length, vec_capacity}
use Rattle.pp_model.specs.declared.Pair.{Pair}
use Rattle.pp_queue.proofs.closing.enter_values.Given as goal

abbrev pub invariant-loop-pair : goal.invariant-loop-pair
invariant-loop-pair l = record {
  entered : l.items.items ≡ l.initial.items.items ++ map (λ (p : Pair). p.value) (take l.pair-index l.pairs);
  room : length l.items.items + (length l.pairs - l.pair-index) ≤ vec_capacity l.items;
}
