use Rattle.std.proofs.Common.{◌≡◌, ◌+◌, ◌-◌, ◌≤◌, ◌++◌, length}
use Rattle.std.specs.Prelude.{vec_capacity}
use Rattle.pp_pool.specs.Marks.{marked}
use Rattle.pp_pool.proofs.closing.enter_marked.Given as goal

-- what was entered, and what is still to come
abbrev pub invariant-loop-i : goal.invariant-loop-i
invariant-loop-i l = record {
  entered : l.free.items ++ marked l.marks (l.i + 1) (l.last - l.i) ≡ marked l.marks 1 l.last;
  few : length l.free.items ≤ l.i;
  room : l.last ≤ vec_capacity l.free;
}
