use Rattle.std.proofs.Common.{◌≡◌, ◌≤◌, take}
use Rattle.std.specs.Prelude.{vec_capacity}
use Rattle.std.specs.Slots.{slots_items}
use Rattle.pp_link.specs.Places.{total}
use Rattle.pp_pool.proofs.closing.end_table.Given as goal

-- the words up to here were entered
abbrev pub invariant-loop-i : goal.invariant-loop-i
invariant-loop-i g l = record {
  entered : l.words.items ≡ take l.i (slots_items l.closed.words);
  room : total l.fn.pool.layout ≤ vec_capacity l.words;
}
