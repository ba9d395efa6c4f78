use Rattle.std.proofs.Common.{◌≡◌, ◌+◌, ◌≤◌, ◌++◌, length, take, drop}
use Rattle.std.specs.Prelude.{vec_capacity}
use Rattle.pp_base.specs.Scans.{is_named, chosen, rejected}
use Rattle.pp_base.proofs.scan.part.Given as goal

-- what was looked at is parted, and what is behind it stands as it was
abbrev pub invariant-loop-i : goal.invariant-loop-i
invariant-loop-i l = record {
  stays : take l.kept l.retired.items ++ chosen (is_named l.words) (drop l.i l.retired.items)
      ≡ chosen (is_named l.words) l.fn.retired.items;
  freed : l.free.items ++ rejected (is_named l.words) (drop l.i l.retired.items)
      ≡ l.fn.free.items ++ rejected (is_named l.words) l.fn.retired.items;
  count : length l.retired.items ≡ length l.fn.retired.items;
  behind : l.kept ≤ l.i;
  room : length l.free.items + length l.retired.items ≤ vec_capacity l.free + l.i;
  grown : vec_capacity l.fn.free ≤ vec_capacity l.free;
  same : vec_capacity l.retired ≡ vec_capacity l.fn.retired;
}
