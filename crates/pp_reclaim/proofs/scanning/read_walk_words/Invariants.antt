use Rattle.std.proofs.Common.{◌≡◌, take}
use Rattle.pp_link.specs.Places.{walk_place}
use Rattle.pp_base.specs.Named.{scans_walk}
use Rattle.pp_reclaim.specs.Sweeps.{HasRead}
use Rattle.pp_reclaim.proofs.scanning.read_walk_words.Given as goal

-- the words before this one are those that were loaded
abbrev pub invariant-loop-i : goal.invariant-loop-i
invariant-loop-i g l = record {
  read : HasRead scans_walk (walk_place l.pool.layout 0 0) (take l.i l.words) l.fn.pass.seat l.pass.seat;
  walk : l.pass.walk ≡ l.fn.pass.walk;
  purse : l.pass.purse ≡ l.fn.pass.purse;
}
