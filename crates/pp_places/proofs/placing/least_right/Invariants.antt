use Rattle.std.proofs.Common.{◌≡◌, ◌<◌, ◌≤◌, ℕ, false}
use Rattle.pp_places.proofs.Listed.{Wrong}
use Rattle.pp_places.proofs.placing.least_right.Given as goal

-- the reply isn't right at any place so far, nor here, unless the key was touched
abbrev pub invariant-loop-place : goal.invariant-loop-place
invariant-loop-place l = record {
  from_mark : l.mark ≤ l.place;
  before : (q : ℕ) → l.mark ≤ q → q < l.place → Wrong l.log l.call l.reply q;
  here : l.stale ≡ false → Wrong l.log l.call l.reply l.place;
}
