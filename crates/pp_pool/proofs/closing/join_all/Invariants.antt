use Rattle.std.proofs.Common.{◌≡◌, [], length, map}
use Rattle.pp_pool.proofs.Closings.{JoinedRest}
use Rattle.pp_pool.proofs.closing.join_all.Given as goal

-- the seat has taken over the passes that were popped
abbrev pub invariant-loop-pass : goal.invariant-loop-pass
invariant-loop-pass g l = record {
  table : l.seat.table_id ≡ l.pool.table.shared.table_id;
  bare : l.seat.me.1 ≡ [];
  joined : JoinedRest (map (λ p. p.seat) l.passes.items) (map (λ p. p.seat) l.fn.passes.items) l.seat.me.0;
}

abbrev pub decreases-loop-pass : goal.decreases-loop-pass
decreases-loop-pass g l = length l.passes.items
