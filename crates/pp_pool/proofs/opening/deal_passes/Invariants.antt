use Rattle.std.proofs.Common.{◌≡◌, ◌≤◌, length, vec_capacity}
use Rattle.pp_pool.specs.Opened.{AreNewPasses}
use Rattle.pp_pool.proofs.Dealing.{IsDealing}
use Rattle.pp_pool.proofs.opening.deal_passes.Given as goal

abbrev pub invariant-loop-number : goal.invariant-loop-number
invariant-loop-number g l = let S = g.S.Shape in let z = l.pool.layout in let table = l.pool.table.shared.table_id in
    IsDealing S.SENTINELS S.fresh table z l.number l.first l.rooms.items l.seat
    × (length l.passes.items ≡ l.number) × (z.passes ≤ vec_capacity l.passes)
    × AreNewPasses table z l.passes.items
