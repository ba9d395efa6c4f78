use Rattle.std.proofs.Common.{◌≡◌, ◌≤◌, length, vec_capacity, All}
use Rattle.pp_pool.specs.PurseRooms.{IsRoom}
use Rattle.pp_pool.proofs.opening.make_rooms.Given as goal

abbrev pub invariant-loop : goal.invariant-loop
invariant-loop l = (length l.rooms.items ≡ l.counter) × All (IsRoom l.sizes.records) l.rooms.items
    × (l.sizes.passes ≤ vec_capacity l.rooms)
