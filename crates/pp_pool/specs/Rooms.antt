-- The memory that closing takes.
use Rattle.std.specs.Prelude.{◌≡◌, ◌+◌, ◌≤◌, true, [], replicate, vec_capacity}
use Rattle.pp_link.specs.declared.layout.Sizes.{Sizes}
use Rattle.pp_link.specs.Places.{total}
use Rattle.pp_pool.specs.declared.closing.Room.{Room}

-- its lists are empty and have room for a pool of these sizes, and each number is marked
pub record IsRoomFor (z : Sizes) (r : Room) : Type 0 where
  pub words : (r.words.items ≡ []) × (total z ≤ vec_capacity r.words)
  pub contents : (r.contents.items ≡ []) × (z.records ≤ vec_capacity r.contents)
  pub live : (r.live.items ≡ []) × (z.records ≤ vec_capacity r.live)
  pub free : (r.free.items ≡ []) × (z.records ≤ vec_capacity r.free)
  pub marks : r.marks.items ≡ replicate (z.records + 1) true
