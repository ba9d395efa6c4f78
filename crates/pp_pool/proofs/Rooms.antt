-- A purse made of the room for its lists.
use Rattle.std.proofs.Common.{◌≡◌, ℕ, ◌≤◌, false, replicate, refl, ap, ◌∙◌, vec_capacity, Vec, Global, arith}
use Rattle.pp_link.specs.declared.layout.Sizes.{Sizes}
use Rattle.pp_rule.specs.Opening.{numbers_from}
use Rattle.pp_pool.specs.declared.opening.Room.{Room}
use Rattle.pp_pool.specs.PurseRooms.{IsRoom}
use Rattle.pp_pool.specs.Opened.{IsNewPurse}

pub new_purse : (z : Sizes) (first share from count : ℕ) (r : Room) (free : Vec ℕ Global) → IsRoom z.records r
    → free.items ≡ numbers_from from count → vec_capacity r.free ≤ vec_capacity free → from ≡ first → count ≡ share
    → IsNewPurse z first share (record {
      free = free;
      retired = r.retired;
      spent = 0;
      chains = r.chains;
      frontier = replicate 4 0;
      taken = 0;
      going = false;
    })
new_purse z first share from count r free room is wide begins counted = record {
  free = is ∙ (ap (λ k. numbers_from k count) begins ∙ ap (numbers_from first) counted);
  retired = room.retired_is;
  chains = room.chains_are;
  frontier = refl;
  spent = refl;
  taken = refl;
  resting = refl;
  free_room = let had : z.records ≤ vec_capacity r.free = room.free_room in omega arith;
  retired_room = room.retired_room;
  chain_room = room.chain_room;
}
