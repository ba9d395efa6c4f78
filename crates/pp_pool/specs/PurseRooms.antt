-- Room for the lists of a pass.
use Rattle.std.specs.Prelude.{◌≡◌, ℕ, ◌≤◌, [], vec_capacity}
use Rattle.pp_pool.specs.declared.opening.Room.{Room}

-- The lists are empty, with room for so many numbers in two of them, and for four chains in the third.
pub record IsRoom (records : ℕ) (r : Room) : Type 0 where
  pub free_is : r.free.items ≡ []
  pub retired_is : r.retired.items ≡ []
  pub chains_are : r.chains.items ≡ []
  pub free_room : records ≤ vec_capacity r.free
  pub retired_room : records ≤ vec_capacity r.retired
  pub chain_room : 4 ≤ vec_capacity r.chains
