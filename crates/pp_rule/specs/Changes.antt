-- What a structure's own steps may do to the words and the states.
use Rattle.std.specs.Prelude.{◌≡◌, ℕ, ◌+◌, ◌<◌, List}
use Rattle.pp_link.specs.declared.layout.Sizes.{Sizes}
use Rattle.pp_link.specs.Links.{target, invalid_bit}
use Rattle.pp_link.specs.Words.{cell_word}
use Rattle.pp_rule.specs.Lists.{remove_at}
use Rattle.pp_rule.specs.Views.{PassState}
use Rattle.pp_rule.specs.States.{PoolState, IsSmall, Leads}
use Rattle.pp_rule.specs.Detach.{IsFreeLink}

-- The part of a pass that the rule of every pool speaks of is as it was, but perhaps for what it owns.
pub record SameButOwned {W : Type 0} (q q' : PassState W) : Type 0 where
  pub number : q'.number ≡ q.number
  pub sizes : q'.sizes ≡ q.sizes
  pub retired_are : q'.retired ≡ q.retired
  pub walk : q'.walk ≡ q.walk
  pub frontier : q'.frontier ≡ q.frontier
  pub chains : q'.chains ≡ q.chains
  pub scan : q'.scan ≡ q.scan

-- All of that part is as it was.
pub record SameBase {W : Type 0} (q q' : PassState W) : Type 0 where
  pub rest : SameButOwned q q'
  pub owned : q'.owned ≡ q.owned

-- The private record at this index goes out of the pass.
pub record Gives {W : Type 0} (i : ℕ) (q q' : PassState W) : Type 0 where
  pub rest : SameButOwned q q'
  pub owned : q'.owned ≡ remove_at i q.owned

-- The word at this place, the link of a head or an attached record which nobody learnt as frozen, may become one that leads
-- on.
pub record Relinks {E A W : Type 0} (z : Sizes) (g : PoolState E A W) (place new : ℕ) : Type 0 where
  pub place_is : IsFreeLink z g place
  pub leads : Leads z g.status new

-- It may become one that leads to the record c, whose links lead on.
pub record Publishes {E A W : Type 0} (sides : ℕ) (z : Sizes) (words : List ℕ) (g : PoolState E A W) (c place new : ℕ) : Type 0 where
  pub place_is : IsFreeLink z g place
  pub small : IsSmall new
  pub valid : invalid_bit new ≡ 0
  pub to : target new ≡ c
  pub leads : (side : ℕ) → side < sides → Leads z g.status (cell_word words z c (2 + side))
