-- The passes of a pool as it opens.
use Rattle.std.specs.Prelude.{◌≡◌, ℕ, ◌≤◌, false, List, [], replicate, vec_capacity}
use Rattle.atomic_table.specs.Seated.{TableId}
use Rattle.pp_link.specs.declared.layout.Sizes.{Sizes}
use Rattle.pp_model.specs.Lists.{AtEach}
use Rattle.pp_rule.specs.Steps.{alone}
use Rattle.pp_rule.specs.Opening.{share_of, start_of, numbers_from, dealt}
use Rattle.pp_rule.specs.declared.shape.Shape.{Ghosts}
use Rattle.pp_base.specs.declared.pool.Pass.{Pass}
use Rattle.pp_base.specs.declared.purse.Purse.{Purse}
use Rattle.pp_base.specs.Passes.{Fits, known, IsAtRest}

-- The purse of a pass that was given so many numbers from the first one on: all of them are free, and no call is going on. Its
-- lists of numbers have room for all records, and its list of chains for four.
pub record IsNewPurse (z : Sizes) (first share : ℕ) (p : Purse) : Type 0 where
  pub free : p.free.items ≡ numbers_from first share
  pub retired : p.retired.items ≡ []
  pub chains : p.chains.items ≡ []
  pub frontier : p.frontier ≡ replicate 4 0
  pub spent : p.spent ≡ 0
  pub taken : p.taken ≡ 0
  pub resting : p.going ≡ false
  pub free_room : z.records ≤ vec_capacity p.free
  pub retired_room : z.records ≤ vec_capacity p.retired
  pub chain_room : 4 ≤ vec_capacity p.chains

module _ {S E A W : Type 0} {shape : Ghosts S E A W} where
  -- The pass of the caller c as its pool opens: it is alone in its seat, has seen no step and holds nothing, the records of its
  -- share are free, and no call is under way.
  pub record IsNewPass (table : TableId) (z : Sizes) (c : ℕ) (p : Pass S E A W shape) : Type 0 where
    pub fits : Fits table z p.seat
    pub knows : p.seat.me ≡ (alone [] (dealt shape.SENTINELS shape.fresh z c), [])
    pub number_is : p.number ≡ c
    pub share_is : p.share ≡ share_of shape.SENTINELS z c
    pub unnamed : p.walk ≡ replicate 5 0
    pub purse : IsNewPurse z (start_of shape.SENTINELS z c) (share_of shape.SENTINELS z c) p.purse
    pub rests : IsAtRest (known p.seat) p.purse

  -- the passes of a pool as it opens, that of the caller 0 first
  abbrev pub AreNewPasses : TableId → Sizes → List (Pass S E A W shape) → Type 0
  AreNewPasses table z passes = AtEach passes (IsNewPass table z)
