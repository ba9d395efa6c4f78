-- What any map over a pool owes a run: its shares, and room for the calls.
use Rattle.std.proofs.Common.{◌≡◌, ℕ, ◌+◌, ◌-◌, ◌/◌, ◌%◌, ◌≤◌, cond, nat_lt, List, length, sym, ap, arith}
use Rattle.pp_model.specs.declared.Call.{Call}
use Rattle.pp_model.specs.declared.Change.{Change}
use Rattle.pp_model.specs.declared.Placed.{Placed}
use Rattle.pp_model.specs.Lists.{AtEach}
use Rattle.pp_model.specs.Pass.{MapSizes}
use Rattle.pp_rule.specs.declared.shape.Shape.{Ghosts}
use Rattle.pp_rule.specs.Causes.{pool_sizes}
use Rattle.pp_rule.specs.Opening.{share_of as pool_share}
use Rattle.pp_base.specs.declared.pool.Pass.{Pass}
use Rattle.pp_calls.specs.PoolViews.{pass_view}
use Rattle.pp_words.specs.declared.Kind.{Kind}
use Rattle.pp_running.specs.Jobs.{HaveRoom, views_of}
use Rattle.pp_running.proofs.Lists.{mapped_at}
use Rattle.pp_replay.specs.Replay.{dealt, share_of}

module _ {S W : Type 0} {shape : Ghosts S Change Placed W} where
  -- its passes have room for any trace
  pub pool_room : (passes : List (Pass S Change Placed W shape)) (lists : List (List Call))
      → AtEach lists (λ c calls. length calls ≤ 16777216) → HaveRoom (views_of pass_view passes) lists
  pool_room passes lists short c pass calls at list =
      let from = mapped_at pass_view passes c pass at in
      let room : pass.room ≡ 4294967295 = ap (λ v. v.room) (sym from.2) in
      omega (arith, short c calls list, room)

-- the shares of a pool with so many sentinels are those of a map that deals the rest
pub pool_shares : (k : Kind) (sentinels : ℕ) (z : MapSizes) (c : ℕ) → dealt k z ≡ z.records - sentinels
    → pool_share sentinels (pool_sizes z) c ≡ share_of k z c
pool_shares k sentinels z c rest = ap (λ (d : ℕ). d / z.passes + cond (nat_lt c (d % z.passes)) 1 0) (sym rest)
