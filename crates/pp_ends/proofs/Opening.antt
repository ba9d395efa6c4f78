-- The passes of a pool as it opens are fresh passes of a map.
use Rattle.std.proofs.Common.{◌≡◌, ℕ, zero, suc, ◌+◌, List, [], length, refl, sym, ap, ◌∙◌, subst}
use Rattle.atomic_table.specs.Seated.{TableId}
use Rattle.atomic_table.specs.declared.shared.Seat.{Seat}
use Rattle.pp_link.specs.declared.layout.Sizes.{Sizes}
use Rattle.pp_model.specs.declared.Change.{Change}
use Rattle.pp_model.specs.declared.Placed.{Placed}
use Rattle.pp_model.specs.Pass.{IsFresh}
use Rattle.pp_rule.specs.declared.shape.Shape.{Ghosts}
use Rattle.pp_rule.specs.declared.views.PassState.{PassState}
use Rattle.pp_rule.specs.declared.views.SeatView.{SeatView}
use Rattle.pp_rule.specs.Opening.{share_of, start_of, numbers_from, dealt}
use Rattle.pp_rule.specs.Orders.{entries_of, log_of, made_by, placed_by}
use Rattle.pp_rule.specs.Steps.{alone}
use Rattle.pp_base.specs.declared.pool.Pass.{Pass}
use Rattle.pp_pool.specs.Opened.{IsNewPass}
use Rattle.pp_base.specs.Passes.{view}
use Rattle.pp_calls.specs.PoolViews.{pass_view, pool_view, link_writes}
use Rattle.pp_calls.specs.Steps.{StandsThen}

numbers_count : (low n : ℕ) → length (numbers_from low n) ≡ n
unfolding numbers_from
numbers_count low zero = refl
numbers_count low (suc n) = ap suc (numbers_count (low + 1) n)

-- a view that has seen no step, with as many free numbers as it started with
fresh_view : {W : Type 0} (q : PassState W) (free : List ℕ) (share : ℕ) → q.retired ≡ [] → q.chains ≡ [] → length free ≡ share
    → IsFresh (pool_view (alone {E = Change} {A = Placed} [] q) free share)
unfolding log_of entries_of made_by placed_by link_writes
fresh_view q free share retired chains count = record {
  seen = refl;
  mine = refl;
  steps = refl;
  order = refl;
  wrote = refl;
  free = count;
  retired = retired;
  chains = ap (λ l. length l) chains;
}

module _ {W : Type 0} (sentinels : ℕ) (own : W) where
  none_stand : (z : Sizes) (k : ℕ) → StandsThen (alone {E = Change} {A = Placed} [] (dealt sentinels own z k))
  unfolding log_of placed_by entries_of
  none_stand z k = record { each = λ n s e. cc; rising = λ i j s t _ e _. cc; all = refl }

  -- the placed calls of a pass of a pool as it opens, which are none, stand in what it has seen
  pub starts_standing : (s : Seat Unit (SeatView Change Placed W)) (z : Sizes) (k : ℕ)
      → s.me ≡ (alone [] (dealt sentinels own z k), []) → StandsThen (view s)
  starts_standing s z k e = subst StandsThen (sym (ap (λ m. m.0) e)) (none_stand z k)

module _ {S W : Type 0} {shape : Ghosts S Change Placed W} where
  pub fresh : (table : TableId) (z : Sizes) (c : ℕ) (p : Pass S Change Placed W shape) → IsNewPass table z c p → IsFresh (pass_view p)
  unfolding dealt
  fresh table z c p new = subst (λ (v : SeatView Change Placed W). IsFresh (pool_view v p.purse.free.items p.share))
      (sym (ap (λ m. m.0) new.knows)) (fresh_view (dealt shape.SENTINELS shape.fresh z c) p.purse.free.items p.share refl refl
      (ap (λ l. length l) new.purse.free ∙ (numbers_count (start_of shape.SENTINELS z c) (share_of shape.SENTINELS z c)
      ∙ sym new.share_is)))

  pub fresh_caller : (table : TableId) (z : Sizes) (c : ℕ) (p : Pass S Change Placed W shape) → IsNewPass table z c p
      → (pass_view p).caller ≡ c
  unfolding dealt
  fresh_caller table z c p new = ap (λ m. m.0.known.number) new.knows
