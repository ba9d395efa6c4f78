-- What callers see of a pass of a pool.
use Rattle.std.specs.Prelude.{ℕ, ◌+◌, ◌-◌, ◌*◌, ◌%◌, ◌^◌, Bool, true, false, nat_eq, nat_lt, ◌&&◌, ◌||◌, List, [], ◌∷◌, length}
use Rattle.pp_link.specs.declared.layout.Sizes.{Sizes}
use Rattle.pp_link.specs.Places.{cell_place}
use Rattle.pp_model.specs.declared.Change.{Change}
use Rattle.pp_model.specs.declared.Placed.{Placed}
use Rattle.pp_model.specs.declared.steps.Step.{Step}
use Rattle.pp_model.specs.Pass.{PassView}
use Rattle.pp_rule.specs.declared.shape.Shape.{Ghosts}
use Rattle.pp_rule.specs.declared.views.SeatView.{SeatView}
use Rattle.pp_rule.specs.Orders.{log_of, made_by, placed_by, entries_of, write_step, detach_step, missed_step, invalidate_step}
use Rattle.pp_base.specs.declared.pool.Pass.{Pass}
use Rattle.pp_base.specs.Passes.{view}

-- the place is that of a link: a head, or the left or right link of a record
abbrev pub is_link_place : Sizes → ℕ → Bool
is_link_place z place = nat_lt (17 * z.passes) place && (nat_lt place (cell_place z 1 0)
    || (nat_eq ((place - cell_place z 1 0) % 5) 2 || nat_eq ((place - cell_place z 1 0) % 5) 3))

-- The kinds of step that store, exchange or set bits of a link, whether that succeeds or not. 17 to 23 but 19 are those of the
-- structures: they publish, mark, flag, tag or splice.
abbrev pub is_writing : ℕ → Bool
is_writing kind = nat_eq kind write_step || (nat_eq kind detach_step || (nat_eq kind missed_step || (nat_eq kind invalidate_step
    || (nat_eq kind 17 || (nat_eq kind 18 || (nat_eq kind 20 || (nat_eq kind 21 || (nat_eq kind 22 || nat_eq kind 23))))))))

abbrev pub is_link_write : Sizes → Step → Bool
is_link_write z s = is_writing s.kind && is_link_place z s.place

abbrev pub one_at : Bool → ℕ
one_at true = 1
one_at false = 0

-- how many of these steps write a link
unfoldable pub link_writes : Sizes → List Step → ℕ
link_writes z [] = 0
link_writes z (s ∷ steps) = one_at (is_link_write z s) + link_writes z steps

module _ {W : Type 0} where
  -- The pass with this view, these free numbers, and the number of those that it started with. Its link writes are counted from
  -- its steps, and the calls that it may still make are without bound: their number stays.
  abbrev pub pool_view : SeatView Change Placed W → List ℕ → ℕ → PassView
  pool_view v free share = record {
    caller = v.known.number;
    seen = log_of v.order;
    mine = placed_by v.known.number v.order;
    steps = made_by v.known.number v.order;
    order = entries_of v.order;
    wrote = link_writes v.known.sizes (made_by v.known.number v.order);
    room = 2 ^ 32 - 1;
    free = free;
    retired = v.known.retired;
    chains = length v.known.chains;
    share = share;
  }

-- what callers see of a pass
abbrev pub pass_view : {S W : Type 0} {shape : Ghosts S Change Placed W} → Pass S Change Placed W shape → PassView
pass_view p = pool_view (view p.seat) p.purse.free.items p.share
