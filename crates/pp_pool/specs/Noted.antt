-- What a pass learns from a note.
use Rattle.std.specs.Prelude.{◌≡◌}
use Rattle.atomic_table.specs.declared.shared.Seat.{Seat}
use Rattle.pp_rule.specs.declared.views.SeatView.{SeatView}
use Rattle.pp_rule.specs.Lists.{BeginsWith}
use Rattle.pp_rule.specs.Orders.{log_of, made_by, placed_by}
use Rattle.pp_base.specs.Passes.{known, view}

module _ {E A W : Type 0} where
  -- The pass with this seat has learnt what the seat of the note remembers: both orders begin the one that it has now, so both
  -- logs begin what it has now seen. It made no step and placed no call, and what is known of it stays.
  pub record HasLearnt (note s s' : Seat Unit (SeatView E A W)) : Type 0 where
    pub known_is : known s' ≡ known s
    pub order : BeginsWith (view s').order (view s).order
    pub noted_order : BeginsWith (view s').order (view note).order
    pub seen : BeginsWith (log_of (view s').order) (log_of (view s).order)
    pub noted_seen : BeginsWith (log_of (view s').order) (log_of (view note).order)
    pub steps : made_by (known s).number (view s').order ≡ made_by (known s).number (view s).order
    pub placed : placed_by (known s).number (view s').order ≡ placed_by (known s).number (view s).order
