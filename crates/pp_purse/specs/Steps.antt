-- The steps of a call at its purse.
use Rattle.std.specs.Prelude.{◌≡◌, ◌+◌, ◌*◌, Bool, true, nat_eq, nat_lt, ◌||◌, ◌&&◌, List}
use Rattle.pp_link.specs.declared.layout.Sizes.{Sizes}
use Rattle.pp_rule.specs.declared.views.SeatView.{SeatView}
use Rattle.pp_rule.specs.Lists.{IsIn}
use Rattle.pp_rule.specs.Orders.{missed_step, invalidate_step, retire_step, scan_frontier_step, scan_walk_step, shelve_step, unshelve_step}
use Rattle.pp_base.specs.Named.{NamedStep, Made}

-- A call invalidates and retires its chains in hand, reads hazard words, and tries shelf words, which stand before the heads. An
-- exchange at a shelf word may fail.
abbrev pub is_purse_step : Sizes → NamedStep → Bool
is_purse_step z s = nat_eq s.kind invalidate_step || (nat_eq s.kind retire_step || (nat_eq s.kind scan_frontier_step
    || (nat_eq s.kind scan_walk_step || (nat_eq s.kind shelve_step || (nat_eq s.kind unshelve_step
    || (nat_eq s.kind missed_step && nat_lt s.place (1 + 17 * z.passes)))))))

module _ {E A W : Type 0} where
  -- The pass made these steps at its purse. What its structure and its walk words know stays.
  pub record PurseSteps (z : Sizes) (steps : List NamedStep) (before after : SeatView E A W) : Type 0 where
    pub made : Made steps before after
    pub each : (s : NamedStep) → IsIn s steps → is_purse_step z s ≡ true
    pub own : after.known.own ≡ before.known.own
    pub walk : after.known.walk ≡ before.known.walk
