-- What a structure's reader owes, and why a call took a pair.
use Rattle.std.specs.Prelude.{◌≡◌, ◌⊎◌, ℕ, ◌-◌, Bool, true, false, nat_eq, ◌||◌, length}
use Rattle.pp_link.specs.declared.layout.Sizes.{Sizes}
use Rattle.pp_model.specs.declared.Call.{Call}
use Rattle.pp_model.specs.declared.Change.{Change}
use Rattle.pp_model.specs.declared.Placed.{Placed}
use Rattle.pp_model.specs.declared.steps.Step.{Step}
use Rattle.pp_model.specs.Pass.{MapSizes}
use Rattle.pp_rule.specs.declared.views.SeatView.{SeatView}
use Rattle.pp_rule.specs.Causes.{Reader, PoolWords, CauseWords, WasDetached}
use Rattle.pp_rule.specs.Orders.{made_by, entries_of, write_step, clear_step}
use Rattle.pp_base.specs.Named.{NamedStep, name_of}
use Rattle.pp_shelf.specs.Runs.{map_sizes, steps_made}
use Rattle.pp_purse.specs.Steps.{is_purse_step}
use Rattle.pp_calls.specs.Steps.{Stepped, HasOwn, StandsThen}
use Rattle.pp_rule.specs.Lists.{IsIn}
use Rattle.pp_turns.specs.Turns.{Unplaced}
use Rattle.pp_turns.specs.Tallies.{Tally, lost_of, later_of}

-- a step at the purse, a clear of a hazard word, or a store in a private record
abbrev pub is_aside : Sizes → NamedStep → Bool
is_aside z s = is_purse_step z s || (nat_eq s.kind clear_step || nat_eq s.kind write_step)

-- The pass made such steps, and placed no call.
pub record Aside {W : Type 0} (z : Sizes) (v w : SeatView Change Placed W) : Type 0 where
  pub stepped : Stepped v w
  pub stands : HasOwn w.order → StandsThen v → StandsThen w
  pub unplaced : Unplaced v w
  pub each : (s : Step) → IsIn s (steps_made v w) → is_aside z (name_of s) ≡ true

-- No turn is lost at such a step, and no call takes effect at it.
pub record PassesOver (r : Reader Call) (z : Sizes) : Type 0 where
  pub keeps : (call : Call) (m : r.Memory) (s : Step) → is_aside z (name_of s) ≡ true → r.loses (map_sizes z) call m s ≡ false
  pub idles : (call : Call) (m : r.Memory) (s : Step) → is_aside z (name_of s) ≡ true → r.strikes (map_sizes z) call m s ≡ false

module _ (words : PoolWords) (causes : CauseWords) (z : MapSizes) (call : Call) (budget : ℕ) {W : Type 0} where
  -- A call took a pair: its record was detached after that, or it was left attached for the structure's reason.
  abbrev pub TookBy : Tally causes.reader.Memory → SeatView Change Placed W → SeatView Change Placed W → Type 0
  TookBy t from now = WasDetached (causes.IsAttached z) (words.opening z) (causes.taken z call (steps_made from now))
      (length (made_by now.known.number now.order) - length (later_of t)) now.known.number (entries_of now.order)
      ⊎ causes.LeftBy z call budget (lost_of t) (later_of t)
