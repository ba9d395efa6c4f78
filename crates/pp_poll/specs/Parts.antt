-- What the parts of a replay by a plan come to.
use Rattle.std.specs.Prelude.{◌≡◌, ℕ, ◌≤◌, ◌⊎◌, List, Option, Some, None, ⊤}
use Rattle.pp_model.specs.declared.Call.{Call}
use Rattle.pp_model.specs.Pass.{PassView, MapSizes, Meaning, RunView}
use Rattle.pp_trace.specs.declared.Make.{Make}
use Rattle.pp_trace.specs.Grammar.{bad}
use Rattle.pp_devices.specs.declared.ways.Way.TheVariants as way
use Rattle.pp_devices.specs.Devices.{Device, WasUnread, WasTooLong}
use Rattle.pp_words.specs.declared.Settings.{Settings}
use Rattle.pp_plans.specs.Parts.{parts_of}
use Rattle.pp_plans.specs.Plans.{bad_behind}
use Rattle.pp_planned.specs.Planned.{IsPlanned}
use Rattle.pp_planned.specs.declared.PlannedFault.{PlannedFault}
use Rattle.pp_planned.specs.declared.PlannedFault.TheVariants as fault
use Rattle.pp_programs.specs.Causes.{WasSpared}
use Rattle.pp_replay.specs.Parts.{IsChosen}
use Rattle.pp_replay.specs.Replay.{meaning_of, sizes_of}
use Rattle.pp_poll.specs.declared.ways.PolledWay.{PolledWay}
use Rattle.pp_poll.specs.declared.ways.PolledWay.TheVariants.{Ended, BadPlan, NotRun}
use Rattle.pp_poll.specs.Polled.{HasBadLine, HasBadPlan}

-- A map of this meaning and these sizes is the one that the settings choose: also its runs by a plan are runs of that one. Each of its
-- turns makes a step, but where there is one caller alone.
pub record IsChosenToPoll (meaning : Meaning) (sizes : MapSizes) (settings : Settings) : Type 0 where
  pub chosen : IsChosen meaning sizes settings
  pub turns : (1 ≤ meaning.turn_steps) ⊎ (settings.callers ≡ 1)
  pub plans : (plan : List ℕ) → (opened : List PassView) → (lists : List (List Call)) → (run : RunView)
      → IsPlanned meaning sizes settings.races plan opened lists run
      → IsPlanned (meaning_of settings.map) (sizes_of settings) settings.races plan opened lists run

-- reading the input, or making it, ended in this way without calls
abbrev pub HasNoInput : PolledWay → Option Make → ℕ → Device → Device → Type 0
HasNoInput (Ended (way.BadLine line why)) make callers before after = (make ≡ None) × HasBadLine callers line why before after
HasNoInput (Ended way.Unread) make callers before after = (make ≡ None) × WasUnread before after
HasNoInput (Ended way.TooLong) make callers before after = (make ≡ None) × WasTooLong before after
HasNoInput (Ended way.NoMemory) make callers before after = WasSpared make before after
HasNoInput (BadPlan line why) make callers before after = (make ≡ None) × HasBadPlan callers line why before after
HasNoInput _ make callers before after = ⊥

-- parsing these bytes ended in this way
abbrev pub HasBadInput : List ℕ → ℕ → PolledWay → Type 0
HasBadInput bytes callers (Ended (way.BadLine line why)) = bad (parts_of bytes).trace callers ≡ Some (record { line = line; why = why })
HasBadInput bytes callers (Ended way.NoMemory) = ⊤
HasBadInput bytes callers (BadPlan line why) =
    (bad (parts_of bytes).trace callers ≡ None)
    × (bad_behind (parts_of bytes).lines (parts_of bytes).plan callers ≡ Some (record { line = line; why = why }))
HasBadInput bytes callers _ = ⊥

-- the way of a replay whose run by a plan gave nothing
abbrev pub fault_way : PlannedFault → PolledWay
fault_way fault.Failed = NotRun
fault_way fault.NoMemory = Ended way.NoMemory
