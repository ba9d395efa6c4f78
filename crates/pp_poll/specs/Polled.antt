-- What the ending of a replay by a plan means.
use Rattle.std.specs.Prelude.{◌≡◌, ℕ, ◌+◌, ◌≤◌, ◌<◌, ◌⊎◌, Bool, List, [], length, Option, Some, None}
use Rattle.std.specs.Io.KnownBytes.{Appends}
use Rattle.pp_outside.specs.Outside.{Rose, WasAll, GrewByPrefix}
use Rattle.pp_devices.specs.declared.ways.Way.TheVariants as way
use Rattle.pp_devices.specs.Devices.{Device, World, WasUnread, WasTooLong, Untouched}
use Rattle.pp_model.specs.declared.Call.{Call}
use Rattle.pp_model.specs.declared.Answer.{Answer}
use Rattle.pp_model.specs.Pass.{RunView}
use Rattle.pp_trace.specs.declared.Make.{Make}
use Rattle.pp_trace.specs.declared.Why.{Why}
use Rattle.pp_trace.specs.Grammar.{bad}
use Rattle.pp_trace.specs.Text.{count_all, is_full, is_lost}
use Rattle.pp_trace.specs.TraceLists.{IsTrace}
use Rattle.pp_words.specs.declared.Settings.{Settings}
use Rattle.pp_words.specs.Words.{settings_of}
use Rattle.pp_programs.specs.Causes.{IsReading, HadNoMemory}
use Rattle.pp_plans.specs.declared.parsing.PlanWhy.{PlanWhy}
use Rattle.pp_plans.specs.Parts.{parts_of}
use Rattle.pp_plans.specs.Plans.{IsPlan, bad_behind}
use Rattle.pp_planned.specs.Planned.{IsPlanned}
use Rattle.pp_replay.specs.Replay.{EndingView, meaning_of, sizes_of, WasMade, IsRunUnder}
use Rattle.pp_poll.specs.declared.ways.PolledWay.{PolledWay}
use Rattle.pp_poll.specs.declared.ways.PolledWay.TheVariants.{Ended, BadPlan, NotRun}
use Rattle.pp_poll.specs.PolledWays.{status_of, line_of}
use Rattle.pp_poll.specs.Certificates.{asks_places, setting_words, text_of, HasRanges}

-- ---- the calls and the plan

-- The source was read to its end, and no read failed. What stands before the line that names the plan says these lists, and what
-- stands behind it this plan.
pub record WasReadWithPlan (callers : ℕ) (before after : Device) (lists : List (List Call)) (plan : List ℕ) : Type 0 where
  pub bytes : List ℕ
  pub all : WasAll before.bytes after.bytes bytes
  pub unfailed : after.faults ≡ before.faults
  pub within : length bytes ≤ 16777216
  pub says : IsTrace (parts_of bytes).trace callers lists
  pub plans : IsPlan (parts_of bytes).plan callers plan

-- nothing was read, the lists are made, and there is no plan
pub record WasMadeAlone (make : Make) (callers : ℕ) (before after : Device) (lists : List (List Call)) (plan : List ℕ) : Type 0 where
  pub made : WasMade make callers before after lists
  pub unplanned : plan ≡ []

abbrev pub HasInput : Option Make → ℕ → Device → Device → List (List Call) → List ℕ → Type 0
HasInput None callers before after lists plan = WasReadWithPlan callers before after lists plan
HasInput (Some make) callers before after lists plan = WasMadeAlone make callers before after lists plan

-- ---- what an answered replay by a plan says

-- The words say settings; the source, or the made trace, says each caller's calls, and the plan; the run of the chosen map answered
-- the calls, and its turns were made by the plan; and the text is that of the answers and of the map after the whole log, or, with
-- places, the certificate of the run's own log and lists.
pub record IsPolled (places : Bool) (words : List (List ℕ)) (before after : World) (answers : List (List Answer))
    (kept : Option RunView) : Type 0 where
  pub settings : Settings
  pub said_by : settings_of words ≡ Some settings
  pub lists : List (List Call)
  pub plan : List ℕ
  pub input : HasInput settings.make settings.callers before.source after.source lists plan
  pub run : RunView
  pub kept_is : kept ≡ Some run
  pub under : IsRunUnder settings lists answers run
  pub planned : IsPlanned (meaning_of settings.map) (sizes_of settings) settings.races plan under.opened lists run
  pub text : List ℕ
  pub text_is : text ≡ text_of places settings.make answers run
  pub ranges : HasRanges places run

-- everything was written, no write failed, and so many lines are full and lost
pub record IsWhole (places : Bool) (words : List (List ℕ)) (before after : World) (answers : List (List Answer))
    (kept : Option RunView) (full lost : ℕ) : Type 0 where
  pub polled : IsPolled places words before after answers kept
  pub written : Appends before.sink.bytes after.sink.bytes polled.text
  pub unfailed : after.sink.faults ≡ before.sink.faults
  pub full_are : count_all is_full answers ≡ full
  pub lost_are : count_all is_lost answers ≡ lost

-- a failure of the sink cut the output off
pub record IsCut (places : Bool) (words : List (List ℕ)) (before after : World) (answers : List (List Answer))
    (kept : Option RunView) : Type 0 where
  pub polled : IsPolled places words before after answers kept
  pub rose : Rose before.sink.faults after.sink.faults
  pub written : GrewByPrefix before.sink.bytes after.sink.bytes polled.text

-- ---- what a refused one says

-- no read failed, and a line of the trace is bad; this is the first one, with its cause
pub record HasBadLine (callers line : ℕ) (why : Why) (before after : Device) : Type 0 where
  pub bytes : List ℕ
  pub all : WasAll before.bytes after.bytes bytes
  pub unfailed : after.faults ≡ before.faults
  pub within : length bytes ≤ 16777216
  pub first : bad (parts_of bytes).trace callers ≡ Some (record { line = line; why = why })

-- no read failed, no line of the trace is bad, and a line of the plan is; this is the first one, counted over all lines
pub record HasBadPlan (callers line : ℕ) (why : PlanWhy) (before after : Device) : Type 0 where
  pub bytes : List ℕ
  pub all : WasAll before.bytes after.bytes bytes
  pub unfailed : after.faults ≡ before.faults
  pub within : length bytes ≤ 16777216
  pub good : bad (parts_of bytes).trace callers ≡ None
  pub first : bad_behind (parts_of bytes).lines (parts_of bytes).plan callers ≡ Some (record { line = line; why = why })

-- the words say settings, and there was an input; but the runner failed, and nothing was written
pub record WasNotRun (words : List (List ℕ)) (before after : World) (faults_before faults_after : ℕ) : Type 0 where
  pub settings : Settings
  pub said_by : settings_of words ≡ Some settings
  pub lists : List (List Call)
  pub plan : List ℕ
  pub input : HasInput settings.make settings.callers before.source after.source lists plan
  pub rose : Rose faults_before faults_after
  pub quiet : after.sink ≡ before.sink

-- ---- the ending

-- why a replay by a plan, with places or without, ended in this way
abbrev pub Cause : PolledWay → Bool → List (List ℕ) → World → World → ℕ → ℕ → List (List Answer) → Option RunView → Type 0
Cause (Ended way.Answered) places words before after f g answers kept = IsWhole places words before after answers kept 0 0
Cause (Ended (way.Partly full lost)) places words before after f g answers kept =
    IsWhole places words before after answers kept full lost × (0 < full + lost)
Cause (Ended way.BadWords) places words before after f g answers kept = (settings_of words ≡ None) × Untouched before after
Cause (Ended (way.BadLine line why)) places words before after f g answers kept =
    IsReading words before after (λ s. HasBadLine s.callers line why before.source after.source)
Cause (Ended way.Unread) places words before after f g answers kept =
    IsReading words before after (λ s. WasUnread before.source after.source)
Cause (Ended way.TooLong) places words before after f g answers kept =
    IsReading words before after (λ s. WasTooLong before.source after.source)
Cause (Ended way.Unwritten) places words before after f g answers kept = IsCut places words before after answers kept
Cause (Ended way.NoMemory) places words before after f g answers kept = HadNoMemory words before after
Cause (BadPlan line why) places words before after f g answers kept =
    IsReading words before after (λ s. HasBadPlan s.callers line why before.source after.source)
Cause NotRun places words before after f g answers kept = WasNotRun words before after f g

-- The ending of a replay by a plan: it ended in one way, by its cause, with its status, and its line was told. The words but the first
-- one `places` say the settings.
pub record IsEnding (words : List (List ℕ)) (before after : World) (faults_before faults_after : ℕ) (Told : List ℕ → Type 0)
    (ending : EndingView) : Type 0 where
  pub way : PolledWay
  pub status : ending.status ≡ status_of way
  pub cause : Cause way (asks_places words) (setting_words words) before after faults_before faults_after ending.answers ending.run
  pub told : Told (line_of way)

-- ---- completeness

-- The words say settings; with no made trace, the source has bytes that fit, whose trace and whose plan have no bad line; and
-- neither the source nor the sink nor the runner failed.
pub record IsGood (words : List (List ℕ)) (before after : World) (faults_before faults_after : ℕ) : Type 0 where
  pub settings : Settings
  pub said_by : settings_of (setting_words words) ≡ Some settings
  pub trace : settings.make ≡ None
      → (bytes : List ℕ) × (before.source.bytes ≡ Some bytes) × (length bytes ≤ 16777216)
      × (bad (parts_of bytes).trace settings.callers ≡ None)
      × (bad_behind (parts_of bytes).lines (parts_of bytes).plan settings.callers ≡ None)
  pub source : Rose before.source.faults after.source.faults → ⊥
  pub sink : Rose before.sink.faults after.sink.faults → ⊥
  pub runner : Rose faults_before faults_after → ⊥

-- all lines were answered or printed full or lost, or there was no memory
abbrev pub IsAnswered : ℕ → Type 0
IsAnswered status = (status ≡ 0) ⊎ ((status ≡ 6) ⊎ (status ≡ 5))
