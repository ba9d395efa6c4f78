-- What the ending of a replay means.
use Rattle.std.specs.Prelude.{◌≡◌, ℕ, ◌+◌, ◌*◌, ◌-◌, ◌/◌, ◌%◌, ◌≤◌, ◌<◌, ◌⊎◌, cond, nat_lt, List, length, Option, Some, None}
use Rattle.std.specs.Io.KnownBytes.{Appends}
use Rattle.pp_outside.specs.Outside.{Rose, WasAll, GrewByPrefix}
use Rattle.pp_devices.specs.declared.ways.Way.{Way}
use Rattle.pp_devices.specs.declared.ways.Way.TheVariants as way
use Rattle.pp_devices.specs.Devices.{Device, World, WasUnread, WasTooLong, Untouched}
use Rattle.pp_devices.specs.Ways.{status_of, line_of}
use Rattle.pp_model.specs.declared.Call.{Call}
use Rattle.pp_model.specs.declared.Answer.{Answer}
use Rattle.pp_model.specs.declared.Pair.{Pair}
use Rattle.pp_model.specs.Lists.{AtEach}
use Rattle.pp_model.specs.History.{contents_of}
use Rattle.pp_model.specs.Pass.{PassView, MapSizes, Meaning, RunView}
use Rattle.pp_model.specs.Plain.{plain_meaning}
use Rattle.pp_list.specs.Meant.{list_meaning}
use Rattle.pp_tree_turns.specs.Causes.{tree_meaning}
use Rattle.pp_trace.specs.declared.Make.{Make}
use Rattle.pp_trace.specs.declared.Why.{Why}
use Rattle.pp_trace.specs.Grammar.{bad}
use Rattle.pp_trace.specs.Text.{out, summary, count_all, is_full, is_lost}
use Rattle.pp_trace.specs.TraceLists.{IsTrace}
use Rattle.pp_trace.specs.MadeTrace.{IsMade}
use Rattle.pp_words.specs.declared.Settings.{Settings}
use Rattle.pp_words.specs.declared.Kind.{Kind}
use Rattle.pp_words.specs.declared.Kind.TheVariants as kind
use Rattle.pp_words.specs.Words.{settings_of}
use Rattle.pp_model.specs.Calls.{inserts}
use Rattle.pp_programs.specs.Causes.{IsReading, HadNoMemory}
use Rattle.pp_running.specs.Run.{IsRunOf}

-- what contracts see of an ending: its status, the callers' answers, and the run that was closed
pub record EndingView : Type 0 where
  pub status : ℕ
  pub answers : List (List Answer)
  pub run : Option RunView

-- ---- the chosen map

-- what the calls of a map mean by lost turns, causes and live records
abbrev pub meaning_of : Kind → Meaning
meaning_of kind.Plain = plain_meaning
meaning_of kind.List = list_meaning
meaning_of kind.Hash = list_meaning
meaning_of kind.Tree = tree_meaning

abbrev pub heads_of : Settings → Kind → ℕ
heads_of s kind.Plain = 0
heads_of s kind.List = 1
heads_of s kind.Hash = s.buckets
heads_of s kind.Tree = 1

abbrev pub sizes_of : Settings → MapSizes
sizes_of s = record { passes = s.callers; records = s.records; heads = heads_of s s.map }

-- the records of a map that aren't sentinels
abbrev pub dealt : Kind → MapSizes → ℕ
dealt kind.Plain z = z.records
dealt kind.List z = z.records
dealt kind.Hash z = z.records
dealt kind.Tree z = z.records - 5

-- the share of caller c in a map of these sizes: the records are dealt evenly, and the first callers have one more where they
-- don't divide
abbrev pub share_of : Kind → MapSizes → ℕ → ℕ
share_of map z c = dealt map z / z.passes + cond (nat_lt c (dealt map z % z.passes)) 1 0

-- ---- the calls

-- the source was read to its end, no read failed, and its bytes say these lists
pub record WasRead (callers : ℕ) (before after : Device) (lists : List (List Call)) : Type 0 where
  pub bytes : List ℕ
  pub all : WasAll before.bytes after.bytes bytes
  pub unfailed : after.faults ≡ before.faults
  pub within : length bytes ≤ 16777216
  pub says : IsTrace bytes callers lists

-- nothing was read, and the lists are made
pub record WasMade (make : Make) (callers : ℕ) (before after : Device) (lists : List (List Call)) : Type 0 where
  pub unread : after ≡ before
  pub makes : IsMade make.seed make.lines callers lists

abbrev pub HasCalls : Option Make → ℕ → Device → Device → List (List Call) → Type 0
HasCalls None callers before after lists = WasRead callers before after lists
HasCalls (Some make) callers before after lists = WasMade make callers before after lists

-- ---- what an answered replay says

abbrev pub output : Option Make → List (List Answer) → List Pair → List ℕ
output None answers contents = out answers contents
output (Some make) answers contents = summary make.lines answers contents

-- The calls of these lists were answered by a run of the map that the settings choose. The views from which the calls' causes are
-- told start with the shares that the sizes of the closed map give.
pub record IsRunUnder (settings : Settings) (lists : List (List Call)) (answers : List (List Answer)) (run : RunView) : Type 0 where
  pub opened : List PassView
  pub shares : AtEach opened (λ c pass. pass.share ≡ share_of settings.map run.sizes c)
  pub ran : IsRunOf (meaning_of settings.map) (sizes_of settings) settings.races opened lists answers run
  -- no line is full where each caller's share is at least the records that its inserts need
  pub none_full : AtEach lists (λ c calls. (meaning_of settings.map).need * inserts calls ≤ share_of settings.map run.sizes c)
      → count_all is_full answers ≡ 0
  -- with one caller no line is lost
  pub none_lost : settings.callers ≡ 1 → count_all is_lost answers ≡ 0

-- The words say settings; the source, or the made trace, says each caller's calls; the run of the chosen map
-- answered them; and the text is that of the answers and of the map after the whole log.
pub record IsReplay (words : List (List ℕ)) (before after : World) (answers : List (List Answer)) (kept : Option RunView) : Type 0 where
  pub settings : Settings
  pub said_by : settings_of words ≡ Some settings
  pub lists : List (List Call)
  pub calls : HasCalls settings.make settings.callers before.source after.source lists
  pub run : RunView
  pub kept_is : kept ≡ Some run
  pub under : IsRunUnder settings lists answers run
  pub text : List ℕ
  pub text_is : text ≡ output settings.make answers (contents_of run.log)

-- everything was written, no write failed, and so many lines are full and lost
pub record IsWhole (words : List (List ℕ)) (before after : World) (answers : List (List Answer)) (kept : Option RunView)
    (full lost : ℕ) : Type 0 where
  pub replay : IsReplay words before after answers kept
  pub written : Appends before.sink.bytes after.sink.bytes replay.text
  pub unfailed : after.sink.faults ≡ before.sink.faults
  pub full_are : count_all is_full answers ≡ full
  pub lost_are : count_all is_lost answers ≡ lost

-- a failure of the sink cut the output off
pub record IsCut (words : List (List ℕ)) (before after : World) (answers : List (List Answer)) (kept : Option RunView) : Type 0 where
  pub replay : IsReplay words before after answers kept
  pub rose : Rose before.sink.faults after.sink.faults
  pub written : GrewByPrefix before.sink.bytes after.sink.bytes replay.text

-- ---- what a refused replay says

-- no read failed, and a line of the trace is bad; this is the first one, with its cause
pub record HasBadLine (callers line : ℕ) (why : Why) (before after : Device) : Type 0 where
  pub bytes : List ℕ
  pub all : WasAll before.bytes after.bytes bytes
  pub unfailed : after.faults ≡ before.faults
  pub within : length bytes ≤ 16777216
  pub first : bad bytes callers ≡ Some (record { line = line; why = why })

-- ---- the ending

-- why a replay ended in this way
abbrev pub Cause : Way → List (List ℕ) → World → World → List (List Answer) → Option RunView → Type 0
Cause way.Answered words before after answers kept = IsWhole words before after answers kept 0 0
Cause (way.Partly full lost) words before after answers kept = IsWhole words before after answers kept full lost × (0 < full + lost)
Cause way.BadWords words before after answers kept = (settings_of words ≡ None) × Untouched before after
Cause (way.BadLine line why) words before after answers kept =
    IsReading words before after (λ s. HasBadLine s.callers line why before.source after.source)
Cause way.Unread words before after answers kept = IsReading words before after (λ s. WasUnread before.source after.source)
Cause way.TooLong words before after answers kept =
    IsReading words before after (λ s. WasTooLong before.source after.source)
Cause way.Unwritten words before after answers kept = IsCut words before after answers kept
Cause way.NoMemory words before after answers kept = HadNoMemory words before after

-- The ending of a replay: it ended in one way, by its cause, with its status, and its line was told.
pub record IsEnding (words : List (List ℕ)) (before after : World) (Told : List ℕ → Type 0) (ending : EndingView) : Type 0 where
  pub way : Way
  pub status : ending.status ≡ status_of way
  pub cause : Cause way words before after ending.answers ending.run
  pub told : Told (line_of way)

-- ---- completeness

-- The words say settings; with no made trace, the source has bytes that fit and have no bad line; and neither the source nor
-- the sink failed.
pub record IsGood (words : List (List ℕ)) (before after : World) : Type 0 where
  pub settings : Settings
  pub said_by : settings_of words ≡ Some settings
  pub trace : settings.make ≡ None
      → (bytes : List ℕ) × (before.source.bytes ≡ Some bytes) × (length bytes ≤ 16777216) × (bad bytes settings.callers ≡ None)
  pub source : Rose before.source.faults after.source.faults → ⊥
  pub sink : Rose before.sink.faults after.sink.faults → ⊥

-- all lines were answered or printed full or lost, or there was no memory
abbrev pub IsAnswered : ℕ → Type 0
IsAnswered status = (status ≡ 0) ⊎ ((status ≡ 6) ⊎ (status ≡ 5))
