-- What the ending of a queue's replay means.
use Rattle.std.specs.Prelude.{◌≡◌, ℕ, ◌+◌, ◌≤◌, ◌<◌, ◌⊎◌, List, ◌∷◌, length, Option, Some, None, codes}
use Rattle.std.specs.Io.KnownBytes.{Appends}
use Rattle.pp_outside.specs.Outside.{Rose, WasAll, GrewByPrefix}
use Rattle.pp_devices.specs.declared.ways.Way.{Way}
use Rattle.pp_devices.specs.declared.ways.Way.TheVariants as way
use Rattle.pp_devices.specs.Devices.{Device, World, WasUnread, WasTooLong}
use Rattle.pp_devices.specs.Ways.{status_of, line_of}
use Rattle.pp_model.specs.Lists.{AtEach}
use Rattle.pp_rule.specs.Opening.{share_of}
use Rattle.pp_trace.specs.declared.Why.{Why}
use Rattle.pp_trace.specs.Text.{count_all}
use Rattle.pp_words.specs.declared.Settings.{Settings}
use Rattle.pp_programs.specs.Causes.{Says, IsReading, IsRefused, HadNoMemory}
use Rattle.pp_queues.specs.declared.calls.QueueAnswer.{QueueAnswer}
use Rattle.pp_queues.specs.declared.calls.QueueCall.{QueueCall}
use Rattle.pp_queues.specs.Calls.{QueuePassView}
use Rattle.pp_queues.specs.Queue.{items_of}
use Rattle.pp_queue.specs.Closings.{QueueRun}
use Rattle.pp_queue.specs.Passes.{queue_sizes}
use Rattle.pp_queue_replay.specs.Grammar.{bad, IsTrace}
use Rattle.pp_queue_replay.specs.Runs.{IsRunOf, puts}
use Rattle.pp_queue_replay.specs.Text.{out, is_full, is_lost}

-- what contracts see of an ending: its status, the callers' answers, and the run that was closed
pub record EndingView : Type 0 where
  pub status : ℕ
  pub answers : List (List QueueAnswer)
  pub run : Option QueueRun

-- the words are read as those of a replay on a list
abbrev pub and_list : List (List ℕ) → List (List ℕ)
and_list words = codes "--map" ∷ codes "list" ∷ words

-- ---- the calls

-- the source was read to its end, no read failed, and its bytes say these lists
pub record WasRead (callers : ℕ) (before after : Device) (lists : List (List QueueCall)) : Type 0 where
  pub bytes : List ℕ
  pub all : WasAll before.bytes after.bytes bytes
  pub unfailed : after.faults ≡ before.faults
  pub within : length bytes ≤ 16777216
  pub says : IsTrace bytes callers lists

-- no read failed, and a line of the trace is bad; this is the first one, with its cause
pub record HasBadLine (callers line : ℕ) (why : Why) (before after : Device) : Type 0 where
  pub bytes : List ℕ
  pub all : WasAll before.bytes after.bytes bytes
  pub unfailed : after.faults ≡ before.faults
  pub within : length bytes ≤ 16777216
  pub first : bad bytes callers ≡ Some (record { line = line; why = why })

-- ---- what an answered replay says

-- The calls of these lists were answered by a run of a queue of the settings' sizes, which left these items. The views from which
-- the calls' causes are told start with the shares that the sizes give.
pub record IsRunUnder (settings : Settings) (lists : List (List QueueCall)) (answers : List (List QueueAnswer)) (items : List ℕ)
    (run : QueueRun) : Type 0 where
  pub opened : List QueuePassView
  pub shares : AtEach opened (λ c pass. pass.share ≡ share_of 1 run.sizes c)
  pub ran : IsRunOf (queue_sizes settings.callers settings.records) settings.races opened lists answers items run
  -- no line is full where each caller's share is at least the number of its puts
  pub none_full : AtEach lists (λ c calls. puts calls ≤ share_of 1 run.sizes c) → count_all is_full answers ≡ 0
  -- no line is lost where there is one caller
  pub none_lost : settings.callers ≡ 1 → count_all is_lost answers ≡ 0

-- The words say settings; the source says each caller's calls; a run of a queue answered them; and the text is that of the answers
-- and of the items after the whole log.
pub record IsReplay (words : List (List ℕ)) (before after : World) (answers : List (List QueueAnswer))
    (kept : Option QueueRun) : Type 0 where
  pub settings : Settings
  pub said_by : Says (and_list words) settings
  pub lists : List (List QueueCall)
  pub calls : WasRead settings.callers before.source after.source lists
  pub run : QueueRun
  pub kept_is : kept ≡ Some run
  pub under : IsRunUnder settings lists answers (items_of run.log) run
  pub text : List ℕ
  pub text_is : text ≡ out answers (items_of run.log)

-- everything was written, no write failed, and so many lines are full and lost
pub record IsWhole (words : List (List ℕ)) (before after : World) (answers : List (List QueueAnswer)) (kept : Option QueueRun)
    (full lost : ℕ) : Type 0 where
  pub replay : IsReplay words before after answers kept
  pub written : Appends before.sink.bytes after.sink.bytes replay.text
  pub unfailed : after.sink.faults ≡ before.sink.faults
  pub full_are : count_all is_full answers ≡ full
  pub lost_are : count_all is_lost answers ≡ lost

-- a failure of the sink cut the output off
pub record IsCut (words : List (List ℕ)) (before after : World) (answers : List (List QueueAnswer)) (kept : Option QueueRun) : Type 0 where
  pub replay : IsReplay words before after answers kept
  pub rose : Rose before.sink.faults after.sink.faults
  pub written : GrewByPrefix before.sink.bytes after.sink.bytes replay.text

-- ---- the ending

-- why a replay ended in this way
abbrev pub Cause : Way → List (List ℕ) → World → World → List (List QueueAnswer) → Option QueueRun → Type 0
Cause way.Answered words before after answers kept = IsWhole words before after answers kept 0 0
Cause (way.Partly full lost) words before after answers kept = IsWhole words before after answers kept full lost × (0 < full + lost)
Cause way.BadWords words before after answers kept = IsRefused (and_list words) before after
Cause (way.BadLine line why) words before after answers kept =
    IsReading (and_list words) before after (λ s. HasBadLine s.callers line why before.source after.source)
Cause way.Unread words before after answers kept = IsReading (and_list words) before after (λ s. WasUnread before.source after.source)
Cause way.TooLong words before after answers kept =
    IsReading (and_list words) before after (λ s. WasTooLong before.source after.source)
Cause way.Unwritten words before after answers kept = IsCut words before after answers kept
Cause way.NoMemory words before after answers kept = HadNoMemory (and_list words) before after

-- The ending of a replay: it ended in one way, by its cause, with its status, and its line was told.
pub record IsEnding (words : List (List ℕ)) (before after : World) (Told : List ℕ → Type 0) (ending : EndingView) : Type 0 where
  pub way : Way
  pub status : ending.status ≡ status_of way
  pub cause : Cause way words before after ending.answers ending.run
  pub told : Told (line_of way)

-- ---- completeness

-- The words say settings; the source has bytes that fit and have no bad line; and neither the source nor the sink failed.
pub record IsGood (words : List (List ℕ)) (before after : World) : Type 0 where
  pub settings : Settings
  pub said_by : Says (and_list words) settings
  pub bytes : List ℕ
  pub tells : before.source.bytes ≡ Some bytes
  pub within : length bytes ≤ 16777216
  pub good : bad bytes settings.callers ≡ None
  pub source : Rose before.source.faults after.source.faults → ⊥
  pub sink : Rose before.sink.faults after.sink.faults → ⊥

-- all lines were answered or printed full or lost, or there was no memory
abbrev pub IsAnswered : ℕ → Type 0
IsAnswered status = (status ≡ 0) ⊎ ((status ≡ 6) ⊎ (status ≡ 5))
