-- What the ending of a tally means.
use Rattle.std.specs.Prelude.{◌≡◌, ℕ, ◌*◌, ◌≤◌, ◌<◌, ◌⊎◌, List, length, Option, Some, None}
use Rattle.std.specs.Io.KnownBytes.{Appends}
use Rattle.pp_outside.specs.Outside.{Rose, WasAll, GrewByPrefix}
use Rattle.pp_devices.specs.declared.ways.Way.{Way}
use Rattle.pp_devices.specs.declared.ways.Way.TheVariants as way
use Rattle.pp_devices.specs.Devices.{Device, World, WasUnread, WasTooLong}
use Rattle.pp_devices.specs.Ways.{status_of, line_of}
use Rattle.pp_model.specs.declared.Answer.{Answer}
use Rattle.pp_model.specs.History.{contents_of}
use Rattle.pp_model.specs.Pass.{RunView}
use Rattle.pp_trace.specs.Text.{count_all, is_full}
use Rattle.pp_words.specs.declared.Settings.{Settings}
use Rattle.pp_programs.specs.Causes.{Says, IsReading, IsRefused, HadNoMemory}
use Rattle.pp_pieces.specs.Claims.{all_claims}
use Rattle.pp_pieces.specs.Pieces.{pieces_of}
use Rattle.pp_claims.specs.Claimed.{AreOwned, AreCounted}
use Rattle.pp_replay.specs.Replay.{IsRunUnder, meaning_of, share_of}
use Rattle.pp_tally.specs.Text.{tally_text}

-- what contracts see of a tally: the answers to the callers' claims, each caller's counts of the pieces that it owns, the counts of the
-- pieces left over, and the run of the map that was closed
pub record TallyView : Type 0 where
  pub answers : List (List Answer)
  pub counts : List (List ℕ)
  pub rest : List ℕ
  pub run : Option RunView

abbrev pub tally_view : List (List Answer) → List (List ℕ) → List ℕ → Option RunView → TallyView
tally_view answers counts rest run = record { answers = answers; counts = counts; rest = rest; run = run }

-- what they see of its ending
pub record TalliedView : Type 0 where
  pub status : ℕ
  pub tally : TallyView

-- the source was read to its end, no read failed, and these are its bytes
pub record WasRead (before after : Device) (bytes : List ℕ) : Type 0 where
  pub all : WasAll before.bytes after.bytes bytes
  pub unfailed : after.faults ≡ before.faults
  pub within : length bytes ≤ 16777216

-- ---- what an ended tally says

-- The words say settings, and the source says bytes. Each caller claimed each of their pieces in its order, and the run of the chosen
-- map answered the claims: each piece is owned by one caller or left over, and was counted there.
pub record IsTally (words : List (List ℕ)) (before after : World) (tally : TallyView) : Type 0 where
  pub settings : Settings
  pub said_by : Says words settings
  pub bytes : List ℕ
  pub read : WasRead before.source after.source bytes
  pub run : RunView
  pub run_is : tally.run ≡ Some run
  pub under : IsRunUnder settings (all_claims settings.callers (pieces_of (length bytes))) tally.answers run
  pub owned : AreOwned (pieces_of (length bytes)) (all_claims settings.callers (pieces_of (length bytes))) tally.answers
      (contents_of run.log)
  pub counted : AreCounted bytes (pieces_of (length bytes)) (all_claims settings.callers (pieces_of (length bytes))) tally.answers
      tally.counts tally.rest
  -- no claim is full where each share has the records that inserts of all pieces need
  pub none_full : ((c : ℕ) → c < settings.callers
      → (meaning_of settings.map).need * pieces_of (length bytes) ≤ share_of settings.map run.sizes c)
      → count_all is_full tally.answers ≡ 0

-- everything was written: the counts of the bytes, whatever the number of callers; and no write failed
pub record IsWhole (words : List (List ℕ)) (before after : World) (tally : TallyView) : Type 0 where
  pub is_tally : IsTally words before after tally
  pub written : Appends before.sink.bytes after.sink.bytes (tally_text is_tally.bytes)
  pub unfailed : after.sink.faults ≡ before.sink.faults

-- a failure of the sink cut the output off
pub record IsCut (words : List (List ℕ)) (before after : World) (tally : TallyView) : Type 0 where
  pub is_tally : IsTally words before after tally
  pub rose : Rose before.sink.faults after.sink.faults
  pub written : GrewByPrefix before.sink.bytes after.sink.bytes (tally_text is_tally.bytes)

-- ---- the ending

-- why a tally ended in this way
abbrev pub Cause : Way → List (List ℕ) → World → World → TallyView → Type 0
Cause way.Answered words before after tally = IsWhole words before after tally
Cause way.BadWords words before after tally = IsRefused words before after
Cause way.Unread words before after tally = IsReading words before after (λ s. WasUnread before.source after.source)
Cause way.TooLong words before after tally = IsReading words before after (λ s. WasTooLong before.source after.source)
Cause way.Unwritten words before after tally = IsCut words before after tally
Cause way.NoMemory words before after tally = HadNoMemory words before after
Cause _ words before after tally = ⊥

-- The ending of a tally: it ended in one way, by its cause, with its status, and its line was told.
pub record IsTallied (words : List (List ℕ)) (before after : World) (Told : List ℕ → Type 0) (tallied : TalliedView) : Type 0 where
  pub way : Way
  pub status : tallied.status ≡ status_of way
  pub cause : Cause way words before after tallied.tally
  pub told : Told (line_of way)

-- ---- completeness

-- the words say settings, the source has bytes that fit, and neither the source nor the sink failed
pub record IsGood (words : List (List ℕ)) (before after : World) : Type 0 where
  pub settings : Settings
  pub said_by : Says words settings
  pub bytes : List ℕ
  pub tells : before.source.bytes ≡ Some bytes
  pub within : length bytes ≤ 16777216
  pub source : Rose before.source.faults after.source.faults → ⊥
  pub sink : Rose before.sink.faults after.sink.faults → ⊥

-- everything was counted and written, or there was no memory
abbrev pub IsAnswered : ℕ → Type 0
IsAnswered status = (status ≡ 0) ⊎ (status ≡ 5)
