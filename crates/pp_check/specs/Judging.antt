-- How a judgement ends.
use Rattle.std.specs.Prelude.{◌≡◌, ℕ, ◌≤◌, ◌⊎◌, List, [], ◌++◌, length, Some, codes}
use Rattle.std.specs.Fmt.{decimal}
use Rattle.pp_outside.specs.Outside.{Rose, WasAll}
use Rattle.pp_devices.specs.Devices.{Device, WasUnread, WasTooLong}
use Rattle.pp_check.specs.declared.Verdict.{Verdict}
use Rattle.pp_check.specs.declared.Verdict.TheVariants as verdict
use Rattle.pp_check.specs.declared.judging.Way.{Way}
use Rattle.pp_check.specs.declared.judging.Way.TheVariants.{Judged, Unread, TooLong, Unwritten, NoMemory}
use Rattle.pp_check.specs.Verdicts.{IsVerdict}

-- ---- texts

-- the line that is printed for a verdict
abbrev pub verdict_line : Verdict → List ℕ
verdict_line verdict.Yes = codes "yes\n"
verdict_line (verdict.BadLine line) = codes "no: line " ++ decimal line ++ codes "\n"
verdict_line (verdict.Unsound change) = codes "no: change " ++ decimal change ++ codes "\n"
verdict_line (verdict.Misplaced caller number) = codes "no: call " ++ decimal caller ++ codes " " ++ decimal number ++ codes "\n"

abbrev pub verdict_status : Verdict → ℕ
verdict_status verdict.Yes = 0
verdict_status (verdict.BadLine line) = 10
verdict_status (verdict.Unsound change) = 11
verdict_status (verdict.Misplaced caller number) = 12

abbrev pub status_of : Way → ℕ
status_of (Judged v) = verdict_status v
status_of Unread = 3
status_of Unwritten = 4
status_of NoMemory = 5
status_of TooLong = 7

-- the line that tells a way without a verdict
abbrev pub line_of : Way → List ℕ
line_of (Judged v) = []
line_of Unread = codes "read: failed\n"
line_of Unwritten = codes "write: failed\n"
line_of NoMemory = codes "memory: refused\n"
line_of TooLong = codes "trace: longer than 16777216 bytes\n"

-- ---- causes

-- the source was read to its end, no read failed, and this is the verdict on its bytes
pub record WasJudged (before after : Device) (v : Verdict) : Type 0 where
  pub bytes : List ℕ
  pub all : WasAll before.bytes after.bytes bytes
  pub unfailed : after.faults ≡ before.faults
  pub within : length bytes ≤ 16777216
  pub right : IsVerdict bytes v

-- a verdict was found, and its line cut off by a failure of the sink
pub record WasCut (before after : Device) (Cut : List ℕ → Type 0) : Type 0 where
  pub verdict : Verdict
  pub judged : WasJudged before after verdict
  pub cut : Cut (verdict_line verdict)

-- Why a judgement ended in this way: of a source as it was and is, of a sink that is as it was (Quiet), to which a line was written
-- whole (Whole), or cut off (Cut).
abbrev pub Cause : Way → Device → Device → Type 0 → (List ℕ → Type 0) → (List ℕ → Type 0) → Type 0
Cause (Judged v) before after Quiet Whole Cut = WasJudged before after v × Whole (verdict_line v)
Cause Unread before after Quiet Whole Cut = WasUnread before after × Quiet
Cause TooLong before after Quiet Whole Cut = WasTooLong before after × Quiet
Cause Unwritten before after Quiet Whole Cut = WasCut before after Cut
Cause NoMemory before after Quiet Whole Cut = (after.faults ≡ before.faults) × Quiet

-- The ending of a judgement: it ended in one way, by its cause, with its status, and its line was told.
pub record IsJudgement (status : ℕ) (before after : Device) (Quiet : Type 0) (Whole Cut Told : List ℕ → Type 0) : Type 0 where
  pub way : Way
  pub status_is : status ≡ status_of way
  pub cause : Cause way before after Quiet Whole Cut
  pub told : Told (line_of way)

-- ---- completeness

-- the source has bytes that fit, and neither it nor the sink failed
pub record IsGood (before after : Device) (sink_before sink_after : ℕ) : Type 0 where
  pub bytes : List ℕ
  pub has : before.bytes ≡ Some bytes
  pub few : length bytes ≤ 16777216
  pub source : Rose before.faults after.faults → ⊥
  pub sink : Rose sink_before sink_after → ⊥

-- a verdict was printed, or there was no memory
abbrev pub IsJudgedOrNot : ℕ → Type 0
IsJudgedOrNot status = (status ≡ 0) ⊎ ((status ≡ 10) ⊎ ((status ≡ 11) ⊎ ((status ≡ 12) ⊎ (status ≡ 5))))
