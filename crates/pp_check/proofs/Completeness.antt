-- Where nothing fails and the source isn't too long, a judgement prints a verdict.
use Rattle.std.proofs.Common.{◌≡◌, ℕ, ◌≤◌, List, length, refl, ap, inl, inr, arith, length-append}
use Rattle.std.specs.Prelude.{Option, Some, None}
use Rattle.std.specs.Io.KnownBytes.{Consumes}
use Rattle.pp_check.specs.declared.Verdict.TheVariants as verdict
use Rattle.pp_check.specs.declared.judging.Way.{Way}
use Rattle.pp_check.specs.declared.judging.Way.TheVariants.{Judged, Unread, TooLong, Unwritten, NoMemory}
use Rattle.pp_outside.specs.Outside.{Rose}
use Rattle.pp_devices.specs.Devices.{Device}
use Rattle.pp_check.specs.Judging.{Cause, IsGood, IsJudgedOrNot, status_of}

gave_part : (old new : Option (List ℕ)) (own bytes : List ℕ) → old ≡ Some own → Consumes old new bytes → length bytes ≤ length own
gave_part None new own bytes tells gave = absurd cc
gave_part (Some xs) None own bytes tells gave = absurd gave
gave_part (Some xs) (Some ys) own bytes tells gave =
    let same : xs ≡ own = cc in
    omega (arith, length-append bytes ys, ap length gave, ap length same)

-- where the sink has a fault only by its count, one that cut a line off raised it
pub complete : (before after : Device) (sink_before sink_after : ℕ) (Quiet : Type 0) (Whole Cut : List ℕ → Type 0)
    → ((line : List ℕ) → Cut line → Rose sink_before sink_after) → IsGood before after sink_before sink_after
    → (way : Way) → Cause way before after Quiet Whole Cut → IsJudgedOrNot (status_of way)
complete before after sb sa Quiet Whole Cut rose good (Judged verdict.Yes) cause = inl refl
complete before after sb sa Quiet Whole Cut rose good (Judged (verdict.BadLine line)) cause = inr (inl refl)
complete before after sb sa Quiet Whole Cut rose good (Judged (verdict.Unsound change)) cause = inr (inr (inl refl))
complete before after sb sa Quiet Whole Cut rose good (Judged (verdict.Misplaced caller number)) cause = inr (inr (inr (inl refl)))
complete before after sb sa Quiet Whole Cut rose good Unread cause = absurd (good.source (cause.0).rose)
complete before after sb sa Quiet Whole Cut rose good TooLong cause =
    let long = (cause.0).gave in
    absurd (omega (arith, gave_part before.bytes after.bytes good.bytes long.bytes good.has long.consumed, long.many, good.few))
complete before after sb sa Quiet Whole Cut rose good Unwritten cause = absurd (good.sink (rose _ cause.cut))
complete before after sb sa Quiet Whole Cut rose good NoMemory cause = inr (inr (inr (inr refl)))
