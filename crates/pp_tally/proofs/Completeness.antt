-- Where nothing fails and nothing is wrong, a tally counts its input.
use Rattle.std.proofs.Common.{ℕ, List, refl, inl, inr, arith}
use Rattle.pp_outside.specs.Outside.{GaveMore}
use Rattle.pp_devices.specs.declared.ways.Way.{Way}
use Rattle.pp_devices.specs.declared.ways.Way.TheVariants as way
use Rattle.pp_devices.specs.Devices.{World}
use Rattle.pp_devices.specs.Ways.{status_of}
use Rattle.pp_programs.proofs.Given.{gave_part}
use Rattle.pp_tally.specs.Tally.{TallyView, Cause, IsGood, IsAnswered}

module _ (words : List (List ℕ)) (before after : World) (tally : TallyView) (good : IsGood words before after) where
  not_too_long : GaveMore 16777216 before.source.bytes after.source.bytes → ⊥
  not_too_long gave =
      let few = gave_part before.source.bytes after.source.bytes good.bytes gave.bytes good.tells gave.consumed in
      absurd (omega (arith, few, gave.many, good.within))

  pub complete : (w : Way) → Cause w words before after tally → IsAnswered (status_of w)
  complete way.Answered cause = inl refl
  complete way.NoMemory cause = inr refl
  complete way.BadWords cause = absurd (cause.none good.settings good.said_by)
  complete way.Unread cause = absurd (good.source cause.came.rose)
  complete way.TooLong cause = absurd (not_too_long cause.came.gave)
  complete way.Unwritten cause = absurd (good.sink cause.rose)
  complete (way.Partly full lost) cause = absurd cause
  complete (way.BadLine line why) cause = absurd cause
