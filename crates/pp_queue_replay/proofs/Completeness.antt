-- Where nothing fails and nothing is wrong, a queue's replay answers its lines.
use Rattle.std.proofs.Common.{◌≡◌, ℕ, List, refl, sym, ap, ap₂, ◌∙◌, inl, inr, arith}
use Rattle.std.specs.Prelude.{Option, Some, None}
use Rattle.pp_outside.specs.Outside.{GaveMore}
use Rattle.pp_devices.specs.declared.ways.Way.{Way}
use Rattle.pp_devices.specs.declared.ways.Way.TheVariants as way
use Rattle.pp_devices.specs.Devices.{World}
use Rattle.pp_devices.specs.Ways.{status_of}
use Rattle.pp_trace.specs.declared.Why.{Why}
use Rattle.pp_words.specs.declared.Settings.{Settings}
use Rattle.pp_programs.specs.Causes.{Says}
use Rattle.pp_programs.proofs.Given.{gave_all, gave_part}
use Rattle.pp_queues.specs.declared.calls.QueueAnswer.{QueueAnswer}
use Rattle.pp_queue.specs.Closings.{QueueRun}
use Rattle.pp_queue_replay.specs.Grammar.{bad}
use Rattle.pp_queue_replay.specs.Replay.{Cause, HasBadLine, IsGood, IsAnswered, and_list}

module _ (words : List (List ℕ)) (before after : World) (answers : List (List QueueAnswer)) (kept : Option QueueRun)
    (good : IsGood words before after) where
  same_settings : (settings : Settings) → Says (and_list words) settings → settings ≡ good.settings
  same_settings settings said = let mine = good.said_by.settings in let own = said.settings in cc

  no_bad_line : (settings : Settings) (line : ℕ) (why : Why) → Says (and_list words) settings
      → HasBadLine settings.callers line why before.source after.source → ⊥
  no_bad_line settings line why said found =
      let same = same_settings settings said in
      let own = gave_all before.source.bytes after.source.bytes good.bytes found.bytes good.tells found.all in
      let none : bad found.bytes settings.callers ≡ None =
      ap₂ (λ (text : List ℕ) (n : ℕ). bad text n) (sym own) (ap (λ s. s.callers) same) ∙ good.good in
      let first = found.first in
      absurd cc

  not_too_long : GaveMore 16777216 before.source.bytes after.source.bytes → ⊥
  not_too_long gave =
      absurd (omega (
        arith,
        gave_part before.source.bytes after.source.bytes good.bytes gave.bytes good.tells gave.consumed,
        gave.many,
        good.within,
      ))

  pub complete : (w : Way) → Cause w words before after answers kept → IsAnswered (status_of w)
  complete way.Answered cause = inl refl
  complete (way.Partly full lost) cause = inr (inl refl)
  complete way.BadWords cause = absurd (cause.none good.settings good.said_by)
  complete (way.BadLine line why) cause = absurd (no_bad_line cause.settings line why cause.said_by cause.came)
  complete way.Unread cause = absurd (good.source cause.came.rose)
  complete way.TooLong cause = absurd (not_too_long cause.came.gave)
  complete way.Unwritten cause = absurd (good.sink cause.rose)
  complete way.NoMemory cause = inr (inr refl)
