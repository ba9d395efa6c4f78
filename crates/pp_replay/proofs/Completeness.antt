-- Where nothing fails and nothing is wrong, a replay answers its lines.
use Rattle.std.proofs.Common.{◌≡◌, ℕ, List, refl, sym, ap, ap₂, ◌∙◌, inl, inr, arith}
use Rattle.std.specs.Prelude.{Option, Some, None}
use Rattle.pp_outside.specs.Outside.{GaveMore}
use Rattle.pp_model.specs.declared.Answer.{Answer}
use Rattle.pp_model.specs.Pass.{RunView}
use Rattle.pp_trace.specs.declared.Why.{Why}
use Rattle.pp_trace.specs.Grammar.{bad}
use Rattle.pp_words.specs.declared.Settings.{Settings}
use Rattle.pp_words.specs.Words.{settings_of}
use Rattle.pp_devices.specs.declared.ways.Way.{Way}
use Rattle.pp_devices.specs.declared.ways.Way.TheVariants as way
use Rattle.pp_devices.specs.Devices.{World}
use Rattle.pp_devices.specs.Ways.{status_of}
use Rattle.pp_programs.proofs.Given.{gave_all, gave_part}
use Rattle.pp_replay.specs.Replay.{Cause, HasBadLine, IsGood, IsAnswered}

module _ (words : List (List ℕ)) (before after : World) (answers : List (List Answer)) (kept : Option RunView)
    (good : IsGood words before after) where
  same_settings : (settings : Settings) → settings_of words ≡ Some settings → settings ≡ good.settings
  same_settings settings said = let mine = good.said_by in cc

  no_bad_line : (settings : Settings) (line : ℕ) (why : Why) → settings_of words ≡ Some settings → settings.make ≡ None
      → HasBadLine settings.callers line why before.source after.source → ⊥
  no_bad_line settings line why said reads found =
      let same = same_settings settings said in
      let told = good.trace (ap (λ s. s.make) (sym same) ∙ reads) in
      let own = gave_all before.source.bytes after.source.bytes told.0 found.bytes told.1 found.all in
      let none : bad found.bytes settings.callers ≡ None =
      ap₂ (λ (text : List ℕ) (n : ℕ). bad text n) (sym own) (ap (λ s. s.callers) same) ∙ told.3 in
      let first = found.first in
      absurd cc

  not_too_long : (settings : Settings) → settings_of words ≡ Some settings → settings.make ≡ None
      → GaveMore 16777216 before.source.bytes after.source.bytes → ⊥
  not_too_long settings said reads gave =
      let same = same_settings settings said in
      let told = good.trace (ap (λ s. s.make) (sym same) ∙ reads) in
      absurd (omega (arith, gave_part before.source.bytes after.source.bytes told.0 gave.bytes told.1 gave.consumed, gave.many, told.2))

  pub complete : (w : Way) → Cause w words before after answers kept → IsAnswered (status_of w)
  complete way.Answered cause = inl refl
  complete (way.Partly full lost) cause = inr (inl refl)
  complete way.BadWords cause = absurd (let said = good.said_by in let none = cause.0 in cc)
  complete (way.BadLine line why) cause = absurd (no_bad_line cause.settings line why cause.said_by.settings cause.said_by.reads cause.came)
  complete way.Unread cause = absurd (good.source cause.came.rose)
  complete way.TooLong cause = absurd (not_too_long cause.settings cause.said_by.settings cause.said_by.reads cause.came.gave)
  complete way.Unwritten cause = absurd (good.sink cause.rose)
  complete way.NoMemory cause = inr (inr refl)
