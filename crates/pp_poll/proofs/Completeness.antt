-- Where nothing fails and nothing is wrong, a replay by a plan answers its lines.
use Rattle.std.proofs.Common.{◌≡◌, ℕ, List, refl, sym, ap, ap₂, ◌∙◌, inl, inr, arith}
use Rattle.std.specs.Prelude.{Option, Some, None}
use Rattle.pp_outside.specs.Outside.{GaveMore}
use Rattle.pp_model.specs.declared.Answer.{Answer}
use Rattle.pp_model.specs.Pass.{RunView}
use Rattle.pp_trace.specs.declared.Why.{Why}
use Rattle.pp_trace.specs.Grammar.{bad}
use Rattle.pp_words.specs.declared.Settings.{Settings}
use Rattle.pp_words.specs.Words.{settings_of}
use Rattle.pp_devices.specs.declared.ways.Way.TheVariants as way
use Rattle.pp_devices.specs.Devices.{World}
use Rattle.pp_plans.specs.declared.parsing.PlanWhy.{PlanWhy}
use Rattle.pp_plans.specs.Parts.{parts_of}
use Rattle.pp_plans.specs.Plans.{bad_behind}
use Rattle.pp_programs.proofs.Given.{gave_all, gave_part}
use Rattle.pp_poll.specs.declared.ways.PolledWay.{PolledWay}
use Rattle.pp_poll.specs.declared.ways.PolledWay.TheVariants.{Ended, BadPlan, NotRun}
use Rattle.pp_poll.specs.PolledWays.{status_of}
use Rattle.pp_poll.specs.Certificates.{asks_places, setting_words}
use Rattle.pp_poll.specs.Polled.{Cause, HasBadLine, HasBadPlan, IsGood, IsAnswered}

module _ (words : List (List ℕ)) (before after : World) (f g : ℕ) (answers : List (List Answer)) (kept : Option RunView)
    (good : IsGood words before after f g) where
  same_settings : (settings : Settings) → settings_of (setting_words words) ≡ Some settings → settings ≡ good.settings
  same_settings settings said = let mine = good.said_by in cc

  no_bad_line : (settings : Settings) (line : ℕ) (why : Why) → settings_of (setting_words words) ≡ Some settings → settings.make ≡ None
      → HasBadLine settings.callers line why before.source after.source → ⊥
  no_bad_line settings line why said reads found =
      let same = same_settings settings said in
      let told = good.trace (ap (λ s. s.make) (sym same) ∙ reads) in
      let own = gave_all before.source.bytes after.source.bytes told.0 found.bytes told.1 found.all in
      let none : bad (parts_of found.bytes).trace settings.callers ≡ None =
      ap₂ (λ (text : List ℕ) (n : ℕ). bad (parts_of text).trace n) (sym own) (ap (λ s. s.callers) same) ∙ told.3 in
      let first = found.first in
      absurd cc

  no_bad_plan : (settings : Settings) (line : ℕ) (why : PlanWhy) → settings_of (setting_words words) ≡ Some settings → settings.make ≡ None
      → HasBadPlan settings.callers line why before.source after.source → ⊥
  no_bad_plan settings line why said reads found =
      let same = same_settings settings said in
      let told = good.trace (ap (λ s. s.make) (sym same) ∙ reads) in
      let own = gave_all before.source.bytes after.source.bytes told.0 found.bytes told.1 found.all in
      let none : bad_behind (parts_of found.bytes).lines (parts_of found.bytes).plan settings.callers ≡ None =
      ap₂ (λ (text : List ℕ) (n : ℕ). bad_behind (parts_of text).lines (parts_of text).plan n) (sym own) (ap (λ s. s.callers) same)
      ∙ told.4 in
      let first = found.first in
      absurd cc

  not_too_long : (settings : Settings) → settings_of (setting_words words) ≡ Some settings → settings.make ≡ None
      → GaveMore 16777216 before.source.bytes after.source.bytes → ⊥
  not_too_long settings said reads gave =
      let same = same_settings settings said in
      let told = good.trace (ap (λ s. s.make) (sym same) ∙ reads) in
      absurd (omega (arith, gave_part before.source.bytes after.source.bytes told.0 gave.bytes told.1 gave.consumed, gave.many, told.2))

  pub complete : (w : PolledWay) → Cause w (asks_places words) (setting_words words) before after f g answers kept
      → IsAnswered (status_of w)
  complete (Ended way.Answered) cause = inl refl
  complete (Ended (way.Partly full lost)) cause = inr (inl refl)
  complete (Ended way.BadWords) cause = absurd (let said = good.said_by in let none = cause.0 in cc)
  complete (Ended (way.BadLine line why)) cause =
      absurd (no_bad_line cause.settings line why cause.said_by.settings cause.said_by.reads cause.came)
  complete (Ended way.Unread) cause = absurd (good.source cause.came.rose)
  complete (Ended way.TooLong) cause = absurd (not_too_long cause.settings cause.said_by.settings cause.said_by.reads cause.came.gave)
  complete (Ended way.Unwritten) cause = absurd (good.sink cause.rose)
  complete (Ended way.NoMemory) cause = inr (inr refl)
  complete (BadPlan line why) cause = absurd (no_bad_plan cause.settings line why cause.said_by.settings cause.said_by.reads cause.came)
  complete NotRun cause = absurd (good.runner cause.rose)
