-- What printing, and want of memory, make of a replay by a plan.
use Rattle.std.proofs.Common.{◌≡◌, ℕ, ◌≤◌, ◌<◌, ◌⊎◌, inl, inr, ⊎_elim, Bool, true, false, List, length}
use Rattle.std.proofs.Common.{refl, sym, ap, ◌∙◌, subst, arith}
use Rattle.std.specs.Prelude.{Option, Some, None}
use Rattle.std.proofs.lemmas.List.{length-map}
use Rattle.pp_model.specs.declared.Answer.{Answer}
use Rattle.pp_model.specs.declared.Call.{Call}
use Rattle.pp_model.specs.Lists.{AtEach, upto}
use Rattle.pp_model.proofs.PlainPasses.{length-upto}
use Rattle.pp_model.specs.Pass.{PassView, MapSizes, Meaning, RunView}
use Rattle.pp_outside.specs.Outside.{Rose}
use Rattle.pp_trace.specs.declared.Make.{Make}
use Rattle.pp_trace.specs.Text.{count_all, is_full, is_lost}
use Rattle.pp_words.specs.declared.Settings.{Settings}
use Rattle.pp_trace.specs.TraceLists.{KeysFit}
use Rattle.pp_words.specs.declared.Kind.{Kind}
use Rattle.pp_words.specs.declared.Kind.TheVariants as kind
use Rattle.pp_words.specs.Words.{settings_of, InRange}
use Rattle.pp_devices.specs.declared.ways.Way.{Way}
use Rattle.pp_devices.specs.declared.ways.Way.TheVariants as way
use Rattle.pp_devices.specs.Devices.{Device, world}
use Rattle.pp_programs.specs.Causes.{WasSpared}
use Rattle.pp_programs.specs.Printed.{IsFinished}
use Rattle.pp_programs.proofs.Causes.{no_memory}
use Rattle.pp_running.specs.Jobs.{AreCalls}
use Rattle.pp_running.specs.Run.{IsRunOf}
use Rattle.pp_planned.specs.Planned.{IsPlanned}
use Rattle.pp_places.proofs.Fits.{fits_run}
use Rattle.pp_replay.specs.Replay.{IsRunUnder, meaning_of, sizes_of}
use Rattle.pp_replay.proofs.Unders.{chosen}
use Rattle.pp_poll.specs.declared.ways.PolledWay.{PolledWay}
use Rattle.pp_poll.specs.declared.ways.PolledWay.TheVariants.{Ended, NotRun}
use Rattle.pp_poll.specs.Certificates.{text_of, HasRanges, IsHeldWith}
use Rattle.pp_poll.specs.Polled.{Cause, HasInput, IsPolled}
use Rattle.pp_poll.specs.Parts.{IsChosenToPoll}

-- where there was an input, no read failed, and with a made trace nothing was read
pub spared : (make : Option Make) (callers : ℕ) (before after : Device) (lists : List (List Call)) (plan : List ℕ)
    → HasInput make callers before after lists plan → WasSpared make before after
spared None callers before after lists plan input = record { unfailed = input.unfailed; unread = λ m is. absurd cc }
spared (Some make) callers before after lists plan input =
    record { unfailed = ap (λ d. d.faults) input.made.unread; unread = λ m is. input.made.unread }

-- lists that were read or made may be run
pub may_run : (make : Option Make) (callers : ℕ) (before after : Device) (lists : List (List Call)) (plan : List ℕ)
    → HasInput make callers before after lists plan → AreCalls callers lists
may_run None callers before after lists plan input = record {
  each_caller = ap length input.says.lists_are ∙ (length-map (upto 0 callers) _ ∙ length-upto 0 callers);
  keys = input.says.keys;
  short = input.says.short;
}
may_run (Some make) callers before after lists plan input = record {
  each_caller = ap length input.made.makes.lists_are ∙ (length-map (upto 0 callers) _ ∙ length-upto 0 callers);
  keys = input.made.makes.keys;
  short = input.made.makes.short;
}

-- and a plan that was read, or is none, names callers alone
pub may_plan : (make : Option Make) (callers : ℕ) (before after : Device) (lists : List (List Call)) (plan : List ℕ)
    → HasInput make callers before after lists plan → AtEach plan (λ k c. c < callers)
may_plan None callers before after lists plan input = input.plans.known
may_plan (Some make) callers before after lists plan input =
    subst (λ (xs : List ℕ). AtEach xs (λ k c. c < callers)) (sym input.unplanned) (λ k c at. absurd cc)

-- want of memory once there was an input
pub refused : (places : Bool) (words : List (List ℕ)) (settings : Settings) (lists : List (List Call)) (plan : List ℕ)
    (read now was : Device) (f g : ℕ) (answers : List (List Answer)) (kept : Option RunView) (w : PolledWay)
    → settings_of words ≡ Some settings → HasInput settings.make settings.callers read now lists plan → w ≡ Ended way.NoMemory
    → Cause w places words (world read was) (world now was) f g answers kept
refused places words settings lists plan read now was f g answers kept w said_by input is =
    rw is (no_memory words settings (world read was) (world now was) said_by refl
    (spared settings.make settings.callers read now lists plan input))

-- a runner that failed
pub not_run : (places : Bool) (words : List (List ℕ)) (settings : Settings) (lists : List (List Call)) (plan : List ℕ)
    (read now was : Device) (f g : ℕ) (answers : List (List Answer)) (kept : Option RunView) (w : PolledWay)
    → settings_of words ≡ Some settings → HasInput settings.make settings.callers read now lists plan → Rose f g → w ≡ NotRun
    → Cause w places words (world read was) (world now was) f g answers kept
not_run places words settings lists plan read now was f g answers kept w said_by input rose is =
    rw is (record { settings = settings; said_by = said_by; lists = lists; plan = plan; input = input; rose = rose; quiet = refl })

module _ (places : Bool) (words : List (List ℕ)) (settings : Settings) (lists : List (List Call)) (plan : List ℕ)
    (answers : List (List Answer)) (run : RunView) (read now was after : Device) (f g : ℕ) (said_by : settings_of words ≡ Some settings)
    (input : HasInput settings.make settings.callers read now lists plan) (under : IsRunUnder settings lists answers run)
    (planned : IsPlanned (meaning_of settings.map) (sizes_of settings) settings.races plan under.opened lists run) where
  abbrev polled : HasRanges places run → IsPolled places words (world read was) (world now after) answers (Some run)
  polled ranges = record {
    settings = settings;
    said_by = said_by;
    lists = lists;
    plan = plan;
    input = input;
    run = run;
    kept_is = refl;
    under = under;
    planned = planned;
    text = text_of places settings.make answers run;
    text_is = refl;
    ranges = ranges;
  }

  -- a run whose text was printed in a way is the cause of a replay's ending in that way
  pub cause_of : (w : Way) → IsFinished w was after (count_all is_full answers) (count_all is_lost answers)
      (text_of places settings.make answers run)
      → ((w ≡ way.NoMemory → ⊥) → HasRanges places run)
      → Cause (Ended w) places words (world read was) (world now after) f g answers (Some run)
  cause_of way.Answered is ranges =
      record { polled = polled (ranges (λ e. absurd cc)); written = is.0; unfailed = is.1; full_are = is.2; lost_are = is.3 }
  cause_of (way.Partly full lost) is ranges =
      (record { polled = polled (ranges (λ e. absurd cc)); written = is.0; unfailed = is.1; full_are = is.2; lost_are = is.3 }, is.4)
  cause_of way.Unwritten is ranges = record { polled = polled (ranges (λ e. absurd cc)); rose = is.0; written = is.1 }
  cause_of way.NoMemory is ranges =
      no_memory words settings (world read was) (world now after) said_by is
      (spared settings.make settings.callers read now lists plan input)
  cause_of way.BadWords is ranges = absurd is
  cause_of (way.BadLine line why) is ranges = absurd is
  cause_of way.Unread is ranges = absurd is
  cause_of way.TooLong is ranges = absurd is

-- numbers that types hold, of a run of calls with keys in range, are in a certificate's ranges
pub ranges_of : (places : Bool) (meaning : Meaning) (sizes : MapSizes) (races : ℕ) (opened : List PassView) (lists : List (List Call))
    (answers : List (List Answer)) (run : RunView) → IsRunOf meaning sizes races opened lists answers run → KeysFit lists
    → length lists ≤ 64 → IsHeldWith places run → HasRanges places run
ranges_of true meaning sizes races opened lists answers run ran keys few held =
    fits_run meaning sizes races opened lists answers run ran keys few held
ranges_of false meaning sizes races opened lists answers run ran keys few held = tt

-- each turn of a map makes a step, but for the plain one, which has one caller
turning : (k : Kind) → (k ≡ kind.Plain) ⊎ (1 ≤ (meaning_of k).turn_steps)
turning kind.Plain = inl refl
turning kind.List = inr (omega arith)
turning kind.Hash = inr (omega arith)
turning kind.Tree = inr (omega arith)

-- a map with the meaning and the sizes of the one that the settings choose is that one
pub chosen_to_poll : (settings : Settings) (meaning : Meaning) (sizes : MapSizes) → InRange settings → meaning ≡ meaning_of settings.map
    → sizes ≡ sizes_of settings → IsChosenToPoll meaning sizes settings
chosen_to_poll settings meaning sizes within meant sized = record {
  chosen = chosen settings meaning sizes meant sized;
  turns =
      ⊎_elim
      (λ (plain : settings.map ≡ kind.Plain). inr (within.alone plain))
      (λ (more : 1 ≤ (meaning_of settings.map).turn_steps). inl (subst (λ (m : Meaning). 1 ≤ m.turn_steps) (sym meant) more))
      (turning settings.map);
  plans = λ plan opened lists run is.
      subst (λ (m : Meaning). IsPlanned m (sizes_of settings) settings.races plan opened lists run) meant
      (subst (λ (z : MapSizes). IsPlanned meaning z settings.races plan opened lists run) sized is);
}
