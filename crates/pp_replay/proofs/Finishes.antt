-- How printing ends, and what that makes of a replay.
use Rattle.std.proofs.Common.{◌≡◌, ℕ, List, length, refl, ap, ◌∙◌}
use Rattle.std.specs.Prelude.{Option, Some, None}
use Rattle.std.proofs.lemmas.List.{length-map}
use Rattle.pp_model.specs.declared.Answer.{Answer}
use Rattle.pp_model.specs.declared.Call.{Call}
use Rattle.pp_model.specs.Lists.{upto}
use Rattle.pp_model.proofs.PlainPasses.{length-upto}
use Rattle.pp_model.specs.History.{contents_of}
use Rattle.pp_model.specs.Pass.{RunView}
use Rattle.pp_trace.specs.declared.Make.{Make}
use Rattle.pp_trace.specs.Text.{count_all, is_full, is_lost}
use Rattle.pp_words.specs.declared.Settings.{Settings}
use Rattle.pp_words.specs.Words.{settings_of}
use Rattle.pp_devices.specs.declared.ways.Way.{Way}
use Rattle.pp_devices.specs.declared.ways.Way.TheVariants as way
use Rattle.pp_running.specs.Jobs.{AreCalls}
use Rattle.pp_programs.specs.Causes.{WasSpared}
use Rattle.pp_programs.specs.Printed.{IsFinished}
use Rattle.pp_programs.proofs.Causes.{no_memory}
use Rattle.pp_devices.specs.Devices.{Device, World, world}
use Rattle.pp_replay.specs.Replay.{output, Cause, HasCalls, IsReplay, IsRunUnder}

-- where there were calls, no read failed, and with a made trace nothing was read
pub spared : (make : Option Make) (callers : ℕ) (before after : Device) (lists : List (List Call))
    → HasCalls make callers before after lists → WasSpared make before after
spared None callers before after lists calls = record { unfailed = calls.unfailed; unread = λ m is. absurd cc }
spared (Some make) callers before after lists calls =
    record { unfailed = ap (λ d. d.faults) calls.unread; unread = λ m is. calls.unread }

-- lists that were read or made may be run
pub may_run : (make : Option Make) (callers : ℕ) (before after : Device) (lists : List (List Call))
    → HasCalls make callers before after lists → AreCalls callers lists
may_run None callers before after lists calls = record {
  each_caller = ap length calls.says.lists_are ∙ (length-map (upto 0 callers) _ ∙ length-upto 0 callers);
  keys = calls.says.keys;
  short = calls.says.short;
}
may_run (Some make) callers before after lists calls = record {
  each_caller = ap length calls.makes.lists_are ∙ (length-map (upto 0 callers) _ ∙ length-upto 0 callers);
  keys = calls.makes.keys;
  short = calls.makes.short;
}

-- want of memory once there were calls
pub refused : (words : List (List ℕ)) (settings : Settings) (lists : List (List Call)) (read now was : Device)
    (answers : List (List Answer)) (kept : Option RunView) (w : Way) → settings_of words ≡ Some settings
    → HasCalls settings.make settings.callers read now lists
    → w ≡ way.NoMemory → Cause w words (world read was) (world now was) answers kept
refused words settings lists read now was answers kept w said_by calls is =
    rw is (no_memory words settings (world read was) (world now was) said_by refl
    (spared settings.make settings.callers read now lists calls))

module _ (words : List (List ℕ)) (settings : Settings) (lists : List (List Call)) (answers : List (List Answer)) (run : RunView)
    (read was now after : Device) (said_by : settings_of words ≡ Some settings)
    (calls : HasCalls settings.make settings.callers read now lists)
    (under : IsRunUnder settings lists answers run) where
  abbrev replayed : IsReplay words (world read was) (world now after) answers (Some run)
  replayed = record {
    settings = settings;
    said_by = said_by;
    lists = lists;
    calls = calls;
    run = run;
    kept_is = refl;
    under = under;
    text = output settings.make answers (contents_of run.log);
    text_is = refl;
  }

  -- a run whose text was printed in a way is the cause of a replay's ending in that way
  pub cause_of : (w : Way) → IsFinished w was after (count_all is_full answers) (count_all is_lost answers)
      (output settings.make answers (contents_of run.log))
      → Cause w words (world read was) (world now after) answers (Some run)
  cause_of way.Answered is =
      record { replay = replayed; written = is.0; unfailed = is.1; full_are = is.2; lost_are = is.3 }
  cause_of (way.Partly full lost) is =
      (record { replay = replayed; written = is.0; unfailed = is.1; full_are = is.2; lost_are = is.3 }, is.4)
  cause_of way.Unwritten is = record { replay = replayed; rose = is.0; written = is.1 }
  cause_of way.NoMemory is =
      no_memory words settings (world read was) (world now after) said_by is (spared settings.make settings.callers read now lists calls)
  cause_of way.BadWords is = absurd is
  cause_of (way.BadLine line why) is = absurd is
  cause_of way.Unread is = absurd is
  cause_of way.TooLong is = absurd is
