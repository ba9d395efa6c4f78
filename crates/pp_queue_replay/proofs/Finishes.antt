-- How printing ends, and what that makes of a queue's replay.
use Rattle.std.proofs.Common.{◌≡◌, ℕ, List, refl}
use Rattle.std.specs.Prelude.{Option, Some}
use Rattle.pp_devices.specs.declared.ways.Way.{Way}
use Rattle.pp_devices.specs.declared.ways.Way.TheVariants as way
use Rattle.pp_devices.specs.Devices.{Device, world}
use Rattle.pp_trace.specs.Text.{count_all}
use Rattle.pp_words.specs.declared.Settings.{Settings}
use Rattle.pp_programs.specs.Causes.{Says}
use Rattle.pp_programs.specs.Printed.{IsFinished}
use Rattle.pp_programs.proofs.Causes.{no_memory_read}
use Rattle.pp_queues.specs.declared.calls.QueueAnswer.{QueueAnswer}
use Rattle.pp_queues.specs.declared.calls.QueueCall.{QueueCall}
use Rattle.pp_queues.specs.Queue.{items_of}
use Rattle.pp_queue.specs.Closings.{QueueRun}
use Rattle.pp_queue_replay.specs.Parts.{HasNoCalls}
use Rattle.pp_queue_replay.specs.Replay.{Cause, WasRead, IsReplay, IsRunUnder, and_list}
use Rattle.pp_queue_replay.specs.Text.{out, is_full, is_lost}

-- want of memory once there were calls
pub refused : (words : List (List ℕ)) (settings : Settings) (lists : List (List QueueCall)) (read now was : Device)
    (answers : List (List QueueAnswer)) (kept : Option QueueRun) (w : Way)
    → Says (and_list words) settings → WasRead settings.callers read now lists
    → w ≡ way.NoMemory → Cause w words (world read was) (world now was) answers kept
refused words settings lists read now was answers kept w said calls is =
    rw is (no_memory_read (and_list words) settings (world read was) (world now was) said refl calls.unfailed)

-- the source says no calls
pub unread : (words : List (List ℕ)) (settings : Settings) (read now was : Device) (answers : List (List QueueAnswer))
    (kept : Option QueueRun) (w : Way) → Says (and_list words) settings → HasNoCalls w settings.callers read now
    → Cause w words (world read was) (world now was) answers kept
unread words settings read now was answers kept (way.BadLine line why) said none =
    record { settings = settings; said_by = said; came = none; quiet = refl }
unread words settings read now was answers kept way.Unread said none =
    record { settings = settings; said_by = said; came = none; quiet = refl }
unread words settings read now was answers kept way.TooLong said none =
    record { settings = settings; said_by = said; came = none; quiet = refl }
unread words settings read now was answers kept way.NoMemory said none =
    no_memory_read (and_list words) settings (world read was) (world now was) said refl none
unread words settings read now was answers kept way.Answered said none = absurd none
unread words settings read now was answers kept (way.Partly full lost) said none = absurd none
unread words settings read now was answers kept way.BadWords said none = absurd none
unread words settings read now was answers kept way.Unwritten said none = absurd none

module _ (words : List (List ℕ)) (settings : Settings) (lists : List (List QueueCall)) (answers : List (List QueueAnswer)) (run : QueueRun)
    (read was now after : Device) (said_by : Says (and_list words) settings) (calls : WasRead settings.callers read now lists)
    (under : IsRunUnder settings lists answers (items_of run.log) run) where
  abbrev replayed : IsReplay words (world read was) (world now after) answers (Some run)
  replayed = record {
    settings = settings;
    said_by = said_by;
    lists = lists;
    calls = calls;
    run = run;
    kept_is = refl;
    under = under;
    text = out answers (items_of run.log);
    text_is = refl;
  }

  -- a run whose text was printed in a way is the cause of a replay's ending in that way
  pub cause_of : (w : Way) → IsFinished w was after (count_all is_full answers) (count_all is_lost answers)
      (out answers (items_of run.log))
      → Cause w words (world read was) (world now after) answers (Some run)
  cause_of way.Answered is =
      record { replay = replayed; written = is.0; unfailed = is.1; full_are = is.2; lost_are = is.3 }
  cause_of (way.Partly full lost) is =
      (record { replay = replayed; written = is.0; unfailed = is.1; full_are = is.2; lost_are = is.3 }, is.4)
  cause_of way.Unwritten is = record { replay = replayed; rose = is.0; written = is.1 }
  cause_of way.NoMemory is = no_memory_read (and_list words) settings (world read was) (world now after) said_by is calls.unfailed
  cause_of way.BadWords is = absurd is
  cause_of (way.BadLine line why) is = absurd is
  cause_of way.Unread is = absurd is
  cause_of way.TooLong is = absurd is
