-- The status and the line of each way in which a program ends.
use Rattle.std.specs.Prelude.{ℕ, List, [], ◌++◌, codes}
use Rattle.std.specs.Fmt.{decimal}
use Rattle.pp_trace.specs.Text.{why_text}
use Rattle.pp_devices.specs.declared.ways.Way.{Way}
use Rattle.pp_devices.specs.declared.ways.Way.TheVariants as way

abbrev pub status_of : Way → ℕ
status_of way.Answered = 0
status_of way.BadWords = 1
status_of (way.BadLine line why) = 2
status_of way.Unread = 3
status_of way.Unwritten = 4
status_of way.NoMemory = 5
status_of (way.Partly full lost) = 6
status_of way.TooLong = 7

-- the line that tells it
abbrev pub line_of : Way → List ℕ
line_of way.Answered = []
line_of way.BadWords = codes "words: refused\n"
line_of (way.BadLine line why) = codes "trace: line " ++ decimal line ++ codes ": " ++ why_text why ++ codes "\n"
line_of way.Unread = codes "read: failed\n"
line_of way.Unwritten = codes "write: failed\n"
line_of way.NoMemory = codes "memory: refused\n"
line_of (way.Partly full lost) = codes "answers: " ++ decimal full ++ codes " full, " ++ decimal lost ++ codes " lost\n"
line_of way.TooLong = codes "trace: longer than 16777216 bytes\n"
