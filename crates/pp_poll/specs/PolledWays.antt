-- The status and the line of each way in which a replay by a plan ends.
use Rattle.std.specs.Prelude.{ℕ, List, ◌++◌, codes}
use Rattle.std.specs.Fmt.{decimal}
use Rattle.pp_devices.specs.Ways.{status_of as way_status, line_of as way_line}
use Rattle.pp_plans.specs.declared.parsing.PlanWhy.{PlanWhy}
use Rattle.pp_plans.specs.declared.parsing.PlanWhy.TheVariants as why
use Rattle.pp_poll.specs.declared.ways.PolledWay.{PolledWay}
use Rattle.pp_poll.specs.declared.ways.PolledWay.TheVariants.{Ended, BadPlan, NotRun}

abbrev pub status_of : PolledWay → ℕ
status_of (Ended way) = way_status way
status_of (BadPlan line why) = 9
status_of NotRun = 13

abbrev pub plan_why : PlanWhy → List ℕ
plan_why why.Fields = codes "fields"
plan_why why.Caller = codes "caller"
plan_why why.Turns = codes "turns"

abbrev pub plan_line : ℕ → PlanWhy → List ℕ
plan_line line why = codes "schedule: line " ++ decimal line ++ codes ": " ++ plan_why why ++ codes "\n"

abbrev pub failure_line : List ℕ
failure_line = codes "runner: failed\n"

-- the line that tells it
abbrev pub line_of : PolledWay → List ℕ
line_of (Ended way) = way_line way
line_of (BadPlan line why) = plan_line line why
line_of NotRun = failure_line
