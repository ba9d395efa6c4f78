-- The linearization of a map's log and its callers' lists, and what makes a history legal: as of any sequential object.
use Rattle.std.specs.Prelude.{ℕ, List}
use Rattle.pp_model.specs.declared.Change.{Change}
use Rattle.pp_model.specs.declared.Placed.{Placed}
use Rattle.pp_model.specs.declared.Pair.{Pair}
use Rattle.pp_model.specs.Pass.{CallerRun}
use Rattle.pp_model.specs.History.{finite_map}
use Rattle.pp_model.specs.Objects as object

-- a caller with its list of placed calls
abbrev pub CallerList : Type 0
CallerList = object.CallerList finite_map

-- the list of a caller of a run that was closed
abbrev pub caller_list : CallerRun → CallerList
caller_list r = record { caller = r.caller; mine = r.mine }

-- a call of a history
abbrev pub HistoryCall : Type 0
HistoryCall = object.HistoryCall finite_map

abbrev pub history_call : ℕ → Placed → HistoryCall
history_call caller s = object.history_call finite_map caller s

-- a history is legal where running its calls, from a map on, gives its replies
abbrev pub LegalFrom : List Pair → List HistoryCall → Type 0
LegalFrom m history = object.LegalFrom finite_map m history

abbrev pub Legal : List HistoryCall → Type 0
Legal history = object.Legal finite_map history

-- from place p on, with so many changes to come: the calls that changed nothing at p, then the next change, and so on
abbrev pub linearized_from : ℕ → ℕ → List CallerList → List HistoryCall
linearized_from p n lists = object.linearized_from finite_map p n lists

-- the one history of a log and the callers' lists
abbrev pub linearization : List Change → List CallerList → List HistoryCall
linearization log lists = object.linearization finite_map log lists

-- the calls of one caller in a history
abbrev pub calls_of : ℕ → List HistoryCall → List HistoryCall
calls_of caller history = object.calls_of finite_map caller history

abbrev pub callers_of : List CallerList → List ℕ
callers_of lists = object.callers_of finite_map lists

-- a caller has a list
abbrev pub HasList : ℕ → List CallerList → Type 0
HasList caller lists = object.HasList finite_map caller lists

-- a recorded run: a sound log, and lists by rising callers that stand in it, one for each caller of a change
abbrev pub IsRecordedRun : List Change → List CallerList → Type 0
IsRecordedRun log lists = object.IsRecordedRun finite_map log lists

-- the linearization is legal, and has each caller's calls in the order of its list, and no other call
abbrev pub IsHistory : List Change → List CallerList → Type 0
IsHistory log lists = object.IsHistory finite_map log lists
