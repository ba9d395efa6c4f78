-- The text of a run on a queue.
use Rattle.std.specs.Prelude.{ℕ, Bool, true, false, List, [], ◌++◌, length, codes}
use Rattle.std.specs.Fmt.{decimal}
use Rattle.std.specs.List.{flat_map}
use Rattle.pp_trace.specs.Text.{callers_text, counted_line}
use Rattle.pp_queues.specs.declared.calls.QueueAnswer.{QueueAnswer}
use Rattle.pp_queues.specs.declared.calls.QueueAnswer.TheVariants as answer
use Rattle.pp_queues.specs.declared.calls.QueueReply.TheVariants as said

-- how a call ended
abbrev pub answer_text : QueueAnswer → List ℕ
answer_text (answer.Said said.Put) = codes "put"
answer_text (answer.Said (said.Took v)) = codes "took " ++ decimal v
answer_text (answer.Said said.Empty) = codes "empty"
answer_text answer.Full = codes "full"
answer_text (answer.Lost turns) = codes "lost"

-- the line of a caller's call of this number, from 1
abbrev pub answer_line : ℕ → ℕ → QueueAnswer → List ℕ
answer_line caller number a = decimal caller ++ codes " " ++ decimal number ++ codes " " ++ answer_text a ++ codes "\n"

-- how many items are left, and a line for each, the first one the next to be taken
abbrev pub left_text : List ℕ → List ℕ
left_text items = counted_line (codes "left ") (length items) ++ flat_map (counted_line []) items

-- the output
abbrev pub out : List (List QueueAnswer) → List ℕ → List ℕ
out answers items = callers_text answer_line 0 answers ++ left_text items

abbrev pub is_full : QueueAnswer → Bool
is_full answer.Full = true
is_full _ = false

abbrev pub is_lost : QueueAnswer → Bool
is_lost (answer.Lost turns) = true
is_lost _ = false
