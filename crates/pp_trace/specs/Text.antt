-- The text of a run's answers and contents.
use Rattle.std.specs.Prelude.{ℕ, ◌+◌, Bool, true, false, List, [], ◌∷◌, ◌++◌, length, codes, count_by, sum_by}
use Rattle.std.specs.Fmt.{decimal}
use Rattle.std.specs.List.{flat_map}
use Rattle.pp_model.specs.declared.Reply.{Reply}
use Rattle.pp_model.specs.declared.Reply.TheVariants.{Value, Absent, Added, Held, Took, Other}
use Rattle.pp_model.specs.declared.Answer.{Answer}
use Rattle.pp_model.specs.declared.Answer.TheVariants.{Said, Full}
use Rattle.pp_model.specs.declared.Answer.TheVariants as answer
use Rattle.pp_model.specs.declared.Pair.{Pair}
use Rattle.pp_trace.specs.declared.Counts.{Counts}
use Rattle.pp_trace.specs.declared.Why.{Why}
use Rattle.pp_trace.specs.declared.Why.TheVariants as why

-- what a map replied
abbrev pub reply_text : Reply → List ℕ
reply_text (Value v) = codes "value " ++ decimal v
reply_text Absent = codes "absent"
reply_text Added = codes "added"
reply_text (Held v) = codes "held " ++ decimal v
reply_text (Took v) = codes "took " ++ decimal v
reply_text (Other v) = codes "other " ++ decimal v

-- how a call ended
abbrev pub answer_text : Answer → List ℕ
answer_text (Said reply) = reply_text reply
answer_text Full = codes "full"
answer_text (answer.Lost turns) = codes "lost"

-- the line of a caller's call of this number, from 1
abbrev pub answer_line : ℕ → ℕ → Answer → List ℕ
answer_line caller number a = decimal caller ++ codes " " ++ decimal number ++ codes " " ++ answer_text a ++ codes "\n"

-- the lines of a caller's answers, numbered from n on
abbrev pub caller_text : {A : Type 0} → (ℕ → ℕ → A → List ℕ) → ℕ → ℕ → List A → List ℕ
caller_text line caller n [] = []
caller_text line caller n (a ∷ answers) = line caller n a ++ caller_text line caller (n + 1) answers

-- those of all callers, from caller c on
abbrev pub callers_text : {A : Type 0} → (ℕ → ℕ → A → List ℕ) → ℕ → List (List A) → List ℕ
callers_text line c [] = []
callers_text line c (answers ∷ rest) = caller_text line c 1 answers ++ callers_text line (c + 1) rest

-- the line of a pair
abbrev pub pair_line : Pair → List ℕ
pair_line p = decimal p.key ++ codes " " ++ decimal p.value ++ codes "\n"

-- a word, which ends with a space, and a count
abbrev pub counted_line : List ℕ → ℕ → List ℕ
counted_line word n = word ++ decimal n ++ codes "\n"

-- how many pairs there are, and a line for each
abbrev pub contents_text : List Pair → List ℕ
contents_text pairs = counted_line (codes "contents ") (length pairs) ++ flat_map pair_line pairs

-- the output of a trace that was read
abbrev pub out : List (List Answer) → List Pair → List ℕ
out answers contents = callers_text answer_line 0 answers ++ contents_text contents

abbrev pub is_added : Answer → Bool
is_added (Said Added) = true
is_added _ = false

abbrev pub is_held : Answer → Bool
is_held (Said (Held v)) = true
is_held _ = false

abbrev pub is_value : Answer → Bool
is_value (Said (Value v)) = true
is_value _ = false

abbrev pub is_absent : Answer → Bool
is_absent (Said Absent) = true
is_absent _ = false

abbrev pub is_took : Answer → Bool
is_took (Said (Took v)) = true
is_took _ = false

abbrev pub is_full : Answer → Bool
is_full Full = true
is_full _ = false

abbrev pub is_lost : Answer → Bool
is_lost (answer.Lost turns) = true
is_lost _ = false

-- how many answers of all callers a test takes
abbrev pub count_all : {A : Type 0} → (A → Bool) → List (List A) → ℕ
count_all test answers = sum_by (count_by test) answers

-- how many answers of all callers there are of each kind
abbrev pub counts_of : List (List Answer) → Counts
counts_of answers = record {
  added = count_all is_added answers;
  held = count_all is_held answers;
  value = count_all is_value answers;
  absent = count_all is_absent answers;
  took = count_all is_took answers;
  full = count_all is_full answers;
  lost = count_all is_lost answers;
}

-- the nine lines of a made trace: its lines, the counts of its answers, and the number of pairs
abbrev pub counts_text : ℕ → Counts → ℕ → List ℕ
counts_text lines counts pairs =
    counted_line (codes "made ") lines
    ++ counted_line (codes "added ") counts.added
    ++ counted_line (codes "held ") counts.held
    ++ counted_line (codes "value ") counts.value
    ++ counted_line (codes "absent ") counts.absent
    ++ counted_line (codes "took ") counts.took
    ++ counted_line (codes "full ") counts.full
    ++ counted_line (codes "lost ") counts.lost
    ++ counted_line (codes "contents ") pairs

-- the output of a made trace
abbrev pub summary : ℕ → List (List Answer) → List Pair → List ℕ
summary lines answers contents = counts_text lines (counts_of answers) (length contents)

-- why a line of a trace is bad
abbrev pub why_text : Why → List ℕ
why_text why.Caller = codes "caller"
why_text why.Word = codes "word"
why_text why.Fields = codes "fields"
why_text why.Key = codes "key"
why_text why.Value = codes "value"
