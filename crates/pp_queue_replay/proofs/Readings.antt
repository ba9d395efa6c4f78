-- What the lines of a queue's trace say, one line after the other, and the lists that grow from them.
use Rattle.std.proofs.Common.{◌≡◌, ℕ, zero, suc, ◌+◌, ◌<◌, ◌≤◌, List, [], ◌∷◌, ◌++◌, length, map, drop, get_or, set, replicate, refl, ap}
use Rattle.std.proofs.Common.{◌∙◌, sym, ⊎_elim, arith}
use Rattle.std.specs.List.{between}
use Rattle.std.proofs.lemmas.Bool.{cases_lt, cases_eq, eq-eqb, ne_eqb}
use Rattle.std.proofs.lemmas.List.{append_assoc, append-nil, length-set, length-replicate, get_or-set_other, get_or_past, get_or_default}
use Rattle.std.proofs.lemmas.List.{get_or-replicate, length-map, get_or-map, same_lists, drop_all}
use Rattle.std.proofs.lemmas.Grind.{get_or-set_at}
use Rattle.pp_queues.specs.declared.calls.QueueCall.{QueueCall}
use Rattle.pp_model.specs.Lists.{upto}
use Rattle.pp_queue_replay.specs.declared.parsing.Reading.{Reading}
use Rattle.pp_queue_replay.specs.declared.parsing.Reading.TheVariants.{Asks}
use Rattle.pp_trace.specs.declared.scanning.Span.{Span}
use Rattle.pp_trace.specs.Lines.{IsLineAt, lines_of, fields_of}
use Rattle.pp_queue_replay.specs.Grammar.{reading, readings_of, calls_of, first_bad, lines, bad, IsTrace, with_call}
use Rattle.pp_queue_replay.specs.Jobs.{AreCalls}
use Rattle.pp_queue_replay.proofs.Limits.{asker-below, lists-short}

-- what the lines of a text say from its front on
abbrev pub readings_in : List ℕ → ℕ → List Reading
readings_in text callers = readings_of callers (lines_of text)

-- the lists hold the calls of a text but for those of the lines that are left
pub record HasReadTo (text : List ℕ) (callers : ℕ) (left : List Reading) (lists : List (List QueueCall)) : Type 0 where
  pub size : length lists ≡ callers
  pub each : (c : ℕ) → c < callers → lines text callers c ≡ get_or lists c [] ++ calls_of c left

-- the next line of those that are left
pub readings-next : (text : List ℕ) (callers from : ℕ) (line : Span) → IsLineAt text from line
    → readings_in (drop from text) callers
    ≡ reading callers (fields_of (between line.start line.end text)) ∷ readings_in (drop line.next text) callers
readings-next text callers from line is = ap (λ ls. map (reading callers) (map fields_of ls)) is.lines

nothing-at : (n c : ℕ) → get_or {A = List QueueCall} (replicate n []) c [] ≡ []
nothing-at n c =
    ⊎_elim
    (λ within. get_or-replicate n c [] [] within)
    (λ past. get_or_past (replicate n []) c [] (omega (arith, length-replicate {A = List QueueCall} n [])))
    (cases_lt c n)

-- no call was read so far
pub read-none : (text : List ℕ) (callers : ℕ) → HasReadTo text callers (readings_in text callers) (replicate callers [])
read-none text callers = record {
  size = length-replicate callers [];
  each = λ c within. ap (λ calls. calls ++ calls_of c (readings_in text callers)) (sym (nothing-at callers c));
}

calls_of-same : (c a : ℕ) (call : QueueCall) (left : List Reading) → a ≡ c → calls_of c (Asks a call ∷ left) ≡ call ∷ calls_of c left
calls_of-same c a call left e = let same = eq-eqb a c e in rw same refl

calls_of-other : (c a : ℕ) (call : QueueCall) (left : List Reading) → (a ≡ c → ⊥) → calls_of c (Asks a call ∷ left) ≡ calls_of c left
calls_of-other c a call left ne = let other = ne_eqb a c ne in rw other refl

pub read-call : (text : List ℕ) (callers : ℕ) (left : List Reading) (lists : List (List QueueCall)) (a : ℕ) (call : QueueCall) → a < callers
    → HasReadTo text callers (Asks a call ∷ left) lists → HasReadTo text callers left (with_call lists a call)
read-call text callers left lists a call below read =
    let longer = get_or lists a [] ++ call ∷ [] in
    record {
      size = length-set lists a longer ∙ read.size;
      each = λ c within.
          ⊎_elim
          (λ same.
          let before = ap (λ calls. get_or lists c [] ++ calls) (calls_of-same c a call left same) in
          let here : get_or (set lists a longer) c [] ≡ get_or lists c [] ++ call ∷ [] =
          get_or-set_at lists a c longer [] (sym same) (omega (arith, read.size)) ∙ ap (λ k. get_or lists k [] ++ call ∷ []) same in
          read.each c within ∙ before ∙ sym (append_assoc (get_or lists c []) (call ∷ []) (calls_of c left))
          ∙ ap (λ calls. calls ++ calls_of c left) (sym here))
          (λ other.
          let before = ap (λ calls. get_or lists c [] ++ calls) (calls_of-other c a call left other) in
          let here = get_or-set_other lists a c longer [] (λ e. other (sym e)) in
          read.each c within ∙ before ∙ ap (λ calls. calls ++ calls_of c left) (sym here))
          (cases_eq a c);
    }

length-upto : (low n : ℕ) → length (upto low n) ≡ n
length-upto low zero = refl
length-upto low (suc n) = ap suc (length-upto (low + 1) n)

get_or-upto : (low n k d : ℕ) → k < n → get_or (upto low n) k d ≡ low + k
get_or-upto low zero k d within = absurd (omega arith)
get_or-upto low (suc n) zero d within = omega arith
get_or-upto low (suc n) (suc k) d within = get_or-upto (low + 1) n k d (omega arith) ∙ omega arith

pub read-all : (text : List ℕ) (callers : ℕ) (lists : List (List QueueCall)) → HasReadTo text callers [] lists
    → lists ≡ map (lines text callers) (upto 0 callers)
read-all text callers lists read =
    let all = upto 0 callers in
    let len = length-upto 0 callers in
    same_lists lists (map (lines text callers) all) (read.size ∙ sym len ∙ sym (length-map all (lines text callers)))
    (λ k d within.
    let below : k < callers = omega (arith, read.size) in
    let place : get_or all k 0 ≡ k = get_or-upto 0 callers k 0 below ∙ omega arith in
    let at = ap (lines text callers) place in
    let mine = read.each k below ∙ append-nil (get_or lists k []) in
    get_or_default lists k d [] within ∙ sym mine ∙ sym at ∙ sym (get_or-map (lines text callers) all k 0 d (omega arith)))

-- a line that asks a call
pub past-call : (text : List ℕ) (callers from n : ℕ) (line : Span) (lists : List (List QueueCall)) (a : ℕ) (call : QueueCall)
    → IsLineAt text from line
    → Asks a call ≡ reading callers (fields_of (between line.start line.end text))
    → bad text callers ≡ first_bad n (readings_in (drop from text) callers)
    → HasReadTo text callers (readings_in (drop from text) callers) lists
    → (bad text callers ≡ first_bad (n + 1) (readings_in (drop line.next text) callers))
    × HasReadTo text callers (readings_in (drop line.next text) callers) (with_call lists a call)
past-call text callers from n line lists a call is says good read =
    let left = readings_in (drop line.next text) callers in
    let next = readings-next text callers from line is ∙ ap (λ r. r ∷ left) (sym says) in
    let before : HasReadTo text callers (Asks a call ∷ left) lists = rw next at read in
    let below : a < callers = asker-below callers (fields_of (between line.start line.end text)) a call says in
    (good ∙ ap (first_bad n) next, read-call text callers left lists a call below before)

-- at the end of the text the lists are those that it says
pub trace-read : (text : List ℕ) (callers from n : ℕ) (lists : List (List QueueCall)) → from ≡ length text
    → length text ≤ 16777216 → bad text callers ≡ first_bad n (readings_in (drop from text) callers)
    → HasReadTo text callers (readings_in (drop from text) callers) lists → IsTrace text callers lists
trace-read text callers from n lists end short good read =
    let none : readings_in (drop from text) callers ≡ [] = ap (λ t. readings_in t callers) (drop_all from text (omega arith)) in
    let all : HasReadTo text callers [] lists = rw none at read in
    let are = read-all text callers lists all in
    record {
      good = good ∙ ap (first_bad n) none;
      lists_are = are;
      short = rw are (lists-short text callers 16777216 short);
    }

-- the lists that a text says are one for each caller
pub trace_calls : (text : List ℕ) (callers : ℕ) (lists : List (List QueueCall)) → IsTrace text callers lists → AreCalls callers lists
trace_calls text callers lists is = record {
  each_caller = ap length is.lists_are ∙ (length-map (upto 0 callers) (lines text callers) ∙ length-upto 0 callers);
  short = is.short;
}
