-- The lengths of the lists that a queue's trace says, and whose its calls are.
use Rattle.std.proofs.Common.{◌≡◌, ℕ, zero, suc, ◌+◌, ◌<◌, ◌≤◌, cond, ltb, List, [], ◌∷◌, length, map, Option, Some, None}
use Rattle.std.proofs.Common.{option_and_then, Result, Ok, Err, ap, sym, subst, arith}
use Rattle.std.specs.List.{filter_map, cons_option, position_or_len, after_first}
use Rattle.std.specs.Option.{IfSome}
use Rattle.std.proofs.lemmas.Bool.{cond_both, ltb-true}
use Rattle.std.proofs.lemmas.List.{length-drop, length-map}
use Rattle.pp_model.specs.Lists.{upto, AtEach}
use Rattle.pp_trace.specs.declared.Why.{Why}
use Rattle.pp_trace.specs.Grammar.{number_below}
use Rattle.pp_trace.specs.Lines.{is_line_feed, lines_of, fields_of, number_of}
use Rattle.pp_trace.proofs.Cuts.{first_line}
use Rattle.pp_trace.proofs.Limits.{each-map}
use Rattle.pp_queues.specs.declared.calls.QueueCall.{QueueCall}
use Rattle.pp_queue_replay.specs.declared.parsing.Reading.{Reading}
use Rattle.pp_queue_replay.specs.declared.parsing.Reading.TheVariants.{Nothing, Asks, Bad}
use Rattle.pp_queue_replay.specs.Grammar.{call_of, asked_by, reading_by, reading, readings, call_by, lines}

number_below-lt : (bound : ℕ) (o : Option ℕ) → IfSome (option_and_then (λ n. cond (ltb n bound) (Some n) None) o) (λ n. n < bound)
number_below-lt bound None = tt
number_below-lt bound (Some n) = cond_both (ltb n bound) (Some n) None (λ r. IfSome r (λ m. m < bound)) (ltb-true n bound) (λ _. tt)

abbrev AskerBelow : ℕ → Reading → Type 0
AskerBelow callers Nothing = Unit {0}
AskerBelow callers (Asks caller call) = caller < callers
AskerBelow callers (Bad cause) = Unit {0}

asked_by-below : (callers caller : ℕ) (r : Result QueueCall Why) → caller < callers → AskerBelow callers (asked_by caller r)
asked_by-below callers caller (Ok call) below = below
asked_by-below callers caller (Err cause) below = tt

reading_by-below : (callers : ℕ) (caller : Option ℕ) (fields : List (List ℕ)) → IfSome caller (λ n. n < callers)
    → AskerBelow callers (reading_by caller fields)
reading_by-below callers None fields below = tt
reading_by-below callers (Some caller) fields below = asked_by-below callers caller (call_of fields) below

reading-below : (callers : ℕ) (fields : List (List ℕ)) → AskerBelow callers (reading callers fields)
reading-below callers [] = tt
reading-below callers (first ∷ fields) =
    cond_both _ Nothing (reading_by (number_below callers first) fields) (AskerBelow callers) (λ _. tt)
    (λ _. reading_by-below callers (number_below callers first) fields (number_below-lt callers (number_of first)))

-- a line's caller is one of the callers
pub asker-below : (callers : ℕ) (fields : List (List ℕ)) (caller : ℕ) (call : QueueCall)
    → Asks caller call ≡ reading callers fields → caller < callers
asker-below callers fields caller call says = subst (AskerBelow callers) (sym says) (reading-below callers fields)

length-cons_option-le : {A : Type 0} (o : Option A) (xs : List A) → length (cons_option o xs) ≤ suc (length xs)
length-cons_option-le None xs = omega arith
length-cons_option-le (Some x) xs = omega arith

length-filter_map-le : {A B : Type 0} (h : A → Option B) (xs : List A) → length (filter_map h xs) ≤ length xs
length-filter_map-le h [] = omega arith
length-filter_map-le h (x ∷ xs) = omega (arith, length-cons_option-le (h x) (filter_map h xs), length-filter_map-le h xs)

-- a text has at most as many lines as bytes: each line takes some bytes
length-lines_of-upto : (n : ℕ) (text : List ℕ) → length text ≤ n → length (lines_of text) ≤ length text
length-lines_of-upto n [] few = omega arith
length-lines_of-upto zero (byte ∷ text) few = absurd (omega arith)
length-lines_of-upto (suc n) (byte ∷ text) few =
    let whole = byte ∷ text in
    let cut = length-drop (position_or_len is_line_feed whole + 1) whole in
    let rest = length-lines_of-upto n (after_first is_line_feed whole) (omega arith) in
    omega (arith, ap length (first_line whole (omega arith)))

-- no caller has more calls than the text has bytes
pub lists-short : (text : List ℕ) (callers most : ℕ) → length text ≤ most
    → AtEach (map (lines text callers) (upto 0 callers)) (λ c calls. length calls ≤ most)
lists-short text callers most short =
    let cut = map fields_of (lines_of text) in
    each-map (λ calls. length calls ≤ most) (lines text callers)
    (λ c. omega (
      arith,
      length-filter_map-le (call_by c) (readings text callers),
      length-map cut (reading callers),
      length-map (lines_of text) fields_of,
      length-lines_of-upto (length text) text (omega arith),
    ))
    (upto 0 callers)
