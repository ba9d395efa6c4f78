-- The keys and the lengths of the lists that a text says.
use Rattle.std.proofs.Common.{◌≡◌, ℕ, zero, suc, ◌+◌, ◌<◌, ◌≤◌, ◌==◌, cond, ltb, List, [], ◌∷◌, length, map, Option, Some, None}
use Rattle.std.proofs.Common.{option_and_then, ok_or, Result, Ok, Err, refl, ap, sym, subst, arith}
use Rattle.std.specs.List.{filter_map, cons_option, position_or_len, after_first}
use Rattle.std.specs.Option.{IfSome}
use Rattle.std.specs.Result.{IfOk}
use Rattle.std.proofs.lemmas.Bool.{cond_both, ltb-true}
use Rattle.std.proofs.lemmas.List.{length-drop, length-map}
use Rattle.pp_model.specs.declared.Call.{Call}
use Rattle.pp_model.specs.declared.Call.TheVariants.{Get, Insert, Remove, Cut}
use Rattle.pp_model.specs.declared.Pair.{Pair}
use Rattle.pp_model.specs.Calls.{key_of}
use Rattle.pp_model.specs.Lists.{upto, AtEach}
use Rattle.pp_trace.specs.declared.Why.{Why}
use Rattle.pp_trace.specs.declared.Why.TheVariants as why
use Rattle.pp_trace.specs.declared.forms.Form.{Form}
use Rattle.pp_trace.specs.declared.parsing.Reading.{Reading}
use Rattle.pp_trace.specs.declared.parsing.Reading.TheVariants.{Nothing, Asks, Bad}
use Rattle.pp_trace.specs.declared.parsing.Word.{Word}
use Rattle.pp_trace.specs.declared.parsing.Word.TheVariants as word
use Rattle.pp_trace.specs.Lines.{is_line_feed, lines_of, fields_of, number_of}
use Rattle.pp_trace.specs.Grammar.{greatest_key, number_below, key_in, value_in, word_of, key_of_fields, pair_of, pair_of_fields}
use Rattle.pp_trace.specs.Grammar.{call_with_key, call_with_pair, call_of_word, call_of, asked_by, reading_by, reading, readings}
use Rattle.pp_trace.specs.Grammar.{call_by, lines}
use Rattle.pp_trace.specs.Grammar.{is_skipped, names_second, form_of, without_name}
use Rattle.pp_trace.specs.TraceLists.{KeysFit}
use Rattle.pp_trace.proofs.Cuts.{first_line}

-- lists of elements that all are so
each-cons : {A : Type 0} (P : A → Type 0) (x : A) (xs : List A) → P x → AtEach xs (λ k y. P y) → AtEach (x ∷ xs) (λ k y. P y)
each-cons P x xs here there zero y e = let same : x ≡ y = cc in subst P same here
each-cons P x xs here there (suc k) y e = there k y e

pub each-map : {A B : Type 0} (P : B → Type 0) (f : A → B) → ((x : A) → P (f x)) → (xs : List A) → AtEach (map f xs) (λ k y. P y)
each-map P f all [] = λ k y e. cc
each-map P f all (x ∷ xs) = each-cons P (f x) (map f xs) (all x) (each-map P f all xs)

each-cons_option : {A : Type 0} (P : A → Type 0) (o : Option A) (xs : List A) → IfSome o P → AtEach xs (λ k y. P y)
    → AtEach (cons_option o xs) (λ k y. P y)
each-cons_option P None xs here there = there
each-cons_option P (Some x) xs here there = each-cons P x xs here there

each-filter_map : {A B C : Type 0} (P : C → Type 0) (h : B → Option C) (f : A → B) → ((x : A) → IfSome (h (f x)) P) → (xs : List A)
    → AtEach (filter_map h (map f xs)) (λ k y. P y)
each-filter_map P h f all [] = λ k y e. cc
each-filter_map P h f all (x ∷ xs) = each-cons_option P (h (f x)) (filter_map h (map f xs)) (all x) (each-filter_map P h f all xs)

abbrev Fits : ℕ → Type 0
Fits key = key ≤ greatest_key

abbrev CallFits : Call → Type 0
CallFits call = key_of call ≤ greatest_key

abbrev ReadingFits : Reading → Type 0
ReadingFits Nothing = Unit {0}
ReadingFits (Asks caller call) = CallFits call
ReadingFits (Bad cause) = Unit {0}

number_below-lt : (bound : ℕ) (o : Option ℕ) → IfSome (option_and_then (λ n. cond (ltb n bound) (Some n) None) o) (λ n. n < bound)
number_below-lt bound None = tt
number_below-lt bound (Some n) = cond_both (ltb n bound) (Some n) None (λ r. IfSome r (λ m. m < bound)) (ltb-true n bound) (λ _. tt)

fits-lt : (o : Option ℕ) → IfSome o (λ n. n < greatest_key + 1) → IfSome o Fits
fits-lt None below = tt
fits-lt (Some n) below = omega arith

below-fits : (o : Option ℕ) → IfSome (option_and_then (λ n. cond (ltb n (greatest_key + 1)) (Some n) None) o) Fits
below-fits o = fits-lt _ (number_below-lt (greatest_key + 1) o)

ok_or-fits : (o : Option ℕ) → IfSome o Fits → IfOk (ok_or o why.Key) Fits
ok_or-fits None fits = tt
ok_or-fits (Some key) fits = fits

key_of_fields-fits : (fields : List (List ℕ)) → IfOk (key_of_fields fields) Fits
key_of_fields-fits [] = tt
key_of_fields-fits (key ∷ []) = ok_or-fits (key_in key) (below-fits (number_of key))
key_of_fields-fits (key ∷ next ∷ more) = tt

abbrev PairFits : Pair → Type 0
PairFits pair = pair.key ≤ greatest_key

pair_of-fits : (key value : Option ℕ) → IfSome key Fits → IfOk (pair_of key value) PairFits
pair_of-fits None value fits = tt
pair_of-fits (Some key) None fits = tt
pair_of-fits (Some key) (Some value) fits = fits

pair_of_fields-fits : (form : Form) (fields : List (List ℕ)) → IfOk (pair_of_fields form fields) PairFits
pair_of_fields-fits form [] = tt
pair_of_fields-fits form (key ∷ []) = tt
pair_of_fields-fits form (key ∷ value ∷ []) = pair_of-fits (key_in key) (value_in form value) (below-fits (number_of key))
pair_of_fields-fits form (key ∷ value ∷ next ∷ more) = tt

call_with_key-fits : (call : ℕ → Call) → ((key : ℕ) → key_of (call key) ≡ key) → (r : Result ℕ Why) → IfOk r Fits
    → IfOk (call_with_key call r) CallFits
call_with_key-fits call its (Ok key) fits = rw (its key) fits
call_with_key-fits call its (Err cause) fits = tt

call_with_pair-fits : (call : ℕ → ℕ → Call) → ((key value : ℕ) → key_of (call key value) ≡ key) → (r : Result Pair Why) → IfOk r PairFits
    → IfOk (call_with_pair call r) CallFits
call_with_pair-fits call its (Ok pair) fits = rw (its pair.key pair.value) fits
call_with_pair-fits call its (Err cause) fits = tt

call_of_word-fits : (form : Form) (named : Option Word) (fields : List (List ℕ)) → IfOk (call_of_word form named fields) CallFits
call_of_word-fits form None fields = tt
call_of_word-fits form (Some word.Get) fields = call_with_key-fits Get (λ key. refl) (key_of_fields fields) (key_of_fields-fits fields)
call_of_word-fits form (Some word.Insert) fields =
    call_with_pair-fits Insert (λ key value. refl) (pair_of_fields form fields) (pair_of_fields-fits form fields)
call_of_word-fits form (Some word.Remove) fields =
    call_with_key-fits Remove (λ key. refl) (key_of_fields fields) (key_of_fields-fits fields)
call_of_word-fits form (Some word.Cut) fields =
    call_with_pair-fits Cut (λ key value. refl) (pair_of_fields form fields) (pair_of_fields-fits form fields)

call_of-fits : (form : Form) (fields : List (List ℕ)) → IfOk (call_of form fields) CallFits
call_of-fits form [] = tt
call_of-fits form (first ∷ fields) = call_of_word-fits form (word_of form first) fields

asked_by-fits : (caller : ℕ) (r : Result Call Why) → IfOk r CallFits → ReadingFits (asked_by caller r)
asked_by-fits caller (Ok call) fits = fits
asked_by-fits caller (Err cause) fits = tt

reading_by-fits : (form : Form) (caller : Option ℕ) (fields : List (List ℕ)) → ReadingFits (reading_by form caller fields)
reading_by-fits form None fields = tt
reading_by-fits form (Some caller) fields = asked_by-fits caller (call_of form fields) (call_of-fits form fields)

reading-fits : (form : Form) (callers : ℕ) (fields : List (List ℕ)) → ReadingFits (reading form callers fields)
reading-fits form callers [] = tt
reading-fits form callers (first ∷ fields) =
    cond_both _ Nothing (reading_by form (number_below callers first) fields) ReadingFits (λ _. tt)
    (λ _. reading_by-fits form (number_below callers first) fields)

call_by-fits : (c : ℕ) (line : Reading) → ReadingFits line → IfSome (call_by c line) CallFits
call_by-fits c Nothing fits = tt
call_by-fits c (Asks caller call) fits = cond_both (caller == c) (Some call) None (λ r. IfSome r CallFits) (λ _. fits) (λ _. tt)
call_by-fits c (Bad cause) fits = tt

-- the keys of all calls are in range
pub keys-fit : (text : List ℕ) (callers : ℕ) → KeysFit (map (lines text callers) (upto 0 callers))
keys-fit text callers =
    let cut = map fields_of (lines_of text) in
    let form = form_of cut in
    each-map (λ calls. AtEach calls (λ n call. CallFits call)) (lines text callers)
    (λ c. each-filter_map CallFits (call_by c) (reading form callers)
    (λ line. call_by-fits c (reading form callers line) (reading-fits form callers line)) (without_name cut))
    (upto 0 callers)

abbrev AskerBelow : ℕ → Reading → Type 0
AskerBelow callers Nothing = Unit {0}
AskerBelow callers (Asks caller call) = caller < callers
AskerBelow callers (Bad cause) = Unit {0}

asked_by-below : (callers caller : ℕ) (r : Result Call Why) → caller < callers → AskerBelow callers (asked_by caller r)
asked_by-below callers caller (Ok call) below = below
asked_by-below callers caller (Err cause) below = tt

reading_by-below : (form : Form) (callers : ℕ) (caller : Option ℕ) (fields : List (List ℕ)) → IfSome caller (λ n. n < callers)
    → AskerBelow callers (reading_by form caller fields)
reading_by-below form callers None fields below = tt
reading_by-below form callers (Some caller) fields below = asked_by-below callers caller (call_of form fields) below

reading-below : (form : Form) (callers : ℕ) (fields : List (List ℕ)) → AskerBelow callers (reading form callers fields)
reading-below form callers [] = tt
reading-below form callers (first ∷ fields) =
    cond_both _ Nothing (reading_by form (number_below callers first) fields) (AskerBelow callers) (λ _. tt)
    (λ _. reading_by-below form callers (number_below callers first) fields (number_below-lt callers (number_of first)))

-- a line's caller is one of the callers
pub asker-below : (form : Form) (callers : ℕ) (fields : List (List ℕ)) (caller : ℕ) (call : Call)
    → Asks caller call ≡ reading form callers fields → caller < callers
asker-below form callers fields caller call says = subst (AskerBelow callers) (sym says) (reading-below form callers fields)

length-cons_option-le : {A : Type 0} (o : Option A) (xs : List A) → length (cons_option o xs) ≤ suc (length xs)
length-cons_option-le None xs = omega arith
length-cons_option-le (Some x) xs = omega arith

length-filter_map-le : {A B : Type 0} (h : A → Option B) (xs : List A) → length (filter_map h xs) ≤ length xs
length-filter_map-le h [] = omega arith
length-filter_map-le h (x ∷ xs) = omega (arith, length-cons_option-le (h x) (filter_map h xs), length-filter_map-le h xs)

-- a text has at most as many lines as bytes: each line takes some bytes
length-lines_of-upto : (n : ℕ) (text : List ℕ) → length text ≤ n → length (lines_of text) ≤ length text
length-lines_of-upto n [] few = omega arith
length-lines_of-upto zero (byte ∷ text) few = absurd (omega arith)
length-lines_of-upto (suc n) (byte ∷ text) few =
    let whole = byte ∷ text in
    let cut = length-drop (position_or_len is_line_feed whole + 1) whole in
    let rest = length-lines_of-upto n (after_first is_line_feed whole) (omega arith) in
    omega (arith, ap length (first_line whole (omega arith)))

length-without_name : (cut : List (List (List ℕ))) → length (without_name cut) ≡ length cut
length-without_name [] = refl
length-without_name (line ∷ rest) =
    cond_both (is_skipped line) (line ∷ without_name rest) (cond (names_second line) ([] ∷ rest) (line ∷ rest))
    (λ l. length l ≡ length (line ∷ rest)) (λ _. ap suc (length-without_name rest))
    (λ _. cond_both (names_second line) ([] ∷ rest) (line ∷ rest) (λ l. length l ≡ length (line ∷ rest)) (λ _. refl) (λ _. refl))

-- no caller has more calls than the text has bytes
pub lists-short : (text : List ℕ) (callers most : ℕ) → length text ≤ most
    → AtEach (map (lines text callers) (upto 0 callers)) (λ c calls. length calls ≤ most)
lists-short text callers most short =
    let cut = map fields_of (lines_of text) in
    each-map (λ calls. length calls ≤ most) (lines text callers)
    (λ c. omega (
      arith,
      length-filter_map-le (call_by c) (readings text callers),
      length-map (without_name cut) (reading (form_of cut) callers),
      length-without_name cut,
      length-map (lines_of text) fields_of,
      length-lines_of-upto (length text) text (omega arith),
    ))
    (upto 0 callers)
