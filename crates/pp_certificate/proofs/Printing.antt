-- The text of a log and lists is their certificate.
use Rattle.std.proofs.Common.{◌≡◌, ℕ, zero, suc, ◌+◌, ◌/◌, ◌%◌, ◌<◌, ◌≤◌, ◌^◌, Bool, true, false, ◌&&◌, cond, ltb}
use Rattle.std.proofs.Common.{List, [], ◌∷◌, ◌++◌, length, map, get_or, codes, Some, None, option_and_then, option_map, refl, sym}
use Rattle.std.proofs.Common.{ap, ◌∙◌, ⊎_elim, arith, append_assoc, append-nil}
use Rattle.std.specs.Prelude.{slice_get}
use Rattle.std.specs.List.{onto_first, flat_map, cons_option}
use Rattle.std.specs.Fmt.{decimal}
use Rattle.std.specs.Char.{is_ascii_digit}
use Rattle.std.specs.Str.{all_ascii_digits}
use Rattle.std.specs.Str.Parse.{AllDigits}
use Rattle.std.proofs.lemmas.Fmt.{decimal_is_IsNumeral_wide, decimal_by_steps_wide}
use Rattle.std.proofs.lemmas.Str.Parse.{digit_from_value}
use Rattle.std.proofs.lemmas.Bool.{cases_lt, lt-ltb, le-ltb, eq-eqb, ne_eqb, true≢false}
use Rattle.std.proofs.lemmas.Bool.Decides.{nat_tests}
use Rattle.std.proofs.lemmas.List.{get_or-map}
use Rattle.std.proofs.lemmas.List.Splits.{length-slice_split}
use Rattle.pp_model.specs.declared.Call.{Call}
use Rattle.pp_model.specs.declared.Call.TheVariants.{Get, Insert, Remove, Cut}
use Rattle.pp_model.specs.declared.Reply.{Reply}
use Rattle.pp_model.specs.declared.Reply.TheVariants.{Value, Absent, Added, Held, Took, Other}
use Rattle.pp_model.specs.declared.Change.{Change}
use Rattle.pp_model.specs.declared.Placed.{Placed}
use Rattle.pp_model.specs.Lists.{AtEach, upto}
use Rattle.pp_trace.specs.Lines.{is_line_feed, is_some_text}
use Rattle.pp_trace.specs.Text.{reply_text}
use Rattle.pp_certificate.specs.declared.Entry.{Entry}
use Rattle.pp_certificate.specs.declared.Entry.TheVariants.{Opens, Changes, Says, Ends}
use Rattle.pp_certificate.specs.declared.entries.Word.TheVariants as word
use Rattle.pp_certificate.specs.declared.entries.Stage.{Stage}
use Rattle.pp_certificate.specs.declared.entries.Stage.TheVariants as stage
use Rattle.pp_certificate.specs.Words.{is_space, fields_of, has_leading_zero, plain_number, number_below}
use Rattle.pp_certificate.specs.Cuts.{parts_of}
use Rattle.pp_certificate.specs.Lines.{count_in, key_in, value_in, with_rest, call_with, call_of, reply_with, reply_of}
use Rattle.pp_certificate.specs.Lines.{change_with, said_to, said_with, entry_of, line_entry}
use Rattle.pp_certificate.specs.Stages.{next_stage, unless_after, first_bad_from, first_bad}
use Rattle.pp_certificate.specs.Certificates.{entries_in, log_in, list_in, log_of, list_of}
use Rattle.pp_certificate.specs.Printed.{call_text, change_line, said_line, said_text, certificate_text, KeyFits, ValueFits}
use Rattle.pp_certificate.specs.Printed.{CallFits, ReplyFits}
use Rattle.pp_certificate.specs.Printed.{ChangeFits, PlacedFits, Fit, TextsAreCertificates}
use Rattle.pp_certificate.proofs.Growing.{first_bad_from-cons, length-upto, get_or-upto}

-- ---- words: texts without spaces and line feeds

-- none of its bytes is a space or a line feed
abbrev IsWord : List ℕ → Type 0
IsWord [] = Unit {0}
IsWord (b ∷ w) = (is_space b ≡ false) × ((is_line_feed b ≡ false) × IsWord w)

abbrev AreWords : List (List ℕ) → Type 0
AreWords [] = Unit {0}
AreWords (w ∷ ws) = IsWord w × AreWords ws

-- the same, as a test
abbrev word_test : List ℕ → Bool
word_test [] = true
word_test (b ∷ w) = cond (is_space b) false (cond (is_line_feed b) false (word_test w))

split_cond : (t r : Bool) → cond t false r ≡ true → (t ≡ false) × (r ≡ true)
split_cond true r e = absurd (true≢false (sym e))
split_cond false r e = (refl, e)

word_by : (w : List ℕ) → word_test w ≡ true → IsWord w
word_by [] e = tt
word_by (b ∷ w) e =
    let space = split_cond (is_space b) (cond (is_line_feed b) false (word_test w)) e in
    let feed = split_cond (is_line_feed b) (word_test w) space.1 in
    (space.0, (feed.0, word_by w feed.1))

fields_first : (w rest : List ℕ) → IsWord w → fields_of (w ++ 32 ∷ rest) ≡ w ∷ fields_of rest
fields_first [] rest plain = refl
fields_first (b ∷ w) rest plain =
    let space = plain.0 in
    rw space (ap (onto_first b) (fields_first w rest plain.1.1))

fields_last : (w : List ℕ) → IsWord w → fields_of w ≡ w ∷ []
fields_last [] plain = refl
fields_last (b ∷ w) plain =
    let space = plain.0 in
    rw space (ap (onto_first b) (fields_last w plain.1.1))

-- words with one space between them
abbrev sentence : List ℕ → List (List ℕ) → List ℕ
sentence w [] = w
sentence w (v ∷ ws) = w ++ 32 ∷ sentence v ws

fields_sentence : (w : List ℕ) (ws : List (List ℕ)) → IsWord w → AreWords ws → fields_of (sentence w ws) ≡ w ∷ ws
fields_sentence w [] first rest = fields_last w first
fields_sentence w (v ∷ ws) first rest =
    fields_first w (sentence v ws) first ∙ ap (λ fs. w ∷ fs) (fields_sentence v ws rest.0 rest.1)

-- no byte is a line feed
abbrev IsLine : List ℕ → Type 0
IsLine [] = Unit {0}
IsLine (b ∷ l) = (is_line_feed b ≡ false) × IsLine l

line_of_word : (w : List ℕ) → IsWord w → IsLine w
line_of_word [] plain = tt
line_of_word (b ∷ w) plain = (plain.1.0, line_of_word w plain.1.1)

line_of_words : (w rest : List ℕ) → IsWord w → IsLine rest → IsLine (w ++ 32 ∷ rest)
line_of_words [] rest plain line = (refl, line)
line_of_words (b ∷ w) rest plain line = (plain.1.0, line_of_words w rest plain.1.1 line)

line_of_sentence : (w : List ℕ) (ws : List (List ℕ)) → IsWord w → AreWords ws → IsLine (sentence w ws)
line_of_sentence w [] first rest = line_of_word w first
line_of_sentence w (v ∷ ws) first rest = line_of_words w (sentence v ws) first (line_of_sentence v ws rest.0 rest.1)

parts_first : (l rest : List ℕ) → IsLine l → parts_of (l ++ 10 ∷ rest) ≡ l ∷ parts_of rest
parts_first [] rest line = refl
parts_first (b ∷ l) rest line =
    let feed = line.0 in
    rw feed (ap (onto_first b) (parts_first l rest line.1))

-- ---- decimal numbers

digit_plain : (d : ℕ) → 48 ≤ d → (is_space d ≡ false) × (is_line_feed d ≡ false)
digit_plain d low = (ne_eqb d 32 (λ e. omega arith), ne_eqb d 10 (λ e. omega arith))

digits_plain : (ds : List ℕ) → AllDigits 10 ds → IsWord ds
digits_plain [] all = tt
digits_plain (d ∷ ds) all =
    let plain = digit_plain d (digit_from_value d all.0).0 in
    (plain.0, (plain.1, digits_plain ds all.1))

is_digit : (d : ℕ) → 48 ≤ d → d ≤ 57 → is_ascii_digit d ≡ true
is_digit d low high = grind (arith, nat_tests)

digits_all : (ds : List ℕ) → AllDigits 10 ds → all_ascii_digits ds ≡ true
digits_all [] all = refl
digits_all (d ∷ ds) all =
    let range = digit_from_value d all.0 in
    let digit = is_digit d range.0 range.1 in
    let rest = digits_all ds all.1 in
    rw (digit, rest) refl

-- how a number's digits begin
record Begins (n : ℕ) (ds : List ℕ) : Type 0 where
  some : 0 < length ds
  one : n < 10 → length ds ≡ 1
  first : 0 < n → 48 < get_or ds 0 0

begins_one : (n : ℕ) → n < 10 → Begins n ((48 + n) ∷ [])
begins_one n small = record { some = omega arith; one = λ h. refl; first = λ h. omega arith }

first_kept : (ds : List ℕ) (x : ℕ) → 0 < length ds → get_or (ds ++ x ∷ []) 0 0 ≡ get_or ds 0 0
first_kept [] x some = absurd (omega arith)
first_kept (d ∷ ds) x some = refl

length_more : (ds : List ℕ) (x : ℕ) → length (ds ++ x ∷ []) ≡ length ds + 1
length_more [] x = refl
length_more (d ∷ ds) x = omega (arith, length_more ds x)

begins_more : (n : ℕ) (ds : List ℕ) → 10 ≤ n → Begins (n / 10) ds → Begins n (ds ++ ((48 + n % 10) ∷ []))
begins_more n ds big begins = record {
  some = omega (arith, length_more ds (48 + n % 10));
  one = λ h. absurd (omega arith);
  first = λ h. rw (first_kept ds (48 + n % 10) begins.some) (begins.first (omega arith));
}

decimal_begins : (n : ℕ) → n < 10 ^ 64 → Begins n (decimal n)
decimal_begins n small = decimal_by_steps_wide Begins begins_one begins_more n small

and_false : (a : Bool) → (a && false) ≡ false
and_false true = refl
and_false false = refl

no_leading_zero : (n : ℕ) (ds : List ℕ) → Begins n ds → has_leading_zero ds ≡ false
no_leading_zero n ds begins =
    ⊎_elim
    (λ (small : n < 10).
    let short : ltb 1 (length ds) ≡ false = le-ltb 1 (length ds) (omega (arith, begins.one small)) in
    rw short refl)
    (λ (big : 10 ≤ n).
    let first = ne_eqb (get_or ds 0 0) 48 (λ e. omega (arith, begins.first (omega arith))) in
    rw first (and_false (ltb 1 (length ds))))
    (cases_lt n 10)

word_of_decimal : (n : ℕ) → n < 10 ^ 64 → IsWord (decimal n)
word_of_decimal n small = digits_plain (decimal n) (decimal_is_IsNumeral_wide n small).0.1

plain_decimal : (n : ℕ) → n < 10 ^ 64 → plain_number (decimal n) ≡ Some n
plain_decimal n small =
    let numeral = decimal_is_IsNumeral_wide n small in
    let none = no_leading_zero n (decimal n) (decimal_begins n small) in
    let some : is_some_text (decimal n) ≡ true = lt-ltb 0 (length (decimal n)) numeral.0.0 in
    let digits = digits_all (decimal n) numeral.0.1 in
    rw (none, some, digits) (ap (λ (m : ℕ). Some m) numeral.1)

number_read : (bound n : ℕ) → n < bound → n < 10 ^ 64 → number_below bound (decimal n) ≡ Some n
number_read bound n below small =
    let test = lt-ltb n bound below in
    ap (option_and_then (λ m. cond (ltb m bound) (Some m) None)) (plain_decimal n small) ∙ ap (λ b. cond b (Some n) None) test

-- ---- calls and replies

call_first : Call → List ℕ
call_first (Get k) = codes "get"
call_first (Insert k v) = codes "insert"
call_first (Remove k) = codes "remove"
call_first (Cut k v) = codes "cut"

call_rest : Call → List (List ℕ)
call_rest (Get k) = decimal k ∷ []
call_rest (Insert k v) = decimal k ∷ decimal v ∷ []
call_rest (Remove k) = decimal k ∷ []
call_rest (Cut k v) = decimal k ∷ decimal v ∷ []

key_small : (k : ℕ) → KeyFits k → k < 10 ^ 64
key_small k fits = omega arith

value_small : (v : ℕ) → ValueFits v → v < 10 ^ 64
value_small v fits = omega arith

key_read : (k : ℕ) → KeyFits k → key_in (decimal k) ≡ Some k
key_read k fits = number_read 18446744073709551613 k (omega arith) (key_small k fits)

value_read : (v : ℕ) → ValueFits v → value_in (decimal v) ≡ Some v
value_read v fits = number_read (2 ^ 128) v fits (value_small v fits)

call_text_is : (call : Call) → sentence (call_first call) (call_rest call) ≡ call_text call
unfolding call_first call_rest
call_text_is (Get k) = refl
call_text_is (Insert k v) = simp append_assoc
call_text_is (Remove k) = refl
call_text_is (Cut k v) = simp append_assoc

call_is_words : (call : Call) → CallFits call → IsWord (call_first call) × AreWords (call_rest call)
unfolding call_first call_rest
call_is_words (Get k) fits = (word_by (codes "get") refl, (word_of_decimal k (key_small k fits), tt))
call_is_words (Insert k v) fits =
    (word_by (codes "insert") refl, (word_of_decimal k (key_small k fits.0), (word_of_decimal v (value_small v fits.1), tt)))
call_is_words (Remove k) fits = (word_by (codes "remove") refl, (word_of_decimal k (key_small k fits), tt))
call_is_words (Cut k v) fits =
    (word_by (codes "cut") refl, (word_of_decimal k (key_small k fits.0), (word_of_decimal v (value_small v fits.1), tt)))

call_read : (call : Call) (more : List (List ℕ)) → CallFits call
    → call_of (call_first call ∷ (call_rest call ++ more)) ≡ Some (with_rest call more)
unfolding call_first call_rest
call_read (Get k) more fits = ap (λ o. call_with (Some word.Get) o more) (key_read k fits)
call_read (Insert k v) more fits =
    ap (λ o. call_with (Some word.Insert) o (decimal v ∷ more)) (key_read k fits.0)
    ∙ ap (option_map (λ w. with_rest (Insert k w) more)) (value_read v fits.1)
call_read (Remove k) more fits = ap (λ o. call_with (Some word.Remove) o more) (key_read k fits)
call_read (Cut k v) more fits =
    ap (λ o. call_with (Some word.Cut) o (decimal v ∷ more)) (key_read k fits.0)
    ∙ ap (option_map (λ w. with_rest (Cut k w) more)) (value_read v fits.1)

reply_first : Reply → List ℕ
reply_first (Value v) = codes "value"
reply_first Absent = codes "absent"
reply_first Added = codes "added"
reply_first (Held v) = codes "held"
reply_first (Took v) = codes "took"
reply_first (Other v) = codes "other"

reply_rest : Reply → List (List ℕ)
reply_rest (Value v) = decimal v ∷ []
reply_rest Absent = []
reply_rest Added = []
reply_rest (Held v) = decimal v ∷ []
reply_rest (Took v) = decimal v ∷ []
reply_rest (Other v) = decimal v ∷ []

reply_is_words : (r : Reply) → ReplyFits r → IsWord (reply_first r) × AreWords (reply_rest r)
unfolding reply_first reply_rest
reply_is_words (Value v) fits = (word_by (codes "value") refl, (word_of_decimal v (value_small v fits), tt))
reply_is_words Absent fits = (word_by (codes "absent") refl, tt)
reply_is_words Added fits = (word_by (codes "added") refl, tt)
reply_is_words (Held v) fits = (word_by (codes "held") refl, (word_of_decimal v (value_small v fits), tt))
reply_is_words (Took v) fits = (word_by (codes "took") refl, (word_of_decimal v (value_small v fits), tt))
reply_is_words (Other v) fits = (word_by (codes "other") refl, (word_of_decimal v (value_small v fits), tt))

reply_text_is : (r : Reply) → sentence (reply_first r) (reply_rest r) ≡ reply_text r
unfolding reply_first reply_rest
reply_text_is (Value v) = refl
reply_text_is Absent = refl
reply_text_is Added = refl
reply_text_is (Held v) = refl
reply_text_is (Took v) = refl
reply_text_is (Other v) = refl

reply_read : (r : Reply) → ReplyFits r → reply_of (reply_first r ∷ reply_rest r) ≡ Some r
unfolding reply_first reply_rest
reply_read (Value v) fits = ap (reply_with (codes "value")) (value_read v fits)
reply_read Absent fits = refl
reply_read Added fits = refl
reply_read (Held v) fits = ap (reply_with (codes "held")) (value_read v fits)
reply_read (Took v) fits = ap (reply_with (codes "took")) (value_read v fits)
reply_read (Other v) fits = ap (reply_with (codes "other")) (value_read v fits)

-- ---- lines

words_more : (us vs : List (List ℕ)) → AreWords us → AreWords vs → AreWords (us ++ vs)
words_more [] vs first rest = rest
words_more (u ∷ us) vs first rest = (first.0, words_more us vs first.1 rest)

-- a sentence goes on behind a space
sentence_more : (w : List ℕ) (us : List (List ℕ)) (v : List ℕ) (vs : List (List ℕ))
    → sentence w (us ++ v ∷ vs) ≡ sentence w us ++ 32 ∷ sentence v vs
sentence_more w [] v vs = refl
sentence_more w (u ∷ us) v vs =
    ap (λ rest. w ++ 32 ∷ rest) (sentence_more u us v vs) ∙ sym (append_assoc w (32 ∷ sentence u us) (32 ∷ sentence v vs))

-- a text is the line that says an entry
record IsLineOf (text : List ℕ) (entry : Entry) : Type 0 where
  line : List ℕ
  is : text ≡ line ++ 10 ∷ []
  feedless : IsLine line
  says : line_entry line ≡ Some entry

line_of_fields : (text w : List ℕ) (ws : List (List ℕ)) (entry : Entry) → text ≡ sentence w ws ++ 10 ∷ [] → IsWord w → AreWords ws
    → entry_of (w ∷ ws) ≡ Some entry → IsLineOf text entry
line_of_fields text w ws entry is first rest says = record {
  line = sentence w ws;
  is = is;
  feedless = line_of_sentence w ws first rest;
  says = ap entry_of (fields_sentence w ws first rest) ∙ says;
}

caller_small : (c : ℕ) → c < 64 → c < 10 ^ 64
caller_small c below = omega arith

count_small : (n : ℕ) → n < 2 ^ 64 → n < 10 ^ 64
count_small n below = omega arith

change_text_is : (a b t : List ℕ) → codes "change " ++ a ++ codes " " ++ b ++ codes " " ++ t ++ codes "\n"
    ≡ (codes "change" ++ 32 ∷ (a ++ 32 ∷ (b ++ 32 ∷ t))) ++ 10 ∷ []
change_text_is a b t = simp append_assoc

change_is_line : (c : Change) → ChangeFits c → IsLineOf (change_line c) (Changes c)
change_is_line c fits =
    let caller = decimal c.caller in
    let number = decimal c.number in
    let words = call_is_words c.call fits.call in
    line_of_fields (change_line c) (codes "change") (caller ∷ number ∷ call_first c.call ∷ call_rest c.call) (Changes c)
    (change_text_is caller number (call_text c.call)
    ∙ ap (λ t. (codes "change" ++ 32 ∷ (caller ++ 32 ∷ (number ++ 32 ∷ t))) ++ 10 ∷ []) (sym (call_text_is c.call)))
    (word_by (codes "change") refl) (
      word_of_decimal c.caller (caller_small c.caller fits.caller),
      (
        word_of_decimal c.number (count_small c.number fits.number),
        (words.0, words.1),
      ),
    )
    (ap (λ o. change_with o (count_in number) (call_of (call_first c.call ∷ call_rest c.call)))
    (number_read 64 c.caller fits.caller (caller_small c.caller fits.caller))
    ∙ ap (λ o. change_with (Some c.caller) o (call_of (call_first c.call ∷ call_rest c.call)))
    (number_read (2 ^ 64) c.number fits.number (count_small c.number fits.number))
    ∙ ap (λ fs. change_with (Some c.caller) (Some c.number) (call_of (call_first c.call ∷ fs))) (sym (append-nil (call_rest c.call)))
    ∙ ap (change_with (Some c.caller) (Some c.number)) (call_read c.call [] fits.call))

said_text_is : (a b t r : List ℕ) → codes "said " ++ a ++ codes " " ++ b ++ codes " " ++ t ++ codes " " ++ r ++ codes "\n"
    ≡ (codes "said" ++ 32 ∷ (a ++ 32 ∷ (b ++ 32 ∷ (t ++ 32 ∷ r)))) ++ 10 ∷ []
said_text_is a b t r = simp append_assoc

said_is_line : (caller : ℕ) (s : Placed) → caller < 64 → PlacedFits s → IsLineOf (said_line caller s) (Says caller s)
said_is_line caller s below fits =
    let who = decimal caller in
    let place = decimal s.place in
    let call = call_is_words s.call fits.call in
    let reply = reply_is_words s.reply fits.reply in
    let told = reply_first s.reply ∷ reply_rest s.reply in
    line_of_fields (said_line caller s) (codes "said") (who ∷ place ∷ call_first s.call ∷ (call_rest s.call ++ told)) (Says caller s)
    (said_text_is who place (call_text s.call) (reply_text s.reply)
    ∙ ap (λ t. (codes "said" ++ 32 ∷ (who ++ 32 ∷ (place ++ 32 ∷ (t ++ 32 ∷ reply_text s.reply)))) ++ 10 ∷ []) (sym (call_text_is s.call))
    ∙ ap (λ r. (codes "said" ++ 32 ∷ (who ++ 32 ∷ (place ++ 32 ∷ (sentence (call_first s.call) (call_rest s.call) ++ 32 ∷ r)))) ++ 10 ∷ [])
    (sym (reply_text_is s.reply))
    ∙ ap (λ t. (codes "said" ++ 32 ∷ (who ++ 32 ∷ (place ++ 32 ∷ t))) ++ 10 ∷ [])
    (sym (sentence_more (call_first s.call) (call_rest s.call) (reply_first s.reply) (reply_rest s.reply))))
    (word_by (codes "said") refl) (
      word_of_decimal caller (caller_small caller below),
      (
        word_of_decimal s.place (count_small s.place fits.place),
        (call.0, words_more (call_rest s.call) told call.1 (reply.0, reply.1)),
      ),
    )
    (ap (λ o. said_with o (count_in place) (call_of (call_first s.call ∷ (call_rest s.call ++ told))))
    (number_read 64 caller below (caller_small caller below))
    ∙ ap (λ o. said_with (Some caller) o (call_of (call_first s.call ∷ (call_rest s.call ++ told))))
    (number_read (2 ^ 64) s.place fits.place (count_small s.place fits.place))
    ∙ ap (said_with (Some caller) (Some s.place)) (call_read s.call told fits.call)
    ∙ ap (said_to caller s.place s.call) (reply_read s.reply fits.reply))

-- ---- texts

parts_line : (text rest : List ℕ) (entry : Entry) (is : IsLineOf text entry) → parts_of (text ++ rest) ≡ is.line ∷ parts_of rest
parts_line text rest entry is =
    ap (λ t. parts_of (t ++ rest)) is.is ∙ ap parts_of (append_assoc is.line (10 ∷ []) rest) ∙ parts_first is.line rest is.feedless

some_parts : (text : List ℕ) → 0 < length (parts_of text)
some_parts text = omega (arith, length-slice_split is_line_feed text)

-- no line is bad from a stage on
abbrev Good : Stage → List ℕ → Type 0
Good stage text = (n : ℕ) → first_bad_from n stage (parts_of text) ≡ None

good_line : (text rest : List ℕ) (entry : Entry) (at later : Stage) → IsLineOf text entry → next_stage at entry ≡ Some later
    → Good later rest
    → Good at (text ++ rest)
good_line text rest entry at later is next good n =
    ap (first_bad_from n at) (parts_line text rest entry is) ∙ first_bad_from-cons n at is.line (parts_of rest) (some_parts rest)
    ∙ ap (λ e. unless_after n (option_and_then (next_stage at) e) (λ s. first_bad_from (n + 1) s (parts_of rest))) is.says
    ∙ ap (λ o. unless_after n o (λ s. first_bad_from (n + 1) s (parts_of rest))) next ∙ good (n + 1)

entries_line : (text rest : List ℕ) (entry : Entry) → IsLineOf text entry
    → entries_in (parts_of (text ++ rest)) ≡ entry ∷ entries_in (parts_of rest)
entries_line text rest entry is =
    ap entries_in (parts_line text rest entry is) ∙ ap (λ o. cons_option o (entries_in (parts_of rest))) is.says

each_rest : {A : Type 0} (P : A → Type 0) (x : A) (xs : List A) → AtEach (x ∷ xs) (λ k y. P y) → AtEach xs (λ k y. P y)
each_rest P x xs each k y at = each (suc k) y at

good_log : (log : List Change) (rest : List ℕ) → AtEach log (λ p c. ChangeFits c) → Good stage.Log rest
    → Good stage.Log (flat_map change_line log ++ rest)
good_log [] rest fit good n = good n
good_log (c ∷ log) rest fit good n =
    ap (λ t. first_bad_from n stage.Log (parts_of t)) (append_assoc (change_line c) (flat_map change_line log) rest)
    ∙ good_line (change_line c) (flat_map change_line log ++ rest) (Changes c) stage.Log stage.Log (change_is_line c (fit 0 c refl)) refl
    (good_log log rest (each_rest ChangeFits c log fit) good) n

entries_log : (log : List Change) (rest : List ℕ) → AtEach log (λ p c. ChangeFits c)
    → entries_in (parts_of (flat_map change_line log ++ rest)) ≡ map Changes log ++ entries_in (parts_of rest)
entries_log [] rest fit = refl
entries_log (c ∷ log) rest fit =
    ap (λ t. entries_in (parts_of t)) (append_assoc (change_line c) (flat_map change_line log) rest)
    ∙ entries_line (change_line c) (flat_map change_line log ++ rest) (Changes c) (change_is_line c (fit 0 c refl))
    ∙ ap (λ es. Changes c ∷ es) (entries_log log rest (each_rest ChangeFits c log fit))

-- calls of this caller and those above it may come next
abbrev MayCall : Stage → ℕ → Type 0
MayCall stage.Opening low = ⊥
MayCall stage.Log low = Unit {0}
MayCall (stage.Calls before) low = before ≤ low
MayCall stage.Ended low = ⊥

abbrev GoodFrom : ℕ → List ℕ → Type 0
GoodFrom low text = (at : Stage) → MayCall at low → Good at text

next_call : (at : Stage) (c : ℕ) (s : Placed) → MayCall at c → next_stage at (Says c s) ≡ Some (stage.Calls c)
next_call stage.Opening c s may = absurd may
next_call stage.Log c s may = refl
next_call (stage.Calls before) c s may = let test = le-ltb c before may in rw test refl
next_call stage.Ended c s may = absurd may

next_end : (at : Stage) (c : ℕ) → MayCall at c → next_stage at Ends ≡ Some stage.Ended
next_end stage.Opening c may = absurd may
next_end stage.Log c may = refl
next_end (stage.Calls before) c may = refl
next_end stage.Ended c may = absurd may

may_later : (at : Stage) (c : ℕ) → MayCall at c → MayCall at (c + 1)
may_later stage.Opening c may = may
may_later stage.Log c may = may
may_later (stage.Calls before) c may = omega arith
may_later stage.Ended c may = may

good_mine : (c : ℕ) (mine : List Placed) (rest : List ℕ) → c < 64 → AtEach mine (λ n s. PlacedFits s) → GoodFrom c rest
    → GoodFrom c (flat_map (said_line c) mine ++ rest)
good_mine c [] rest below fit good at may n = good at may n
good_mine c (s ∷ mine) rest below fit good at may n =
    ap (λ t. first_bad_from n at (parts_of t)) (append_assoc (said_line c s) (flat_map (said_line c) mine) rest)
    ∙ good_line (said_line c s) (flat_map (said_line c) mine ++ rest) (Says c s) at (stage.Calls c) (said_is_line c s below (fit 0 s refl))
    (next_call at c s may)
    (good_mine c mine rest below (each_rest PlacedFits s mine fit) good (stage.Calls c) (omega arith)) n

entries_mine : (c : ℕ) (mine : List Placed) (rest : List ℕ) → c < 64 → AtEach mine (λ n s. PlacedFits s)
    → entries_in (parts_of (flat_map (said_line c) mine ++ rest)) ≡ map (Says c) mine ++ entries_in (parts_of rest)
entries_mine c [] rest below fit = refl
entries_mine c (s ∷ mine) rest below fit =
    ap (λ t. entries_in (parts_of t)) (append_assoc (said_line c s) (flat_map (said_line c) mine) rest)
    ∙ entries_line (said_line c s) (flat_map (said_line c) mine ++ rest) (Says c s) (said_is_line c s below (fit 0 s refl))
    ∙ ap (λ es. Says c s ∷ es) (entries_mine c mine rest below (each_rest PlacedFits s mine fit))

abbrev ListsFit : List (List Placed) → Type 0
ListsFit lists = AtEach lists (λ c mine. AtEach mine (λ n s. PlacedFits s))

-- what the lines of the lists say, from caller c on
abbrev says_from : ℕ → List (List Placed) → List Entry
says_from c [] = []
says_from c (mine ∷ lists) = map (Says c) mine ++ says_from (c + 1) lists

good_lists : (c : ℕ) (lists : List (List Placed)) (rest : List ℕ) → c + length lists ≤ 64 → ListsFit lists
    → ((low : ℕ) → GoodFrom low rest) → GoodFrom c (said_text c lists ++ rest)
good_lists c [] rest few fit good at may n = good c at may n
good_lists c (mine ∷ lists) rest few fit good at may n =
    ap (λ t. first_bad_from n at (parts_of t)) (append_assoc (flat_map (said_line c) mine) (said_text (c + 1) lists) rest)
    ∙ good_mine c mine (said_text (c + 1) lists ++ rest) (omega arith) (fit 0 mine refl)
    (λ from may_from. good_lists (c + 1) lists rest (omega arith) (each_rest (λ m. AtEach m (λ n s. PlacedFits s)) mine lists fit) good from
    (may_later from c may_from)) at may n

entries_lists : (c : ℕ) (lists : List (List Placed)) (rest : List ℕ) → c + length lists ≤ 64 → ListsFit lists
    → entries_in (parts_of (said_text c lists ++ rest)) ≡ says_from c lists ++ entries_in (parts_of rest)
entries_lists c [] rest few fit = refl
entries_lists c (mine ∷ lists) rest few fit =
    ap (λ t. entries_in (parts_of t)) (append_assoc (flat_map (said_line c) mine) (said_text (c + 1) lists) rest)
    ∙ entries_mine c mine (said_text (c + 1) lists ++ rest) (omega arith) (fit 0 mine refl)
    ∙ ap (λ es. map (Says c) mine ++ es)
    (entries_lists (c + 1) lists rest (omega arith) (each_rest (λ m. AtEach m (λ n s. PlacedFits s)) mine lists fit))
    ∙ sym (append_assoc (map (Says c) mine) (says_from (c + 1) lists) (entries_in (parts_of rest)))

-- ---- what is said

log_changes : (log : List Change) (es : List Entry) → log_in (map Changes log ++ es) ≡ log ++ log_in es
log_changes [] es = refl
log_changes (c ∷ log) es = ap (λ l. c ∷ l) (log_changes log es)

log_mine : (c : ℕ) (mine : List Placed) (es : List Entry) → log_in (map (Says c) mine ++ es) ≡ log_in es
log_mine c [] es = refl
log_mine c (s ∷ mine) es = log_mine c mine es

log_lists : (c : ℕ) (lists : List (List Placed)) (es : List Entry) → log_in (says_from c lists ++ es) ≡ log_in es
log_lists c [] es = refl
log_lists c (mine ∷ lists) es =
    ap log_in (append_assoc (map (Says c) mine) (says_from (c + 1) lists) es) ∙ log_mine c mine (says_from (c + 1) lists ++ es)
    ∙ log_lists (c + 1) lists es

list_changes : (k : ℕ) (log : List Change) (es : List Entry) → list_in k (map Changes log ++ es) ≡ list_in k es
list_changes k [] es = refl
list_changes k (c ∷ log) es = list_changes k log es

list_same : (c k : ℕ) (mine : List Placed) (es : List Entry) → c ≡ k → list_in k (map (Says c) mine ++ es) ≡ mine ++ list_in k es
list_same c k [] es same = refl
list_same c k (s ∷ mine) es same = let test = eq-eqb c k same in rw test (ap (λ l. s ∷ l) (list_same c k mine es same))

list_other : (c k : ℕ) (mine : List Placed) (es : List Entry) → (c ≡ k → ⊥) → list_in k (map (Says c) mine ++ es) ≡ list_in k es
list_other c k [] es other = refl
list_other c k (s ∷ mine) es other = let test = ne_eqb c k other in rw test (list_other c k mine es other)

list_below : (c k : ℕ) (lists : List (List Placed)) (es : List Entry) → k < c → list_in k (says_from c lists ++ es) ≡ list_in k es
list_below c k [] es below = refl
list_below c k (mine ∷ lists) es below =
    ap (list_in k) (append_assoc (map (Says c) mine) (says_from (c + 1) lists) es)
    ∙ list_other c k mine (says_from (c + 1) lists ++ es) (λ e. omega arith) ∙ list_below (c + 1) k lists es (omega arith)

list_from : (c j k : ℕ) (lists : List (List Placed)) (es : List Entry) → k ≡ c + j → list_in k es ≡ []
    → list_in k (says_from c lists ++ es) ≡ get_or lists j []
list_from c j k [] es is none = none
list_from c zero k (mine ∷ lists) es is none =
    ap (list_in k) (append_assoc (map (Says c) mine) (says_from (c + 1) lists) es)
    ∙ list_same c k mine (says_from (c + 1) lists ++ es) (omega arith)
    ∙ ap (λ l. mine ++ l) (list_below (c + 1) k lists es (omega arith) ∙ none) ∙ append-nil mine
list_from c (suc j) k (mine ∷ lists) es is none =
    ap (list_in k) (append_assoc (map (Says c) mine) (says_from (c + 1) lists) es)
    ∙ list_other c k mine (says_from (c + 1) lists ++ es) (λ e. omega arith) ∙ list_from (c + 1) j k lists es (omega arith) none

-- ---- the whole

opening_is_line : IsLineOf (codes "certificate 1\n") Opens
opening_is_line =
    line_of_fields (codes "certificate 1\n") (codes "certificate") (codes "1" ∷ []) Opens refl (word_by (codes "certificate") refl)
    (word_by (codes "1") refl, tt) refl

ending_is_line : IsLineOf (codes "end\n") Ends
ending_is_line = line_of_fields (codes "end\n") (codes "end") [] Ends refl (word_by (codes "end") refl) tt refl

good_ending : (low : ℕ) → GoodFrom low (codes "end\n")
good_ending low at may n = good_line (codes "end\n") [] Ends at stage.Ended ending_is_line (next_end at low may) (λ m. refl) n

module _ (log : List Change) (lists : List (List Placed)) (fit : Fit log lists) where
  whole_good : first_bad (certificate_text log lists) ≡ None
  whole_good =
      good_line (codes "certificate 1\n") (flat_map change_line log ++ (said_text 0 lists ++ codes "end\n")) Opens stage.Opening stage.Log
      opening_is_line refl
      (good_log log (said_text 0 lists ++ codes "end\n") fit.changes
      (good_lists 0 lists (codes "end\n") (omega (arith, fit.callers)) fit.placed good_ending stage.Log tt)) 1

  whole_entries : entries_in (parts_of (certificate_text log lists)) ≡ Opens ∷ (map Changes log ++ (says_from 0 lists ++ Ends ∷ []))
  whole_entries =
      entries_line (codes "certificate 1\n") (flat_map change_line log ++ (said_text 0 lists ++ codes "end\n")) Opens opening_is_line
      ∙ ap (λ es. Opens ∷ es) (entries_log log (said_text 0 lists ++ codes "end\n") fit.changes
      ∙ ap (λ es. map Changes log ++ es) (entries_lists 0 lists (codes "end\n") (omega (arith, fit.callers)) fit.placed
      ∙ ap (λ es. says_from 0 lists ++ es) (entries_line (codes "end\n") [] Ends ending_is_line)))

  whole_log : log_of (certificate_text log lists) ≡ log
  whole_log =
      ap log_in whole_entries ∙ log_changes log (says_from 0 lists ++ Ends ∷ [])
      ∙ ap (λ l. log ++ l) (log_lists 0 lists (Ends ∷ [])) ∙ append-nil log

  whole_list : (k : ℕ) → list_of (certificate_text log lists) k ≡ get_or lists k []
  whole_list k =
      ap (list_in k) whole_entries ∙ list_changes k log (says_from 0 lists ++ Ends ∷ [])
      ∙ list_from 0 k k lists (Ends ∷ []) (omega arith) refl

pub texts_are_certificates : TextsAreCertificates
texts_are_certificates log lists fit =
    let text = certificate_text log lists in (
      record { log = log_of text; lists = map (list_of text) (upto 0 64) },
      record {
        good = whole_good log lists fit;
        log_is = refl;
        lists_are = refl;
        callers = λ p c at. (fit.changes p c (ap (λ (l : List Change). slice_get l p) (sym (whole_log log lists fit)) ∙ at)).caller;
      },
      whole_log log lists fit,
      λ c below. said_at text c below ∙ whole_list log lists fit c,
    )
  where
    said_at : (text : List ℕ) (c : ℕ) → c < 64 → get_or (map (list_of text) (upto 0 64)) c [] ≡ list_of text c
    said_at text c below =
        let long : length (upto 0 64) ≡ 64 = length-upto 0 64 in
        get_or-map (list_of text) (upto 0 64) c 0 [] (omega arith) ∙ ap (list_of text) (get_or-upto 0 64 c 0 below ∙ omega arith)
