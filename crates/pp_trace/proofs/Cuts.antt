-- The first line of a text and the first field of a line, cut off.
use Rattle.std.proofs.Common.{◌≡◌, ℕ, suc, ◌+◌, ◌-◌, ◌<◌, ◌≤◌, min, Bool, not, true, List, [], ◌∷◌, length, map, take, drop, get_or, refl}
use Rattle.std.proofs.Common.{ap, ◌∙◌, sym, ⊎_elim, arith}
use Rattle.std.specs.List.{filter, slice_split, between, before_first, after_first, position_or_len}
use Rattle.std.specs.Str.Lines.{strip_carriage_return}
use Rattle.std.proofs.lemmas.Bool.{cases_lt, cases_Bool, lt-ltb, not-true}
use Rattle.std.proofs.lemmas.List.{take_all, drop_all, take-take, drop-drop, drop_min, drop_more, drop-take, length-drop}
use Rattle.std.proofs.lemmas.List.Edits.{length-between}
use Rattle.std.proofs.lemmas.List.Folds.{length-prefix_len}
use Rattle.std.proofs.lemmas.List.Sums.{passes_at_first}
use Rattle.std.proofs.lemmas.List.Splits.{slice_split_first, slice_split_none, length-slice_split}
use Rattle.pp_trace.specs.Lines.{IsLineAt, IsFirstField, is_line_feed, is_blank, is_field_byte, is_some_text, without_empty_last}
use Rattle.pp_trace.specs.Lines.{lines_of, fields_of}
use Rattle.pp_trace.proofs.Places.{position_or_len-le, none-passes}

without_empty_last-cons : (part : List ℕ) (parts : List (List ℕ)) → 0 < length parts
    → without_empty_last (part ∷ parts) ≡ part ∷ without_empty_last parts
without_empty_last-cons part [] some = absurd (omega arith)
without_empty_last-cons part (next ∷ more) some = refl

uncut : (p : ℕ → Bool) (xs : List ℕ) → length xs ≤ position_or_len p xs → slice_split p xs ≡ xs ∷ []
uncut p xs far = slice_split_none p xs (none-passes p xs far)

-- the first line of a text that isn't empty, and the lines after it
pub first_line : (text : List ℕ) → 0 < length text
    → lines_of text ≡ strip_carriage_return (before_first is_line_feed text) ∷ lines_of (after_first is_line_feed text)
first_line text some =
    let rest = after_first is_line_feed text in
    ⊎_elim
    (λ cut.
    let e = slice_split_first is_line_feed text 0 cut in
    let parts = length-slice_split is_line_feed rest in
    rw e (ap (map strip_carriage_return) (without_empty_last-cons (before_first is_line_feed text) (slice_split is_line_feed rest)
    (omega arith))))
    (λ whole.
    let e = uncut is_line_feed text whole in
    let before : before_first is_line_feed text ≡ text = take_all _ text whole in
    let after : rest ≡ [] = drop_all _ text (omega arith) in
    let full : is_some_text text ≡ true = lt-ltb 0 (length text) some in
    rw (e, full, before, after) refl)
    (cases_lt (position_or_len is_line_feed text) (length text))

-- the line at a place, where its line feed stands n bytes on, and r of those bytes stand before the carriage return
pub line_at : (text : List ℕ) (from n r next : ℕ) → from < length text → n ≡ position_or_len is_line_feed (drop from text)
    → r ≤ length (between from (from + n) text)
    → take r (between from (from + n) text) ≡ strip_carriage_return (between from (from + n) text)
    → next ≡ min (from + n + 1) (length text)
    → IsLineAt text from (record { start = from; end = from + r; next = next })
line_at text from n r next some place within cut e =
    let rest = drop from text in
    let reach : n ≤ length rest = rw place (position_or_len-le is_line_feed rest) in
    let len = length-drop from text in
    let inner : r ≤ n = omega (arith, length-between text from (from + n) (omega arith)) in
    let n-from : from + n - from ≡ n = omega arith in
    let r-from : from + r - from ≡ r = omega arith in
    let body : between from (from + n) text ≡ before_first is_line_feed rest = ap (λ k. take k rest) (n-from ∙ place) in
    let line : between from (from + r) text ≡ strip_carriage_return (before_first is_line_feed rest) =
    ap (λ k. take k rest) r-from ∙ sym (take-take r n rest inner) ∙ ap (λ k. take r (take k rest)) (sym n-from) ∙ cut
    ∙ ap strip_carriage_return body in
    let behind : from + n + 1 ≡ from + (n + 1) = omega arith in
    let after : drop next text ≡ after_first is_line_feed rest =
    ap (λ k. drop k text) e ∙ drop_min (from + n + 1) text ∙ ap (λ k. drop k text) behind ∙ sym (drop-drop (n + 1) from text)
    ∙ ap (λ k. drop (k + 1) rest) place in
    let first = first_line rest (omega arith) in
    record {
      begins = refl;
      ordered = (omega arith, omega arith, omega arith);
      longer = omega arith;
      lines = first ∙ ap (λ l. l ∷ lines_of (after_first is_line_feed rest)) (sym line)
          ∙ ap (λ t. between from (from + r) text ∷ lines_of t) (sym after);
      rest = after;
    }

-- a part of a part
between_later : (text : List ℕ) (from end k : ℕ) → from + k ≤ end → between (from + k) end text ≡ drop k (between from end text)
between_later text from end k within =
    let m = end - (from + k) in
    let split : end - from ≡ k + m = omega arith in
    ap (take m) (sym (drop-drop k from text)) ∙ sym (drop-take k m (drop from text)) ∙ ap (λ j. drop k (take j (drop from text)))
    (sym split)

fields_of-blank : (byte : ℕ) (line : List ℕ) → is_blank byte ≡ true → fields_of (byte ∷ line) ≡ fields_of line
fields_of-blank byte line blank = rw blank refl

-- blanks at the front part no fields
fields_of-drop : (line : List ℕ) → fields_of line ≡ fields_of (drop (position_or_len is_field_byte line) line)
fields_of-drop [] = refl
fields_of-drop (byte ∷ line) =
    ⊎_elim
    (λ blank.
    let k = position_or_len is_field_byte line in
    let next : position_or_len is_field_byte (byte ∷ line) ≡ suc k = rw blank (omega arith) in
    fields_of-blank byte line blank ∙ fields_of-drop line ∙ ap (λ j. fields_of (drop j (byte ∷ line))) (sym next))
    (λ field.
    let here : position_or_len is_field_byte (byte ∷ line) ≡ 0 = rw field refl in
    ap (λ j. fields_of (drop j (byte ∷ line))) (sym here))
    (cases_Bool (is_blank byte))

filter-cons : (part : List ℕ) (parts : List (List ℕ)) → 0 < length part → filter is_some_text (part ∷ parts) ≡ part ∷ filter is_some_text
    parts
filter-cons part parts some = let full = lt-ltb 0 (length part) some in rw full refl

-- a line that begins with a byte of a field begins with that field
first_field : (line : List ℕ) → 0 < position_or_len is_blank line
    → fields_of line ≡ before_first is_blank line ∷ fields_of (drop (position_or_len is_blank line) line)
first_field line some =
    let n = position_or_len is_blank line in
    let before = before_first is_blank line in
    let rest = after_first is_blank line in
    let len = length-prefix_len (λ x. not (is_blank x)) line in
    let reach = position_or_len-le is_blank line in
    ⊎_elim
    (λ cut.
    let parts = slice_split_first is_blank line 0 cut in
    let behind = ap fields_of (drop_more line n 0 cut) ∙ fields_of-blank (get_or line n 0) rest (passes_at_first is_blank line 0 cut) in
    ap (filter is_some_text) parts ∙ filter-cons before (slice_split is_blank rest) (omega arith) ∙ ap (λ fields. before ∷ fields)
    (sym behind))
    (λ whole.
    let parts = uncut is_blank line whole in
    let behind : fields_of (drop n line) ≡ [] = ap fields_of (drop_all n line whole) in
    ap (filter is_some_text) parts ∙ filter-cons line [] (omega arith) ∙ ap (λ part. part ∷ []) (sym (take_all n line whole))
    ∙ ap (λ fields. before ∷ fields) (sym behind))
    (cases_lt n (length line))

field_begins : (range : List ℕ) → position_or_len is_field_byte range < length range
    → 0 < position_or_len is_blank (drop (position_or_len is_field_byte range) range)
field_begins range within =
    let k = position_or_len is_field_byte range in
    let rest = drop_more range k 0 within in
    let field = not-true (is_blank (get_or range k 0)) (passes_at_first is_field_byte range 0 within) in
    rw (rest, field) (omega arith)

-- where only blanks stand between two places, there is no field
pub no_field_at : (text : List ℕ) (from end k : ℕ) → end ≤ length text → k ≡ position_or_len is_field_byte (between from end text)
    → from + k ≡ end → fields_of (between from end text) ≡ []
no_field_at text from end k within blanks all =
    let range = between from end text in
    let len = length-between text from end within in
    fields_of-drop range ∙ ap fields_of (drop_all (position_or_len is_field_byte range) range (omega arith))

-- the first field between two places, where k blanks stand before it, and it has n bytes
pub field_at : (text : List ℕ) (from end k n : ℕ) → from ≤ end → end ≤ length text → k ≡ position_or_len is_field_byte
    (between from end text)
    → (from + k ≡ end → ⊥) → n ≡ position_or_len is_blank (between (from + k) end text)
    → IsFirstField text from end (record { start = from + k; end = from + k + n; next = from + k + n })
field_at text from end k n order within blanks some size =
    let range = between from end text in
    let len = length-between text from end within in
    let reach : k ≤ length range = rw blanks (position_or_len-le is_field_byte range) in
    let later = between_later text from end k (omega arith) in
    let tail = between (from + k) end text in
    let long : n ≤ length tail = rw size (position_or_len-le is_blank tail) in
    let tail-len = length-between text (from + k) end within in
    let begins : 0 < position_or_len is_blank tail = rw (later, blanks) (field_begins range (omega arith)) in
    let n-from : from + k + n - (from + k) ≡ n = omega arith in
    let inner : n ≤ end - (from + k) = omega arith in
    let field : between (from + k) (from + k + n) text ≡ before_first is_blank tail =
    ap (λ j. take j (drop (from + k) text)) n-from ∙ sym (take-take n (end - (from + k)) (drop (from + k) text) inner)
    ∙ ap (λ j. take j tail) size in
    let rest : between (from + k + n) end text ≡ drop (position_or_len is_blank tail) tail =
    between_later text (from + k) end n (omega arith) ∙ ap (λ j. drop j tail) size in
    let skipped : fields_of range ≡ fields_of tail =
    fields_of-drop range ∙ ap (λ j. fields_of (drop j range)) (sym blanks) ∙ ap fields_of (sym later) in
    record {
      within = (omega arith, omega arith, omega arith);
      next = refl;
      fields = skipped ∙ first_field tail begins ∙ ap (λ part. part ∷ fields_of (drop (position_or_len is_blank tail) tail)) (sym field)
          ∙ ap (λ line. between (from + k) (from + k + n) text ∷ fields_of line) (sym rest);
    }
