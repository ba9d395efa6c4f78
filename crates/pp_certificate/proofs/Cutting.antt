-- The first field of a line, and the first line of a text, cut off.
use Rattle.std.proofs.Common.{◌≡◌, ℕ, ◌+◌, ◌-◌, ◌<◌, ◌≤◌, List, [], ◌∷◌, length, take, drop, refl}
use Rattle.std.proofs.Common.{ap, ◌∙◌, sym, ⊎_elim, arith}
use Rattle.std.specs.List.{between, before_first, after_first, position_or_len}
use Rattle.std.proofs.lemmas.Bool.{cases_lt, lt-ltb, le-ltb}
use Rattle.std.proofs.lemmas.List.{take_all, take-take, drop-drop, drop-take, length-drop}
use Rattle.std.proofs.lemmas.List.Edits.{length-between}
use Rattle.std.proofs.lemmas.List.Splits.{slice_split_first, slice_split_none}
use Rattle.pp_trace.specs.Lines.{is_line_feed}
use Rattle.pp_trace.proofs.Places.{position_or_len-le, none-passes}
pub use Rattle.pp_trace.proofs.Places.{unwrap_or-position}
use Rattle.pp_certificate.specs.Words.{is_space, fields_of, words_left, IsFirstWord}
use Rattle.pp_certificate.specs.Cuts.{parts_of, IsLastPart, IsLineTo}

-- a part of a part
between_later : (text : List ℕ) (from end k : ℕ) → from + k ≤ end → between (from + k) end text ≡ drop k (between from end text)
between_later text from end k within =
    let m = end - (from + k) in
    let split : end - from ≡ k + m = omega arith in
    ap (take m) (sym (drop-drop k from text)) ∙ sym (drop-take k m (drop from text)) ∙ ap (λ j. drop k (take j (drop from text)))
    (sym split)

between_front : (text : List ℕ) (from end n : ℕ) → from + n ≤ end → between from (from + n) text ≡ take n (between from end text)
between_front text from end n within =
    let size : from + n - from ≡ n = omega arith in
    let inner : n ≤ end - from = omega arith in
    ap (λ j. take j (drop from text)) size ∙ sym (take-take n (end - from) (drop from text) inner)

words_left-some : (text : List ℕ) (from end : ℕ) → from ≤ end → words_left text from end ≡ fields_of (between from end text)
words_left-some text from end within = let test = le-ltb end from within in rw test refl

pub no_words : (text : List ℕ) (from end : ℕ) → end < from → words_left text from end ≡ []
no_words text from end past = let test = lt-ltb end from past in rw test refl

-- the first field of a line, which has n bytes
pub word_at : (text : List ℕ) (from end n : ℕ) → from ≤ end → end ≤ length text → n ≡ position_or_len is_space (between from end text)
    → IsFirstWord text from end (record { start = from; end = from + n; next = from + n + 1 })
word_at text from end n order within place =
    let range = between from end text in
    let len = length-between text from end within in
    let reach : n ≤ length range = rw place (position_or_len-le is_space range) in
    let front : between from (from + n) text ≡ before_first is_space range =
    between_front text from end n (omega arith) ∙ ap (λ j. take j range) place in
    record {
      order = omega arith;
      within = omega arith;
      next = refl;
      words = words_left-some text from end order
          ∙ ⊎_elim
          (λ cut.
          let next : from + (n + 1) ≡ from + n + 1 = omega arith in
          let behind : after_first is_space range ≡ between (from + n + 1) end text =
          ap (λ j. drop (j + 1) range) (sym place) ∙ sym (between_later text from end (n + 1) (omega arith))
          ∙ ap (λ j. between j end text) next in
          slice_split_first is_space range 0 cut
          ∙ ap (λ part. part ∷ fields_of (after_first is_space range)) (sym front)
          ∙ ap (λ line. between from (from + n) text ∷ fields_of line) behind
          ∙ ap (λ rest. between from (from + n) text ∷ rest) (sym (words_left-some text (from + n + 1) end (omega arith))))
          (λ whole.
          slice_split_none is_space range (none-passes is_space range whole)
          ∙ ap (λ part. part ∷ []) (sym (take_all (position_or_len is_space range) range whole) ∙ sym front)
          ∙ ap (λ rest. between from (from + n) text ∷ rest) (sym (no_words text (from + n + 1) end (omega arith))))
          (cases_lt (position_or_len is_space range) (length range));
    }

-- where no line feed follows
pub last_part : (text : List ℕ) (from n : ℕ) → from ≤ length text → n ≡ position_or_len is_line_feed (drop from text)
    → from + n ≡ length text → IsLastPart text from
last_part text from n within place all =
    let len = length-drop from text in
    slice_split_none is_line_feed (drop from text) (none-passes is_line_feed (drop from text) (omega arith))

-- where one stands n bytes on
pub line_to : (text : List ℕ) (from n : ℕ) → from ≤ length text → n ≡ position_or_len is_line_feed (drop from text)
    → (from + n ≡ length text → ⊥) → IsLineTo text from (from + n)
line_to text from n within place some =
    let rest = drop from text in
    let len = length-drop from text in
    let reach : n ≤ length rest = rw place (position_or_len-le is_line_feed rest) in
    let size : from + n - from ≡ n = omega arith in
    let line : between from (from + n) text ≡ before_first is_line_feed rest = ap (λ k. take k rest) (size ∙ place) in
    let next : from + n + 1 ≡ from + (n + 1) = omega arith in
    let after : drop (from + n + 1) text ≡ after_first is_line_feed rest =
    ap (λ k. drop k text) next ∙ sym (drop-drop (n + 1) from text) ∙ ap (λ k. drop (k + 1) rest) place in
    record {
      order = omega arith;
      within = omega arith;
      parts = slice_split_first is_line_feed rest 0 (omega arith)
          ∙ ap (λ part. part ∷ parts_of (after_first is_line_feed rest)) (sym line)
          ∙ ap (λ t. between from (from + n) text ∷ parts_of t) (sym after);
    }
