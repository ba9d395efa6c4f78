-- A number read digit by digit.
use Rattle.std.proofs.Common.{◌≡◌, ℕ, ◌+◌, ◌-◌, ◌*◌, ◌^◌, ◌<◌, ◌&&◌, true, false, List, [], ◌∷◌, length, get_or, take, Some, refl, ap}
use Rattle.std.proofs.Common.{◌∙◌, sym, ⊎_elim, arith}
use Rattle.std.specs.Char.{digit_value, is_ascii_digit}
use Rattle.std.specs.List.{list_all}
use Rattle.std.specs.Str.{all_ascii_digits}
use Rattle.std.specs.Str.Parse.{digits_value}
use Rattle.std.proofs.lemmas.Bool.{cases_lt, lt-ltb, le-ltb, and_from}
use Rattle.std.proofs.lemmas.Bool.Decides.{nat_tests}
use Rattle.std.proofs.lemmas.Int.Digits.{digits_value_more}
use Rattle.std.proofs.lemmas.List.Folds.{list_all_more, list_all_at}
use Rattle.pp_trace.specs.declared.scanning.Number.{Number}
use Rattle.pp_trace.specs.declared.scanning.Number.TheVariants.{Not}
use Rattle.pp_trace.specs.Lines.{number_of, as_number, number_with_digit}

all_ascii_digits-list_all : (text : List ℕ) → all_ascii_digits text ≡ list_all is_ascii_digit text
all_ascii_digits-list_all [] = refl
all_ascii_digits-list_all (byte ∷ text) = ap (λ b. is_ascii_digit byte && b) (all_ascii_digits-list_all text)

-- one more digit keeps a text of digits one
pub digits-more : (text : List ℕ) (i : ℕ) → i < length text → all_ascii_digits (take i text) ≡ true → is_ascii_digit (get_or text i 0)
    ≡ true
    → all_ascii_digits (take (i + 1) text) ≡ true
digits-more text i within digits digit =
    all_ascii_digits-list_all (take (i + 1) text) ∙ list_all_more is_ascii_digit text i 0 within
    ∙ and_from _ _ (sym (all_ascii_digits-list_all (take i text)) ∙ digits) digit

-- a byte that is no digit makes a text no number
pub no_number-at : (text : List ℕ) (i : ℕ) → i < length text → is_ascii_digit (get_or text i 0) ≡ false → as_number (number_of text) ≡ Not
no_number-at text i within other =
    let some = lt-ltb 0 (length text) (omega arith) in
    let stray = all_ascii_digits-list_all text ∙ list_all_at is_ascii_digit text i 0 within other in
    rw (some, stray) refl

pub number_with_digit-is : (n digit : ℕ) → number_with_digit (as_number (Some n)) digit ≡ as_number (Some (n * 10 + digit))
number_with_digit-is n digit =
    ⊎_elim
    (λ low. let fits = lt-ltb n (2 ^ 128) low in rw fits refl)
    (λ high.
    let above = le-ltb n (2 ^ 128) high in
    let still = le-ltb (n * 10 + digit) (2 ^ 128) (omega arith) in
    rw (above, still) refl)
    (cases_lt n (2 ^ 128))

digit_value-is : (byte : ℕ) → is_ascii_digit byte ≡ true → digit_value byte ≡ byte - 48
digit_value-is byte digit = grind (arith, nat_tests)

-- the number of one more digit
pub number-more : (text : List ℕ) (i : ℕ) (number : Number) → i < length text → is_ascii_digit (get_or text i 0) ≡ true
    → number ≡ as_number (Some (digits_value 10 (take i text)))
    → number_with_digit number (get_or text i 0 - 48) ≡ as_number (Some (digits_value 10 (take (i + 1) text)))
number-more text i number within digit so-far =
    let byte = get_or text i 0 in
    let n = digits_value 10 (take i text) in
    ap (λ m. number_with_digit m (byte - 48)) so-far ∙ number_with_digit-is n (byte - 48)
    ∙ ap (λ d. as_number (Some (n * 10 + d))) (sym (digit_value-is byte digit))
    ∙ ap (λ m. as_number (Some m)) (sym (digits_value_more 10 text i within))
