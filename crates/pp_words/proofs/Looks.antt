-- What a word looks like: a value, or an option.
use Rattle.std.proofs.Common.{◌≡◌, ◌∙◌, ◌⊎◌, ◌+◌, ◌==◌, ◌||◌, ℕ, Bool, true, false, not, cond, nat_eq, inl, inr, [], ◌∷◌, Option}
use Rattle.std.proofs.Common.{Some, None, codes, take, drop, refl, sym, ap, subst, arith, true≢false}
use Rattle.std.proofs.Math.Numerals.{one-add}
use Rattle.std.proofs.lemmas.Bool.Decides.{nat_tests}
use Rattle.std.specs.List.{prefix_len}
use Rattle.std.specs.Str.{bytes_eq}
use Rattle.clap.specs.Lexer.{long_of, short_of, name_and_value}
use Rattle.pp_words.specs.Words.{Text, begins_with, is_refused, has_byte, before, after}

abbrev pub dashes : Text
dashes = codes "--"

-- a word that begins with no hyphen
pub record IsPlain (word : Text) : Type 0 where
  pub no_hyphen : begins_with (codes "-") word ≡ false
  pub no_hyphens : begins_with dashes word ≡ false
  pub is_more : bytes_eq word dashes ≡ false
  pub no_long : long_of word ≡ None
  pub no_short : short_of word ≡ None

-- a word that the parser reads as an option of this name, with this value attached
pub record IsOption (word name : Text) (value : Option Text) : Type 0 where
  pub is_more : bytes_eq word dashes ≡ false
  pub long : long_of word ≡ Some (name, value)

-- a word that begins with two hyphens, and has more
pub record IsLong (word : Text) : Type 0 where
  pub hyphen : begins_with (codes "-") word ≡ true
  pub hyphens : begins_with dashes word ≡ true
  pub is_more : bytes_eq word dashes ≡ false
  pub long : long_of word ≡ Some (name_and_value (drop 2 word))

is_hyphen : (x : ℕ) → (x ≡ 45) ⊎ ((nat_eq 45 x ≡ false) × (nat_eq x 45 ≡ false))
is_hyphen x = go (nat_eq x 45) refl
  where
    go : (b : Bool) → nat_eq x 45 ≡ b → (x ≡ 45) ⊎ ((nat_eq 45 x ≡ false) × (nat_eq x 45 ≡ false))
    go true e = inl (grind (arith, nat_tests))
    go false e = inr (grind (arith, nat_tests), e)

plain_word_is : (x : ℕ) (rest : Text) → nat_eq 45 x ≡ false → nat_eq x 45 ≡ false → IsPlain (x ∷ rest)
plain_word_is x rest e f =
    record { no_hyphen = rw e; no_hyphens = rw e; is_more = rw f; no_long = rw f; no_short = rw f }

abbrev pub Looks : Text → Type 0
Looks word = is_refused word ≡ false → IsPlain word ⊎ IsLong word

looks_two : (y : ℕ) (rest : Text) → Looks (45 ∷ y ∷ rest)
looks_two y rest h = elim (is_hyphen y) [
  | inl e ↦ subst (λ (n : ℕ). Looks (45 ∷ n ∷ rest)) (sym e) (at_two rest) h
  | inr e ↦ absurd (true≢false (sym (refused_is e.0 e.1) ∙ h))
]
  where
    at_two : (rest : Text) → Looks (45 ∷ 45 ∷ rest)
    at_two [] h = absurd (true≢false h)
    at_two (z ∷ zs) h = inr (record { hyphen = refl; hyphens = refl; is_more = refl; long = refl })

    refused_is : nat_eq 45 y ≡ false → nat_eq y 45 ≡ false → is_refused (45 ∷ y ∷ rest) ≡ true
    refused_is e f = rw (e, f)

pub looks : (word : Text) → Looks word
looks [] h =
    inl (record { no_hyphen = refl; no_hyphens = refl; is_more = refl; no_long = refl; no_short = refl })
looks (x ∷ rest) h = elim (is_hyphen x) [
  | inl e ↦ subst (λ (n : ℕ). Looks (n ∷ rest)) (sym e) (at_hyphen rest) h
  | inr e ↦ inl (plain_word_is x rest e.0 e.1)
]
  where
    at_hyphen : (rest : Text) → Looks (45 ∷ rest)
    at_hyphen [] h = absurd (true≢false h)
    at_hyphen (y ∷ ys) h = looks_two y ys h

before-none : (b : ℕ) (text : Text) → has_byte b text ≡ false → before b text ≡ text
before-none b [] h = refl
before-none b (x ∷ text) h = go (x == b) h (before-none b text)
  where
    go : (t : Bool) → (t || has_byte b text) ≡ false → (has_byte b text ≡ false → before b text ≡ text)
        → take (cond (not t) (1 + prefix_len (λ y. not (y == b)) text) 0) (x ∷ text) ≡ x ∷ text
    go true h rest = absurd (true≢false h)
    go false h rest = rw one-add (ap (λ t. x ∷ t) (rest h))

-- `--NAME=VALUE`
pub attached_option : (word : Text) → IsLong word → has_byte 61 (drop 2 word) ≡ true
    → IsOption word (before 61 (drop 2 word)) (Some (after 61 (drop 2 word)))
attached_option word is e = record { is_more = is.is_more; long = rw e at is.long }

-- `--NAME`
pub named_option : (word : Text) → IsLong word → has_byte 61 (drop 2 word) ≡ false → IsOption word (drop 2 word) None
named_option word is e =
    let whole = before-none 61 (drop 2 word) e in
    record { is_more = is.is_more; long = rw (e, whole) at is.long }

pub some_option : (word : Text) → IsLong word → IsOption word (name_and_value (drop 2 word)).0 (name_and_value (drop 2 word)).1
some_option word is = record { is_more = is.is_more; long = is.long }
