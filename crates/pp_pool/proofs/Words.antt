-- The lists of the opening, each with one entry more at its end.
use Rattle.std.proofs.Common.{◌≡◌, ℕ, zero, suc, ◌+◌, ◌-◌, ◌*◌, List, [], ◌∷◌, ◌++◌, length, replicate, refl, sym, ap, ◌∙◌, arith}
use Rattle.std.proofs.Common.{append_assoc, append-nil, length-append}
use Rattle.pp_link.specs.declared.layout.Sizes.{Sizes}
use Rattle.pp_rule.specs.Opening.{words_from, fields_from, numbers_from, opening_words}

module _ {A : Type 0} where
  -- what was appended before, and what is appended now
  pub appended : (old now new before part after : List A) → now ≡ old ++ before → new ≡ now ++ part → after ≡ before ++ part
      → new ≡ old ++ after
  appended old now new before part after was is more =
      let e : (old ++ before) ++ part ≡ old ++ (before ++ part) = append_assoc old before part in
      is ∙ (ap (λ (l : List A). l ++ part) was ∙ (e ∙ ap (λ (l : List A). old ++ l) (sym more)))

  pub none_yet : (old part : List A) → part ≡ [] → old ≡ old ++ part
  none_yet old part none = let e : old ++ [] ≡ old = append-nil old in sym (ap (λ (l : List A). old ++ l) none ∙ e)

  pub five_appended : (old one two three four five : List A) (a b c d e : A) → one ≡ old ++ a ∷ [] → two ≡ one ++ b ∷ []
      → three ≡ two ++ c ∷ [] → four ≡ three ++ d ∷ [] → five ≡ four ++ e ∷ [] → five ≡ old ++ (a ∷ b ∷ c ∷ d ∷ e ∷ [])
  five_appended old one two three four five a b c d e p q r s t =
      appended old four five (a ∷ b ∷ c ∷ d ∷ []) (e ∷ []) (a ∷ b ∷ c ∷ d ∷ e ∷ [])
      (appended old three four (a ∷ b ∷ c ∷ []) (d ∷ []) (a ∷ b ∷ c ∷ d ∷ [])
      (appended old two three (a ∷ b ∷ []) (c ∷ []) (a ∷ b ∷ c ∷ [])
      (appended old one two (a ∷ []) (b ∷ []) (a ∷ b ∷ []) p q refl) r refl) s refl) t refl

  -- four parts that were appended to nothing, one after another
  pub all_appended : (none one two three four a b c d : List A) → none ≡ [] → one ≡ none ++ a → two ≡ one ++ b → three ≡ two ++ c
      → four ≡ three ++ d → four ≡ a ++ (b ++ (c ++ d))
  all_appended none one two three four a b c d n p q r s =
      let first : one ≡ a = p ∙ ap (λ (l : List A). l ++ a) n in
      let later : four ≡ two ++ (c ++ d) = appended two three four c d (c ++ d) r s refl in
      let both : four ≡ one ++ (b ++ (c ++ d)) = appended one two four b (c ++ d) (b ++ (c ++ d)) q later refl in
      both ∙ ap (λ (l : List A). l ++ (b ++ (c ++ d))) first

  pub long : (old now part : List A) (n : ℕ) → now ≡ old ++ part → length part ≡ n → length now ≡ length old + n
  long old now part n is count = ap length is ∙ (length-append old part ∙ ap (λ k. length old + k) count)

words_suc : (word : ℕ → ℕ) (low n : ℕ) → words_from word low (suc n) ≡ words_from word low n ++ word (low + n) ∷ []
unfolding words_from
words_suc word low zero = ap (λ k. word k ∷ []) (let e : low ≡ low + 0 = omega arith in e)
words_suc word low (suc n) = ap (λ (l : List ℕ). word low ∷ l) (words_suc word (low + 1) n
    ∙ ap (λ k. words_from word (low + 1) n ++ word k ∷ []) (let e : low + 1 + n ≡ low + suc n = omega arith in e))

pub words_more : (word : ℕ → ℕ) (n : ℕ) → words_from word 0 (n + 1) ≡ words_from word 0 n ++ word n ∷ []
words_more word n = ap (words_from word 0) (let e : n + 1 ≡ suc n = omega arith in e) ∙ (words_suc word 0 n
    ∙ ap (λ k. words_from word 0 n ++ word k ∷ []) (let e : 0 + n ≡ n = omega arith in e))

fields_suc : (field : ℕ → ℕ → ℕ) (low n : ℕ) → fields_from field low (suc n) ≡ fields_from field low n ++ fields_from field (low + n) 1
unfolding fields_from
fields_suc field low zero = ap (λ k. fields_from field k 1) (let e : low ≡ low + 0 = omega arith in e)
fields_suc field low (suc n) = ap (λ (l : List ℕ). field low 0 ∷ field low 1 ∷ field low 2 ∷ field low 3 ∷ field low 4 ∷ l)
    (fields_suc field (low + 1) n
    ∙ ap (λ k. fields_from field (low + 1) n ++ fields_from field k 1) (let e : low + 1 + n ≡ low + suc n = omega arith in e))

pub fields_more : (field : ℕ → ℕ → ℕ) (n : ℕ) → fields_from field 1 (n + 1) ≡ fields_from field 1 n ++ fields_from field (n + 1) 1
fields_more field n = ap (fields_from field 1) (let e : n + 1 ≡ suc n = omega arith in e) ∙ (fields_suc field 1 n
    ∙ ap (λ k. fields_from field 1 n ++ fields_from field k 1) (let e : 1 + n ≡ n + 1 = omega arith in e))

five_fields : (field : ℕ → ℕ → ℕ) (n : ℕ) → fields_from field n 1 ≡ field n 0 ∷ field n 1 ∷ field n 2 ∷ field n 3 ∷ field n 4 ∷ []
unfolding fields_from
five_fields field n = refl

-- one more word, and the fields of one more record
pub word_appended : (word : ℕ → ℕ) (old now new : List ℕ) (n w : ℕ) → now ≡ old ++ words_from word 0 n → new ≡ now ++ w ∷ [] → w ≡ word n
    → new ≡ old ++ words_from word 0 (n + 1)
word_appended word old now new n w was is value = appended old now new (words_from word 0 n) (word n ∷ []) (words_from word 0 (n + 1)) was
    (is ∙ ap (λ k. now ++ k ∷ []) value) (words_more word n)

pub fields_appended : (field : ℕ → ℕ → ℕ) (old now new : List ℕ) (n : ℕ) → now ≡ old ++ fields_from field 1 n
    → new ≡ now ++ fields_from field (n + 1) 1 → new ≡ old ++ fields_from field 1 (n + 1)
fields_appended field old now new n was is = appended old now new (fields_from field 1 n) (fields_from field (n + 1) 1)
    (fields_from field 1 (n + 1)) was is (fields_more field n)

pub one_record : (field : ℕ → ℕ → ℕ) (old one two three four five : List ℕ) (n a b c d e : ℕ) → one ≡ old ++ a ∷ []
    → two ≡ one ++ b ∷ []
    → three ≡ two ++ c ∷ [] → four ≡ three ++ d ∷ [] → five ≡ four ++ e ∷ [] → a ≡ field n 0 → b ≡ field n 1 → c ≡ field n 2
    → d ≡ field n 3 → e ≡ field n 4
    → five ≡ old ++ fields_from field n 1
one_record field old one two three four five n a b c d e p q r s t key value left right high =
    five_appended old one two three four five (field n 0) (field n 1) (field n 2) (field n 3) (field n 4)
    (p ∙ ap (λ k. old ++ k ∷ []) key)
    (q ∙ ap (λ k. one ++ k ∷ []) value) (r ∙ ap (λ k. two ++ k ∷ []) left) (s ∙ ap (λ k. three ++ k ∷ []) right)
    (t ∙ ap (λ k. four ++ k ∷ []) high)
    ∙ ap (λ (l : List ℕ). old ++ l) (sym (five_fields field n))

pub no_words : (word : ℕ → ℕ) → words_from word 0 0 ≡ []
unfolding words_from
no_words word = refl

pub no_fields : (field : ℕ → ℕ → ℕ) → fields_from field 1 0 ≡ []
unfolding fields_from
no_fields field = refl

pub length_words : (word : ℕ → ℕ) (low n : ℕ) → length (words_from word low n) ≡ n
unfolding words_from
length_words word low zero = refl
length_words word low (suc n) = ap suc (length_words word (low + 1) n)

pub length_fields : (field : ℕ → ℕ → ℕ) (low n : ℕ) → length (fields_from field low n) ≡ 5 * n
unfolding fields_from
length_fields field low zero = refl
length_fields field low (suc n) = let was = length_fields field (low + 1) n in omega arith

numbers_suc : (low n : ℕ) → numbers_from low (suc n) ≡ numbers_from low n ++ (low + n) ∷ []
unfolding numbers_from
numbers_suc low zero = ap (λ (k : ℕ). k ∷ []) (let e : low ≡ low + 0 = omega arith in e)
numbers_suc low (suc n) = ap (λ (l : List ℕ). low ∷ l) (numbers_suc (low + 1) n
    ∙ ap (λ k. numbers_from (low + 1) n ++ k ∷ []) (let e : low + 1 + n ≡ low + suc n = omega arith in e))

numbers_more : (low n : ℕ) → numbers_from low (n + 1) ≡ numbers_from low n ++ (low + n) ∷ []
numbers_more low n = ap (numbers_from low) (let e : n + 1 ≡ suc n = omega arith in e) ∙ numbers_suc low n

pub number_appended : (low n : ℕ) (now new : List ℕ) → now ≡ numbers_from low n → new ≡ now ++ (low + n) ∷ []
    → new ≡ numbers_from low (n + 1)
number_appended low n now new was is = is ∙ (ap (λ (l : List ℕ). l ++ (low + n) ∷ []) was ∙ sym (numbers_more low n))

pub no_numbers : (low : ℕ) → numbers_from low 0 ≡ []
unfolding numbers_from
no_numbers low = refl

pub length_numbers : (low n : ℕ) → length (numbers_from low n) ≡ n
unfolding numbers_from
length_numbers low zero = refl
length_numbers low (suc n) = ap suc (length_numbers (low + 1) n)

module _ (sentinels : ℕ) (head : ℕ → ℕ) (field : ℕ → ℕ → ℕ) (z : Sizes) where
  -- the words with which a pool opens, region by region; the code has counted the sentinels
  pub all_words : (none low heads fields all : List ℕ) (counted : ℕ) → none ≡ [] → low ≡ none ++ replicate (1 + 17 * z.passes) 0
      → heads ≡ low ++ words_from head 0 z.heads → fields ≡ heads ++ fields_from field 1 sentinels
      → all ≡ fields ++ replicate (5 * (z.records - counted)) 0 → counted ≡ sentinels → all ≡ opening_words sentinels head field z
  unfolding opening_words
  all_words none low heads fields all counted n p q r s is = all_appended none low heads fields all (replicate (1 + 17 * z.passes) 0)
      (words_from head 0 z.heads) (fields_from field 1 sentinels) (replicate (5 * (z.records - sentinels)) 0) n p q r
      (s ∙ ap (λ k. fields ++ replicate (5 * (z.records - k)) 0) is)
