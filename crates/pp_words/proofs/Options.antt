-- The options that words give: read one after another, or checked at the end, they are the same; and words that
-- are refused before the parser is asked give none.
use Rattle.std.proofs.Common.{◌≡◌, ◌∙◌, ◌++◌, ◌&&◌, ◌||◌, Bool, true, false, not, cond, if◌then◌else◌, List, [], ◌∷◌, drop}
use Rattle.std.proofs.Common.{Option, Some, None, option_and_then, codes, refl, sym, ap, ap₂, subst, append-nil, append_assoc, true≢false}
use Rattle.std.proofs.lemmas.List.Folds.{list_any-append}
use Rattle.std.proofs.lemmas.Slice.Eq.{bytes_eq-Decides}
use Rattle.std.specs.List.{list_all, list_any}
use Rattle.std.specs.Str.{bytes_eq}
use Rattle.pp_words.specs.Words.{option_names}
use Rattle.pp_words.specs.Words.{Given, Text, after, and_then, are_distinct, before, begins_with, has_byte, is_given, is_refused}
use Rattle.pp_words.specs.Words.{options_from, options_of}
use Rattle.pp_words.proofs.Rules.{is_among, or_false}
use Rattle.pp_words.proofs.Walks.{add, add_waiting, added}

bytes_eq-sym : (a b : Text) → bytes_eq a b ≡ bytes_eq b a
bytes_eq-sym a b = go (bytes_eq a b) (bytes_eq b a) (bytes_eq-Decides a b) (bytes_eq-Decides b a)
  where
    go : (p q : Bool) → ((p ≡ true → a ≡ b) × (a ≡ b → p ≡ true)) → ((q ≡ true → b ≡ a) × (b ≡ a → q ≡ true)) → p ≡ q
    go true true h k = refl
    go false false h k = refl
    go true false h k = sym (k.1 (sym (h.0 refl)))
    go false true h k = h.1 (sym (k.0 refl))

-- none of these options is given already
abbrev apart : List Given → List Given → Bool
apart given l = list_all (λ g. not (is_given g.name given)) l

apart_tests : (a s p q : Bool) → (not (a || s) && (p && not q)) ≡ ((not a && p) && not (s || q))
apart_tests true s p q = refl
apart_tests false true true q = refl
apart_tests false true false q = refl
apart_tests false false p q = refl

apart-push : (given : List Given) (g : Given) (l : List Given)
    → apart (given ++ g ∷ []) l ≡ (apart given l && not (is_given g.name l))
apart-push given g [] = refl
apart-push given g (x ∷ l) =
    let alone : is_given x.name (g ∷ []) ≡ bytes_eq x.name g.name =
    or_false (bytes_eq g.name x.name) ∙ bytes_eq-sym g.name x.name in
    let last : is_given x.name (given ++ g ∷ []) ≡ (is_given x.name given || bytes_eq x.name g.name) =
    list_any-append (λ h. bytes_eq h.name x.name) given (g ∷ []) ∙ ap (λ b. is_given x.name given || b) alone in
    ap₂ (λ a b. not a && b) last (apart-push given g l)
    ∙ apart_tests (is_given x.name given) (bytes_eq x.name g.name) (apart given l) (is_given g.name l)

add_tests : {X : Type 0} (k n r e d a : Bool) (s o : Option X) → o ≡ cond (r && (d && (a && not e))) s None
    → cond (k && not n) o None ≡ cond ((k && r) && ((not e && d) && (not n && a))) s None
add_tests false n r e d a s o h = refl
add_tests true true false e d a s o h = refl
add_tests true true true true d a s o h = refl
add_tests true true true false false a s o h = refl
add_tests true true true false true a s o h = refl
add_tests true false false e d a s o h = h
add_tests true false true true false a s o h = h
add_tests true false true true true false s o h = h
add_tests true false true true true true s o h = h
add_tests true false true false false a s o h = h
add_tests true false true false true false s o h = h
add_tests true false true false true true s o h = h

module _ (names : List Text) where
  abbrev are_names : List Given → Bool
  are_names l = list_all (λ g. is_among names g.name) l

  add_is : (given l : List Given)
      → add names given l ≡ (if are_names l && (are_distinct l && apart given l) then Some (given ++ l) else None)
  add_is given [] = ap (λ l. Some l) (sym (append-nil given))
  add_is given (g ∷ l) =
      let all : Option (List Given) = Some (given ++ (g ∷ l)) in
      let rest : add names (given ++ g ∷ []) l
      ≡ cond (are_names l && (are_distinct l && (apart given l && not (is_given g.name l)))) all None =
      add_is (given ++ g ∷ []) l ∙ ap₂ (λ b m. cond (are_names l && (are_distinct l && b)) (Some m) None)
      (apart-push given g l) (append_assoc given (g ∷ []) l) in
      add_tests (is_among names g.name) (is_given g.name given) (are_names l) (is_given g.name l) (are_distinct l)
      (apart given l) all (add names (given ++ g ∷ []) l) rest

  apart-nil : (l : List Given) → apart [] l ≡ true
  apart-nil [] = refl
  apart-nil (g ∷ l) = apart-nil l

  and_true : (b : Bool) → (b && true) ≡ b
  and_true true = refl
  and_true false = refl

  -- options that are read one after another are options that are known and distinct
  added_is : (o : Option (List Given))
      → added names [] o ≡ option_and_then (λ l. if are_names l && are_distinct l then Some l else None) o
  added_is None = refl
  added_is (Some l) =
      let distinct : (are_distinct l && apart [] l) ≡ are_distinct l =
      ap (λ b. are_distinct l && b) (apart-nil l) ∙ and_true (are_distinct l) in
      add_is [] l ∙ ap (λ b. cond (are_names l && b) (Some l) None) distinct

  -- ---- words that are refused

  abbrev AreNone : Option (List Given) → Type 0
  AreNone o = (given : List Given) → added names given o ≡ None

  none_more : (name v : Text) (o : Option (List Given)) → AreNone o → AreNone (and_then name v o)
  none_more name v None none given = refl
  none_more name v (Some l) none given = go (is_among names name && not (is_given name given))
    where
      go : (b : Bool) → cond b (add names (given ++ record { name = name; value = v } ∷ []) l) None ≡ None
      go true = none (given ++ record { name = name; value = v } ∷ [])
      go false = refl

  module _ (unnamed : is_among names [] ≡ false) where
    none_here : (word : Text) (words : List Text) (waiting : Option Text) → is_refused word ≡ true
        → AreNone (options_from waiting (word ∷ words))
    none_here word words waiting h given = go (begins_with (codes "-") word) refl h waiting
      where
        by_form : (b : Bool) → begins_with (codes "--") word ≡ b → (d : Bool) → bytes_eq word (codes "--") ≡ d → (d || not b) ≡ true
            → added names given (options_from None (word ∷ words)) ≡ None
        by_form false e d f r = rw e
        by_form true e false f r = absurd (true≢false (sym r))
        by_form true e true f r = subst (λ (w : Text). added names given (options_from None (w ∷ words)) ≡ None)
            (sym ((bytes_eq-Decides word (codes "--")).0 f)) (add_waiting names given [] words unnamed)

        go : (b : Bool) → begins_with (codes "-") word ≡ b
            → (b && (bytes_eq word (codes "--") || not (begins_with (codes "--") word))) ≡ true
            → (waiting : Option Text) → added names given (options_from waiting (word ∷ words)) ≡ None
        go false e r waiting = absurd (true≢false (sym r))
        go true e r (Some name) = rw e
        go true e r None = by_form (begins_with (codes "--") word) refl (bytes_eq word (codes "--")) refl r

    none_later : (word : Text) (words : List Text) → ((waiting : Option Text) → AreNone (options_from waiting words))
        → (waiting : Option Text) → AreNone (options_from waiting (word ∷ words))
    none_later word words rest (Some name) given = by_hyphen (begins_with (codes "-") word)
      where
        by_hyphen : (b : Bool) → added names given (cond b None (and_then name word (options_from None words))) ≡ None
        by_hyphen true = refl
        by_hyphen false = none_more name word (options_from None words) (rest None) given
    none_later word words rest None given = by_form (begins_with (codes "--") word) (has_byte 61 (drop 2 word))
      where
        name : Text
        name = before 61 (drop 2 word)

        value : Text
        value = after 61 (drop 2 word)

        by_form : (b d : Bool)
            → added names given
            (cond b (cond d (and_then name value (options_from None words)) (options_from (Some (drop 2 word)) words)) None)
            ≡ None
        by_form false d = refl
        by_form true true = none_more name value (options_from None words) (rest None) given
        by_form true false = rest (Some (drop 2 word)) given

    none_of : (words : List Text) → list_any is_refused words ≡ true → (waiting : Option Text) → AreNone (options_from waiting words)
    none_of [] h waiting given = absurd (true≢false (sym h))
    none_of (word ∷ words) h waiting given = by_word (is_refused word) refl h (none_of words)
      where
        by_word : (b : Bool) → is_refused word ≡ b → (b || list_any is_refused words) ≡ true
            → (list_any is_refused words ≡ true → (waiting : Option Text) → AreNone (options_from waiting words))
            → added names given (options_from waiting (word ∷ words)) ≡ None
        by_word true e r rest = none_here word words waiting e given
        by_word false e r rest = none_later word words (rest r) waiting given

pub options_are : (words : List Text) → added option_names [] (options_from None words) ≡ options_of words
options_are words = added_is option_names (options_from None words)

pub refused_words : (words : List Text) → list_any is_refused words ≡ true → options_of words ≡ None
refused_words words h = sym (options_are words) ∙ none_of option_names refl words h None []
