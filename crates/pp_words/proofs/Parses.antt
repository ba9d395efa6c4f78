-- What `clap` makes of words is what the reading from left to right makes of them.
use Rattle.std.proofs.Common.{◌≡◌, ◌∙◌, ◌||◌, Bool, true, false, cond, List, [], ◌∷◌, map, Option, Some, None, is_some, option_map}
use Rattle.std.proofs.Common.{option_and_then, refl, ap, subst}
use Rattle.std.specs.Prelude.{find, slice_get}
use Rattle.std.specs.List.{fold, list_any}
use Rattle.std.specs.Str.{bytes_eq}
use Rattle.clap.specs.Faults.{check_fault, defaults_fault, entered_fault, fault_of, given_default_fault, settle_fault, walk_fault}
use Rattle.clap.specs.Kinds.{Kinds, or_else}
use Rattle.clap.specs.Matches.{first_value}
use Rattle.clap.specs.Simple.{built, entered, matches_of}
use Rattle.clap.specs.Walk.{Held, Row, Rule, Walk, finished, first_of, has_row, nothing_held, rows_of, settled, walk, with_default}
use Rattle.clap.specs.declared.parser.matches.Found.{Found}
use Rattle.clap.proofs.WalkLemmas.{first_value-rows}
use Rattle.pp_words.specs.Command.{replay_app}
use Rattle.pp_words.specs.Words.{option_names}
use Rattle.pp_words.specs.Words.{Given, HasOptions, Text, is_refused, options_of, value_of}
use Rattle.pp_words.proofs.Options.{options_are}
use Rattle.pp_words.proofs.Rules.{row, rule, shape}
use Rattle.pp_words.proofs.Walks.{Comes, fault_of_all, rows_of_all, walk_at, walks}

-- ---- no option has a default, none is required, and there is no subcommand

no_default : (names : List Text) (rows : List Row) → defaults_fault rows (map rule names) ≡ []
unfolding defaults_fault
no_default [] rows = refl
no_default (n ∷ names) rows = by_row (has_row n rows) (no_default names (with_default rows (rule n)))
  where
    by_row : (b : Bool) → defaults_fault (with_default rows (rule n)) (map rule names) ≡ []
        → or_else (cond (b || true) [] (given_default_fault (rule n) [])) (defaults_fault (with_default rows (rule n)) (map rule names))
        ≡ []
    by_row true rest = rest
    by_row false rest = rest

kept_rows : (names : List Text) (rows : List Row) → fold with_default rows (map rule names) ≡ rows
kept_rows [] rows = refl
kept_rows (n ∷ names) rows =
    ap (λ (r : List Row). fold with_default r (map rule names)) (same (has_row n rows)) ∙ kept_rows names rows
  where
    same : (b : Bool) → cond b rows rows ≡ rows
    same true = refl
    same false = refl

none_entered : (stop : Option (Text × List Text)) → entered_fault (built replay_app) stop ≡ []
none_entered None = refl
none_entered (Some p) = refl

none_wanted : (rows : List Row) (has : Bool) → check_fault (shape option_names) rows has ≡ []
none_wanted rows true = refl
none_wanted rows false = refl

one_after : (a b c d e : Kinds) → b ≡ [] → d ≡ [] → e ≡ [] → or_else a (or_else b (or_else c (or_else d e))) ≡ or_else a c
one_after a b c d e p q r = rw (p, q, r) (go a c)
  where
    go : (a c : Kinds) → or_else a (or_else c []) ≡ or_else a c
    go [] [] = refl
    go [] (k ∷ c) = refl
    go (k ∷ a) c = refl

-- ---- the whole parse

abbrev start : Walk
start = walk_at option_names nothing_held None

abbrev all_rules : List Rule
all_rules = map rule option_names

whole_fault : (words : List Text) → fault_of replay_app words ≡ fault_of_all option_names start words
unfolding fault_of_all
whole_fault words =
    let end : Held = (walk all_rules [] nothing_held words).held in
    let stop : Option (Text × List Text) = (walk all_rules [] nothing_held words).stopped in
    let has : Bool = is_some (entered (built replay_app) stop) in
    let left : List Row = (settled all_rules end).rows in
    one_after (walk_fault (shape option_names) [] start words) (entered_fault (built replay_app) stop)
    (settle_fault all_rules false end) (defaults_fault left all_rules)
    (check_fault (shape option_names) (finished all_rules end) has) (none_entered stop) (no_default option_names left)
    (none_wanted (finished all_rules end) has)

whole_rows : (words : List Text) → matches_of replay_app words ≡ rows_of_all option_names start words
whole_rows words = kept_rows option_names (rows_of_all option_names start words)

-- a parse gives the options that the words give, and fails where they give none
abbrev Parses : List Text → Option (List Given) → Type 0
Parses words None = fault_of replay_app words ≡ [] → ⊥
Parses words (Some given) = (fault_of replay_app words ≡ []) × (matches_of replay_app words ≡ map row given)

parses : (words : List Text) → list_any is_refused words ≡ false → Parses words (options_of words)
parses words none =
    go (options_of words) (subst (Comes option_names start words) (options_are words)
    (walks option_names words none None nothing_held [] (record { clear = refl; rows = refl })))
  where
    go : (o : Option (List Given)) → Comes option_names start words o → Parses words o
    go None h = rw whole_fault h
    go (Some given) h = (whole_fault words ∙ h.0, whole_rows words ∙ h.1)

first_of-map : (given : List Given) (name : Text) → first_of name (map row given) ≡ value_of given name
first_of-map [] name = refl
first_of-map (g ∷ given) name = go (bytes_eq g.name name) (first_of-map given name)
  where
    go : (b : Bool) → first_of name (map row given) ≡ value_of given name
        → option_and_then (λ (r : Row). slice_get r.values 0)
        (cond b (Some (row g)) (find (λ r. bytes_eq r.id name) (map row given)))
        ≡ option_map (λ (h : Given). h.value) (cond b (Some g) (find (λ h. bytes_eq h.name name) given))
    go true rest = refl
    go false rest = rest

pub options_read : (words : List Text) (f : Found) → list_any is_refused words ≡ false → fault_of replay_app words ≡ []
    → rows_of f ≡ matches_of replay_app words → HasOptions words (first_value f)
options_read words f none passed rows = go (options_of words) refl (parses words none)
  where
    go : (o : Option (List Given)) → options_of words ≡ o → Parses words o → HasOptions words (first_value f)
    go None e h = absurd (h passed)
    go (Some given) e h = record {
      given = given;
      are = e;
      values = λ name. first_value-rows f name ∙ ap (first_of name) (rows ∙ h.1) ∙ first_of-map given name;
    }

pub none_read : (words : List Text) → list_any is_refused words ≡ false → (fault_of replay_app words ≡ [] → ⊥)
    → options_of words ≡ None
none_read words none failed = go (options_of words) (parses words none)
  where
    go : (o : Option (List Given)) → Parses words o → o ≡ None
    go None h = refl
    go (Some given) h = absurd (failed h.0)
