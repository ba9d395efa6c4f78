-- The rules of the options, and the rows of the options that were read.
use Rattle.std.proofs.Common.{◌≡◌, ◌∙◌, ◌++◌, ◌&&◌, ◌||◌, Bool, true, false, not, cond, List, [], ◌∷◌, map, Some, None}
use Rattle.std.proofs.Common.{is_some, refl, sym, ap, append-nil, true≢false}
use Rattle.std.proofs.lemmas.List.{map-append}
use Rattle.std.proofs.lemmas.Slice.Eq.{bytes_eq-Decides}
use Rattle.std.specs.List.{find, list_any}
use Rattle.std.specs.Str.{bytes_eq}
use Rattle.clap.specs.Simple.{Shape, built, filled}
use Rattle.clap.specs.Walk.{Row, Rule, Text, arg_by_id, arg_by_index, arg_by_long, at_row, has_long, has_row, more_values}
use Rattle.clap.specs.Walk.{reading_by, used}
use Rattle.clap.specs.declared.parser.matches.ValueSource.TheVariants.{CommandLine}
use Rattle.pp_words.specs.Command.{option_rule, replay_app}
use Rattle.pp_words.specs.Words.{Given, is_given}

-- an option as the parser has it, and the command of the options of these names
abbrev pub rule : Text → Rule
rule name = filled (option_rule name)

abbrev pub shape : List Text → Shape
shape names = record (built replay_app).top { rules = map rule names }

abbrev pub is_among : List Text → Text → Bool
is_among names name = list_any (λ n. bytes_eq n name) names

pub or_false : (b : Bool) → (b || false) ≡ b
or_false true = refl
or_false false = refl

-- the first rule that passes a test which tells the rules by their names
find_known : (test : Rule → Bool) (name : Text) → ((n : Text) → test (rule n) ≡ bytes_eq n name) → (names : List Text)
    → is_among names name ≡ true → find test (map rule names) ≡ Some (rule name)
find_known test name by [] h = absurd (true≢false (sym h))
find_known test name by (n ∷ names) h =
    go (bytes_eq n name) (by n) ((bytes_eq-Decides n name).0) h (find_known test name by names)
  where
    go : (b : Bool) → test (rule n) ≡ b → (b ≡ true → n ≡ name) → (b || is_among names name) ≡ true
        → (is_among names name ≡ true → find test (map rule names) ≡ Some (rule name))
        → cond (test (rule n)) (Some (rule n)) (find test (map rule names)) ≡ Some (rule name)
    go true e same h rest = rw e (ap (λ m. Some (rule m)) (same refl))
    go false e same h rest = rw e (rest h)

find_unknown : (test : Rule → Bool) (name : Text) → ((n : Text) → test (rule n) ≡ bytes_eq n name) → (names : List Text)
    → is_among names name ≡ false → find test (map rule names) ≡ None
find_unknown test name by [] h = refl
find_unknown test name by (n ∷ names) h = go (bytes_eq n name) (by n) h (find_unknown test name by names)
  where
    go : (b : Bool) → test (rule n) ≡ b → (b || is_among names name) ≡ false
        → (is_among names name ≡ false → find test (map rule names) ≡ None)
        → cond (test (rule n)) (Some (rule n)) (find test (map rule names)) ≡ None
    go true e h rest = absurd (true≢false h)
    go false e h rest = rw e (rest h)

find_never : (test : Rule → Bool) → ((n : Text) → test (rule n) ≡ false) → (names : List Text)
    → find test (map rule names) ≡ None
find_never test never [] = refl
find_never test never (n ∷ names) = rw (never n) (find_never test never names)

pub by_id : (names : List Text) (name : Text) → is_among names name ≡ true → arg_by_id (map rule names) name ≡ Some (rule name)
by_id names name h = find_known (λ a. bytes_eq a.id name) name (λ n. refl) names h

pub by_long : (names : List Text) (name : Text) → is_among names name ≡ true → arg_by_long (map rule names) name ≡ Some (rule name)
by_long names name h =
    find_known (λ a. not (is_some a.index) && has_long a name) name (λ n. or_false (bytes_eq n name)) names h

pub by_no_long : (names : List Text) (name : Text) → is_among names name ≡ false → arg_by_long (map rule names) name ≡ None
by_no_long names name h =
    find_unknown (λ a. not (is_some a.index) && has_long a name) name (λ n. or_false (bytes_eq n name)) names h

pub by_index : (names : List Text) → arg_by_index (map rule names) 1 ≡ None
by_index names = find_never _ (λ n. refl) names

-- ---- rows

-- the row of an option that was read
abbrev pub row : Given → Row
row g = record {
  id = g.name;
  values = g.value ∷ [];
  count = None;
  source = Some CommandLine;
  reading = reading_by (rule g.name);
}

at_row_none : (id : Text) (change : Row → List Row) (missing rows : List Row) → has_row id rows ≡ false
    → at_row id change missing rows ≡ rows ++ missing
at_row_none id change missing [] h = refl
at_row_none id change missing (r ∷ rows) h = go (bytes_eq r.id id) h (at_row_none id change missing rows)
  where
    go : (b : Bool) → (b || has_row id rows) ≡ false → (has_row id rows ≡ false → at_row id change missing rows ≡ rows ++ missing)
        → cond b (change r ++ rows) (r ∷ at_row id change missing rows) ≡ r ∷ (rows ++ missing)
    go true h rest = absurd (true≢false h)
    go false h rest = ap (λ rs. r ∷ rs) (rest h)

used_new : (g : Given) (rows : List Row) → has_row g.name rows ≡ false → used (rule g.name) (g.value ∷ []) rows ≡ rows ++ row g ∷ []
used_new g rows h =
    let none = at_row_none g.name (λ _. []) [] rows h ∙ append-nil rows in
    let change : Row → List Row = more_values CommandLine (g.value ∷ []) in
    ap (at_row g.name change (row g ∷ [])) none ∙ at_row_none g.name change (row g ∷ []) rows h

pub has_row-map : (id : Text) (given : List Given) → has_row id (map row given) ≡ is_given id given
has_row-map id [] = refl
has_row-map id (g ∷ given) = ap (λ b. bytes_eq g.name id || b) (has_row-map id given)

pub used_after : (given : List Given) (g : Given) (rows : List Row) → rows ≡ map row given → is_given g.name given ≡ false
    → used (rule g.name) (g.value ∷ []) rows ≡ map row (given ++ g ∷ [])
used_after given g rows e new =
    let none : has_row g.name (map row given) ≡ false = has_row-map g.name given ∙ new in
    ap (used (rule g.name) (g.value ∷ [])) e ∙ used_new g (map row given) none ∙ sym (map-append row given (g ∷ []))
