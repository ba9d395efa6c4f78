-- The settings that the words of a command line say.
use Rattle.std.specs.Prelude.{◌≡◌, ℕ, ◌≤◌, ◌&&◌, ◌||◌, ◌==◌, Bool, true, not, nat_eq, nat_le, if◌then◌else◌, List, [], ◌∷◌}
use Rattle.std.specs.Prelude.{drop, Option, Some, None, option_map, option_and_then, codes, find}
use Rattle.std.specs.List.{list_any, list_all, starts_with, before_first, after_first}
use Rattle.std.specs.Borrow.{Bor}
use Rattle.std.specs.Str.{bytes_eq}
use Rattle.pp_trace.specs.declared.Make.{Make}
use Rattle.pp_trace.specs.Lines.{number_of}
use Rattle.pp_words.specs.declared.Kind.{Kind}
use Rattle.pp_words.specs.declared.Kind.TheVariants as kind
use Rattle.pp_words.specs.declared.Settings.{Settings}

abbrev pub Text : Type 0
Text = List ℕ

-- the text behind a reference
abbrev pub text_of : Option (Bor Text) → Option Text
text_of text = option_map (λ t. t.now) text

abbrev pub has_byte : ℕ → Text → Bool
has_byte b text = list_any (λ x. x == b) text

-- what stands before the first byte b of a text, and what stands after it
abbrev pub before : ℕ → Text → Text
before b text = before_first (λ x. x == b) text

abbrev pub after : ℕ → Text → Text
after b text = after_first (λ x. x == b) text

abbrev pub begins_with : Text → Text → Bool
begins_with start text = starts_with nat_eq text start

-- ---- the options that words give

-- an option with its value
pub record Given : Type 0 where
  pub name : Text
  pub value : Text

-- this option, and then those that follow
abbrev pub and_then : Text → Text → Option (List Given) → Option (List Given)
and_then name value rest = option_map (λ given. record { name = name; value = value } ∷ given) rest

-- The text of an option is NAME=VALUE, or NAME alone, which waits for its value; 61 is `=`.
abbrev pub option_of : Text → (Option Text → Option (List Given)) → Option (List Given)
option_of text rest =
    if has_byte 61 text then and_then (before 61 text) (after 61 text) (rest None) else rest (Some text)

-- The words are read from left to right, where a name may wait for its value: each word is `--` and the text
-- of an option, or a value that is waited for, which begins with no hyphen.
abbrev pub options_from : Option Text → List Text → Option (List Given)
options_from None [] = Some []
options_from (Some name) [] = None
options_from None (word ∷ words) =
    if begins_with (codes "--") word then option_of (drop 2 word) (λ waiting. options_from waiting words) else None
options_from (Some name) (word ∷ words) =
    if begins_with (codes "-") word then None else and_then name word (options_from None words)

abbrev pub option_names : List Text
option_names =
    codes "map" ∷ codes "callers" ∷ codes "records" ∷ codes "buckets" ∷ codes "races" ∷ codes "make" ∷ []

abbrev pub is_known : Text → Bool
is_known name = list_any (λ n. bytes_eq n name) option_names

-- an option of this name is given
abbrev pub is_given : Text → List Given → Bool
is_given name given = list_any (λ g. bytes_eq g.name name) given

-- no option stands twice
abbrev pub are_distinct : List Given → Bool
are_distinct [] = true
are_distinct (g ∷ rest) = not (is_given g.name rest) && are_distinct rest

abbrev pub checked : List Given → Option (List Given)
checked given = if list_all (λ g. is_known g.name) given && are_distinct given then Some given else None

-- the options that the words give, each of them known and none twice
abbrev pub options_of : List Text → Option (List Given)
options_of words = option_and_then checked (options_from None words)

abbrev pub value_of : List Given → Text → Option Text
value_of given name = option_map (λ g. g.value) (find (λ g. bytes_eq g.name name) given)

-- ---- the settings that values say

infixl 10 ◌>>=◌
abbrev pub ◌>>=◌ : {A B : Type 0} → Option A → (A → Option B) → Option B
o >>= f = option_and_then f o

abbrev pub kind_of : Text → Option Kind
kind_of text = if bytes_eq text (codes "plain") then Some kind.Plain
    else (if bytes_eq text (codes "list") then Some kind.List
    else (if bytes_eq text (codes "hash") then Some kind.Hash
    else (if bytes_eq text (codes "tree") then Some kind.Tree else None)))

abbrev pub within : ℕ → ℕ → ℕ → Option ℕ
within low high n = if nat_le low n && nat_le n high then Some n else None

-- the number that a text writes, if it lies from `low` to `high`
abbrev pub number_within : ℕ → ℕ → Text → Option ℕ
number_within low high text = number_of text >>= within low high

-- the same of an option, which has a default where it is left out
abbrev pub number_or : ℕ → ℕ → ℕ → Option Text → Option ℕ
number_or default low high None = Some default
number_or default low high (Some text) = number_within low high text

-- a plain map has one caller
abbrev pub callers_of : Kind → Option Text → Option ℕ
callers_of kind.Plain text = number_or 1 1 1 text
callers_of _ text = number_or 4 1 64 text

-- A made trace is SEED,LINES; 44 is the comma. A text without one has nothing after it, which is no number.
abbrev pub made_by : Text → Option Make
made_by text = do
  seed ← number_within 0 2147483647 (before 44 text)
  lines ← number_within 0 1000000 (after 44 text)
  Some (record { seed = seed; lines = lines })

abbrev pub make_of : Option Text → Option (Option Make)
make_of None = Some None
make_of (Some text) = option_map (λ make. Some make) (made_by text)

abbrev pub settings_by : (Text → Option Text) → Option Settings
settings_by value = do
  map ← value (codes "map") >>= kind_of
  callers ← callers_of map (value (codes "callers"))
  records ← number_or 65536 8 262144 (value (codes "records"))
  buckets ← number_or 64 1 4096 (value (codes "buckets"))
  races ← number_or 1099511627776 1 1099511627776 (value (codes "races"))
  make ← make_of (value (codes "make"))
  Some (record { map = map; callers = callers; records = records; buckets = buckets; races = races; make = make })

abbrev pub settings_of : List Text → Option Settings
settings_of words = do
  given ← options_of words
  settings_by (value_of given)

-- ---- facts

abbrev pub MakeFits : Option Make → Type 0
MakeFits None = Unit {0}
MakeFits (Some make) = (make.seed ≤ 2147483647) × (make.lines ≤ 1000000)

-- the settings lie in their ranges
pub record InRange (s : Settings) : Type 0 where
  pub callers_low : 1 ≤ s.callers
  pub callers_high : s.callers ≤ 64
  pub alone : s.map ≡ kind.Plain → s.callers ≡ 1
  pub records_low : 8 ≤ s.records
  pub records_high : s.records ≤ 262144
  pub buckets_low : 1 ≤ s.buckets
  pub buckets_high : s.buckets ≤ 4096
  pub races_low : 1 ≤ s.races
  pub races_high : s.races ≤ 1099511627776
  pub make : MakeFits s.make

-- no option and no value: `--`, and what begins with one hyphen alone
abbrev pub is_refused : Text → Bool
is_refused word = begins_with (codes "-") word && (bytes_eq word (codes "--") || not (begins_with (codes "--") word))

-- the words give options, and these are their values
pub record HasOptions (words : List Text) (value : Text → Option Text) : Type 0 where
  pub given : List Given
  pub are : options_of words ≡ Some given
  pub values : (name : Text) → value name ≡ value_of given name
