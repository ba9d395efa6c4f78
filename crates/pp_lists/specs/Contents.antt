-- What a closed list holds, by its words.
use Rattle.std.specs.Prelude.{◌≡◌, ℕ, zero, suc, cond, nat_eq, List, [], ◌∷◌, ◌++◌, map}
use Rattle.pp_link.specs.declared.layout.Sizes.{Sizes}
use Rattle.pp_link.specs.Links.{target, flag_bit}
use Rattle.pp_link.specs.Words.{head_word, cell_word}
use Rattle.pp_model.specs.declared.Pair.{Pair}
use Rattle.pp_model.specs.FiniteMap.{pair, put}
use Rattle.pp_rule.specs.Views.{halves, value_of}

-- the record to which the left link of the record n leads
abbrev pub next_of : Sizes → List ℕ → ℕ → ℕ
next_of z words n = target (cell_word words z n 2)

-- the records from n on along left links, at most so many
unfoldable pub along : Sizes → List ℕ → ℕ → ℕ → List ℕ
along z words zero n = []
along z words (suc most) n = cond (nat_eq n 0) [] (n ∷ along z words most (next_of z words n))

-- those whose link has no FLAG
unfoldable pub unmarked : Sizes → List ℕ → List ℕ → List ℕ
unmarked z words [] = []
unmarked z words (n ∷ ns) = cond (nat_eq (flag_bit (cell_word words z n 2)) 0) (n ∷ unmarked z words ns) (unmarked z words ns)

-- the records of one head's list that aren't removed
abbrev pub live_at : Sizes → List ℕ → ℕ → List ℕ
live_at z words h = unmarked z words (along z words z.records (target (head_word words z h)))

-- those of the first h heads
unfoldable pub live_of : Sizes → List ℕ → ℕ → List ℕ
live_of z words zero = []
live_of z words (suc h) = live_of z words h ++ live_at z words h

-- the live numbers
abbrev pub list_alive : Sizes → List ℕ → List ℕ
list_alive z words = live_of z words z.heads

abbrev pub pair_of : Sizes → List ℕ → ℕ → Pair
pair_of z words n = pair (cell_word words z n 0) (value_of (halves (cell_word words z n 1) (cell_word words z n 4)))

-- these pairs, each put at its place
unfoldable pub in_order : List Pair → List Pair
in_order [] = []
in_order (p ∷ ps) = put (in_order ps) p.key p.value

-- the contents: the keys and the values of the live records
abbrev pub list_pairs : Sizes → List ℕ → List Pair
list_pairs z words = in_order (map (pair_of z words) (list_alive z words))

-- what is gathered from closed words: these contents, and the live numbers
abbrev pub ListGathered : Sizes → List ℕ → List Pair → List ℕ → Type 0
ListGathered z words contents live = (contents ≡ list_pairs z words) × (live ≡ list_alive z words)

-- as many records are live as there are pairs
abbrev pub list_count : ℕ → ℕ
list_count pairs = pairs
