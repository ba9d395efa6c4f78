-- The words with which a pool opens, read by what they are.
use Rattle.std.proofs.Common.{◌≡◌, ℕ, zero, suc, ◌+◌, ◌-◌, ◌*◌, ◌<◌, ◌≤◌, List, [], ◌∷◌, ◌++◌, length, replicate, get_or, refl, ap}
use Rattle.std.proofs.Common.{◌∙◌, arith}
use Rattle.std.proofs.Common.{length-append}
use Rattle.std.proofs.lemmas.List.{length-replicate}
use Rattle.pp_link.specs.declared.layout.Sizes.{Sizes}
use Rattle.pp_link.specs.Places.{total, walk_place, frontier_place, shelf_place, head_place, cell_place}
use Rattle.pp_link.specs.Words.{walk_word, frontier_word, shelf_word, head_word, cell_word}
use Rattle.pp_rule.specs.Opening.{words_from, fields_from, opening_words}

module _ {A : Type 0} where
  pub each_replicate : (n k : ℕ) (a : A) → get_or (replicate n a) k a ≡ a
  each_replicate zero k a = refl
  each_replicate (suc n) zero a = refl
  each_replicate (suc n) (suc k) a = each_replicate n k a

  get_first : (xs ys : List A) (k : ℕ) (d : A) → k < length xs → get_or (xs ++ ys) k d ≡ get_or xs k d
  get_first [] ys k d lt = absurd (omega arith)
  get_first (x ∷ xs) ys zero d lt = refl
  get_first (x ∷ xs) ys (suc k) d lt = get_first xs ys k d (omega arith)

  get_later : (xs ys : List A) (k m : ℕ) (d : A) → m ≡ length xs + k → get_or (xs ++ ys) m d ≡ get_or ys k d
  get_later [] ys k m d e = ap (λ (i : ℕ). get_or ys i d) (let same : m ≡ k = omega arith in same)
  get_later (x ∷ xs) ys k zero d e = absurd (omega arith)
  get_later (x ∷ xs) ys k (suc m) d e = get_later xs ys k m d (omega arith)

length_words : (word : ℕ → ℕ) (low n : ℕ) → length (words_from word low n) ≡ n
unfolding words_from
length_words word low zero = refl
length_words word low (suc n) = ap suc (length_words word (low + 1) n)

words_at : (word : ℕ → ℕ) (low n k : ℕ) → k < n → get_or (words_from word low n) k 0 ≡ word (low + k)
unfolding words_from
words_at word low zero k lt = absurd (omega arith)
words_at word low (suc n) zero lt = ap word (let same : low ≡ low + 0 = omega arith in same)
words_at word low (suc n) (suc k) lt = words_at word (low + 1) n k (omega arith)
    ∙ ap word (let same : low + 1 + k ≡ low + suc k = omega arith in same)

length_fields : (field : ℕ → ℕ → ℕ) (low n : ℕ) → length (fields_from field low n) ≡ 5 * n
unfolding fields_from
length_fields field low zero = refl
length_fields field low (suc n) = let was = length_fields field (low + 1) n in omega arith

same_field : (field : ℕ → ℕ → ℕ) (n m f g : ℕ) → n ≡ m → f ≡ g → field n f ≡ field m g
same_field field n m f g a b = ap (λ k. field k f) a ∙ ap (field m) b

fields_at : (field : ℕ → ℕ → ℕ) (low n k m f : ℕ) → k ≡ 5 * m + f → f < 5 → m < n → get_or (fields_from field low n) k 0 ≡ field
    (low + m) f
unfolding fields_from
fields_at field low zero k m f e five_fields lt = absurd (omega arith)
fields_at field low (suc n) zero m f e five_fields lt = same_field field low (low + m) 0 f (omega arith) (omega arith)
fields_at field low (suc n) (suc zero) m f e five_fields lt = same_field field low (low + m) 1 f (omega arith) (omega arith)
fields_at field low (suc n) (suc (suc zero)) m f e five_fields lt = same_field field low (low + m) 2 f (omega arith) (omega arith)
fields_at field low (suc n) (suc (suc (suc zero))) m f e five_fields lt =
    same_field field low (low + m) 3 f (omega arith) (omega arith)
fields_at field low (suc n) (suc (suc (suc (suc zero)))) m f e five_fields lt =
    same_field field low (low + m) 4 f (omega arith) (omega arith)
fields_at field low (suc n) (suc (suc (suc (suc (suc k))))) zero f e five_fields lt = absurd (omega arith)
fields_at field low (suc n) (suc (suc (suc (suc (suc k))))) (suc m) f e five_fields lt =
    fields_at field (low + 1) n k m f (omega arith) five_fields
    (omega arith)
    ∙ same_field field (low + 1 + m) (low + suc m) f f (omega arith) refl

module _ (sentinels : ℕ) (head : ℕ → ℕ) (field : ℕ → ℕ → ℕ) (z : Sizes) where
  pub opening_wide : sentinels ≤ z.records → length (opening_words sentinels head field z) ≡ total z
  unfolding opening_words
  opening_wide most =
      let low : List ℕ = replicate (1 + 17 * z.passes) 0 in
      let heads : List ℕ = words_from head 0 z.heads in
      let fields : List ℕ = fields_from field 1 sentinels in
      let rest : List ℕ = replicate (5 * (z.records - sentinels)) 0 in
      let a : length (low ++ (heads ++ (fields ++ rest))) ≡ length low + length (heads ++ (fields ++ rest)) = length-append low
      (heads ++ (fields ++ rest)) in
      let b : length (heads ++ (fields ++ rest)) ≡ length heads + length (fields ++ rest) = length-append heads (fields ++ rest) in
      let c : length (fields ++ rest) ≡ length fields + length rest = length-append fields rest in
      let l : length low ≡ 1 + 17 * z.passes = length-replicate (1 + 17 * z.passes) 0 in
      let h : length heads ≡ z.heads = length_words head 0 z.heads in
      let f : length fields ≡ 5 * sentinels = length_fields field 1 sentinels in
      let r : length rest ≡ 5 * (z.records - sentinels) = length-replicate (5 * (z.records - sentinels)) 0 in omega arith

  -- the hazard words and the shelf words are 0
  low_word : (k : ℕ) → k < 1 + 17 * z.passes → get_or (opening_words sentinels head field z) k 0 ≡ 0
  unfolding opening_words
  low_word k lt =
      let low : List ℕ = replicate (1 + 17 * z.passes) 0 in
      let l : length low ≡ 1 + 17 * z.passes = length-replicate (1 + 17 * z.passes) 0 in
      get_first low (words_from head 0 z.heads ++
      (fields_from field 1 sentinels ++ replicate (5 * (z.records - sentinels)) 0)) k 0
      (omega arith)
      ∙ each_replicate (1 + 17 * z.passes) k 0

  pub opening_walk : (p i : ℕ) → p < z.passes → i < 5 → walk_word (opening_words sentinels head field z) z p i ≡ 0
  unfolding walk_word
  opening_walk p i low five = low_word (walk_place z p i) (omega arith)

  pub opening_frontier : (p j : ℕ) → p < z.passes → j < 4 → frontier_word (opening_words sentinels head field z) z p j ≡ 0
  unfolding frontier_word
  opening_frontier p j low five_fields = low_word (frontier_place z p j) (omega arith)

  pub opening_shelf : (j : ℕ) → j < 8 * z.passes → shelf_word (opening_words sentinels head field z) z j ≡ 0
  unfolding shelf_word
  opening_shelf j low = low_word (shelf_place z j) (omega arith)

  pub opening_head : (h : ℕ) → h < z.heads → head_word (opening_words sentinels head field z) z h ≡ head h
  unfolding head_word opening_words
  opening_head h low_h =
      let low : List ℕ = replicate (1 + 17 * z.passes) 0 in
      let heads : List ℕ = words_from head 0 z.heads in
      let rest : List ℕ = fields_from field 1 sentinels ++ replicate (5 * (z.records - sentinels)) 0 in
      let l : length low ≡ 1 + 17 * z.passes = length-replicate (1 + 17 * z.passes) 0 in
      let n : length heads ≡ z.heads = length_words head 0 z.heads in
      get_later low (heads ++ rest) h (head_place z h) 0 (omega arith) ∙ (get_first heads rest h 0 (omega arith)
      ∙ (words_at head 0 z.heads h low_h ∙ ap head (let same : 0 + h ≡ h = omega arith in same)))

  -- the fields of the sentinels
  pub opening_field : (n f : ℕ) → 1 ≤ n → n ≤ sentinels → f < 5
      → cell_word (opening_words sentinels head field z) z n f ≡ field n f
  unfolding cell_word opening_words
  opening_field n f one most five_fields =
      let low : List ℕ = replicate (1 + 17 * z.passes) 0 in
      let heads : List ℕ = words_from head 0 z.heads in
      let fields : List ℕ = fields_from field 1 sentinels in
      let rest : List ℕ = replicate (5 * (z.records - sentinels)) 0 in
      let l : length low ≡ 1 + 17 * z.passes = length-replicate (1 + 17 * z.passes) 0 in
      let m : length heads ≡ z.heads = length_words head 0 z.heads in
      let k : length fields ≡ 5 * sentinels = length_fields field 1 sentinels in
      get_later low (heads ++ (fields ++ rest)) (z.heads + (5 * (n - 1) + f)) (cell_place z n f) 0 (omega arith)
      ∙ (get_later heads (fields ++ rest) (5 * (n - 1) + f) (z.heads + (5 * (n - 1) + f)) 0 (omega arith)
      ∙ (get_first fields rest (5 * (n - 1) + f) 0 (omega arith)
      ∙ (fields_at field 1 sentinels (5 * (n - 1) + f) (n - 1) f refl five_fields (omega arith)
      ∙ same_field field (1 + (n - 1)) n f f (omega arith) refl)))

  -- every other record is empty
  pub opening_cell : (n f : ℕ) → sentinels < n → f < 5 → cell_word (opening_words sentinels head field z) z n f ≡ 0
  unfolding cell_word opening_words
  opening_cell n f high five_fields =
      let low : List ℕ = replicate (1 + 17 * z.passes) 0 in
      let heads : List ℕ = words_from head 0 z.heads in
      let fields : List ℕ = fields_from field 1 sentinels in
      let rest : List ℕ = replicate (5 * (z.records - sentinels)) 0 in
      let l : length low ≡ 1 + 17 * z.passes = length-replicate (1 + 17 * z.passes) 0 in
      let m : length heads ≡ z.heads = length_words head 0 z.heads in
      let k : length fields ≡ 5 * sentinels = length_fields field 1 sentinels in
      get_later low (heads ++ (fields ++ rest)) (z.heads + (5 * (n - 1) + f)) (cell_place z n f) 0 (omega arith)
      ∙ (get_later heads (fields ++ rest) (5 * (n - 1) + f) (z.heads + (5 * (n - 1) + f)) 0 (omega arith)
      ∙ (get_later fields rest (5 * (n - 1) + f - 5 * sentinels) (5 * (n - 1) + f) 0 (omega arith)
      ∙ each_replicate (5 * (z.records - sentinels)) (5 * (n - 1) + f - 5 * sentinels) 0))
