-- The links of a chain in the order of its records, and the records that they lead to.
use Rattle.std.proofs.Common.{◌≡◌, ◌⊎◌, inl, inr, ⊎_elim, ℕ, zero, suc, ◌+◌, ◌*◌, ◌/◌, ◌%◌, ◌<◌, ◌≤◌, Bool, true, false, cond, eqb, ◌||◌}
use Rattle.std.proofs.Common.{List, [], ◌∷◌, ◌++◌, length, take, drop, get_or, refl, sym, ap, ◌∙◌, subst, arith}
use Rattle.std.proofs.lemmas.List.{take-append-drop}
use Rattle.pp_link.specs.declared.layout.Sizes.{Sizes}
use Rattle.pp_link.specs.Links.{target}
use Rattle.pp_link.specs.Places.{cell_place}
use Rattle.pp_rule.specs.declared.views.ChainLink.{ChainLink}
use Rattle.pp_rule.specs.Paths.{links_of, led_to}
use Rattle.pp_base.specs.Named.{NamedStep, invalidates}
use Rattle.pp_unlink.specs.Invalidation.{invalidations, leads_on}

pub led_append : (x : ℕ) (ls ms : List ChainLink) → led_to x (ls ++ ms) ≡ led_to x ls ++ led_to x ms
unfolding led_to
led_append x [] ms = refl
led_append x (l ∷ ls) ms = by (led_append x ls ms) (eqb (target l.word) 0 || eqb (target l.word) x)
  where
    by : led_to x (ls ++ ms) ≡ led_to x ls ++ led_to x ms → (b : Bool)
        → cond b (led_to x (ls ++ ms)) (target l.word ∷ led_to x (ls ++ ms)) ≡ cond b (led_to x ls) (target l.word ∷ led_to x ls) ++ led_to
        x ms
    by rest true = rest
    by rest false = ap (λ (ns : List ℕ). target l.word ∷ ns) rest

led_one : (x : ℕ) (l : ChainLink) → led_to x (l ∷ []) ≡ leads_on x (target l.word)
unfolding led_to
led_one x l = refl

-- one link more
pub led_more : (x : ℕ) (ls : List ChainLink) (l : ChainLink) → led_to x (ls ++ l ∷ []) ≡ led_to x ls ++ leads_on x (target l.word)
led_more x ls l = led_append x ls (l ∷ []) ∙ ap (λ (ns : List ℕ). led_to x ls ++ ns) (led_one x l)

-- what the first links lead to comes first
pub led_first : (x k : ℕ) (ls : List ChainLink) → led_to x ls ≡ led_to x (take k ls) ++ led_to x (drop k ls)
led_first x k ls = ap (led_to x) (sym (take-append-drop k ls)) ∙ led_append x (take k ls) (drop k ls)

pub led_none : (x : ℕ) → led_to x [] ≡ []
unfolding led_to
led_none x = refl

pub invalidations_none : (z : Sizes) (ls : List (ℕ × ℕ)) → invalidations z (take 0 ls) [] ≡ []
unfolding invalidations
invalidations_none z ls = refl

pub invalidations_more : (z : Sizes) (ls : List (ℕ × ℕ)) (words : List ℕ) (l : ℕ × ℕ) (w : ℕ) → length ls ≡ length words
    → invalidations z (ls ++ l ∷ []) (words ++ w ∷ []) ≡ invalidations z ls words ++ invalidates (cell_place z l.0 (2 + l.1)) w ∷ []
unfolding invalidations
invalidations_more z [] [] l w same = refl
invalidations_more z [] (v ∷ words) l w same = absurd (omega arith)
invalidations_more z (k ∷ ls) [] l w same = absurd (omega arith)
invalidations_more z (k ∷ ls) (v ∷ words) l w same = ap (λ (steps : List NamedStep). invalidates (cell_place z k.0 (2 + k.1)) v ∷ steps)
    (invalidations_more z ls words l w (omega arith))

-- a structure has one link a record, or two
pub one_or_two : (sides : ℕ) → 1 ≤ sides → sides ≤ 2 → (sides ≡ 1) ⊎ (sides ≡ 2)
one_or_two zero one two = absurd (omega arith)
one_or_two (suc zero) one two = inl refl
one_or_two (suc (suc zero)) one two = inr refl
one_or_two (suc (suc (suc k))) one two = absurd (omega arith)

single_length : (ns : List ℕ) → length (links_of 1 ns) ≡ length ns
unfolding links_of
single_length [] = refl
single_length (n ∷ ns) = ap suc (single_length ns)

double_length : (ns : List ℕ) → length (links_of 2 ns) ≡ 2 * length ns
unfolding links_of
double_length [] = refl
double_length (n ∷ ns) = let rest = double_length ns in omega (arith, rest)

-- each record has so many links in the list
pub links_length : (sides : ℕ) (ns : List ℕ) → 1 ≤ sides → sides ≤ 2 → length (links_of sides ns) ≡ sides * length ns
links_length sides ns one two = ⊎_elim
    (λ (e : sides ≡ 1). subst (λ (s : ℕ). length (links_of s ns) ≡ s * length ns) (sym e) (single_length ns ∙ omega arith))
    (λ (e : sides ≡ 2). subst (λ (s : ℕ). length (links_of s ns) ≡ s * length ns) (sym e) (double_length ns))
    (one_or_two sides one two)

single_at : (ns : List ℕ) (k : ℕ) → k < length ns → get_or (links_of 1 ns) k (0, 0) ≡ (get_or ns k 0, 0)
unfolding links_of
single_at [] k lt = absurd (omega arith)
single_at (n ∷ ns) zero lt = refl
single_at (n ∷ ns) (suc k) lt = single_at ns k (omega arith)

double_at : (ns : List ℕ) (k : ℕ) → k < 2 * length ns → get_or (links_of 2 ns) k (0, 0) ≡ (get_or ns (k / 2) 0, k % 2)
unfolding links_of
double_at [] k lt = absurd (omega arith)
double_at (n ∷ ns) zero lt = refl
double_at (n ∷ ns) (suc zero) lt = refl
double_at (n ∷ ns) (suc (suc k)) lt =
    let half : suc (suc k) / 2 ≡ suc (k / 2) = omega arith in let rest : suc (suc k) % 2 ≡ k % 2 = omega arith in
    double_at ns k (omega arith) ∙ sym (ap (λ (i : ℕ). (get_or (n ∷ ns) i 0, suc (suc k) % 2)) half
    ∙ ap (λ (r : ℕ). (get_or ns (k / 2) 0, r)) rest)

-- the link at an index is one of the record at that index divided by the number of sides
pub link_at : (sides : ℕ) (ns : List ℕ) (k : ℕ) → 1 ≤ sides → sides ≤ 2 → k < sides * length ns
    → get_or (links_of sides ns) k (0, 0) ≡ (get_or ns (k / sides) 0, k % sides)
link_at sides ns k one two lt = ⊎_elim
    (λ (e : sides ≡ 1). let low : k < 1 * length ns = subst (λ (s : ℕ). k < s * length ns) e lt in
    let whole : k / 1 ≡ k = omega arith in let none : k % 1 ≡ 0 = omega arith in
    subst (λ (s : ℕ). get_or (links_of s ns) k (0, 0) ≡ (get_or ns (k / s) 0, k % s)) (sym e)
    (single_at ns k (omega arith) ∙ sym (ap (λ (i : ℕ). (get_or ns i 0, k % 1)) whole ∙ ap (λ (r : ℕ). (get_or ns k 0, r)) none)))
    (λ (e : sides ≡ 2). subst (λ (s : ℕ). get_or (links_of s ns) k (0, 0) ≡ (get_or ns (k / s) 0, k % s)) (sym e)
    (double_at ns k (subst (λ (s : ℕ). k < s * length ns) e lt)))
    (one_or_two sides one two)

-- dividing goes below
pub record_below : (sides m k : ℕ) → 1 ≤ sides → sides ≤ 2 → k < sides * m → (k / sides < m) × (k % sides < sides)
record_below sides m k one two lt = ⊎_elim
    (λ (e : sides ≡ 1). subst (λ (s : ℕ). (k / s < m) × (k % s < s)) (sym e)
    (let low : k < 1 * m = subst (λ (s : ℕ). k < s * m) e lt in (omega arith, omega arith)))
    (λ (e : sides ≡ 2). subst (λ (s : ℕ). (k / s < m) × (k % s < s)) (sym e)
    (let low : k < 2 * m = subst (λ (s : ℕ). k < s * m) e lt in (omega arith, omega arith)))
    (one_or_two sides one two)
