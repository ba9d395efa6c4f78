-- The chain of a tagged path stands in the order in which its links lead.
use Rattle.std.proofs.Common.{◌≡◌, ◌≢◌, ◌⊎◌, inl, inr, ⊎_elim, ℕ, suc, ◌+◌, ◌-◌, ◌*◌, ◌<◌, ◌≤◌, Bool, true, false, cond, eqb}
use Rattle.std.proofs.Common.{◌||◌, List, [], ◌∷◌, ◌++◌, map, length, take}
use Rattle.std.proofs.Common.{refl, sym, ap, ◌∙◌, subst, arith, eq-eqb, ne_eqb}
use Rattle.std.proofs.lemmas.List.{map-append, length-append}
use Rattle.std.proofs.lemmas.Bool.{cases_lt}
use Rattle.pp_link.specs.Links.{target, tag_bit}
use Rattle.pp_rule.specs.Lists.{IsIn}
use Rattle.pp_rule.specs.declared.views.ChainLink.{ChainLink}
use Rattle.pp_rule.specs.Paths.{links_of, link_of, led_to, IsChainTo}
use Rattle.pp_rule.proofs.Put.{in_first, in_later}
use Rattle.pp_trees.specs.TaggedPaths.{Passed, Joined, own_links, leaf_links, records_below, links_below, path_records}
use Rattle.pp_trees.specs.TaggedPaths.{path_links, path_chain}

-- the list with what it leads to, by whether that is nil or x
led_skip : (x : ℕ) (l : ChainLink) (ls : List ChainLink) → (target l.word ≡ 0) ⊎ (target l.word ≡ x)
    → led_to x (l ∷ ls) ≡ led_to x ls
unfolding led_to
led_skip x l ls w = ap (λ (b : Bool). cond b (led_to x ls) (target l.word ∷ led_to x ls)) (either w)
  where
    or_true : (b : Bool) → (b || true) ≡ true
    or_true true = refl
    or_true false = refl

    either : (target l.word ≡ 0) ⊎ (target l.word ≡ x) → (eqb (target l.word) 0 || eqb (target l.word) x) ≡ true
    either (inl e) = ap (λ (b : Bool). b || eqb (target l.word) x) (eq-eqb (target l.word) 0 e)
    either (inr e) = ap (λ (b : Bool). eqb (target l.word) 0 || b) (eq-eqb (target l.word) x e) ∙ or_true (eqb (target l.word) 0)

led_take : (x n : ℕ) (l : ChainLink) (ls : List ChainLink) → target l.word ≡ n → n ≢ 0 → n ≢ x
    → led_to x (l ∷ ls) ≡ n ∷ led_to x ls
unfolding led_to
led_take x n l ls e some off = ap (λ (b : Bool). cond b (led_to x ls) (target l.word ∷ led_to x ls))
    (ap (λ (b : Bool). b || eqb (target l.word) x) (ne_eqb (target l.word) 0 (λ y. some (sym e ∙ y)))
    ∙ ne_eqb (target l.word) x (λ y. off (sym e ∙ y)))
    ∙ ap (λ (k : ℕ). k ∷ led_to x ls) e

led_leaf : (x n : ℕ) (ls : List ChainLink) → led_to x (leaf_links n ++ ls) ≡ led_to x ls
led_leaf x n ls = led_skip x (record { number = n; side = 0; word = 0 }) (record { number = n; side = 1; word = 0 } ∷ ls)
    (inl refl)
    ∙ led_skip x (record { number = n; side = 1; word = 0 }) ls (inl refl)

-- what a record of the path has beside it
Beside : ℕ → Passed → Type 0
Beside x c = (c.leaf ≢ 0) × (c.leaf ≢ x)

nine : (n : ℕ) → target (16 * n + 9) ≡ n
nine n = omega arith

-- the links of a record on the path lead to the next one and to its leaf
led_own : (x n : ℕ) (c : Passed) (ls : List ChainLink) → target c.word ≡ n → n ≢ 0 → n ≢ x → c.leaf ≢ 0 → c.leaf ≢ x
    → led_to x (own_links c ++ ls) ≡ cond (eqb c.side 0) (n ∷ c.leaf ∷ []) (c.leaf ∷ n ∷ []) ++ led_to x ls
led_own x n c ls e some off leaf away = go (eqb c.side 0)
  where
    own : Bool → List ChainLink
    own b = cond b (record { number = c.number; side = 0; word = c.word } ∷ record {
      number = c.number;
      side = 1;
      word = 16 *
          c.leaf + 9;
    } ∷ [])
        (record { number = c.number; side = 0; word = 16 * c.leaf + 9 } ∷ record { number = c.number; side = 1; word = c.word }
        ∷ [])

    go : (b : Bool) → led_to x (cond b (record { number = c.number; side = 0; word = c.word } ∷ record {
      number = c.number;
      side = 1;
      word = 16 * c.leaf + 9;
    } ∷ [])
        (record { number = c.number; side = 0; word = 16 * c.leaf + 9 } ∷ record { number = c.number; side = 1; word = c.word }
        ∷ []) ++ ls)
        ≡ cond b (n ∷ c.leaf ∷ []) (c.leaf ∷ n ∷ []) ++ led_to x ls
    go true = led_take x n (record { number = c.number; side = 0; word = c.word })
        (record { number = c.number; side = 1; word = 16 * c.leaf + 9 } ∷ ls) e some off
        ∙ ap (λ (l : List ℕ). n ∷ l) (led_take x c.leaf (record { number = c.number; side = 1; word = 16 * c.leaf + 9 }) ls
        (nine c.leaf) leaf away)
    go false = led_take x c.leaf (record { number = c.number; side = 0; word = 16 * c.leaf + 9 })
        (record { number = c.number; side = 1; word = c.word } ∷ ls) (nine c.leaf) leaf away
        ∙ ap (λ (l : List ℕ). c.leaf ∷ l) (led_take x n (record { number = c.number; side = 1; word = c.word }) ls e some off)

-- the links of the last one lead out and to its leaf
led_last : (x : ℕ) (c : Passed) (ls : List ChainLink) → target c.word ≡ x → c.leaf ≢ 0 → c.leaf ≢ x
    → led_to x (own_links c ++ ls) ≡ c.leaf ∷ led_to x ls
led_last x c ls e leaf away = go (eqb c.side 0)
  where
    go : (b : Bool) → led_to x (cond b (record { number = c.number; side = 0; word = c.word } ∷ record {
      number = c.number;
      side = 1;
      word = 16 * c.leaf + 9;
    } ∷ [])
        (record { number = c.number; side = 0; word = 16 * c.leaf + 9 } ∷ record { number = c.number; side = 1; word = c.word }
        ∷ []) ++ ls) ≡ c.leaf ∷ led_to x ls
    go true = led_skip x (record { number = c.number; side = 0; word = c.word })
        (record { number = c.number; side = 1; word = 16 * c.leaf + 9 } ∷ ls) (inr e)
        ∙ led_take x c.leaf (record { number = c.number; side = 1; word = 16 * c.leaf + 9 }) ls (nine c.leaf) leaf away
    go false = led_take x c.leaf (record { number = c.number; side = 0; word = 16 * c.leaf + 9 })
        (record { number = c.number; side = 1; word = c.word } ∷ ls) (nine c.leaf) leaf away
        ∙ ap (λ (l : List ℕ). c.leaf ∷ l) (led_skip x (record { number = c.number; side = 1; word = c.word }) ls (inr e))

-- what the table says of the path where it is attached: no number is nil or the frontier x
pub Numbered : ℕ → List Passed → Type 0
Numbered x cs = (c : Passed) → IsIn c cs → (c.number ≢ 0) × (c.number ≢ x) × (c.leaf ≢ 0) × (c.leaf ≢ x)

append_assoc : (xs ys zs : List ℕ) → (xs ++ ys) ++ zs ≡ xs ++ (ys ++ zs)
append_assoc [] ys zs = refl
append_assoc (x ∷ xs) ys zs = ap (λ (l : List ℕ). x ∷ l) (append_assoc xs ys zs)

link_assoc : (xs ys zs : List ChainLink) → (xs ++ ys) ++ zs ≡ xs ++ (ys ++ zs)
link_assoc [] ys zs = refl
link_assoc (x ∷ xs) ys zs = ap (λ (l : List ChainLink). x ∷ l) (link_assoc xs ys zs)

-- a leaf's links before or behind those of a record add nothing
led_level : (x : ℕ) (b : Bool) (n : ℕ) (own ls : List ChainLink) → led_to x (cond b (own ++ leaf_links n)
    (leaf_links n ++ own) ++ ls) ≡ led_to x (own ++ ls)
unfolding led_to
led_level x true n own ls = ap (led_to x) (link_assoc own (leaf_links n) ls) ∙ under own
  where
    under : (own : List ChainLink) → led_to x (own ++ (leaf_links n ++ ls)) ≡ led_to x (own ++ ls)
    under [] = led_leaf x n ls
    under (l ∷ own) = ap (λ (k : List ℕ). cond (eqb (target l.word) 0 || eqb (target l.word) x) k (target l.word ∷ k)) (under own)
led_level x false n own ls = ap (led_to x) (link_assoc (leaf_links n) own ls) ∙ led_leaf x n (own ++ ls)

led_below : (x : ℕ) (c : Passed) (cs : List Passed) (last : ℕ) → target last ≡ x → Joined c.word cs last → Beside x c
    → Numbered x cs
    → led_to x (own_links c ++ links_below c cs) ≡ records_below c cs
unfolding records_below links_below Beside Numbered led_to
led_below x c [] last end j leaf all = led_last x c (leaf_links c.leaf) (ap target j ∙ end) leaf.0 leaf.1
    ∙ ap (λ (l : List ℕ). c.leaf ∷ l) (led_nil x c.leaf)
  where
    led_nil : (x n : ℕ) → led_to x (leaf_links n) ≡ []
    led_nil x n = refl
led_below x c (d ∷ cs) last end j leaf all = let h = all d (in_first d cs) in
    led_own x d.number c (cond (eqb c.side 0) (own_links d ++ leaf_links c.leaf)
    (leaf_links c.leaf ++ own_links d) ++ links_below d cs) (sym j.0) h.0 h.1 leaf.0 leaf.1
    ∙ ap (λ (l : List ℕ). cond (eqb c.side 0) (d.number ∷ c.leaf ∷ []) (c.leaf ∷ d.number ∷ []) ++ l)
    (led_level x (eqb c.side 0) c.leaf (own_links d) (links_below d cs)
    ∙ led_below x d cs last end j.2 (h.2, h.3) (λ e i. all e (in_later e d cs i)))

-- the links are those of the records, in their order
own_map : (c : Passed) → map link_of (own_links c) ≡ (c.number, 0) ∷ (c.number, 1) ∷ []
own_map c = go (eqb c.side 0)
  where
    go : (b : Bool) → map link_of (cond b (record { number = c.number; side = 0; word = c.word } ∷ record {
      number = c.number;
      side = 1;
      word = 16 * c.leaf + 9;
    } ∷ [])
        (record { number = c.number; side = 0; word = 16 * c.leaf + 9 } ∷ record { number = c.number; side = 1; word = c.word }
        ∷ [])) ≡ (c.number, 0) ∷ (c.number, 1) ∷ []
    go true = refl
    go false = refl

own_then : (c : Passed) (ls : List ChainLink) (ns : List ℕ) → map link_of ls ≡ links_of 2 ns
    → map link_of (own_links c ++ ls) ≡ links_of 2 (c.number ∷ ns)
unfolding links_of
own_then c ls ns e = map-append link_of (own_links c) ls ∙ (ap (λ (l : List (ℕ × ℕ)). l ++ map link_of ls) (own_map c)
    ∙ ap (λ (l : List (ℕ × ℕ)). (c.number, 0) ∷ (c.number, 1) ∷ l) e)

below_map : (c : Passed) (cs : List Passed) → map link_of (links_below c cs) ≡ links_of 2 (records_below c cs)
unfolding links_of records_below links_below
below_map c [] = refl
below_map c (d ∷ cs) = go (below_map d cs) (eqb c.side 0)
  where
    go : map link_of (links_below d cs) ≡ links_of 2 (records_below d cs) → (b : Bool)
        → map link_of (cond b (own_links d ++ leaf_links c.leaf) (leaf_links c.leaf ++ own_links d) ++ links_below d cs)
        ≡ links_of 2 (cond b (d.number ∷ c.leaf ∷ []) (c.leaf ∷ d.number ∷ []) ++ records_below d cs)
    go rest true = ap (map link_of) (link_assoc (own_links d) (leaf_links c.leaf) (links_below d cs))
        ∙ own_then d (leaf_links c.leaf ++ links_below d cs) (c.leaf ∷ records_below d cs) (ap (λ (l : List (ℕ
        × ℕ)). (c.leaf, 0) ∷ (c.leaf, 1) ∷ l) rest)
    go rest false = ap (map link_of) (link_assoc (leaf_links c.leaf) (own_links d) (links_below d cs))
        ∙ ap (λ (l : List (ℕ × ℕ)). (c.leaf, 0) ∷ (c.leaf, 1) ∷ l) (own_then d (links_below d cs) (records_below d cs) rest)

-- how many records the first links of the path lead to
length_own : (c : Passed) → length (own_links c) ≡ 2
length_own c = go (eqb c.side 0)
  where
    go : (b : Bool) → length {A = ChainLink} (cond b (record { number = c.number; side = 0; word = c.word } ∷ record {
      number =
          c.number;
      side = 1;
      word = 16 * c.leaf + 9;
    } ∷ [])
        (record { number = c.number; side = 0; word = 16 * c.leaf + 9 } ∷ record { number = c.number; side = 1; word = c.word }
        ∷ [])) ≡ 2
    go true = refl
    go false = refl

length_level : (b : Bool) (d : Passed) (n : ℕ) → length (cond b (own_links d ++ leaf_links n) (leaf_links n ++ own_links d)) ≡ 4
length_level true d n = let a = length-append (own_links d) (leaf_links n) in let e = length_own d in omega arith
length_level false d n = let a = length-append (leaf_links n) (own_links d) in let e = length_own d in omega arith

take_more : (xs ys : List ChainLink) (k : ℕ) → take (length xs + k) (xs ++ ys) ≡ xs ++ take k ys
take_more [] ys k = let e : 0 + k ≡ k = omega arith in ap (λ (m : ℕ). take m ys) e
take_more (x ∷ xs) ys k = let e : suc (length xs) + k ≡ suc (length xs + k) = omega arith in
    ap (λ (m : ℕ). take m (x ∷ xs ++ ys)) e ∙ ap (λ (l : List ChainLink). x ∷ l) (take_more xs ys k)

-- enough records are reached: a links before these lead to b records
Enough : ℕ → ℕ → ℕ → List ChainLink → Type 0
Enough x a b ls = (k : ℕ) → k < length ls → k + a < 2 * (1 + (b + length (led_to x (take k ls))))

past_level : (x : ℕ) (c d : Passed) (ls : List ChainLink) (i n : ℕ) → length (led_to x (own_links d ++ take i ls)) ≡ n
    → length (led_to x (take (4 + i) (cond (eqb c.side 0) (own_links d ++ leaf_links c.leaf)
    (leaf_links c.leaf ++ own_links d) ++ ls))) ≡ n
past_level x c d ls i n e = let four = length_level (eqb c.side 0) d c.leaf in
    let lv : List ChainLink = cond (eqb c.side 0) (own_links d ++ leaf_links c.leaf) (leaf_links c.leaf ++ own_links d) in
    let at : 4 + i ≡ length lv + i = omega arith in
    ap (λ (m : ℕ). length (led_to x (take m (lv ++ ls)))) at ∙ (ap (λ (l : List ChainLink). length (led_to x l))
    (take_more lv ls i)
    ∙ (ap (λ (l : List ℕ). length l) (led_level x (eqb c.side 0) c.leaf (own_links d) (take i ls)) ∙ e))

length_pair : (b : Bool) (m n : ℕ) (l : List ℕ) → length (cond b (m ∷ n ∷ []) (n ∷ m ∷ []) ++ l) ≡ 2 + length l
length_pair true m n l = omega arith
length_pair false m n l = omega arith

reach_below : (x : ℕ) (c : Passed) (cs : List Passed) (last a b : ℕ) → target last ≡ x → Joined c.word cs last → Numbered x cs
    → a ≤ 2 * b → (cs ≢ [] → a + 2 ≤ 2 * b) → Enough x a b (links_below c cs)
unfolding links_below Numbered Enough
reach_below x c [] last a b end j all low more k lt = omega arith
reach_below x c (d ∷ []) last a b end j all low more k lt =
    let h = all d (in_first d []) in let two = more (λ e. cc) in
    let on = reach_below x d [] last (a + 4) (b + 1) end j.2 (λ e i. all e (in_later e d [] i)) (omega arith) (λ ne. absurd
    (ne refl)) in
    let four = length_level (eqb c.side 0) d c.leaf in
    let long = length-append (cond (eqb c.side 0) (own_links d ++ leaf_links c.leaf) (leaf_links c.leaf ++ own_links d))
    (links_below d []) in ⊎_elim
    (λ (few : k < 4). omega arith)
    (λ (many : 4 ≤ k). let i : ℕ = k - 4 in let e : k ≡ 4 + i = omega arith in
    let lt' : i < length (links_below d []) = omega arith in let y = on i lt' in
    let led = past_level x c d (links_below d []) i (1 + length (led_to x (take i (links_below d []))))
    (ap (λ (l : List ℕ). length l) (led_last x d (take i (links_below d [])) (ap target j.2 ∙ end) h.2 h.3) ∙ omega arith) in
    subst (λ (m : ℕ). m + a < 2 * (1 + (b + length (led_to x (take m (cond (eqb c.side 0) (own_links d ++ leaf_links c.leaf)
    (leaf_links c.leaf ++ own_links d) ++ links_below d []))))))
    (sym e) (omega arith))
    (cases_lt k 4)
reach_below x c (d ∷ f ∷ cs) last a b end j all low more k lt =
    let h = all d (in_first d (f ∷ cs)) in let hf = all f (in_later f d (f ∷ cs) (in_first f cs)) in let two = more (λ e. cc) in
    let on = reach_below x d (f ∷ cs) last (a + 4) (b + 2) end j.2 (λ e i. all e (in_later e d (f ∷ cs) i)) (omega arith)
    (λ ne. omega arith) in
    let four = length_level (eqb c.side 0) d c.leaf in
    let long = length-append (cond (eqb c.side 0) (own_links d ++ leaf_links c.leaf) (leaf_links c.leaf ++ own_links d))
    (links_below d (f ∷ cs)) in ⊎_elim
    (λ (few : k < 4). omega arith)
    (λ (many : 4 ≤ k). let i : ℕ = k - 4 in let e : k ≡ 4 + i = omega arith in
    let lt' : i < length (links_below d (f ∷ cs)) = omega arith in let y = on i lt' in
    let led = past_level x c d (links_below d (f ∷ cs)) i (2 + length (led_to x (take i (links_below d (f ∷ cs)))))
    (ap (λ (l : List ℕ). length l) (led_own x f.number d (take i (links_below d (f ∷ cs))) (sym j.2.0) hf.0 hf.1 h.2 h.3)
    ∙ length_pair (eqb d.side 0) f.number d.leaf (led_to x (take i (links_below d (f ∷ cs))))) in
    subst (λ (m : ℕ). m + a < 2 * (1 + (b + length (led_to x (take m (cond (eqb c.side 0) (own_links d ++ leaf_links c.leaf)
    (leaf_links c.leaf ++ own_links d) ++ links_below d (f ∷ cs)))))))
    (sym e) (omega arith))
    (cases_lt k 4)

past_own : (x : ℕ) (c : Passed) (ls : List ChainLink) (i n : ℕ) → length (led_to x (own_links c ++ take i ls)) ≡ n
    → length (led_to x (take (2 + i) (own_links c ++ ls))) ≡ n
past_own x c ls i n e = let two = length_own c in let at : 2 + i ≡ length (own_links c) + i = omega arith in
    ap (λ (m : ℕ). length (led_to x (take m (own_links c ++ ls)))) at ∙ (ap (λ (l : List ChainLink). length (led_to x l))
    (take_more (own_links c) ls i) ∙ e)

reach_path : (x : ℕ) (c : Passed) (cs : List Passed) (last : ℕ) → target last ≡ x → Joined c.word cs last → Numbered x (c ∷ cs)
    → (k : ℕ) → k < length (own_links c ++ links_below c cs) → k < 2 * (1 + length (led_to x (take k
    (own_links c ++ links_below c cs))))
unfolding Numbered Enough
reach_path x c [] last end j all k lt = let h = all c (in_first c []) in let two = length_own c in
    let long = length-append (own_links c) (links_below c []) in
    let on = reach_below x c [] last 2 1 end j (λ e i. all e (in_later e c [] i)) (omega arith) (λ ne. absurd (ne refl)) in ⊎_elim
    (λ (few : k < 2). omega arith)
    (λ (many : 2 ≤ k). let i : ℕ = k - 2 in let e : k ≡ 2 + i = omega arith in let y = on i (omega arith) in
    let led = past_own x c (links_below c []) i (1 + length (led_to x (take i (links_below c []))))
    (ap (λ (l : List ℕ). length l) (led_last x c (take i (links_below c [])) (ap target j ∙ end) h.2 h.3) ∙ omega arith) in
    subst (λ (m : ℕ). m < 2 * (1 + length (led_to x (take m (own_links c ++ links_below c []))))) (sym e) (omega arith))
    (cases_lt k 2)
reach_path x c (d ∷ cs) last end j all k lt = let h = all c (in_first c (d ∷ cs)) in
    let hd = all d (in_later d c (d ∷ cs) (in_first d cs)) in let two = length_own c in
    let long = length-append (own_links c) (links_below c (d ∷ cs)) in
    let on = reach_below x c (d ∷ cs) last 2 2 end j (λ e i. all e (in_later e c (d ∷ cs) i)) (omega arith)
    (λ ne. omega arith) in ⊎_elim
    (λ (few : k < 2). omega arith)
    (λ (many : 2 ≤ k). let i : ℕ = k - 2 in let e : k ≡ 2 + i = omega arith in let y = on i (omega arith) in
    let led = past_own x c (links_below c (d ∷ cs)) i (2 + length (led_to x (take i (links_below c (d ∷ cs)))))
    (ap (λ (l : List ℕ). length l) (led_own x d.number c (take i (links_below c (d ∷ cs))) (sym j.0) hd.0 hd.1 h.2 h.3)
    ∙ length_pair (eqb c.side 0) d.number c.leaf (led_to x (take i (links_below c (d ∷ cs))))) in
    subst (λ (m : ℕ). m < 2 * (1 + length (led_to x (take m (own_links c ++ links_below c (d ∷ cs)))))) (sym e) (omega arith))
    (cases_lt k 2)

-- The chain of a path that is not empty stands in the order in which its links lead.
pub path_chained : (guard first last x : ℕ) (c : Passed) (cs : List Passed) → Joined first (c ∷ cs) last → target last ≡ x
    → Numbered x (c ∷ cs)
    → IsChainTo 2 guard (target first) x (path_chain (c ∷ cs) guard x)
unfolding path_records path_links Numbered Beside
path_chained guard first last x c cs j end all = let h = all c (in_first c cs) in record {
  chained = record {
    links_are = own_then c (links_below c cs) (records_below c cs) (below_map c cs);
    records_are = (λ i. j.0 i ∷ records_below c cs) ∙ ap (λ (l : List ℕ). target first ∷ l) (sym
        (led_below x c cs last end j.2 (h.2, h.3) (λ e i. all e (in_later e c cs i))));
    reached = reach_path x c cs last end j.2 all;
    valid = λ l out i. out i;
  };
  guard_is = refl;
  frontier_is = refl;
}

pub numbered_of : (x : ℕ) (cs : List Passed) → ((c : Passed) → IsIn c cs → (c.number ≢ 0) × (c.number ≢ x) × (c.leaf ≢ 0)
    × (c.leaf ≢ x)) → Numbered x cs
unfolding Numbered
numbered_of x cs each = each

-- the same for any path that has a tagged edge
pub path_chained_all : (guard first last x : ℕ) (cs : List Passed) → tag_bit first ≡ 0 → tag_bit last ≡ 1
    → Joined first cs last → target last ≡ x → Numbered x cs
    → IsChainTo 2 guard (target first) x (path_chain cs guard x)
path_chained_all guard first last x [] plain tagged j end all = absurd
    (let e : tag_bit first ≡ tag_bit last = ap tag_bit j in omega arith)
path_chained_all guard first last x (c ∷ cs) plain tagged j end all = path_chained guard first last x c cs j end all
