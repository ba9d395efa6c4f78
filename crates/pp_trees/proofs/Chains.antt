-- The chain of a tagged path, as lists.
use Rattle.std.proofs.Common.{◌≡◌, ◌≢◌, ◌⊎◌, inl, inr, ⊎_elim, ℕ, zero, suc, ◌<◌, Bool, true, false, cond, eqb, List, [], ◌∷◌}
use Rattle.std.proofs.Common.{◌++◌}
use Rattle.std.proofs.Common.{sym, ap, ◌∙◌, subst, arith}
use Rattle.pp_rule.specs.Lists.{IsIn, Once}
use Rattle.pp_rule.specs.declared.views.ChainLink.{ChainLink}
use Rattle.pp_rule.specs.Paths.{links_of}
use Rattle.pp_rule.proofs.Put.{in_nil, in_first, in_later, in_cases, in_left, in_right, in_either}
use Rattle.pp_rule.proofs.Without.{once_cons, once_append}
use Rattle.pp_trees.specs.TaggedPaths.{Passed, Taken, own_links, leaf_links, records_below, links_below, path_records, path_links}

either_in : {A : Type 0} (x : A) (b : Bool) (xs ys : List A) → IsIn x (cond b xs ys) → IsIn x xs ⊎ IsIn x ys
either_in x true xs ys i = inl i
either_in x false xs ys i = inr i

two_in : (n a b : ℕ) → IsIn n (a ∷ b ∷ []) → (n ≡ a) ⊎ (n ≡ b)
two_in n a b i = ⊎_elim inl (λ (later : IsIn n (b ∷ [])). ⊎_elim inr (λ (never : IsIn n []). absurd (in_nil n never))
    (in_cases n b [] later)) (in_cases n a (b ∷ []) i)

-- What stands among the records of the path is one of them, or a leaf beside it.
below_taken : (n : ℕ) (c : Passed) (cs : List Passed) → IsIn n (records_below c cs) → (n ≡ c.leaf) ⊎ Taken cs n
unfolding records_below
below_taken n c [] i = ⊎_elim inl (λ (never : IsIn n []). absurd (in_nil n never)) (in_cases n c.leaf [] i)
below_taken n c (d ∷ cs) i = ⊎_elim
    (λ (here : IsIn n (cond (eqb c.side 0) (d.number ∷ c.leaf ∷ []) (c.leaf ∷ d.number ∷ []))). ⊎_elim
    (λ (x : IsIn n (d.number ∷ c.leaf ∷ [])). ⊎_elim (λ (e : n ≡ d.number). inr (d, (in_first d cs, inl e))) inl
    (two_in n d.number c.leaf x))
    (λ (x : IsIn n (c.leaf ∷ d.number ∷ [])). ⊎_elim inl (λ (e : n ≡ d.number). inr (d, (in_first d cs, inl e)))
    (two_in n c.leaf d.number x))
    (either_in n (eqb c.side 0) (d.number ∷ c.leaf ∷ []) (c.leaf ∷ d.number ∷ []) here))
    (λ (later : IsIn n (records_below d cs)). ⊎_elim (λ (e : n ≡ d.leaf). inr (d, (in_first d cs, inr e)))
    (λ (o : Taken cs n). inr (o.0, (in_later o.0 d cs o.1.0, o.1.1))) (below_taken n d cs later))
    (in_either n (cond (eqb c.side 0) (d.number ∷ c.leaf ∷ []) (c.leaf ∷ d.number ∷ [])) (records_below d cs) i)

pub records_taken : (n : ℕ) (cs : List Passed) → IsIn n (path_records cs) → Taken cs n
unfolding path_records
records_taken n [] i = absurd (in_nil n i)
records_taken n (c ∷ cs) i = ⊎_elim (λ (e : n ≡ c.number). (c, (in_first c cs, inl e)))
    (λ (later : IsIn n (records_below c cs)). ⊎_elim (λ (e : n ≡ c.leaf). (c, (in_first c cs, inr e)))
    (λ (o : Taken cs n). (o.0, (in_later o.0 c cs o.1.0, o.1.1))) (below_taken n c cs later)) (in_cases n c.number
    (records_below c cs) i)

in_two : (n a b : ℕ) → (n ≡ a) ⊎ (n ≡ b) → IsIn n (a ∷ b ∷ [])
in_two n a b (inl e) = subst (λ (m : ℕ). IsIn m (a ∷ b ∷ [])) (sym e) (in_first a (b ∷ []))
in_two n a b (inr e) = subst (λ (m : ℕ). IsIn m (a ∷ b ∷ [])) (sym e) (in_later b a (b ∷ []) (in_first b []))

in_cond : (n : ℕ) (b : Bool) (x y : ℕ) → (n ≡ x) ⊎ (n ≡ y) → IsIn n (cond b (x ∷ y ∷ []) (y ∷ x ∷ []))
in_cond n true x y e = in_two n x y e
in_cond n false x y e = in_two n y x (⊎_elim inr inl e)

taken_below : (n : ℕ) (c : Passed) (cs : List Passed) → (n ≡ c.leaf) ⊎ Taken cs n → IsIn n (records_below c cs)
unfolding records_below
taken_below n c [] t = ⊎_elim (λ (e : n ≡ c.leaf). subst (λ (m : ℕ). IsIn m (c.leaf ∷ [])) (sym e) (in_first c.leaf [])) (λ
    (o : Taken [] n). absurd (in_nil o.0 o.1.0)) t
taken_below n c (d ∷ cs) t = let two = cond (eqb c.side 0) (d.number ∷ c.leaf ∷ []) (c.leaf ∷ d.number ∷ []) in ⊎_elim
    (λ (e : n ≡ c.leaf). in_left n two (records_below d cs) (in_cond n (eqb c.side 0) d.number c.leaf (inr e)))
    (λ (o : Taken (d ∷ cs) n). ⊎_elim
    (λ (same : o.0 ≡ d). ⊎_elim
    (λ (e : n ≡ o.0.number). in_left n two (records_below d cs) (in_cond n (eqb c.side 0) d.number c.leaf (inl (e
    ∙ ap (λ (b : Passed). b.number) same))))
    (λ (e : n ≡ o.0.leaf). in_right n two (records_below d cs) (taken_below n d cs (inl (e
    ∙ ap (λ (b : Passed). b.leaf) same)))) o.1.1)
    (λ (later : IsIn o.0 cs). in_right n two (records_below d cs) (taken_below n d cs (inr (o.0, (later, o.1.1)))))
    (in_cases o.0 d cs o.1.0)) t

pub taken_records : (n : ℕ) (cs : List Passed) → Taken cs n → IsIn n (path_records cs)
unfolding path_records
taken_records n [] o = absurd (in_nil o.0 o.1.0)
taken_records n (c ∷ cs) o = ⊎_elim
    (λ (same : o.0 ≡ c). ⊎_elim
    (λ (e : n ≡ o.0.number). subst (λ (m : ℕ). IsIn m (c.number ∷ records_below c cs)) (sym (e
    ∙ ap (λ (b : Passed). b.number) same)) (in_first c.number (records_below c cs)))
    (λ (e : n ≡ o.0.leaf). in_later n c.number (records_below c cs) (taken_below n c cs (inl (e
    ∙ ap (λ (b : Passed). b.leaf) same)))) o.1.1)
    (λ (later : IsIn o.0 cs). in_later n c.number (records_below c cs) (taken_below n c cs (inr (o.0, (later, o.1.1)))))
    (in_cases o.0 c cs o.1.0)

-- the records and the leaves of a path differ
unfoldable pub Distinct : List Passed → Type 0
Distinct [] = Unit {0}
Distinct (c ∷ cs) = (c.number ≢ c.leaf) × (Taken cs c.number → ⊥) × (Taken cs c.leaf → ⊥) × Distinct cs

once_two : (b : Bool) (x y : ℕ) → x ≢ y → Once (cond b (x ∷ y ∷ []) (y ∷ x ∷ []))
once_two true x y ne = once_cons (λ n. n) x (y ∷ []) (λ z i e. ne (sym e
    ∙ one z y i)) (once_cons (λ n. n) y [] (λ z i e. in_nil z i) (λ k l a b at at' e. absurd (in_nil a (k, at))))
  where
    one : (z y : ℕ) → IsIn z (y ∷ []) → z ≡ y
    one z y i = ⊎_elim (λ (e : z ≡ y). e) (λ (never : IsIn z []). absurd (in_nil z never)) (in_cases z y [] i)
once_two false x y ne = once_cons (λ n. n) y (x ∷ []) (λ z i e. ne (sym (one z x i)
    ∙ e)) (once_cons (λ n. n) x [] (λ z i e. in_nil z i) (λ k l a b at at' e. absurd (in_nil a (k, at))))
  where
    one : (z y : ℕ) → IsIn z (y ∷ []) → z ≡ y
    one z y i = ⊎_elim (λ (e : z ≡ y). e) (λ (never : IsIn z []). absurd (in_nil z never)) (in_cases z y [] i)

cond_in : (n : ℕ) (b : Bool) (x y : ℕ) → IsIn n (cond b (x ∷ y ∷ []) (y ∷ x ∷ [])) → (n ≡ x) ⊎ (n ≡ y)
cond_in n true x y i = two_in n x y i
cond_in n false x y i = ⊎_elim inr inl (two_in n y x i)

once_below : (c : Passed) (cs : List Passed) → Distinct (c ∷ cs) → Once (records_below c cs)
unfolding records_below Distinct
once_below c [] d = once_cons (λ n. n) c.leaf [] (λ z i e. in_nil z i) (λ k l a b at at' e. absurd (in_nil a (k, at)))
once_below c (b ∷ cs) d = let two = cond (eqb c.side 0) (b.number ∷ c.leaf ∷ []) (c.leaf ∷ b.number ∷ []) in
    once_append (λ n. n) two (records_below b cs) (once_two (eqb c.side 0) b.number c.leaf (λ e. d.2 (
      b,
      (
        in_first b cs,
        inl
            (sym e),
      ),
    ))) (once_below b cs d.3)
    (λ x y i j e. ⊎_elim
    (λ (at : x ≡ b.number). ⊎_elim (λ (l : y ≡ b.leaf). d.3.0 (sym at ∙ (e
    ∙ l))) (λ (o : Taken cs y). d.3.1 (subst (Taken cs) (sym e ∙ at) o)) (below_taken y b cs j))
    (λ (at : x ≡ c.leaf). ⊎_elim (λ (l : y ≡ b.leaf). d.2 (b, (in_first b cs, inr (sym at ∙ (e ∙ l)))))
    (λ (o : Taken cs y). let o' : Taken cs c.leaf = subst (Taken cs) (sym e
    ∙ at) o in d.2 (o'.0, (in_later o'.0 b cs o'.1.0, o'.1.1))) (below_taken y b cs j))
    (cond_in x (eqb c.side 0) b.number c.leaf i))

pub once_records : (cs : List Passed) → Distinct cs → Once (path_records cs)
unfolding path_records Distinct
once_records [] d = λ k l a b at at' e. absurd (in_nil a (k, at))
once_records (c ∷ cs) d = once_cons (λ n. n) c.number (records_below c cs)
    (λ x i e. ⊎_elim (λ (l : x ≡ c.leaf). d.0 (sym e ∙ l)) (λ (o : Taken cs x). d.1 (subst (Taken cs) e o))
    (below_taken x c cs i)) (once_below c cs d)

-- the links of the chain are those of its records
below_link : (l : ChainLink) (c : Passed) (cs : List Passed) → IsIn l (links_below c cs) → IsIn l (leaf_links c.leaf)
    ⊎ ((d : Passed) × (IsIn d cs × (IsIn l (own_links d) ⊎ IsIn l (leaf_links d.leaf))))
unfolding links_below
below_link l c [] i = inl i
below_link l c (d ∷ cs) i = ⊎_elim
    (λ (here : IsIn l (cond (eqb c.side 0) (own_links d ++ leaf_links c.leaf) (leaf_links c.leaf ++ own_links d))). ⊎_elim
    (λ (x : IsIn l (own_links d ++ leaf_links c.leaf)). ⊎_elim (λ (own : IsIn l (own_links d)). inr (
      d,
      (in_first d cs, inl own),
    )) inl (in_either l (own_links d) (leaf_links c.leaf) x))
    (λ (x : IsIn l (leaf_links c.leaf ++ own_links d)). ⊎_elim inl (λ (own : IsIn l (own_links d)). inr (
      d,
      (in_first d cs, inl own),
    )) (in_either l (leaf_links c.leaf) (own_links d) x))
    (either_in l (eqb c.side 0) (own_links d ++ leaf_links c.leaf) (leaf_links c.leaf ++ own_links d) here))
    (λ (later : IsIn l (links_below d cs)). ⊎_elim (λ (leaf : IsIn l (leaf_links d.leaf)). inr (d, (in_first d cs, inr leaf)))
    (λ (y : (b : Passed) × (IsIn b cs × (IsIn l (own_links b) ⊎ IsIn l (leaf_links b.leaf)))). inr (
      y.0,
      (in_later y.0 d cs y.1.0, y.1.1),
    ))
    (below_link l d cs later))
    (in_either l (cond (eqb c.side 0) (own_links d ++ leaf_links c.leaf) (leaf_links c.leaf ++ own_links d)) (links_below d cs) i)

pub link_of_path : (l : ChainLink) (cs : List Passed) → IsIn l (path_links cs) → (c : Passed) × (IsIn c cs
    × (IsIn l (own_links c) ⊎ IsIn l (leaf_links c.leaf)))
unfolding path_links
link_of_path l [] i = absurd (in_nil l i)
link_of_path l (c ∷ cs) i = ⊎_elim (λ (own : IsIn l (own_links c)). (c, (in_first c cs, inl own)))
    (λ (later : IsIn l (links_below c cs)). ⊎_elim (λ (leaf : IsIn l (leaf_links c.leaf)). (c, (in_first c cs, inr leaf)))
    (λ (y : (b : Passed) × (IsIn b cs × (IsIn l (own_links b) ⊎ IsIn l (leaf_links b.leaf)))). (
      y.0,
      (in_later y.0 c cs y.1.0, y.1.1),
    ))
    (below_link l c cs later))
    (in_either l (own_links c) (links_below c cs) i)

pub pair_in : (n s : ℕ) (ns : List ℕ) → IsIn n ns → s < 2 → IsIn (n, s) (links_of 2 ns)
unfolding links_of
pair_in n s [] i lt = absurd (in_nil n i)
pair_in n s (m ∷ ns) i lt = ⊎_elim (λ (e : n ≡ m). subst (λ (x : ℕ). IsIn (x, s) (links_of 2 (m ∷ ns))) (sym e) (here s lt))
    (λ (later : IsIn n ns). in_later (n, s) (m, 0) ((m, 1) ∷ links_of 2 ns) (in_later (n, s) (m, 1) (links_of 2 ns)
    (pair_in n s ns later lt)))
    (in_cases n m ns i)
  where
    here : (s : ℕ) → s < 2 → IsIn (m, s) (links_of 2 (m ∷ ns))
    here zero lt = in_first (m, 0) ((m, 1) ∷ links_of 2 ns)
    here (suc zero) lt = in_later (m, 1) (m, 0) ((m, 1) ∷ links_of 2 ns) (in_first (m, 1) (links_of 2 ns))
    here (suc (suc s)) lt = absurd (omega arith)
