-- A walk from the root comes to no record twice, so it is no longer than there are records.
use Rattle.std.proofs.Common.{◌≡◌, ◌≢◌, ⊎_elim, ℕ, zero, suc, ◌+◌, ◌<◌, ◌≤◌, Bool, cond, List, [], ◌∷◌, length, refl, sym, ap}
use Rattle.std.proofs.Common.{◌∙◌, subst, arith, eq-eqb, ne_eqb}
use Rattle.std.proofs.Math.Decide.{ℕ_discrete}
use mathlib.Core.Logic.{dite}
use Rattle.pp_link.specs.declared.layout.Sizes.{Sizes}
use Rattle.pp_link.specs.Links.{target, leaf_bit}
use Rattle.pp_link.specs.Places.{IsNumber}
use Rattle.pp_rule.specs.Lists.{IsIn, Once, without}
use Rattle.pp_rule.proofs.Put.{in_nil, in_first, in_later, in_cases}
use Rattle.pp_rule.proofs.Without.{once_tail, once_head, once_cons, in_without, once_without}
use Rattle.std.proofs.Common.{Option}
use Rattle.pp_trees.specs.Trees.{Heap, side, edge, answer, Meets, root, down, Finds, ends, goes, Sane, SearchTree}
use Rattle.pp_trees.proofs.Walking.{side_low, meets_internal, edge_of}

without_out : (n : ℕ) (xs : List ℕ) → (IsIn n xs → ⊥) → without n xs ≡ xs
without_out n [] out = refl
without_out n (x ∷ xs) out = ap (λ (b : Bool). cond b (without n xs) (x ∷ without n xs)) (ne_eqb x n (λ e. out (subst (λ
    (y : ℕ). IsIn n (y ∷ xs)) (sym e) (in_first n xs))))
    ∙ ap (λ (l : List ℕ). x ∷ l) (without_out n xs (λ i. out (in_later n x xs i)))

length_without : (n : ℕ) (xs : List ℕ) → Once xs → length xs ≤ suc (length (without n xs))
length_without n [] once = omega arith
length_without n (x ∷ xs) once = dite (ℕ_discrete x n)
    (λ e. let is : without n (x ∷ xs) ≡ xs = ap (λ (b : Bool). cond b (without n xs) (x ∷ without n xs)) (eq-eqb x n e)
    ∙ without_out n xs (λ i. once_head (λ k. k) x xs once n i (sym e)) in let l = ap (λ (y : List ℕ). length y) is in omega arith)
    (λ ne. let is : without n (x ∷ xs) ≡ x ∷ without n xs = ap (λ (b : Bool). cond b (without n xs) (x ∷ without n xs))
    (ne_eqb x n ne) in
    let l = ap (λ (y : List ℕ). length y) is in let rest = length_without n xs (once_tail (λ k. k) x xs once) in omega arith)

-- different numbers from 1 to n are at most n
pub few : (n : ℕ) (xs : List ℕ) → Once xs → ((x : ℕ) → IsIn x xs → (1 ≤ x) × (x ≤ n)) → length xs ≤ n
few zero [] once all = omega arith
few zero (x ∷ xs) once all = let y = all x (in_first x xs) in let a = y.0 in let b = y.1 in absurd (omega arith)
few (suc n) xs once all = let rest = few n (without (suc n) xs) (once_without (suc n) xs once)
    (λ x i. let y = in_without (suc n) x xs i in let a = all x y.0 in let b = a.1 in let ne = y.1 in (a.0, omega arith)) in
    let l = length_without (suc n) xs once in omega arith

-- the records over which the walk came
unfoldable pub trail : (t : Heap) (k : ℕ) (n : ℕ) → Meets t k n → List ℕ
trail t k n (root e) = []
trail t k n (down {n = p} m inner to) = p ∷ trail t k p m

module _ (z : Sizes) (t : Heap) (sane : Sane z t) (tree : SearchTree z t) where
  -- all walks come to a record over as many records
  pub depth_same : (i j : ℕ) (n n' : ℕ) → n ≡ n' → (m : Meets t i n) (m' : Meets t j n')
      → length (trail t i n m) ≡ length (trail t j n' m')
  unfolding trail
  depth_same i j n n' e (root is) (root is') = refl
  depth_same i j n n' e (root is) (down {n = q} m' inner' to') = absurd (tree.rooted q (side j (t.key q))
      (meets_internal z t sane tree j q m') (side_low j (t.key q)) (sym to' ∙ (sym e ∙ is)))
  depth_same i j n n' e (down {n = p} m inner to) (root is') = absurd (tree.rooted p (side i (t.key p))
      (meets_internal z t sane tree i p m) (side_low i (t.key p)) (sym to ∙ (e ∙ is')))
  depth_same i j n n' e (down {n = p} m inner to) (down {n = q} m' inner' to') =
      let one = tree.once p (side i (t.key p)) q (side j (t.key q)) (meets_internal z t sane tree i p m) (side_low i
      (t.key p)) (meets_internal z t sane tree j q m') (side_low j (t.key q))
      (sym to ∙ (e ∙ to')) in ap suc (depth_same i j p q one.0 m m')

  shallow : (k x : ℕ) (n : ℕ) (m : Meets t k n) → IsIn x (trail t k n m) → (y : ℕ) × ((x ≡ y) × ((m' : Meets t k y)
      × (length (trail t k y m') < length (trail t k n m))))
  unfolding trail
  shallow k x n (root e) i = absurd (in_nil x i)
  shallow k x n (down {n = p} m inner to) i = ⊎_elim
      (λ (e : x ≡ p). (p, (e, (m, omega arith))))
      (λ (later : IsIn x (trail t k p m)). let s = shallow k x p m later in let lt = s.1.1.1 in
      (s.0, (s.1.0, (s.1.1.0, omega arith))))
      (in_cases x p (trail t k p m) i)

  once_trail : (k : ℕ) (n : ℕ) (m : Meets t k n) → Once (trail t k n m)
  unfolding trail
  once_trail k n (root e) = λ a b x y at at' e'. absurd (in_nil x (a, at))
  once_trail k n (down {n = p} m inner to) = once_cons (λ x. x) p (trail t k p m)
      (λ x i e. let s = shallow k x p m i in let same = depth_same k k p s.0 (sym e
      ∙ s.1.0) m s.1.1.0 in let lt = s.1.1.1 in omega arith)
      (once_trail k p m)

  pub depth_few : (k : ℕ) (n : ℕ) (m : Meets t k n) → length (trail t k n m) ≤ z.records
  depth_few k n m = few z.records (trail t k n m) (once_trail k n m) (λ x i. let s = shallow k x n m i in
      subst (IsNumber z) (sym s.1.0) (meets_internal z t sane tree k s.0 s.1.1.0).number)

  -- so the root's walk for a key ends, and finds something
  finds_on_from : (k fuel n : ℕ) (m : Meets t k n) → z.records < length (trail t k n m) + fuel → (a : Option ℕ) × Finds t k a n
  unfolding trail
  finds_on_from k zero n m deep = let few = depth_few k n m in absurd (omega arith)
  finds_on_from k (suc fuel) n m deep = let i = meets_internal z t sane tree k n m in let lt = side_low k (t.key n) in
      dite (ℕ_discrete (leaf_bit (edge t k n)) 0)
      (λ inner. let rest = finds_on_from k fuel (target (edge t k n)) (down m inner refl) (let one : length (trail t k (target
      (edge t k n)) (down m inner refl)) ≡ suc (length (trail t k n m)) = refl in omega arith) in
      (rest.0, goes (edge_of z t sane tree n (side k (t.key n)) i lt 0 inner) rest.1))
      (λ ne. (answer t k (edge t k n), ends (edge_of z t sane tree n (side k (t.key n)) i lt 1 (one_bit (edge t k n) ne)) refl))
    where
      one_bit : (w : ℕ) → leaf_bit w ≢ 0 → leaf_bit w ≡ 1
      one_bit w ne = omega arith

  pub root_finds : (k : ℕ) → (a : Option ℕ) × Finds t k a 1
  unfolding trail
  root_finds k = finds_on_from k (z.records + 1) 1 (root refl) (omega arith)
