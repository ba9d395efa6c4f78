-- The records of a tree, one after another: each attached record stands once among those below the root.
use Rattle.std.proofs.Common.{◌≡◌, ◌≢◌, ◌⊎◌, inl, inr, ⊎_elim, ℕ, zero, suc, ◌+◌, ◌-◌, ◌*◌, ◌<◌, ◌≤◌, Bool, cond, nat_eq}
use Rattle.std.proofs.Common.{List, [], ◌∷◌, ◌++◌, length, refl, sym, ap, ◌∙◌, subst, arith, eq-eqb, ne_eqb, length-append}
use Rattle.std.proofs.Math.Decide.{ℕ_discrete}
use mathlib.Core.Logic.{dite}
use Rattle.pp_link.specs.declared.layout.Sizes.{Sizes}
use Rattle.pp_link.specs.Links.{target, leaf_bit}
use Rattle.pp_link.specs.Places.{IsNumber}
use Rattle.pp_rule.specs.Lists.{IsIn, OnceBy, Once}
use Rattle.pp_rule.specs.States.{attached}
use Rattle.pp_rule.proofs.Put.{in_nil, in_first, in_later, in_cases, in_left, in_right, in_either, in_one}
use Rattle.pp_rule.proofs.Without.{once_cons, once_append}
use Rattle.pp_trees.specs.Trees.{Heap, side, edge, HasChildren, HasNone, Internal, Leaf, Meets, root, down, Sane, SearchTree}
use Rattle.pp_trees.proofs.Walking.{side_left, side_right, side_low, each_side, is_linked, root_internal, child_on}
use Rattle.pp_trees.proofs.Walking.{child_internal, child_leaf, meets_internal}
use Rattle.pp_trees.proofs.Depths.{trail, depth_same, depth_few}

-- The records that links lead to from n on, over so many links at most: n first, then those on its left, then those on its right.
unfoldable pub below : (ℕ → ℕ → ℕ) → ℕ → ℕ → List ℕ
below link zero n = n ∷ []
below link (suc most) n = cond (nat_eq (target (link n 0)) 0) (n ∷ [])
    (n ∷ (below link most (target (link n 0)) ++ below link most (target (link n 1))))

-- those of them from which no link leads on
unfoldable pub tips : (ℕ → ℕ → ℕ) → ℕ → ℕ → List ℕ
tips link zero n = n ∷ []
tips link (suc most) n = cond (nat_eq (target (link n 0)) 0) (n ∷ [])
    (tips link most (target (link n 0)) ++ tips link most (target (link n 1)))

module _ (link : ℕ → ℕ → ℕ) where
  pub below_leaf : (most n : ℕ) → target (link n 0) ≡ 0 → below link most n ≡ n ∷ []
  unfolding below
  below_leaf zero n nil = refl
  below_leaf (suc most) n nil = ap (λ (b : Bool). cond b (n ∷ [])
      (n ∷ (below link most (target (link n 0)) ++ below link most (target (link n 1))))) (eq-eqb (target (link n 0)) 0 nil)

  pub below_end : (n : ℕ) → below link zero n ≡ n ∷ []
  unfolding below
  below_end n = refl

  pub below_inner : (most n : ℕ) → target (link n 0) ≢ 0
      → below link (suc most) n ≡ n ∷ (below link most (target (link n 0)) ++ below link most (target (link n 1)))
  unfolding below
  below_inner most n some = ap (λ (b : Bool). cond b (n ∷ [])
      (n ∷ (below link most (target (link n 0)) ++ below link most (target (link n 1))))) (ne_eqb (target (link n 0)) 0 some)

  pub tips_leaf : (most n : ℕ) → target (link n 0) ≡ 0 → tips link most n ≡ n ∷ []
  unfolding tips
  tips_leaf zero n nil = refl
  tips_leaf (suc most) n nil = ap (λ (b : Bool). cond b (n ∷ [])
      (tips link most (target (link n 0)) ++ tips link most (target (link n 1)))) (eq-eqb (target (link n 0)) 0 nil)

  pub tips_end : (n : ℕ) → tips link zero n ≡ n ∷ []
  unfolding tips
  tips_end n = refl

  pub tips_inner : (most n : ℕ) → target (link n 0) ≢ 0
      → tips link (suc most) n ≡ tips link most (target (link n 0)) ++ tips link most (target (link n 1))
  unfolding tips
  tips_inner most n some = ap (λ (b : Bool). cond b (n ∷ [])
      (tips link most (target (link n 0)) ++ tips link most (target (link n 1)))) (ne_eqb (target (link n 0)) 0 some)

  -- one internal record fewer than leaves
  pub twice : (most n : ℕ) → length (below link most n) + 1 ≡ 2 * length (tips link most n)
  twice zero n = let a : length (below link zero n) ≡ 1 = ap (λ (l : List ℕ). length l) (below_end n) in
      let b : length (tips link zero n) ≡ 1 = ap (λ (l : List ℕ). length l) (tips_end n) in omega arith
  twice (suc most) n = dite (ℕ_discrete (target (link n 0)) 0)
      (λ nil. let a : length (below link (suc most) n) ≡ 1 = ap (λ (l : List ℕ). length l) (below_leaf (suc most) n nil) in
      let b : length (tips link (suc most) n) ≡ 1 = ap (λ (l : List ℕ). length l) (tips_leaf (suc most) n nil) in omega arith)
      (λ some. let bl : List ℕ = below link most (target (link n 0)) in let br : List ℕ = below link most (target (link n 1)) in
      let tl : List ℕ = tips link most (target (link n 0)) in let tr : List ℕ = tips link most (target (link n 1)) in
      let a : length (below link (suc most) n) ≡ suc (length (bl ++ br)) = ap (λ (l : List ℕ). length l) (below_inner most n some) in
      let b : length (tips link (suc most) n) ≡ length (tl ++ tr) = ap (λ (l : List ℕ). length l) (tips_inner most n some) in
      let c = length-append bl br in let d = length-append tl tr in
      let left = twice most (target (link n 0)) in let right = twice most (target (link n 1)) in omega arith)

  pub below_first : (most n : ℕ) → IsIn n (below link most n)
  below_first zero n = subst (λ (l : List ℕ). IsIn n l) (sym (below_end n)) (in_first n [])
  below_first (suc most) n = dite (ℕ_discrete (target (link n 0)) 0)
      (λ nil. subst (λ (l : List ℕ). IsIn n l) (sym (below_leaf (suc most) n nil)) (in_first n []))
      (λ some. subst (λ (l : List ℕ). IsIn n l) (sym (below_inner most n some)) (in_first n _))

  -- the leaves stand among them
  pub tips_below : (most n x : ℕ) → IsIn x (tips link most n) → IsIn x (below link most n)
  tips_below zero n x i = subst (λ (l : List ℕ). IsIn x l) (tips_end n ∙ sym (below_end n)) i
  tips_below (suc most) n x i = dite (ℕ_discrete (target (link n 0)) 0)
      (λ nil. subst (λ (l : List ℕ). IsIn x l) (tips_leaf (suc most) n nil ∙ sym (below_leaf (suc most) n nil)) i)
      (λ some. let bl : List ℕ = below link most (target (link n 0)) in let br : List ℕ = below link most (target (link n 1)) in
      subst (λ (l : List ℕ). IsIn x l) (sym (below_inner most n some)) (in_later x n (bl ++ br) (⊎_elim
      (λ (j : IsIn x (tips link most (target (link n 0)))). in_left x bl br (tips_below most (target (link n 0)) x j))
      (λ (j : IsIn x (tips link most (target (link n 1)))). in_right x bl br (tips_below most (target (link n 1)) x j))
      (in_either x (tips link most (target (link n 0))) (tips link most (target (link n 1)))
      (subst (λ (l : List ℕ). IsIn x l) (tips_inner most n some) i)))))

-- the root's walk for k comes to n, or ends there
abbrev pub Lands : Heap → ℕ → ℕ → Type 0
Lands t k n = (n ≡ 1) ⊎ ((p : ℕ) × (Meets t k p × (target (edge t k p) ≡ n)))

pub meets_lands : (t : Heap) (k n : ℕ) → Meets t k n → Lands t k n
meets_lands t k n (root e) = inl e
meets_lands t k n (down {n = p} m inner to) = inr (p, (m, sym to))

one_more : (n d : ℕ) → d ≤ n → suc (n - d) + d ≡ n + 1
one_more n d le = omega arith

no_more : (n d : ℕ) → d ≤ n → n + 1 - d + d ≡ n + 1
no_more n d le = omega arith

-- an attached record
abbrev pub IsOn : Sizes → Heap → ℕ → Type 0
IsOn z t n = IsNumber z n × (t.state n ≡ attached)

module _ (z : Sizes) (t : Heap) (sane : Sane z t) (tree : SearchTree z t) where
  pub root_on : IsOn z t 1
  root_on = let i = root_internal z t sane tree in (i.number, i.on)

  pub internal_of : (n : ℕ) → IsOn z t n → target (t.link n 0) ≢ 0 → Internal z t n
  internal_of n on some = ⊎_elim
      (λ (c : HasChildren t n). record { number = on.0; on = on.1; children = c })
      (λ (none : HasNone t n). absurd (some (none 0 (omega arith))))
      (tree.sort n on.0 (is_linked (t.state n) on.1))

  pub leaf_of : (n : ℕ) → IsOn z t n → target (t.link n 0) ≡ 0 → Leaf z t n
  leaf_of n on nil = ⊎_elim
      (λ (c : HasChildren t n). absurd (c 0 (omega arith) nil))
      (λ (none : HasNone t n). record { number = on.0; on = on.1; none = none })
      (tree.sort n on.0 (is_linked (t.state n) on.1))

  -- the root's walk for its key comes to each attached record, or ends there
  pub home : (n : ℕ) → IsOn z t n → Lands t (t.key n) n
  home n on = ⊎_elim
      (λ (c : HasChildren t n). meets_lands t (t.key n) n (tree.internal_home n record { number = on.0; on = on.1; children = c }).1)
      (λ (none : HasNone t n). let b = tree.leaf_home n record { number = on.0; on = on.1; none = none } in inr (b.parent, (b.meets, b.to)))
      (tree.sort n on.0 (is_linked (t.state n) on.1))

  -- a walk that comes below an edge came over it
  over_one : (k n s : ℕ) → Internal z t n → s < 2 → Lands t k (target (t.link n s)) → Meets t k n × (side k (t.key n) ≡ s)
  over_one k n s i lt l = ⊎_elim
      (λ (e : target (t.link n s) ≡ 1). absurd (tree.rooted n s i lt e))
      (λ (y : (p : ℕ) × (Meets t k p × (target (edge t k p) ≡ target (t.link n s)))). let p : ℕ = y.0 in
      let one = tree.once p (side k (t.key p)) n s (meets_internal z t sane tree k p y.1.0) (side_low k (t.key p)) i lt y.1.1 in
      (subst (Meets t k) one.0 y.1.0, ap (λ (r : ℕ). side k (t.key r)) (sym one.0) ∙ one.1)) l

  -- what is said of each record below an internal one is said of it, and of those below its two sides
  pub below_cases : (P : ℕ → Type 0) (most n x : ℕ) → IsIn x (below t.link most n) → P n
      → ((m s : ℕ) → s < 2 → target (t.link n 0) ≢ 0 → suc m ≡ most → IsIn x (below t.link m (target (t.link n s))) → P x) → P x
  below_cases P zero n x i here on = subst P (in_one x n (subst (λ (l : List ℕ). IsIn x l) (below_end t.link n) i)) here
  below_cases P (suc most) n x i here on = dite (ℕ_discrete (target (t.link n 0)) 0)
      (λ nil. subst P (in_one x n (subst (λ (l : List ℕ). IsIn x l) (below_leaf t.link (suc most) n nil) i)) here)
      (λ some. let bl : List ℕ = below t.link most (target (t.link n 0)) in let br : List ℕ = below t.link most (target (t.link n 1)) in
      ⊎_elim (λ (e : x ≡ n). subst P (sym e) here)
      (λ (later : IsIn x (bl ++ br)). ⊎_elim
      (λ (j : IsIn x bl). on most 0 (omega arith) some refl j) (λ (j : IsIn x br). on most 1 (omega arith) some refl j)
      (in_either x bl br later))
      (in_cases x n (bl ++ br) (subst (λ (l : List ℕ). IsIn x l) (below_inner t.link most n some) i)))

  -- what lies below an attached record is attached
  pub on_below : (most n x : ℕ) → IsOn z t n → IsIn x (below t.link most n) → IsOn z t x
  on_below zero n x on i = subst (IsOn z t) (in_one x n (subst (λ (l : List ℕ). IsIn x l) (below_end t.link n) i)) on
  on_below (suc most) n x on i = below_cases (IsOn z t) (suc most) n x i on (λ m s lt some same j.
      on_below most (target (t.link n s)) x (child_on z t sane tree n s (internal_of n on some) lt)
      (subst (λ (r : ℕ). IsIn x (below t.link r (target (t.link n s)))) (let e : m ≡ most = omega arith in e) j))

  -- a walk that comes to a record below n came to n
  inside : (k most n x : ℕ) → IsOn z t n → IsIn x (below t.link most n) → Lands t k x → Lands t k n
  inside k zero n x on i l = subst (Lands t k) (sym (in_one x n (subst (λ (l : List ℕ). IsIn x l) (below_end t.link n) i))) l
  inside k (suc most) n x on i l = below_cases (λ (y : ℕ). Lands t k y → Lands t k n) (suc most) n x i (λ here. here)
      (λ m s lt some same j at.
      let int = internal_of n on some in meets_lands t k n (over_one k n s int lt (inside k most (target (t.link n s)) x
      (child_on z t sane tree n s int lt)
      (subst (λ (r : ℕ). IsIn x (below t.link r (target (t.link n s)))) (let e : m ≡ most = omega arith in e) j) at)).0) l

  -- below a side of n, it came over that edge
  inside_edge : (k most n s x : ℕ) → Internal z t n → s < 2 → IsIn x (below t.link most (target (t.link n s))) → Lands t k x
      → Meets t k n × (side k (t.key n) ≡ s)
  inside_edge k most n s x i lt j at = over_one k n s i lt (inside k most (target (t.link n s)) x (child_on z t sane tree n s i lt) j at)

  -- a record isn't below itself
  no_circle : (most n s : ℕ) → Internal z t n → s < 2 → IsIn n (below t.link most (target (t.link n s))) → ⊥
  no_circle most n s i lt j = let h = tree.internal_home n i in let some = h.0 in
      let right : side (t.key n) (t.key n) ≡ 1 = side_right (t.key n) (t.key n) (omega arith) in
      let left : side (t.key n - 1) (t.key n) ≡ 0 = side_left (t.key n - 1) (t.key n) (omega arith) in
      let a = (inside_edge (t.key n) most n s n i lt j (meets_lands t (t.key n) n h.1)).1 in
      let b = (inside_edge (t.key n - 1) most n s n i lt j (meets_lands t (t.key n - 1) n h.2)).1 in omega arith

  -- what lies on the left isn't what lies on the right, nor has it its key
  apart_keys : (most n x y : ℕ) → Internal z t n → IsIn x (below t.link most (target (t.link n 0)))
      → IsIn y (below t.link most (target (t.link n 1))) → t.key x ≡ t.key y → ⊥
  apart_keys most n x y i at_x at_y e = let lx = child_on z t sane tree n 0 i (omega arith) in
      let ly = child_on z t sane tree n 1 i (omega arith) in
      let on_x = on_below most (target (t.link n 0)) x lx at_x in let on_y = on_below most (target (t.link n 1)) y ly at_y in
      let a = (inside_edge (t.key x) most n 0 x i (omega arith) at_x (home x on_x)).1 in
      let b = (inside_edge (t.key x) most n 1 y i (omega arith) at_y (subst (λ (k : ℕ). Lands t k y) (sym e) (home y on_y))).1 in
      omega arith

  once_single : (f : ℕ → ℕ) (n : ℕ) → OnceBy f (n ∷ [])
  once_single f n = once_cons f n [] (λ x i e. in_nil x i) (λ i j x y at_i at_j e. absurd (in_nil x (i, at_i)))

  -- each record stands there once
  pub once_below : (most n : ℕ) → IsOn z t n → Once (below t.link most n)
  once_below zero n on = subst Once (sym (below_end t.link n)) (once_single (λ k. k) n)
  once_below (suc most) n on = dite (ℕ_discrete (target (t.link n 0)) 0)
      (λ nil. subst Once (sym (below_leaf t.link (suc most) n nil)) (once_single (λ k. k) n))
      (λ some. let i = internal_of n on some in
      let bl : List ℕ = below t.link most (target (t.link n 0)) in let br : List ℕ = below t.link most (target (t.link n 1)) in
      subst Once (sym (below_inner t.link most n some)) (once_cons (λ k. k) n (bl ++ br)
      (λ x j e. ⊎_elim
      (λ (l : IsIn x bl). no_circle most n 0 i (omega arith) (subst (λ (y : ℕ). IsIn y bl) e l))
      (λ (r : IsIn x br). no_circle most n 1 i (omega arith) (subst (λ (y : ℕ). IsIn y br) e r)) (in_either x bl br j))
      (once_append (λ k. k) bl br (once_below most (target (t.link n 0)) (child_on z t sane tree n 0 i (omega arith)))
      (once_below most (target (t.link n 1)) (child_on z t sane tree n 1 i (omega arith)))
      (λ x y a b e. apart_keys most n x y i a b (ap t.key e)))))

  -- and no two leaves have one key
  pub keys_once : (most n : ℕ) → IsOn z t n → OnceBy t.key (tips t.link most n)
  keys_once zero n on = subst (OnceBy t.key) (sym (tips_end t.link n)) (once_single t.key n)
  keys_once (suc most) n on = dite (ℕ_discrete (target (t.link n 0)) 0)
      (λ nil. subst (OnceBy t.key) (sym (tips_leaf t.link (suc most) n nil)) (once_single t.key n))
      (λ some. let i = internal_of n on some in
      let tl : List ℕ = tips t.link most (target (t.link n 0)) in let tr : List ℕ = tips t.link most (target (t.link n 1)) in
      subst (OnceBy t.key) (sym (tips_inner t.link most n some)) (once_append t.key tl tr
      (keys_once most (target (t.link n 0)) (child_on z t sane tree n 0 i (omega arith)))
      (keys_once most (target (t.link n 1)) (child_on z t sane tree n 1 i (omega arith)))
      (λ x y a b e. apart_keys most n x y i (tips_below t.link most (target (t.link n 0)) x a)
      (tips_below t.link most (target (t.link n 1)) y b) e)))

  -- A list that has what its parts below a record have has, from the root on, what a part below a walk has.
  comes_in : (all : ℕ → ℕ → List ℕ) → ((most n s x : ℕ) → Internal z t n → s < 2 → IsIn x (all most (target (t.link n s)))
      → IsIn x (all (suc most) n)) → (k rest n x : ℕ) (m : Meets t k n) → IsIn x (all rest n)
      → IsIn x (all (rest + length (trail t k n m)) 1)
  unfolding trail
  comes_in all further k rest n x (root e) i = let none : rest ≡ rest + 0 = omega arith in
      subst (λ (r : ℕ). IsIn x (all r 1)) none (subst (λ (y : ℕ). IsIn x (all rest y)) e i)
  comes_in all further k rest n x (down {n = p} m inner to) i = let s : ℕ = side k (t.key p) in
      let above = further rest p s x (meets_internal z t sane tree k p m) (side_low k (t.key p))
      (subst (λ (y : ℕ). IsIn x (all rest y)) to i) in
      let more : suc rest + length (trail t k p m) ≡ rest + suc (length (trail t k p m)) = omega arith in
      subst (λ (r : ℕ). IsIn x (all r 1)) more (comes_in all further k (suc rest) p x m above)

  further_below : (most n s x : ℕ) → Internal z t n → s < 2 → IsIn x (below t.link most (target (t.link n s)))
      → IsIn x (below t.link (suc most) n)
  further_below most n s x i lt j = let bl : List ℕ = below t.link most (target (t.link n 0)) in
      let br : List ℕ = below t.link most (target (t.link n 1)) in
      subst (λ (l : List ℕ). IsIn x l) (sym (below_inner t.link most n (i.children 0 (omega arith)))) (in_later x n (bl ++ br)
      (each_side (λ (r : ℕ). IsIn x (below t.link most (target (t.link n r))) → IsIn x (bl ++ br))
      (in_left x bl br) (in_right x bl br) s lt j))

  further_tips : (most n s x : ℕ) → Internal z t n → s < 2 → IsIn x (tips t.link most (target (t.link n s)))
      → IsIn x (tips t.link (suc most) n)
  further_tips most n s x i lt j = let tl : List ℕ = tips t.link most (target (t.link n 0)) in
      let tr : List ℕ = tips t.link most (target (t.link n 1)) in
      subst (λ (l : List ℕ). IsIn x l) (sym (tips_inner t.link most n (i.children 0 (omega arith))))
      (each_side (λ (r : ℕ). IsIn x (tips t.link most (target (t.link n r))) → IsIn x (tl ++ tr))
      (in_left x tl tr) (in_right x tl tr) s lt j)

  -- each attached leaf stands among the leaves below the root
  pub all_tips : (l : ℕ) → Leaf z t l → IsIn l (tips t.link (z.records + 1) 1)
  all_tips l leaf = let b = tree.leaf_home l leaf in let p : ℕ = b.parent in let k : ℕ = t.key l in
      let few = depth_few z t sane tree k p b.meets in
      let s : ℕ = side k (t.key p) in let rest : ℕ = z.records - length (trail t k p b.meets) in
      let sum = one_more z.records (length (trail t k p b.meets)) few in
      let here : IsIn l (tips t.link rest (target (t.link p s))) = subst (λ (y : ℕ). IsIn l (tips t.link rest y)) (sym b.to)
      (subst (λ (ls : List ℕ). IsIn l ls) (sym (tips_leaf t.link rest l (leaf.none 0 (omega arith)))) (in_first l [])) in
      subst (λ (r : ℕ). IsIn l (tips t.link r 1)) sum (comes_in (tips t.link) further_tips k (suc rest) p l b.meets
      (further_tips rest p s l (meets_internal z t sane tree k p b.meets) (side_low k (t.key p)) here))

  -- and each attached record below the root
  pub all_below : (n : ℕ) → IsOn z t n → IsIn n (below t.link (z.records + 1) 1)
  all_below n on = ⊎_elim
      (λ (c : HasChildren t n). let k : ℕ = t.key n in
      let m = (tree.internal_home n record { number = on.0; on = on.1; children = c }).1 in let few = depth_few z t sane tree k n m in
      let rest : ℕ = z.records + 1 - length (trail t k n m) in
      let sum = no_more z.records (length (trail t k n m)) few in
      subst (λ (r : ℕ). IsIn n (below t.link r 1)) sum (comes_in (below t.link) further_below k rest n n m (below_first t.link rest n)))
      (λ (none : HasNone t n). tips_below t.link (z.records + 1) 1 n (all_tips n record { number = on.0; on = on.1; none = none }))
      (tree.sort n on.0 (is_linked (t.state n) on.1))

  -- a leaf, or an internal record to which a walk came over so many that with the rest of the way it is more than there are
  abbrev Deep : ℕ → ℕ → Type 0
  Deep most n = Leaf z t n ⊎ ((k : ℕ) × ((m : Meets t k n) × (z.records < most + length (trail t k n m))))

  deeper : (most n s : ℕ) → Internal z t n → s < 2 → Deep (suc most) n → Deep most (target (t.link n s))
  unfolding trail
  deeper most n s i lt (inl leaf) = absurd (i.children 0 (omega arith) (leaf.none 0 (omega arith)))
  deeper most n s i lt (inr y) = dite (ℕ_discrete (leaf_bit (t.link n s)) 0)
      (λ inner. let c : ℕ = target (t.link n s) in let k : ℕ = t.key c in let ci = child_internal z t sane tree n s i lt inner in
      let over = over_one k n s i lt (meets_lands t k c (tree.internal_home c ci).1) in
      let m : Meets t k c = down over.0 (ap (λ (r : ℕ). leaf_bit (t.link n r)) over.1 ∙ inner)
      (ap (λ (r : ℕ). target (t.link n r)) (sym over.1)) in
      let same = depth_same z t sane tree k y.0 n n refl over.0 y.1.0 in let deep = y.1.1 in
      let long : length (trail t k c m) ≡ suc (length (trail t k n over.0)) = refl in
      inr (k, (m, omega arith)))
      (λ ne. inl (child_leaf z t sane tree n s i lt (one_bit (t.link n s) ne)))
    where
      one_bit : (w : ℕ) → leaf_bit w ≢ 0 → leaf_bit w ≡ 1
      one_bit w ne = omega arith

  tips_end_leaf : (most n x : ℕ) → IsOn z t n → Deep most n → IsIn x (tips t.link most n) → Leaf z t x
  tips_end_leaf zero n x on d i = subst (Leaf z t) (in_one x n (subst (λ (l : List ℕ). IsIn x l) (tips_end t.link n) i)) (⊎_elim
      (λ (leaf : Leaf z t n). leaf)
      (λ (y : (k : ℕ) × ((m : Meets t k n) × (z.records < 0 + length (trail t k n m)))).
      let few = depth_few z t sane tree y.0 n y.1.0 in let deep = y.1.1 in absurd (omega arith)) d)
  tips_end_leaf (suc most) n x on d i = dite (ℕ_discrete (target (t.link n 0)) 0)
      (λ nil. subst (Leaf z t) (in_one x n (subst (λ (l : List ℕ). IsIn x l) (tips_leaf t.link (suc most) n nil) i)) (leaf_of n on nil))
      (λ some. let int = internal_of n on some in
      let tl : List ℕ = tips t.link most (target (t.link n 0)) in let tr : List ℕ = tips t.link most (target (t.link n 1)) in ⊎_elim
      (λ (j : IsIn x tl). tips_end_leaf most (target (t.link n 0)) x (child_on z t sane tree n 0 int (omega arith))
      (deeper most n 0 int (omega arith) d) j)
      (λ (j : IsIn x tr). tips_end_leaf most (target (t.link n 1)) x (child_on z t sane tree n 1 int (omega arith))
      (deeper most n 1 int (omega arith) d) j)
      (in_either x tl tr (subst (λ (l : List ℕ). IsIn x l) (tips_inner t.link most n some) i)))

  -- nothing else than leaves stands among the leaves
  pub each_tip : (x : ℕ) → IsIn x (tips t.link (z.records + 1) 1) → Leaf z t x
  unfolding trail
  each_tip x i = let more : z.records < z.records + 1 + 0 = omega arith in
      tips_end_leaf (z.records + 1) 1 x root_on (inr (1, (root refl, more))) i
