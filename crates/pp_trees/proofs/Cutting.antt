-- What a splice takes away: the tagged path with the flagged leaves beside it.
use Rattle.std.proofs.Common.{◌≡◌, ◌⊎◌, inl, inr, ⊎_elim, ℕ, zero, suc, ◌<◌, ◌≤◌, List, [], ◌∷◌}
use Rattle.std.proofs.Common.{refl, sym, ap, ◌∙◌, subst, arith}
use Rattle.std.proofs.lemmas.Bool.{cases_lt}
use Rattle.std.proofs.Math.Decide.{ℕ_discrete}
use mathlib.Core.Logic.{dite}
use Rattle.pp_link.specs.declared.layout.Sizes.{Sizes}
use Rattle.pp_link.specs.Links.{target, flag_bit, tag_bit, leaf_bit}
use Rattle.pp_link.specs.Places.{IsNumber}
use Rattle.pp_rule.specs.Lists.{IsIn}
use Rattle.pp_rule.specs.States.{attached}
use Rattle.pp_rule.proofs.Put.{in_nil, in_first, in_later, in_cases}
use Rattle.pp_trees.specs.Trees.{Heap, side, across, HasChildren, HasNone, Internal, Leaf, Meets, root, down, inf0}
use Rattle.pp_trees.specs.Trees.{Sane, SearchTree, Cut}
use Rattle.pp_trees.specs.TaggedPaths.{Passed, Joined, Intact, Taken, MaySplice}
use Rattle.pp_trees.proofs.Chains.{Distinct}
use Rattle.pp_trees.proofs.Walking.{each_side, across_low, across_else, across_apart, side_low, is_linked, meets_internal}
use Rattle.pp_trees.proofs.Walking.{child_on, child_leaf, edge_of}

-- Paths, as lists.
pub tagged_in : (v x : ℕ) (cs : List Passed) (c : Passed) → Joined v cs x → IsIn c cs → tag_bit c.word ≡ 1
tagged_in v x [] c j i = absurd (in_nil c i)
tagged_in v x (d ∷ cs) c j i = ⊎_elim (λ (e : c ≡ d). subst (λ (y : Passed). tag_bit y.word ≡ 1) (sym e) j.1) (λ
    (i' : IsIn c cs). tagged_in d.word x cs c j.2 i') (in_cases c d cs i)

parent_in : (v x : ℕ) (cs : List Passed) (c : Passed) → Joined v cs x → IsIn c cs
    → (c.number ≡ target v) ⊎ ((d : Passed) × (IsIn d cs × (target d.word ≡ c.number)))
parent_in v x [] c j i = absurd (in_nil c i)
parent_in v x (d ∷ cs) c j i = ⊎_elim (λ (e : c ≡ d). inl (ap (λ (y : Passed). y.number) e ∙ j.0))
    (λ (i' : IsIn c cs). ⊎_elim (λ (e : c.number ≡ target d.word). inr (d, (in_first d cs, sym e)))
    (λ (y : (b : Passed) × (IsIn b cs × (target b.word ≡ c.number))). inr (y.0, (in_later y.0 d cs y.1.0, y.1.1)))
    (parent_in d.word x cs c j.2 i')) (in_cases c d cs i)

next_in : (v x : ℕ) (cs : List Passed) (c : Passed) → Joined v cs x → IsIn c cs → (c.word ≡ x) ⊎ ((d : Passed) × (IsIn d cs
    × (d.number ≡ target c.word)))
next_in v x [] c j i = absurd (in_nil c i)
next_in v x (d ∷ []) c j i = ⊎_elim (λ (e : c ≡ d). inl (ap (λ (y : Passed). y.word) e
    ∙ j.2)) (λ (i' : IsIn c []). absurd (in_nil c i')) (in_cases c d [] i)
next_in v x (d ∷ b ∷ cs) c j i = ⊎_elim
    (λ (e : c ≡ d). inr (b, (in_later b d (b ∷ cs) (in_first b cs), j.2.0 ∙ ap (λ (y : Passed). target y.word) (sym e))))
    (λ (i' : IsIn c (b ∷ cs)). ⊎_elim inl (λ (y : (f : Passed) × (IsIn f (b ∷ cs)
    × (f.number ≡ target c.word))). inr (y.0, (in_later y.0 d (b ∷ cs) y.1.0, y.1.1)))
    (next_in d.word x (b ∷ cs) c j.2 i')) (in_cases c d (b ∷ cs) i)

-- a path that has a record has a last one
pub last_of : (v x : ℕ) (cs : List Passed) (c : Passed) → Joined v cs x → IsIn c cs → (d : Passed) × (IsIn d cs × (d.word ≡ x))
last_of v x [] c j i = absurd (in_nil c i)
last_of v x (d ∷ []) c j i = (d, (in_first d [], j.2))
last_of v x (d ∷ b ∷ cs) c j i = let l = last_of d.word x (b ∷ cs) b j.2 (in_first b cs) in
    (l.0, (in_later l.0 d (b ∷ cs) l.1.0, l.1.1))

first_in : (v x : ℕ) (cs : List Passed) → tag_bit v ≡ 0 → tag_bit x ≡ 1 → Joined v cs x → (d : Passed) × (IsIn d cs
    × (d.number ≡ target v))
first_in v x [] plain tagged j = absurd (let e : tag_bit v ≡ tag_bit x = ap tag_bit j in omega arith)
first_in v x (d ∷ cs) plain tagged j = (d, (in_first d cs, j.0))

-- n is the number of a record of the path
abbrev On : List Passed → ℕ → Type 0
On cs n = (c : Passed) × (IsIn c cs × (n ≡ c.number))

on_or : (cs : List Passed) (n : ℕ) → On cs n ⊎ (On cs n → ⊥)
on_or [] n = inr (λ (o : On [] n). in_nil o.0 o.1.0)
on_or (d ∷ cs) n = dite (ℕ_discrete n d.number) (λ e. inl (d, (in_first d cs, e)))
    (λ ne. ⊎_elim (λ (o : On cs n). inl (o.0, (in_later o.0 d cs o.1.0, o.1.1)))
    (λ (no : On cs n → ⊥). inr (λ (o : On (d ∷ cs) n). ⊎_elim (λ (e : o.0 ≡ d). ne (o.1.1 ∙ ap (λ (y : Passed). y.number) e))
    (λ (i : IsIn o.0 cs). no (o.0, (i, o.1.1))) (in_cases o.0 d cs o.1.0))) (on_or cs n))

pub taken_or : (cs : List Passed) (n : ℕ) → Taken cs n ⊎ (Taken cs n → ⊥)
taken_or [] n = inr (λ (o : Taken [] n). in_nil o.0 o.1.0)
taken_or (d ∷ cs) n = dite (ℕ_discrete n d.number) (λ e. inl (d, (in_first d cs, inl e)))
    (λ ne. dite (ℕ_discrete n d.leaf) (λ e. inl (d, (in_first d cs, inr e)))
    (λ ne'. ⊎_elim (λ (o : Taken cs n). inl (o.0, (in_later o.0 d cs o.1.0, o.1.1)))
    (λ (no : Taken cs n → ⊥). inr (λ (o : Taken (d ∷ cs) n). ⊎_elim
    (λ (e : o.0 ≡ d). ⊎_elim (λ (y : n ≡ o.0.number). ne (y ∙ ap (λ (b : Passed). b.number) e)) (λ (y : n ≡ o.0.leaf). ne' (y
    ∙ ap (λ (b : Passed). b.leaf) e)) o.1.1)
    (λ (i : IsIn o.0 cs). no (o.0, (i, o.1.1))) (in_cases o.0 d cs o.1.0))) (taken_or cs n)))

module _ (z : Sizes) (t : Heap) (sane : Sane z t) (tree : SearchTree z t) where
  -- no set of records that has the parent of each of its own, and not the root, has an attached one
  no_cycle : (In : ℕ → Type 0) → (In 1 → ⊥)
      → ((n : ℕ) → In n → (p : ℕ) × ((r : ℕ) × (In p × Internal z t p × (r < 2) × (target (t.link p r) ≡ n))))
      → (k : ℕ) (n : ℕ) → Meets t k n → In n → ⊥
  no_cycle In not_root up k n (root e) i = not_root (subst In e i)
  no_cycle In not_root up k n (down {n = p} m inner to) i = let u = up n i in let y = u.1.1 in
      let one = tree.once u.0 u.1.0 p (side k (t.key p)) y.1 y.2 (meets_internal z t sane tree k p m) (side_low k (t.key p))
      (y.3 ∙ to) in
      no_cycle In not_root up k p m (subst In one.0 y.0)

  leaf_sentinel : (n s : ℕ) → Internal z t n → s < 2 → leaf_bit (t.link n s) ≡ 1 → (c : ℕ) → target (t.link n s) ≡ c
      → Internal z t c → ⊥
  leaf_sentinel n s i lt leaf c to j = let none = (child_leaf z t sane tree n s i lt leaf).none in
      j.children 0 (omega arith) (subst (HasNone t) to none 0 (omega arith))

  root_is : Internal z t 1
  root_is = meets_internal z t sane tree 0 1 (root refl)

  -- a record with a tagged edge is no sentinel
  above_tagged : (n s : ℕ) → Internal z t n → s < 2 → tag_bit (t.link n s) ≡ 1 → 6 ≤ n
  above_tagged n s i lt tag = let some = i.number.0 in ⊎_elim
      (λ (low : n < 6). absurd (dite (ℕ_discrete n 1) (λ e. at_root s lt (sym (ap (λ (x : ℕ). tag_bit (t.link x s)) e) ∙ tag))
      (λ n1. dite (ℕ_discrete n 2) (λ e. at_s s lt (sym (ap (λ (x : ℕ). tag_bit (t.link x s)) e)
      ∙ tag) (subst (Internal z t) e i))
      (λ n2. dite (ℕ_discrete n 3) (λ e. i.children 0 (omega arith) (ap (λ (x : ℕ). target (t.link x 0)) e
      ∙ tree.sentinels.leaf3 0 (omega arith)))
      (λ n3. dite (ℕ_discrete n 4) (λ e. leaf_sentinel 2 1 s_is (omega arith) (ap leaf_bit tree.sentinels.right_of_s) 4
      (ap target tree.sentinels.right_of_s) (subst (Internal z t) e i))
      (λ n4. let e : n ≡ 5 = omega arith in
      leaf_sentinel 1 1 root_is (omega arith) (ap leaf_bit tree.sentinels.right_of_root) 5
      (ap target tree.sentinels.right_of_root) (subst (Internal z t) e i)))))))
      (λ (high : 6 ≤ n). high)
      (cases_lt n 6)
    where
      s_is : Internal z t 2
      s_is = let on = child_on z t sane tree 1 0 root_is (omega arith) in let l = tree.sentinels.left_of_root in
          let to : target (t.link 1 0) ≡ 2 = omega arith in
          subst (Internal z t) to record {
            number = on.0;
            on = on.1;
            children = tree.to_internal 1 0 root_is.number (is_linked (t.state 1) root_is.on) (omega arith)
                (edge_of z t sane tree 1 0 root_is (omega arith) 0 (ap leaf_bit l));
          }

      at_root : (s : ℕ) → s < 2 → tag_bit (t.link 1 s) ≡ 1 → ⊥
      at_root s lt = each_side (λ (r : ℕ). tag_bit (t.link 1 r) ≡ 1 → ⊥) (λ e. let l = tree.sentinels.left_of_root in omega arith)
          (λ e. let l = tree.sentinels.right_of_root in omega arith) s lt

      at_s : (s : ℕ) → s < 2 → tag_bit (t.link 2 s) ≡ 1 → Internal z t 2 → ⊥
      at_s s lt = each_side (λ (r : ℕ). tag_bit (t.link 2 r) ≡ 1 → Internal z t 2 → ⊥)
          (λ e i. let f = tree.tagged 2 0 i (omega arith) e in let l = tree.sentinels.right_of_s in omega arith)
          (λ e i. let l = tree.sentinels.right_of_s in omega arith) s lt

  -- a record with a key of a pair is no sentinel
  above_pair : (n : ℕ) → IsNumber z n → t.key n < inf0 → 6 ≤ n
  above_pair n number low = let k = tree.sentinels.keys in let some = number.0 in ⊎_elim
      (λ (lt : n < 6). absurd (dite (ℕ_discrete n 1) (λ e. let key = ap t.key e ∙ k.0 in omega arith)
      (λ n1. dite (ℕ_discrete n 2) (λ e. let key = ap t.key e ∙ k.1 in omega arith)
      (λ n2. dite (ℕ_discrete n 3) (λ e. let key = ap t.key e ∙ k.2 in omega arith)
      (λ n3. dite (ℕ_discrete n 4) (λ e. let key = ap t.key e ∙ k.3 in omega arith)
      (λ n4. let e : n ≡ 5 = omega arith in let key = ap t.key e ∙ k.4 in omega arith))))))
      (λ (high : 6 ≤ n). high) (cases_lt n 6)

  module _ (cs : List Passed) (x : ℕ) (intact : Intact z t cs) where
    pub passed_internal : (v : ℕ) → Joined v cs x → (c : Passed) → IsIn c cs → Internal z t c.number
    passed_internal v j c i = let h = intact c i in record {
      number = h.number;
      on = h.on;
      children = ⊎_elim (λ (f : HasChildren t c.number). f)
          (λ (none : HasNone t c.number). let bare = tree.bare c.number c.side record {
            number = h.number;
            on = h.on;
            none =
                none;
          } h.low in
          let tag = tagged_in v x cs c j i in let bad : tag_bit 0 ≡ 1 = ap tag_bit (sym bare ∙ h.edge)
          ∙ tag in absurd (omega arith))
          (tree.sort c.number h.number (is_linked (t.state c.number) h.on));
    }

    passed_tag : (v : ℕ) → Joined v cs x → (c : Passed) → IsIn c cs → tag_bit (t.link c.number c.side) ≡ 1
    passed_tag v j c i = ap tag_bit (intact c i).edge ∙ tagged_in v x cs c j i

    pub passed_flag : (v : ℕ) → Joined v cs x → (c : Passed) → IsIn c cs → flag_bit (t.link c.number (across c.side)) ≡ 1
    passed_flag v j c i = tree.tagged c.number c.side (passed_internal v j c i) (intact c i).low (passed_tag v j c i)

    passed_leaf : (v : ℕ) → Joined v cs x → (c : Passed) → IsIn c cs → Leaf z t c.leaf × (t.key c.leaf < inf0)
    passed_leaf v j c i = let h = intact c i in let int = passed_internal v j c i in let lt = across_low c.side in
        let f = tree.flagged c.number (across c.side) int lt (passed_flag v j c i) in (
          subst (Leaf z t) h.beside (child_leaf z t sane tree c.number (across c.side) int lt f.0),
          subst (λ
              (n : ℕ). t.key n < inf0) h.beside f.1,
        )

    -- no edge of the path leads back to where it begins
    no_loop : (v : ℕ) → Joined v cs x → (p r : ℕ) → On cs p → Internal z t p → r < 2 → target (t.link p r) ≡ target v → ⊥
    no_loop v j p r on i lt to = no_cycle (On cs) (λ (o : On cs 1). let high = above_on o.0 o.1.0 in let e = o.1.1 in omega arith)
        (λ n o. ⊎_elim
        (λ (e : o.0.number ≡ target v). (p, (r, (on, i, lt, to ∙ (sym e ∙ sym o.1.1)))))
        (λ (d : (b : Passed) × (IsIn b cs × (target b.word ≡ o.0.number))). (
          d.0.number,
          (
            d.0.side,
            (
              (d.0, (d.1.0, refl)),
              passed_internal v j d.0 d.1.0,
              (intact d.0 d.1.0).low,
              ap target
                  (intact d.0 d.1.0).edge ∙ (d.1.1 ∙ sym o.1.1),
            ),
          ),
        ))
        (parent_in v x cs o.0 j o.1.0))
        (t.key p) p (tree.internal_home p i).1 on
      where
        above_on : (c : Passed) → IsIn c cs → 6 ≤ c.number
        above_on c i = above_tagged c.number c.side (passed_internal v j c i) (intact c i).low (passed_tag v j c i)

  intact_rest : (c : Passed) (cs : List Passed) → Intact z t (c ∷ cs) → Intact z t cs
  intact_rest c cs all d i = all d (in_later d c cs i)

  -- a record of the path comes once
  pub not_again : (c : Passed) (cs : List Passed) (v x : ℕ) → Intact z t (c ∷ cs) → Joined v (c ∷ cs) x → On cs c.number → ⊥
  not_again c cs v x all j on = let h = all c (in_first c cs) in
      no_loop cs x (intact_rest c cs all) c.word j.2 c.number c.side on (passed_internal (c ∷ cs) x all v j c
      (in_first c cs)) h.low (ap target h.edge)

  same_word : (v x : ℕ) (cs : List Passed) → Intact z t cs → Joined v cs x → (c d : Passed) → IsIn c cs → IsIn d cs
      → c.number ≡ d.number → (c.side ≡ d.side) × (c.word ≡ d.word)
  same_word v x [] all j c d i i' e = absurd (in_nil c i)
  same_word v x (b ∷ cs) all j c d i i' e = ⊎_elim
      (λ (cb : c ≡ b). ⊎_elim
      (λ (db : d ≡ b). (ap (λ (y : Passed). y.side) (cb ∙ sym db), ap (λ (y : Passed). y.word) (cb ∙ sym db)))
      (λ (di : IsIn d cs). absurd (not_again b cs v x all j (
        d,
        (
          di,
          ap (λ (y : Passed). y.number) (sym cb)
              ∙ e,
        ),
      ))) (in_cases d b cs i'))
      (λ (ci : IsIn c cs). ⊎_elim
      (λ (db : d ≡ b). absurd (not_again b cs v x all j (c, (ci, ap (λ (y : Passed). y.number) (sym db) ∙ sym e))))
      (λ (di : IsIn d cs). same_word b.word x cs (intact_rest b cs all) j.2 c d ci di e) (in_cases d b cs i'))
      (in_cases c b cs i)

  -- where the path leads is not on it
  end_off : (v x : ℕ) (cs : List Passed) → Intact z t cs → Joined v cs x → On cs (target x) → ⊥
  end_off v x [] all j on = in_nil on.0 on.1.0
  end_off v x (c ∷ cs) all j on = ⊎_elim
      (λ (e : on.0 ≡ c). let l = last_of v x (c ∷ cs) c j (in_first c cs) in let h = all l.0 l.1.0 in
      no_loop (c ∷ cs) x all v j l.0.number l.0.side (l.0, (l.1.0, refl)) (passed_internal (c ∷ cs) x all v j l.0 l.1.0) h.low
      (ap target (h.edge ∙ l.1.1) ∙ (on.1.1 ∙ (ap (λ (y : Passed). y.number) e ∙ j.0))))
      (λ (later : IsIn on.0 cs). end_off c.word x cs (intact_rest c cs all) j.2 (on.0, (later, on.1.1)))
      (in_cases on.0 c cs on.1.0)

  module _ (a s w : ℕ) (cs : List Passed) (may : MaySplice z t a s w cs) where
    abbrev v : ℕ
    v = t.link a s

    first_of : (d : Passed) × (IsIn d cs × (d.number ≡ target v))
    first_of = first_in v may.last cs may.plain.1 may.tagged may.joined

    end_of : (d : Passed) × (IsIn d cs × (d.word ≡ may.last))
    end_of = last_of v may.last cs first_of.0 may.joined first_of.1.0

    pub int : (c : Passed) → IsIn c cs → Internal z t c.number
    int c i = passed_internal cs may.last may.intact v may.joined c i

    pub leaf_of : (c : Passed) → IsIn c cs → Leaf z t c.leaf × (t.key c.leaf < inf0)
    leaf_of c i = passed_leaf cs may.last may.intact v may.joined c i

    pub tag_of : (c : Passed) → IsIn c cs → tag_bit (t.link c.number c.side) ≡ 1
    tag_of c i = passed_tag cs may.last may.intact v may.joined c i

    pub flag_of : (c : Passed) → IsIn c cs → flag_bit (t.link c.number (across c.side)) ≡ 1
    flag_of c i = passed_flag cs may.last may.intact v may.joined c i

    -- an internal record that goes is one of the path
    is_passed : (n : ℕ) → Internal z t n → (c : Passed) → IsIn c cs → (n ≡ c.number) ⊎ (n ≡ c.leaf) → n ≡ c.number
    is_passed n i c at which = ⊎_elim (λ (e : n ≡ c.number). e)
        (λ (e : n ≡ c.leaf). absurd (i.children 0 (omega arith) (subst (HasNone t) (sym e) (leaf_of c at).0.none 0
        (omega arith)))) which

    stays_a : Taken cs a → ⊥
    stays_a o = let c = o.0 in let i = o.1.0 in let e = is_passed a may.ancestor c i o.1.1 in let h = may.intact c i in
        let plain = may.plain in dite (ℕ_discrete s c.side)
        (λ same. let tag : tag_bit (t.link a s) ≡ 1 = ap (λ (x : ℕ). tag_bit (t.link x s)) e
        ∙ (ap (λ (r : ℕ). tag_bit (t.link c.number r)) same ∙ tag_of c i) in
        let off = plain.1 in omega arith)
        (λ ne. let other = across_else c.side s h.low may.low ne in
        let flag : flag_bit (t.link a s) ≡ 1 = ap (λ (x : ℕ). flag_bit (t.link x s)) e
        ∙ (ap (λ (r : ℕ). flag_bit (t.link c.number r)) other ∙ flag_of c i) in
        let off = plain.0 in omega arith)

    -- the record to which an edge of the path or that of the ancestor leads is internal, unless it is the last one
    inner_at : (n r : ℕ) → Internal z t n → r < 2 → (c : Passed) → IsIn c cs → target (t.link n r) ≡ c.number
        → leaf_bit (t.link n r) ≡ 1 → ⊥
    inner_at n r i lt c at to leaf = leaf_sentinel n r i lt leaf c.number to (int c at)

    internal_a : leaf_bit (t.link a s) ≡ 0
    internal_a = let bad = inner_at a s may.ancestor may.low first_of.0 first_of.1.0 (sym first_of.1.1) in
        omega_not (leaf_bit (t.link a s)) (omega arith) bad
      where
        omega_not : (b : ℕ) → b < 2 → (b ≡ 1 → ⊥) → b ≡ 0
        omega_not zero lt never = refl
        omega_not (suc b) lt never = absurd (never (omega arith))

    last_out : (u : ℕ) → u ≡ may.last → (target u ≡ target w) × (leaf_bit u ≡ leaf_bit w) × (flag_bit u ≡ flag_bit w)
    last_out u e = let new = may.new_is in (ap target e ∙ sym new.0, ap leaf_bit e ∙ sym new.1, ap flag_bit e ∙ sym new.2)

    inside_at : (n r : ℕ) → (c : Passed) → IsIn c cs → n ≡ c.number → Internal z t n → r < 2
        → (Taken cs (target (t.link n r)) × (leaf_bit (t.link n r) ≡ 1 → flag_bit (t.link n r) ≡ 1))
        ⊎ ((target (t.link n r) ≡ target w) × (leaf_bit (t.link n r) ≡ leaf_bit w) × (flag_bit (t.link n r) ≡ flag_bit w))
    inside_at n r c at e i lt = let h = may.intact c at in dite (ℕ_discrete r c.side)
        (λ same. let word : t.link n r ≡ c.word = ap (λ (x : ℕ). t.link x r) e ∙ (ap (t.link c.number) same ∙ h.edge) in ⊎_elim
        (λ (last : c.word ≡ may.last). inr (last_out (t.link n r) (word ∙ last)))
        (λ (next : (d : Passed) × (IsIn d cs × (d.number ≡ target c.word))). let to : target
        (t.link n r) ≡ next.0.number = ap target word ∙ sym next.1.1 in
        inl ((next.0, (next.1.0, inl to)), λ leaf. absurd (inner_at n r i lt next.0 next.1.0 to leaf)))
        (next_in v may.last cs c may.joined at))
        (λ ne. let other = across_else c.side r h.low lt ne in
        let word : t.link n r ≡ t.link c.number (across c.side) = ap (λ (x : ℕ). t.link x r) e ∙ ap (t.link c.number) other in
        inl ((c, (at, inr (ap target word ∙ h.beside))), λ leaf. ap flag_bit word ∙ flag_of c at))

    outside_at : (n r : ℕ) → Internal z t n → r < 2 → (Taken cs n → ⊥) → ((n ≡ a) × (r ≡ s) → ⊥)
        → Taken cs (target (t.link n r)) → ⊥
    outside_at n r i lt out ne o = let c = o.0 in let at = o.1.0 in let h = may.intact c at in ⊎_elim
        (λ (e : target (t.link n r) ≡ c.number). ⊎_elim
        (λ (first : c.number ≡ target v). ne (tree.once n r a s i lt may.ancestor may.low (e ∙ first)))
        (λ (up : (d : Passed) × (IsIn d cs × (target d.word ≡ c.number))). let d = up.0 in let hd = may.intact d up.1.0 in
        let one = tree.once n r d.number d.side i lt (int d up.1.0) hd.low (e ∙ (sym up.1.1
        ∙ ap target (sym hd.edge))) in out (d, (up.1.0, inl one.0)))
        (parent_in v may.last cs c may.joined at))
        (λ (e : target (t.link n r) ≡ c.leaf). let one = tree.once n r c.number (across c.side) i lt (int c at)
        (across_low c.side) (e ∙ sym h.beside) in
        out (c, (at, inl one.0)))
        o.1.1

    frontier_off : Taken cs (target w) → ⊥
    frontier_off o = let c = o.0 in let at = o.1.0 in let h = may.intact c at in let d = end_of.0 in
        let hd = may.intact d end_of.1.0 in
        let to : target (t.link d.number d.side) ≡ target w = ap target (hd.edge ∙ end_of.1.1) ∙ sym may.new_is.0 in ⊎_elim
        (λ (e : target w ≡ c.number). end_off v may.last cs may.intact may.joined (c, (at, sym may.new_is.0 ∙ e)))
        (λ (e : target w ≡ c.leaf). let one = tree.once d.number d.side c.number (across c.side) (int d end_of.1.0) hd.low
        (int c at) (across_low c.side) (to ∙ (e ∙ sym h.beside)) in
        let same = same_word v may.last cs may.intact may.joined d c end_of.1.0 at one.0 in
        across_apart c.side (sym one.1 ∙ same.0))
        o.1.1

    pub cut_of : Cut z t a s w (Taken cs)
    cut_of = record {
      either = taken_or cs;
      on = λ n o. ⊎_elim
          (λ (e : n ≡ o.0.number). let h = may.intact o.0 o.1.0 in subst (λ (x : ℕ). IsNumber z x
          × (t.state x ≡ attached)) (sym e) (h.number, h.on))
          (λ (e : n ≡ o.0.leaf). let l = (leaf_of o.0 o.1.0).0 in subst (λ (x : ℕ). IsNumber z x
          × (t.state x ≡ attached)) (sym e) (l.number, l.on))
          o.1.1;
      above = λ n o. ⊎_elim
          (λ (e : n ≡ o.0.number). subst (λ (x : ℕ). 6 ≤ x) (sym e) (above_tagged o.0.number o.0.side (int o.0 o.1.0)
          (may.intact o.0 o.1.0).low (tag_of o.0 o.1.0)))
          (λ (e : n ≡ o.0.leaf). let l = leaf_of o.0 o.1.0 in subst (λ (x : ℕ). 6 ≤ x) (sym e)
          (above_pair o.0.leaf l.0.number l.1))
          o.1.1;
      ancestor = may.ancestor;
      low = may.low;
      stays = stays_a;
      plain = may.plain.0;
      free = may.plain.1;
      internal = internal_a;
      first = (first_of.0, (first_of.1.0, inl (sym first_of.1.1)));
      inside = λ n r o i lt. inside_at n r o.0 o.1.0 (is_passed n i o.0 o.1.0 o.1.1) i lt;
      last = let d = end_of.0 in let hd = may.intact d end_of.1.0 in let out = last_out (t.link d.number d.side) (hd.edge
          ∙ end_of.1.1) in
          (d.number, (d.side, ((d, (end_of.1.0, inl refl)), int d end_of.1.0, hd.low, out.0, out.1, out.2)));
      outside = outside_at;
      frontier = frontier_off;
      frozen = λ n r o i lt. let c = o.0 in let at = o.1.0 in let e = is_passed n i c at o.1.1 in dite (ℕ_discrete r c.side)
          (λ same. let tag : tag_bit (t.link n r) ≡ 1 = ap (λ (x : ℕ). tag_bit (t.link x r)) e
          ∙ (ap (λ (y : ℕ). tag_bit (t.link c.number y)) same ∙ tag_of c at) in λ none. omega arith)
          (λ ne. let other = across_else c.side r (may.intact c at).low lt ne in
          let flag : flag_bit (t.link n r) ≡ 1 = ap (λ (x : ℕ). flag_bit (t.link x r)) e
          ∙ (ap (λ (y : ℕ). flag_bit (t.link c.number y)) other ∙ flag_of c at) in λ none. omega arith);
      untagged = may.new_is.3;
      valid = may.new_is.4;
    }

  distinct_from : (v x : ℕ) (cs : List Passed) → Intact z t cs → Joined v cs x → ((c : Passed) → IsIn c cs
      → Internal z t c.number) → ((c : Passed) → IsIn c cs → Leaf z t c.leaf) → Distinct cs
  unfolding Distinct
  distinct_from v x [] all j int leaf = tt
  distinct_from v x (c ∷ cs) all j int leaf = let h = all c (in_first c cs) in let ic = int c (in_first c cs) in
      let lc = leaf c (in_first c cs) in (
        (λ e. ic.children 0 (omega arith) (subst (HasNone t) (sym e) lc.none 0 (omega arith))),
        (λ o. ⊎_elim (λ (e : c.number ≡ o.0.number). not_again c cs v x all j (o.0, (o.1.0, e)))
            (λ (e : c.number ≡ o.0.leaf). ic.children 0 (omega arith) (subst (HasNone t) (sym e) (leaf o.0
            (in_later o.0 c cs o.1.0)).none 0 (omega arith))) o.1.1),
        (λ o. let d = o.0 in let di = in_later d c cs o.1.0 in let hd = all d di in ⊎_elim
            (λ (e : c.leaf ≡ d.number). (int d di).children 0 (omega arith) (subst (HasNone t) e lc.none 0 (omega arith)))
            (λ (e : c.leaf ≡ d.leaf). let one = tree.once c.number (across c.side) d.number (across d.side) ic (across_low c.side)
            (int d di) (across_low d.side) (h.beside ∙ (e ∙ sym hd.beside)) in
            not_again c cs v x all j (d, (o.1.0, one.0))) o.1.1),
        distinct_from c.word x cs (intact_rest c cs all) j.2 (λ d i. int d (in_later d c cs i)) (λ d i. leaf d (in_later d c cs i)),
      )

  pub distinct_path : (a s w : ℕ) (cs : List Passed) → MaySplice z t a s w cs → Distinct cs
  distinct_path a s w cs may = distinct_from (t.link a s) may.last cs may.intact may.joined (int a s w cs may) (λ c i.
      (leaf_of a s w cs may c i).0)
