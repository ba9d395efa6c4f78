-- What was visited of a tree, as far as its keys are below a number.
use Rattle.std.proofs.Common.{◌≡◌, ◌≢◌, ◌⊎◌, inl, inr, ⊎_elim, ℕ, ◌+◌, ◌-◌, ◌<◌, ◌≤◌, Bool, true, false, cond, eqb, ltb, List}
use Rattle.std.proofs.Common.{[], ◌∷◌, ◌++◌}
use Rattle.std.proofs.Common.{Some, refl, sym, ap, ◌∙◌, subst, arith, eq-eqb, ne_eqb, append_assoc, append-nil}
use Rattle.std.proofs.lemmas.Bool.{cases_lt, lt-ltb, le-ltb}
use Rattle.pp_link.specs.Links.{target}
use Rattle.pp_model.specs.declared.Pair.{Pair}
use Rattle.pp_model.specs.FiniteMap.{pair, find}
use Rattle.pp_rule.specs.Lists.{IsIn, Once}
use Rattle.pp_rule.proofs.Put.{in_nil, in_left, in_either, in_last, in_one}
use Rattle.pp_rule.proofs.Without.{once_append, once_cons}
use Rattle.pp_trees.specs.Trees.{Heap, inf0, inf1, inf2}
use Rattle.pp_trees.specs.Gathering.{LiveLeaf, Neighbours, Parts, PartsTwo, own_pairs, pairs_in}
use Rattle.pp_trees.proofs.Rising.{RisesTo, rises_wider, rises_more, find_kept, find_last, find_either}

pub pairs_append : (t : Heap) (xs ys : List ℕ) → pairs_in t (xs ++ ys) ≡ pairs_in t xs ++ pairs_in t ys
pairs_append t [] ys = refl
pairs_append t (x ∷ xs) ys = ap (λ (m : List Pair). own_pairs t x ++ m) (pairs_append t xs ys)
    ∙ sym (append_assoc (own_pairs t x) (pairs_in t xs) (pairs_in t ys))

pub own_leaf : (t : Heap) (n : ℕ) → target (t.link n 0) ≡ 0 → t.key n < inf0 → own_pairs t n ≡ pair (t.key n) (t.value n) ∷ []
own_leaf t n none low = ap (λ (b : Bool). cond b (cond (ltb (t.key n) inf0) (pair (t.key n) (t.value n) ∷ []) []) []) (eq-eqb
    (target (t.link n 0)) 0 none)
    ∙ ap (λ (b : Bool). cond b (pair (t.key n) (t.value n) ∷ []) []) (lt-ltb (t.key n) inf0 low)

pub own_inner : (t : Heap) (n : ℕ) → target (t.link n 0) ≢ 0 → own_pairs t n ≡ []
own_inner t n some = ap (λ (b : Bool). cond b (cond (ltb (t.key n) inf0) (pair (t.key n) (t.value n) ∷ []) []) []) (ne_eqb
    (target (t.link n 0)) 0 some)

same_either : (m : List Pair) (b : Bool) → cond b m m ≡ m
same_either m true = refl
same_either m false = refl

pub own_sentinel : (t : Heap) (n : ℕ) → inf0 ≤ t.key n → own_pairs t n ≡ []
own_sentinel t n high = ap (λ (b : Bool). cond (eqb (target (t.link n 0)) 0) (cond b (pair (t.key n) (t.value n) ∷ []) []) [])
    (le-ltb (t.key n) inf0 high)
    ∙ same_either [] (eqb (target (t.link n 0)) 0)

-- the pairs of the live leaves whose keys are below lo
pub record Paired (t : Heap) (pairs : List Pair) (top lo : ℕ) : Type 0 where
  pub rises : RisesTo 0 top pairs
  pub are : (k v : ℕ) → find pairs k ≡ Some v → (l : ℕ) × (LiveLeaf t l × (t.key l ≡ k) × (t.value l ≡ v) × (k < inf0))
  pub each : (l : ℕ) → LiveLeaf t l → t.key l < inf0 → t.key l < lo → find pairs (t.key l) ≡ Some (t.value l)

-- a list of live records with all those whose keys are below lo; its own keys are below top
pub record Visited (t : Heap) (live : List ℕ) (top lo : ℕ) : Type 0 where
  pub top_low : top ≤ lo
  pub live_is : (n : ℕ) → IsIn n live → (LiveLeaf t n ⊎ PartsTwo t n) × (t.key n < top)
  pub leaves : (l : ℕ) → LiveLeaf t l → t.key l < lo → IsIn l live × (t.key l < top)
  pub partings : (l m : ℕ) → Neighbours t l m → t.key m < lo → (c : ℕ) × (IsIn c live × Parts t (t.key l) (t.key m) c)
  pub once : Once live
  pub paired : Paired t (pairs_in t live) top lo

-- a list to which a leaf m is to be added
pub record Ready (t : Heap) (live mid : List ℕ) (m : ℕ) : Type 0 where
  pub mid_is : (n : ℕ) → IsIn n mid → (LiveLeaf t n ⊎ PartsTwo t n) × (t.key n ≤ t.key m) × (n ≢ m)
  pub kept : (n : ℕ) → IsIn n live → IsIn n mid
  pub once : Once mid
  pub pairs : pairs_in t mid ≡ pairs_in t live
  pub parting : (l : ℕ) → Neighbours t l m → (c : ℕ) × (IsIn c mid × Parts t (t.key l) (t.key m) c)

-- no live leaf has one of these keys
pub paired_none : (t : Heap) (pairs : List Pair) (top lo hi : ℕ) → ((q : ℕ) → LiveLeaf t q → lo ≤ t.key q → t.key q < hi → ⊥)
    → Paired t pairs top lo → Paired t pairs top hi
paired_none t pairs top lo hi none p = record {
  rises = p.rises;
  are = p.are;
  each = λ l live low lt. ⊎_elim (λ (below : t.key l < lo). p.each l live low below) (λ (from : lo ≤ t.key l). absurd
      (none l live from lt)) (cases_lt (t.key l) lo);
}

pub visited_none : (t : Heap) (live : List ℕ) (top lo hi : ℕ) → lo ≤ hi → ((q : ℕ) → LiveLeaf t q → lo ≤ t.key q
    → t.key q < hi → ⊥)
    → Visited t live top lo → Visited t live top hi
visited_none t live top lo hi le none v = record {
  top_low = let low = v.top_low in omega arith;
  live_is = v.live_is;
  leaves = λ l is lt. ⊎_elim (λ (below : t.key l < lo). v.leaves l is below) (λ (from : lo ≤ t.key l). absurd
      (none l is from lt)) (cases_lt (t.key l) lo);
  partings = λ l m nb lt. ⊎_elim (λ (below : t.key m < lo). v.partings l m nb below) (λ (from : lo ≤ t.key m). absurd
      (none m nb.high from lt)) (cases_lt (t.key m) lo);
  once = v.once;
  paired = paired_none t (pairs_in t live) top lo hi none v.paired;
}

-- one live leaf alone has one of them
paired_more : (t : Heap) (pairs : List Pair) (top lo hi m : ℕ) → LiveLeaf t m → t.key m < inf0 → top ≤ t.key m
    → ((q : ℕ) → LiveLeaf t q → lo ≤ t.key q → t.key q < hi → q ≡ m) → Paired t pairs top lo
    → Paired t (pairs ++ pair (t.key m) (t.value m) ∷ []) (t.key m + 1) hi
paired_more t pairs top lo hi m is low above only p = record {
  rises = rises_more pairs 0 top own above p.rises;
  are = λ k v e. ⊎_elim (λ (was : find pairs k ≡ Some v). p.are k v was)
      (λ (now : (t.key m ≡ k) × (t.value m ≡ v)). (m, (is, now.0, now.1, subst (λ (x : ℕ). x < inf0) now.0 low)))
      (find_either pairs own k v e);
  each = λ l live small lt. ⊎_elim
      (λ (below : t.key l < lo). find_kept pairs (own ∷ []) (t.key l) (t.value l) (p.each l live small below))
      (λ (from : lo ≤ t.key l). subst (λ (x : ℕ). find (pairs ++ own ∷ []) (t.key x) ≡ Some (t.value x)) (sym
      (only l live from lt))
      (find_last pairs 0 top own p.rises above))
      (cases_lt (t.key l) lo);
}
  where
    own : Pair
    own = pair (t.key m) (t.value m)

paired_sentinel : (t : Heap) (pairs : List Pair) (top lo hi m : ℕ) → inf0 ≤ t.key m → top ≤ t.key m
    → ((q : ℕ) → LiveLeaf t q → lo ≤ t.key q → t.key q < hi → q ≡ m) → Paired t pairs top lo → Paired t pairs (t.key m + 1) hi
paired_sentinel t pairs top lo hi m high above only p = record {
  rises = rises_wider pairs 0 top (t.key m + 1) (omega arith) p.rises;
  are = p.are;
  each = λ l live small lt. ⊎_elim (λ (below : t.key l < lo). p.each l live small below)
      (λ (from : lo ≤ t.key l). let same : t.key l ≡ t.key m = ap t.key (only l live from lt) in
      absurd (omega arith)) (cases_lt (t.key l) lo);
}

-- the pairs with that leaf
pub pairs_leaf : (t : Heap) (live mid : List ℕ) (m : ℕ) → target (t.link m 0) ≡ 0 → pairs_in t mid ≡ pairs_in t live
    → ((t.key m < inf0) × (pairs_in t (mid ++ m ∷ []) ≡ pairs_in t live ++ pair (t.key m) (t.value m) ∷ []))
    ⊎ ((inf0 ≤ t.key m) × (pairs_in t (mid ++ m ∷ []) ≡ pairs_in t live))
pairs_leaf t live mid m none same = ⊎_elim
    (λ (low : t.key m < inf0). inl (low, whole ∙ ap (λ (x : List Pair). pairs_in t live ++ x) (own_leaf t m none low)))
    (λ (high : inf0 ≤ t.key m). inr (
      high,
      whole ∙ (ap (λ (x : List Pair). pairs_in t live ++ x) (own_sentinel t m high)
          ∙ append-nil (pairs_in t live)),
    ))
    (cases_lt (t.key m) inf0)
  where
    whole : pairs_in t (mid ++ m ∷ []) ≡ pairs_in t live ++ own_pairs t m
    whole = pairs_append t mid (m ∷ []) ∙ (ap (λ (x : List Pair). x ++ (own_pairs t m ++ [])) same
        ∙ ap (λ (x : List Pair). pairs_in t live ++ x) (append-nil (own_pairs t m)))

pub visited_leaf : (t : Heap) (live mid : List ℕ) (top lo hi m : ℕ) → LiveLeaf t m → target (t.link m 0) ≡ 0 → lo ≤ t.key m
    → t.key m < hi
    → ((q : ℕ) → LiveLeaf t q → lo ≤ t.key q → t.key q < hi → q ≡ m) → Ready t live mid m → Visited t live top lo
    → Visited t (mid ++ m ∷ []) (t.key m + 1) hi
visited_leaf t live mid top lo hi m is none from below only r v = record {
  top_low = omega arith;
  live_is = λ n i. ⊎_elim (λ (was : IsIn n mid). let x = r.mid_is n was in let le = x.1 in (x.0, omega arith))
      (λ (now : IsIn n (m ∷ [])). let same : m ≡ n = in_one n m now in let key : t.key m ≡ t.key n = ap t.key same in
      (inl (subst (LiveLeaf t) same is), omega arith))
      (in_either n mid (m ∷ []) i);
  leaves = λ l live_l lt. ⊎_elim
      (λ (low : t.key l < lo). (in_left l mid (m ∷ []) (r.kept l (v.leaves l live_l low).0), omega arith))
      (λ (high : lo ≤ t.key l). let same : l ≡ m = only l live_l high lt in let key : t.key l ≡ t.key m = ap t.key same in
      (subst (λ (x : ℕ). IsIn x (mid ++ m ∷ [])) (sym same) (in_last m mid), omega arith))
      (cases_lt (t.key l) lo);
  partings = λ l k nb lt. ⊎_elim
      (λ (low : t.key k < lo). let x = v.partings l k nb low in (x.0, (in_left x.0 mid (m ∷ []) (r.kept x.0 x.1.0), x.1.1)))
      (λ (high : lo ≤ t.key k). let same : k ≡ m = only k nb.high high lt in
      let x = r.parting l (subst (Neighbours t l) same nb) in
      (x.0, (in_left x.0 mid (m ∷ []) x.1.0, subst (λ (y : ℕ). Parts t (t.key l) (t.key y) x.0) (sym same) x.1.1)))
      (cases_lt (t.key k) lo);
  once = once_append (λ n. n) mid (m ∷ []) r.once (once_cons (λ n. n) m [] (λ x i e. in_nil x i) (λ i j x y at there e. absurd
      (in_nil x (i, at))))
      (λ x y i j e. (r.mid_is x i).2 (e ∙ sym (in_one y m j)));
  paired = let low = v.top_low in ⊎_elim
      (λ (a : (t.key m < inf0) × (pairs_in t (mid ++ m ∷ []) ≡ pairs_in t live ++ pair (t.key m) (t.value m) ∷ [])).
      subst (λ (x : List Pair). Paired t x (t.key m + 1) hi) (sym a.1) (paired_more t (pairs_in t live) top lo hi m is a.0
      (omega arith) only v.paired))
      (λ (a : (inf0 ≤ t.key m) × (pairs_in t (mid ++ m ∷ []) ≡ pairs_in t live)).
      subst (λ (x : List Pair). Paired t x (t.key m + 1) hi) (sym a.1) (paired_sentinel t (pairs_in t live) top lo hi m a.0
      (omega arith) only v.paired))
      (pairs_leaf t live mid m none r.pairs);
}

-- how many sentinel keys are below a number, as far as it goes: it less inf0
pub gap_none : (lo hi : ℕ) → lo ≤ hi → hi ≤ 18446744073709551616 → (inf0 < lo) ⊎ (hi ≤ inf0) → (inf1 < lo) ⊎ (hi ≤ inf1)
    → (inf2 < lo) ⊎ (hi ≤ inf2)
    → hi - inf0 ≡ lo - inf0
gap_none lo hi le most a b c = ⊎_elim
    (λ (x : inf0 < lo). ⊎_elim
    (λ (y : inf1 < lo). ⊎_elim (λ (w : inf2 < lo). omega arith) (λ (w : hi ≤ inf2). omega arith) c)
    (λ (y : hi ≤ inf1). omega arith) b)
    (λ (x : hi ≤ inf0). omega arith) a

-- where one of them is passed alone
pub gap_one : (lo hi m : ℕ) → lo ≤ m → m < hi → hi ≤ 18446744073709551616 → inf0 ≤ m
    → (inf0 < lo) ⊎ ((hi ≤ inf0) ⊎ (m ≡ inf0)) → (inf1 < lo) ⊎ ((hi ≤ inf1) ⊎ (m ≡ inf1)) → (inf2 < lo) ⊎ ((hi ≤ inf2)
    ⊎ (m ≡ inf2))
    → hi - inf0 ≡ (lo - inf0) + 1
gap_one lo hi m from below most high a b c = ⊎_elim
    (λ (x : inf0 < lo). ⊎_elim
    (λ (y : inf1 < lo). ⊎_elim (λ (w : inf2 < lo). omega arith) (λ (w : (hi ≤ inf2)
    ⊎ (m ≡ inf2)). ⊎_elim (λ (u : hi ≤ inf2). omega arith) (λ (u : m ≡ inf2). omega arith) w) c)
    (λ (y : (hi ≤ inf1) ⊎ (m ≡ inf1)). ⊎_elim (λ (u : hi ≤ inf1). omega arith)
    (λ (u : m ≡ inf1). ⊎_elim (λ (w : inf2 < lo). omega arith) (λ (w : (hi ≤ inf2)
    ⊎ (m ≡ inf2)). ⊎_elim (λ (u : hi ≤ inf2). omega arith) (λ (u : m ≡ inf2). omega arith) w) c) y) b)
    (λ (x : (hi ≤ inf0) ⊎ (m ≡ inf0)). ⊎_elim (λ (u : hi ≤ inf0). omega arith)
    (λ (u : m ≡ inf0). ⊎_elim (λ (y : inf1 < lo). omega arith) (λ (y : (hi ≤ inf1)
    ⊎ (m ≡ inf1)). ⊎_elim (λ (u : hi ≤ inf1). omega arith) (λ (u : m ≡ inf1). omega arith) y) b) x) a
