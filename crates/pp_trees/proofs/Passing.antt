-- The live records of a tree, gathered on the way through it from left to right.
use Rattle.std.proofs.Common.{◌≡◌, ◌≢◌, ◌⊎◌, inl, inr, ⊎_elim, ℕ, suc, ◌+◌, ◌-◌, ◌*◌, ◌<◌, ◌≤◌, List, [], ◌∷◌, ◌++◌, length}
use Rattle.std.proofs.Common.{refl, sym, ap, ◌∙◌, subst, arith, append-nil, length-append}
use Rattle.std.proofs.lemmas.Bool.{cases_lt}
use Rattle.pp_link.specs.declared.layout.Sizes.{Sizes}
use Rattle.pp_link.specs.Links.{target, flag_bit, leaf_bit}
use Rattle.pp_model.specs.declared.Pair.{Pair}
use Rattle.pp_model.specs.FiniteMap.{pair}
use Rattle.pp_rule.specs.Lists.{IsIn}
use Rattle.pp_rule.proofs.Put.{in_nil, in_left, in_either, in_last, in_one}
use Rattle.pp_rule.proofs.Without.{once_append, once_cons}
use Rattle.pp_trees.specs.Trees.{Heap, Internal, inf0, inf1, inf2, Sane, SearchTree}
use Rattle.pp_trees.specs.Gathering.{LiveLeaf, Neighbours, Parts, PartsTwo, IsGathered, pairs_in}
use Rattle.pp_trees.proofs.Walking.{side_left, side_right}
use Rattle.pp_trees.proofs.Spanning.{bound, Stacked, Spans, started, pushed, popped, only_leaf, live_leaf, leaf_within}
use Rattle.pp_trees.proofs.Spanning.{live_is_leaf, sentinels_live, internal_low, live_low}
use Rattle.pp_trees.proofs.Parting.{parts_once, Marks, Candidate, marks_all, marks_lower}
use Rattle.pp_trees.proofs.Rising.{rises_from}
use Rattle.pp_trees.proofs.Visiting.{pairs_append, own_inner, Visited, Ready, visited_none, visited_leaf, pairs_leaf}
use Rattle.pp_trees.proofs.Visiting.{gap_none, gap_one}

-- no live leaf was met
pub record NoneMet (live : List ℕ) (base parting top lo : ℕ) : Type 0 where
  pub none : live ≡ []
  pub base_is : base ≡ 0
  pub parting_is : parting ≡ 0
  pub top_is : top ≡ 0
  pub low : lo ≤ inf0

-- a live leaf was met last
pub record LastMet (t : Heap) (live ns : List ℕ) (base limit top lo leaf : ℕ) : Type 0 where
  pub live_leaf : LiveLeaf t leaf
  pub top_is : top ≡ t.key leaf + 1
  pub base_low : base ≤ length ns
  pub marks : Marks t (t.key leaf) base limit ns
  pub count : length live + 1 ≡ 2 * (length (pairs_in t live) + (lo - inf0))

-- the last record that was left for its right side while it was on that leaf's walk
pub record Left (z : Sizes) (t : Heap) (ns : List ℕ) (limit lo leaf parting : ℕ) : Type 0 where
  pub candidate : Candidate z t (t.key leaf) lo limit parting
  pub within : bound t ns ≤ limit

-- the edge (n, s) is to be visited next
pub record Ahead (z : Sizes) (t : Heap) (live ns : List ℕ) (n s lo base parting : ℕ) : Type 0 where
  pub stacked : Stacked z t lo ns
  pub spans : Spans z t n s lo (bound t ns)
  pub top : ℕ
  pub visited : Visited t live top lo
  pub last : NoneMet live base parting top lo
      ⊎ ((leaf : ℕ) × ((limit : ℕ) × (LastMet t live ns base limit top lo leaf × Left z t ns limit lo leaf parting)))

-- all below the record on the top of the stack, on its left side, was visited
pub record Done (z : Sizes) (t : Heap) (live ns : List ℕ) (lo base parting : ℕ) : Type 0 where
  pub stacked : Stacked z t lo ns
  pub below : lo < bound t ns
  pub top : ℕ
  pub visited : Visited t live top (bound t ns)
  pub last : NoneMet live base parting top (bound t ns)
      ⊎ ((leaf : ℕ) × ((limit : ℕ) × (LastMet t live ns base limit top (bound t ns) leaf
      × ((base ≡ length ns) ⊎ Left z t ns limit (bound t ns) leaf parting))))

module _ (z : Sizes) (t : Heap) (sane : Sane z t) (tree : SearchTree z t) where
  pub ahead_first : Ahead z t [] (1 ∷ []) 1 0 0 0 0
  ahead_first = let s = started z t sane tree in record {
    stacked = s.0;
    spans = s.1;
    top = 0;
    visited = record {
      top_low = omega arith;
      live_is = λ n i. absurd (in_nil n i);
      leaves = λ l is lt. absurd (omega arith);
      partings = λ l m nb lt. absurd (omega arith);
      once = λ i j x y at there e. absurd (in_nil x (i, at));
      paired = record {
        rises = omega arith;
        are = λ k v e. absurd cc;
        each = λ l is low lt. absurd (omega arith);
      };
    };
    last = inl record { none = refl; base_is = refl; parting_is = refl; top_is = refl; low = omega arith };
  }

  pub ahead_pushed : (live ns : List ℕ) (n s lo base parting : ℕ) → Ahead z t live ns n s lo base parting
      → leaf_bit (t.link n s) ≡ 0
      → Ahead z t live (target (t.link n s) ∷ ns) (target (t.link n s)) 0 lo base parting
      × (t.key (target (t.link n s)) < bound t ns)
  ahead_pushed live ns n s lo base parting a inner = let p = pushed z t sane tree n s lo ns a.spans a.stacked inner in
      let falls = p.2 in (
        record {
          stacked = p.0;
          spans = p.1;
          top = a.top;
          visited = a.visited;
          last = ⊎_elim (λ (none : NoneMet live base parting a.top lo). inl none)
              (λ (some : (leaf : ℕ) × ((limit : ℕ) × (LastMet t live ns base limit a.top lo leaf
              × Left z t ns limit lo leaf parting))).
              let m = some.1.1.0 in let l = some.1.1.1 in let low = m.base_low in let within = l.within in inr (
                some.0,
                (
                  some.1.0,
                  (
                    record {
                      live_leaf = m.live_leaf;
                      top_is = m.top_is;
                      base_low = omega arith;
                      marks = ((λ lt. absurd (omega arith)), (λ le. within), m.marks);
                      count = m.count;
                    },
                    record { candidate = l.candidate; within = omega arith },
                  ),
                ),
              ))
              a.last;
        },
        falls,
      )

  bound_most : (lo : ℕ) (ns : List ℕ) → Stacked z t lo ns → bound t ns ≤ 18446744073709551616
  bound_most lo [] st = omega arith
  bound_most lo (n ∷ ns) st = let small = internal_low z t sane tree n st.0.internal in omega arith

  later : (k lo lo' limit c : ℕ) → lo ≤ lo' → Candidate z t k lo limit c → Candidate z t k lo' limit c
  later k lo lo' limit c le d = record {
    internal = d.internal;
    meets = d.meets;
    above = d.above;
    reached = let r = d.reached
        in omega arith;
    right = d.right;
  }

  -- a sentinel key of an edge to a leaf is that of the leaf, and the edge has no FLAG
  sentinel_here : (n s lo hi l e : ℕ) → Spans z t n s lo hi → leaf_bit (t.link n s) ≡ 1 → LiveLeaf t l → t.key l ≡ e
      → (e < lo) ⊎ ((hi ≤ e) ⊎ ((t.key (target (t.link n s)) ≡ e) × (flag_bit (t.link n s) ≡ 0)))
  sentinel_here n s lo hi l e sp leaf live key = ⊎_elim (λ (lt : e < lo). inl lt)
      (λ (le : lo ≤ e). ⊎_elim
      (λ (lt : e < hi). let o = only_leaf z t sane tree n s lo hi l sp leaf live (omega arith) (omega arith) in
      inr (inr (sym (ap t.key o.0) ∙ key, o.1)))
      (λ (ge : hi ≤ e). inr (inl ge)) (cases_lt e hi)) (cases_lt e lo)

  unflagged : (lo hi e k w : ℕ) → flag_bit w ≢ 0 → (e < lo) ⊎ ((hi ≤ e) ⊎ ((k ≡ e) × (flag_bit w ≡ 0))) → (e < lo) ⊎ (hi ≤ e)
  unflagged lo hi e k w ne x = ⊎_elim (λ (a : e < lo). inl a)
      (λ (b : (hi ≤ e) ⊎ ((k ≡ e) × (flag_bit w ≡ 0))). ⊎_elim (λ (a : hi ≤ e). inr a) (λ (c : (k ≡ e)
      × (flag_bit w ≡ 0)). absurd (ne c.1)) b) x

  keyed : (lo hi e k w : ℕ) → (e < lo) ⊎ ((hi ≤ e) ⊎ ((k ≡ e) × (flag_bit w ≡ 0))) → (e < lo) ⊎ ((hi ≤ e) ⊎ (k ≡ e))
  keyed lo hi e k w x = ⊎_elim (λ (a : e < lo). inl a)
      (λ (b : (hi ≤ e) ⊎ ((k ≡ e) × (flag_bit w ≡ 0))). ⊎_elim (λ (a : hi ≤ e). inr (inl a)) (λ (c : (k ≡ e)
      × (flag_bit w ≡ 0)). inr (inr c.0)) b) x

  other_key : (lo hi e k w : ℕ) → k < inf0 → inf0 ≤ e → (e < lo) ⊎ ((hi ≤ e) ⊎ ((k ≡ e) × (flag_bit w ≡ 0))) → (e < lo) ⊎ (hi ≤ e)
  other_key lo hi e k w low high x = ⊎_elim (λ (a : e < lo). inl a)
      (λ (b : (hi ≤ e) ⊎ ((k ≡ e) × (flag_bit w ≡ 0))). ⊎_elim (λ (a : hi ≤ e). inr a) (λ (c : (k ≡ e)
      × (flag_bit w ≡ 0)). let same = c.0 in absurd (omega arith)) b) x

  gap_flagged : (n s lo hi : ℕ) → Spans z t n s lo hi → hi ≤ 18446744073709551616 → leaf_bit (t.link n s) ≡ 1
      → flag_bit (t.link n s) ≢ 0 → hi - inf0 ≡ lo - inf0
  gap_flagged n s lo hi sp most leaf flag = let live = sentinels_live z t sane tree in let keys = tree.sentinels.keys in
      let some = sp.some in
      let k : ℕ = t.key (target (t.link n s)) in let w : ℕ = t.link n s in
      gap_none lo hi (omega arith) most
      (unflagged lo hi inf0 k w flag (sentinel_here n s lo hi 3 inf0 sp leaf live.0 keys.2))
      (unflagged lo hi inf1 k w flag (sentinel_here n s lo hi 4 inf1 sp leaf live.1 keys.3))
      (unflagged lo hi inf2 k w flag (sentinel_here n s lo hi 5 inf2 sp leaf live.2 keys.4))

  -- the pairs and the sentinels that were met are one more
  gap_live : (n s lo hi : ℕ) (live mid : List ℕ) → Spans z t n s lo hi → hi ≤ 18446744073709551616
      → leaf_bit (t.link n s) ≡ 1 → pairs_in t mid ≡ pairs_in t live
      → target (t.link (target (t.link n s)) 0) ≡ 0
      → length (pairs_in t (mid ++ target (t.link n s) ∷ [])) + (hi - inf0) ≡ length (pairs_in t live) + (lo - inf0) + 1
  gap_live n s lo hi live mid sp most leaf same none = let lives = sentinels_live z t sane tree in
      let keys = tree.sentinels.keys in let some = sp.some in
      let m : ℕ = target (t.link n s) in let w : ℕ = t.link n s in let in_ = leaf_within z t sane tree n s lo hi sp leaf in
      let from = in_.0 in let to = in_.1 in
      let a = sentinel_here n s lo hi 3 inf0 sp leaf lives.0 keys.2 in
      let b = sentinel_here n s lo hi 4 inf1 sp leaf lives.1 keys.3 in
      let c = sentinel_here n s lo hi 5 inf2 sp leaf lives.2 keys.4 in ⊎_elim
      (λ (x : (t.key m < inf0) × (pairs_in t (mid ++ m ∷ []) ≡ pairs_in t live ++ pair (t.key m) (t.value m) ∷ [])).
      let gap = gap_none lo hi (omega arith) most (other_key lo hi inf0 (t.key m) w x.0 (omega arith) a)
      (other_key lo hi inf1 (t.key m) w x.0 (omega arith) b) (other_key lo hi inf2 (t.key m) w x.0 (omega arith) c) in
      let many : length (pairs_in t (mid ++ m ∷ [])) ≡ length (pairs_in t live) + 1 = ap length x.1
      ∙ length-append (pairs_in t live) (pair (t.key m) (t.value m) ∷ []) in
      omega arith)
      (λ (x : (inf0 ≤ t.key m) × (pairs_in t (mid ++ m ∷ []) ≡ pairs_in t live)).
      let gap = gap_one lo hi (t.key m) from to most x.0 (keyed lo hi inf0 (t.key m) w a) (keyed lo hi inf1 (t.key m) w b)
      (keyed lo hi inf2 (t.key m) w c) in
      let many : length (pairs_in t (mid ++ m ∷ [])) ≡ length (pairs_in t live) = ap length x.1 in omega arith)
      (pairs_leaf t live mid m none same)

  pub done_flagged : (live ns : List ℕ) (n s lo base parting : ℕ) → Ahead z t live ns n s lo base parting
      → leaf_bit (t.link n s) ≡ 1
      → flag_bit (t.link n s) ≢ 0 → Done z t live ns lo base parting
  done_flagged live ns n s lo base parting a leaf flag = let sp = a.spans in let some = sp.some in let hi : ℕ = bound t ns in
      let gap = gap_flagged n s lo hi sp (bound_most lo ns a.stacked) leaf flag in record {
        stacked = a.stacked;
        below = sp.some;
        top = a.top;
        visited = visited_none t live a.top lo hi (omega arith) (λ q is from to. flag
            (only_leaf z t sane tree n s lo hi q sp leaf is from to).1) a.visited;
        last = ⊎_elim
            (λ (none : NoneMet live base parting a.top lo). let low = none.low in
            inl record {
              none = none.none;
              base_is = none.base_is;
              parting_is = none.parting_is;
              top_is = none.top_is;
              low =
                  omega arith;
            })
            (λ (met : (leaf : ℕ) × ((limit : ℕ) × (LastMet t live ns base limit a.top lo leaf
            × Left z t ns limit lo leaf parting))).
            let m = met.1.1.0 in let l = met.1.1.1 in inr (
              met.0,
              (
                met.1.0,
                (
                  record {
                    live_leaf = m.live_leaf;
                    top_is = m.top_is;
                    base_low = m.base_low;
                    marks = m.marks;
                    count = m.count ∙ ap (λ (x : ℕ). 2 * (length (pairs_in t live) + x)) (sym gap);
                  },
                  inr record {
                    candidate = later (t.key met.0) lo hi met.1.0 parting
                        (omega arith) l.candidate;
                    within = l.within;
                  },
                ),
              ),
            ))
            a.last;
      }

  -- the first live leaf
  pub done_first : (live ns : List ℕ) (n s lo base parting : ℕ) → Ahead z t live ns n s lo base parting
      → leaf_bit (t.link n s) ≡ 1
      → flag_bit (t.link n s) ≡ 0 → parting ≡ 0 → Done z t (live ++ target (t.link n s) ∷ []) ns lo (length ns) parting
  done_first live ns n s lo base parting a leaf plain zero_is = let sp = a.spans in let some = sp.some in
      let hi : ℕ = bound t ns in let m : ℕ = target (t.link n s) in
      let in_ = leaf_within z t sane tree n s lo hi sp leaf in let is = live_leaf z t sane tree n s sp.internal sp.low leaf
      plain in
      let none = (live_is_leaf z t sane tree m is).none 0 (omega arith) in
      let count = gap_live n s lo hi live live sp (bound_most lo ns a.stacked) leaf refl none in record {
        stacked = a.stacked;
        below = sp.some;
        top = t.key m + 1;
        visited = visited_leaf t live live a.top lo hi m is none in_.0 in_.1 (λ q live_q from to.
            (only_leaf z t sane tree n s lo hi q sp leaf live_q from to).0)
            (ready in_.0 (met a.last)) a.visited;
        last = inr (
          m,
          (
            0,
            (
              record {
                live_leaf = is;
                top_is = refl;
                base_low = omega arith;
                marks = marks_all z t lo (t.key m) 0 (length ns) ns a.stacked in_.0 in_.1 (omega arith);
                count = let x = met a.last in let low = x.low in let few : length live ≡ 0 = ap length x.none in
                    let no_pairs : length (pairs_in t live) ≡ 0 = ap (λ (l : List ℕ). length (pairs_in t l)) x.none in
                    let long : length (live ++ m ∷ []) ≡ length live + 1 = length-append live (m ∷ []) in omega arith;
              },
              inl refl,
            ),
          ),
        );
      }
    where
      met : NoneMet live base parting a.top lo
          ⊎ ((leaf : ℕ) × ((limit : ℕ) × (LastMet t live ns base limit a.top lo leaf × Left z t ns limit lo leaf parting)))
          → NoneMet live base parting a.top lo
      met last = ⊎_elim (λ (none : NoneMet live base parting a.top lo). none)
          (λ (met : (leaf : ℕ) × ((limit : ℕ) × (LastMet t live ns base limit a.top lo leaf
          × Left z t ns limit lo leaf parting))).
          let number = met.1.1.1.candidate.internal.number.0 in absurd (omega arith)) last

      ready : lo ≤ t.key (target (t.link n s)) → NoneMet live base parting a.top lo → Ready t live live (target (t.link n s))
      ready from none = record {
        mid_is = λ x i. absurd (in_nil x (subst (IsIn x) none.none i));
        kept = λ x i. i;
        once = a.visited.once;
        pairs = refl;
        parting = λ l nb. let rise = nb.rise in ⊎_elim
            (λ (lt : t.key l < lo). absurd (in_nil l (subst (IsIn l) none.none (a.visited.leaves l nb.low lt).0)))
            (λ (le : lo ≤ t.key l). let hi = (leaf_within z t sane tree n s lo (bound t ns) a.spans leaf).1 in
            let same : t.key l ≡ t.key (target (t.link n s)) = ap t.key (only_leaf z t sane tree n s lo
            (bound t ns) l a.spans leaf nb.low le (omega arith)).0 in absurd (omega arith))
            (cases_lt (t.key l) lo);
      }

  -- a further one, with the record at which it parts from the one before
  pub done_next : (live ns : List ℕ) (n s lo base parting : ℕ) → Ahead z t live ns n s lo base parting → leaf_bit (t.link n s) ≡ 1
      → flag_bit (t.link n s) ≡ 0 → parting ≢ 0 → Done z t ((live ++ parting ∷ []) ++ target (t.link n s) ∷ []) ns lo
      (length ns) parting
  done_next live ns n s lo base parting a leaf plain some_is = let sp = a.spans in let some = sp.some in
      let hi : ℕ = bound t ns in let m : ℕ = target (t.link n s) in
      let in_ = leaf_within z t sane tree n s lo hi sp leaf in let is = live_leaf z t sane tree n s sp.internal sp.low leaf
      plain in
      let none = (live_is_leaf z t sane tree m is).none 0 (omega arith) in
      let x = met a.last in let c = x.1.1.1.candidate in
      let same : pairs_in t (live ++ parting ∷ []) ≡ pairs_in t live = pairs_append t live (parting ∷ [])
      ∙ (ap (λ (y : List Pair). pairs_in t live ++ (y ++ [])) (own_inner t parting (c.internal.children 0 (omega arith)))
      ∙ append-nil (pairs_in t live)) in
      let count = gap_live n s lo hi live (live ++ parting ∷ []) sp (bound_most lo ns a.stacked) leaf same none in record {
        stacked = a.stacked;
        below = sp.some;
        top = t.key m + 1;
        visited = visited_leaf t live (live ++ parting ∷ []) a.top lo hi m is none in_.0 in_.1
            (λ q live_q from to. (only_leaf z t sane tree n s lo hi q sp leaf live_q from to).0)
            (ready same in_.0 in_.1 is x) a.visited;
        last = inr (
          m,
          (
            0,
            (
              record {
                live_leaf = is;
                top_is = refl;
                base_low = omega arith;
                marks = marks_all z t lo (t.key m) 0 (length ns) ns a.stacked in_.0 in_.1 (omega arith);
                count = let before = x.1.1.0.count in let long : length ((live ++ parting ∷ []) ++ m ∷ []) ≡ length
                    (live ++ parting ∷ []) + 1 = length-append (live ++ parting ∷ []) (m ∷ []) in
                    let long' : length (live ++ parting ∷ []) ≡ length live + 1 = length-append live (parting ∷ []) in
                    omega arith;
              },
              inl refl,
            ),
          ),
        );
      }
    where
      met : NoneMet live base parting a.top lo
          ⊎ ((leaf : ℕ) × ((limit : ℕ) × (LastMet t live ns base limit a.top lo leaf × Left z t ns limit lo leaf parting)))
          → (leaf : ℕ) × ((limit : ℕ) × (LastMet t live ns base limit a.top lo leaf × Left z t ns limit lo leaf parting))
      met last = ⊎_elim (λ (none : NoneMet live base parting a.top lo). absurd (some_is none.parting_is))
          (λ (met : (leaf : ℕ) × ((limit : ℕ) × (LastMet t live ns base limit a.top lo leaf
          × Left z t ns limit lo leaf parting))). met) last

      not_live : Internal z t parting → LiveLeaf t parting → ⊥
      not_live i l = i.children 0 (omega arith) ((live_is_leaf z t sane tree parting l).none 0 (omega arith))

      ready : pairs_in t (live ++ parting ∷ []) ≡ pairs_in t live → lo ≤ t.key (target (t.link n s))
          → t.key (target (t.link n s)) < bound t ns
          → LiveLeaf t (target (t.link n s))
          → (leaf : ℕ) × ((limit : ℕ) × (LastMet t live ns base limit a.top lo leaf × Left z t ns limit lo leaf parting))
          → Ready t live (live ++ parting ∷ []) (target (t.link n s))
      ready same from to is x = let m : ℕ = target (t.link n s) in let last = x.1.1.0 in let c = x.1.1.1.candidate in
          let within = x.1.1.1.within in let p : ℕ = x.0 in
          let reached = c.reached in let above = c.above in let top_is = last.top_is in let top_low = a.visited.top_low in
          let parts : Parts t (t.key p) (t.key m) parting = record {
            first = c.meets;
            second = c.right (t.key m) (omega arith) (omega arith);
            apart = λ e. let l = side_left (t.key p) (t.key parting) above in
                let r = side_right (t.key m) (t.key parting) (omega arith) in omega arith;
          } in
          -- those whose keys are below lo have keys of at most the last one's
          let most : (q : ℕ) → LiveLeaf t q → t.key q < t.key m → t.key q ≤ t.key p = λ q live_q lt. ⊎_elim
          (λ (low : t.key q < lo). let y = (a.visited.leaves q live_q low).1 in omega arith)
          (λ (high : lo ≤ t.key q). let one : t.key q ≡ t.key m = ap t.key (only_leaf z t sane tree n s lo
          (bound t ns) q a.spans leaf live_q high (omega arith)).0 in absurd (omega arith))
          (cases_lt (t.key q) lo) in
          let neighbours : Neighbours t p m = record {
            low = last.live_leaf;
            high = is;
            rise = omega arith;
            none_between = λ q live_q over under. let le = most q live_q under in omega arith;
          } in record {
            mid_is = λ y i. ⊎_elim
                (λ (was : IsIn y live). let w = a.visited.live_is y was in let lt = w.1 in
                (w.0, omega arith, λ e. let key : t.key y ≡ t.key m = ap t.key e in omega arith))
                (λ (now : IsIn y (parting ∷ [])). let e : parting ≡ y = in_one y parting now in
                let key : t.key parting ≡ t.key y = ap t.key e in (
                  inr (subst (PartsTwo t) e record { low = p; high = m; neighbours = neighbours; parts = parts }),
                  omega arith,
                  λ e'. not_live c.internal (subst (LiveLeaf t) (sym (e ∙ e')) is),
                ))
                (in_either y live (parting ∷ []) i);
            kept = λ y i. in_left y live (parting ∷ []) i;
            once = once_append (λ n. n) live (parting ∷ []) a.visited.once
                (once_cons (λ n. n) parting [] (λ x i e. in_nil x i) (λ i j x y at there e. absurd (in_nil x (i, at))))
                (λ y w i j e. let lt = (a.visited.live_is y i).1 in let key : t.key y ≡ t.key parting = ap t.key (e
                ∙ sym (in_one w parting j)) in omega arith);
            pairs = same;
            parting = λ l nb. let rise = nb.rise in let le = most l nb.low rise in ⊎_elim
                (λ (lt : t.key l < t.key p). absurd (nb.none_between p last.live_leaf lt (omega arith)))
                (λ (ge : t.key p ≤ t.key l). let one : t.key l ≡ t.key p = omega arith in
                (parting, (in_last parting live, subst (λ (k : ℕ). Parts t k (t.key m) parting) (sym one) parts)))
                (cases_lt (t.key l) (t.key p));
          }

  -- on to the right side of the record on the top: it was on the last leaf's walk
  pub ahead_fresh : (live ns : List ℕ) (r lo base parting : ℕ) → Done z t live (r ∷ ns) lo base parting → length ns < base
      → Ahead z t live ns r 1 (t.key r) (length ns) r
  ahead_fresh live ns r lo base parting d few = let below = d.below in let p = popped z t sane tree lo r ns
      (omega arith) d.stacked in let e = d.stacked.0 in record {
        stacked = p.0;
        spans = p.1;
        top = d.top;
        visited = d.visited;
        last = ⊎_elim (λ (none : NoneMet live base parting d.top (t.key r)). let zero_is = none.base_is in absurd (omega arith))
            (λ (met : (leaf : ℕ) × ((limit : ℕ) × (LastMet t live (r ∷ ns) base limit d.top (t.key r) leaf
            × ((base ≡ suc (length ns)) ⊎ Left z t (r ∷ ns) limit (t.key r) leaf parting)))).
            let m = met.1.1.0 in let limit : ℕ = met.1.0 in let marks = m.marks in let top_low = d.visited.top_low in
            let top_is = m.top_is in inr (
              met.0,
              (
                bound t ns,
                (
                  record {
                    live_leaf = m.live_leaf;
                    top_is = m.top_is;
                    base_low = omega arith;
                    marks = marks_lower t (t.key met.0) base (length ns) limit (bound t ns) ns (omega arith) (omega arith) marks.2;
                    count = m.count;
                  },
                  record {
                    candidate = record {
                      internal = e.internal;
                      meets = marks.0 few;
                      above = omega arith;
                      reached = omega arith;
                      right = λ j from to. e.comes j (omega arith) to;
                    };
                    within = omega arith;
                  },
                ),
              ),
            ))
            d.last;
      }

  -- or it wasn't
  pub ahead_same : (live ns : List ℕ) (r lo base parting : ℕ) → Done z t live (r ∷ ns) lo base parting → base ≤ length ns
      → Ahead z t live ns r 1 (t.key r) base parting
  ahead_same live ns r lo base parting d many = let below = d.below in let p = popped z t sane tree lo r ns
      (omega arith) d.stacked in record {
        stacked = p.0;
        spans = p.1;
        top = d.top;
        visited = d.visited;
        last = ⊎_elim (λ (none : NoneMet live base parting d.top (t.key r)). inl none)
            (λ (met : (leaf : ℕ) × ((limit : ℕ) × (LastMet t live (r ∷ ns) base limit d.top (t.key r) leaf
            × ((base ≡ suc (length ns)) ⊎ Left z t (r ∷ ns) limit (t.key r) leaf parting)))).
            let m = met.1.1.0 in let limit : ℕ = met.1.0 in let marks = m.marks in ⊎_elim
            (λ (all : base ≡ suc (length ns)). absurd (omega arith))
            (λ (l : Left z t (r ∷ ns) limit (t.key r) met.0 parting). inr (
              met.0,
              (
                limit,
                (
                  record { live_leaf = m.live_leaf; top_is = m.top_is; base_low = many; marks = marks.2; count = m.count },
                  record { candidate = l.candidate; within = marks.1 many },
                ),
              ),
            ))
            met.1.1.1)
            d.last;
      }

  -- the whole tree was visited
  pub gathered : (live : List ℕ) (lo base parting : ℕ) → Done z t live [] lo base parting → IsGathered t (pairs_in t live) live
  gathered live lo base parting d = let v = d.visited in record {
    live_is = λ n i. (v.live_is n i).0;
    leaves = λ l is. (v.leaves l is (low l is)).0;
    partings = λ n p. let x = v.partings p.low p.high p.neighbours (low p.high p.neighbours.high) in
        subst (λ (m : ℕ). IsIn m live) (parts_once z t sane tree (t.key p.low) (t.key p.high) x.0 n x.1.1 p.parts) x.1.0;
    once = v.once;
    count = ⊎_elim (λ (none : NoneMet live base parting d.top 18446744073709551616). let le = none.low in absurd (omega arith))
        (λ (met : (leaf : ℕ) × ((limit : ℕ) × (LastMet t live [] base limit d.top 18446744073709551616 leaf
        × ((base ≡ 0) ⊎ Left z t [] limit 18446744073709551616 leaf parting)))). let count = met.1.1.0.count in omega arith)
        d.last;
    rise = rises_from (pairs_in t live) 0 d.top v.paired.rises;
    pairs_are = v.paired.are;
    pairs = λ l is small. v.paired.each l is small (omega arith);
  }
    where
      low : (l : ℕ) → LiveLeaf t l → t.key l < 18446744073709551616
      low l is = live_low z t sane tree l is
