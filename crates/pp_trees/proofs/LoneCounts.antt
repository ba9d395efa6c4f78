-- Where a pass is alone on its pool, as many records of its tree are attached as a map of its pairs has live ones exactly where no edge
-- that can be reached has FLAG.
use Rattle.std.proofs.Common.{◌≡◌, ◌≢◌, ℕ, zero, suc, ◌+◌, ◌*◌, ◌<◌, ◌⊎◌, inl, inr, ⊎_elim, List, [], ◌∷◌, ◌++◌, length}
use Rattle.std.proofs.Common.{refl, sym, ap, ◌∙◌, subst, arith}
use Rattle.std.proofs.Math.Decide.{ℕ_discrete}
use mathlib.Core.Logic.{dite}
use Rattle.pp_link.specs.declared.layout.Sizes.{Sizes}
use Rattle.pp_link.specs.Links.{target, flag_bit}
use Rattle.pp_link.specs.Places.{IsNumber}
use Rattle.pp_link.specs.Words.{head_word, cell_word}
use Rattle.pp_model.specs.declared.Change.{Change}
use Rattle.pp_model.specs.declared.Placed.{Placed}
use Rattle.pp_model.specs.History.{contents_of}
use Rattle.pp_rule.specs.declared.views.LoggedStep.{LoggedStep}
use Rattle.pp_rule.specs.Causes.{CountsAttached}
use Rattle.pp_rule.specs.Lists.{IsIn}
use Rattle.pp_rule.specs.Orders.{log_of}
use Rattle.pp_rule.specs.Reached.{Reached}
use Rattle.pp_rule.specs.Reached.Reached.{by_head, by_link}
use Rattle.pp_rule.proofs.Lone.{led_number}
use Rattle.pp_rule.proofs.Put.{in_nil, in_first, in_later, in_cases, in_either, in_one}
use Rattle.pp_rule.proofs.Reaching.{reached_attached}
use Rattle.pp_trees.specs.Clean.{IsBare}
use Rattle.pp_trees.specs.Edges.{TreeView}
use Rattle.pp_trees.specs.Lone.{words_of, Sees}
use Rattle.pp_trees.specs.Trees.{heap}
use Rattle.pp_trees.proofs.Below.{below, below_end, below_leaf, below_inner, internal_of}
use Rattle.pp_trees.proofs.Cleaning.{tree_records, records_on, records_once, records_all, records_count, clean_bare}
use Rattle.pp_trees.proofs.Heaps.{sane_of}
use Rattle.pp_trees.proofs.Lone.{state_less, seen_at}

-- a number stands in a list or doesn't
in_or_not : (n : ℕ) (xs : List ℕ) → IsIn n xs ⊎ (IsIn n xs → ⊥)
in_or_not n [] = inr (in_nil n)
in_or_not n (x ∷ xs) = dite (ℕ_discrete n x) (λ e. inl (subst (λ (k : ℕ). IsIn k (x ∷ xs)) (sym e) (in_first x xs)))
    (λ ne. ⊎_elim (λ (i : IsIn n xs). inl (in_later n x xs i))
    (λ (no : IsIn n xs → ⊥). inr (λ i. ⊎_elim (λ (e : n ≡ x). ne e) no (in_cases n x xs i))) (in_or_not n xs))

-- by the words alone
module _ (z : Sizes) (words : List ℕ) (numbered : (n : ℕ) → n ≢ 0 → Reached 2 z words n → IsNumber z n)
    (both : (n : ℕ) → n ≢ 0 → Reached 2 z words n → target (cell_word words z n 2) ≢ 0 → target (cell_word words z n 3) ≢ 0) where
  abbrev link : ℕ → ℕ → ℕ
  link n s = cell_word words z n (2 + s)

  -- what links lead to from a record that can be reached can be reached
  below_reached : (most n x : ℕ) → n ≢ 0 → Reached 2 z words n → IsIn x (below link most n) → Reached 2 z words x
  below_reached zero n x some r i = subst (Reached 2 z words)
      (in_one x n (subst (λ (l : List ℕ). IsIn x l) (below_end link n) i)) r
  below_reached (suc most) n x some r i = dite (ℕ_discrete (target (link n 0)) 0)
      (λ nil. subst (Reached 2 z words) (in_one x n (subst (λ (l : List ℕ). IsIn x l) (below_leaf link (suc most) n nil) i)) r)
      (λ more. let bl : List ℕ = below link most (target (link n 0)) in let br : List ℕ = below link most (target (link n 1)) in ⊎_elim
      (λ (e : x ≡ n). subst (Reached 2 z words) (sym e) r)
      (λ (later : IsIn x (bl ++ br)). ⊎_elim
      (λ (j : IsIn x bl). below_reached most (target (link n 0)) x more (by_link n 0 (numbered n some r) (omega arith) refl r) j)
      (λ (j : IsIn x br). below_reached most (target (link n 1)) x (both n some r more)
      (by_link n 1 (numbered n some r) (omega arith) refl r) j)
      (in_either x bl br later))
      (in_cases x n (bl ++ br) (subst (λ (l : List ℕ). IsIn x l) (below_inner link most n more) i)))

module _ (z : Sizes) (v : TreeView) (sv : Sees z v) (one : z.passes ≡ 1) where
  abbrev W : List ℕ
  W = words_of z v

  bad : ◌≡◌ {A = ℕ} 1 0 → ⊥
  bad e = omega arith

  -- what is led to is a record
  numbered : (n : ℕ) → n ≢ 0 → Reached 2 z W n → IsNumber z n
  numbered n some r = (
    omega arith,
    (let below : n < z.records + 1 = state_less z v sv one n (z.records + 1) (λ g b trees known.
        let is = (led_number 2 z W g b n some r).1 in omega arith) in omega arith),
  )

  both : (n : ℕ) → n ≢ 0 → Reached 2 z W n → target (cell_word W z n 2) ≢ 0 → target (cell_word W z n 3) ≢ 0
  both n some r more nil = bad (seen_at z v sv one 1 0 (λ g b trees order. let number = numbered n some r in
      let i = internal_of z (heap z W g.status) (sane_of z W g b) trees.tree n (number, reached_attached 2 z W g b n number r) more in
      absurd (i.children 1 (omega arith) nil)))

  root_reached : Reached 2 z W 1
  root_reached = by_head 0 (state_less z v sv one 0 z.heads (λ g b trees known. let heads = b.within.some_heads in omega arith))
      (seen_at z v sv one (target (head_word W z 0)) 1 (λ g b trees order.
      ap target (trees.tree.sentinels.head 0 (let heads = b.within.some_heads in omega arith))))

  pub clean_bare_now : CountsAttached (Reached 2 z W) (2 * length (contents_of (log_of v.order)) + 5) → IsBare z W
  clean_bare_now c n s number low r = seen_at z v sv one (flag_bit (cell_word W z n (2 + s))) 0 (λ g b trees order. clean_bare z W g b trees
      (subst (λ (o : List (LoggedStep Change Placed)). CountsAttached (Reached 2 z W) (2 * length (contents_of (log_of o)) + 5))
      (sym order) c) n s number low r)

  pub bare_clean_now : IsBare z W → CountsAttached (Reached 2 z W) (2 * length (contents_of (log_of v.order)) + 5)
  bare_clean_now bare = record {
    numbers = tree_records z W;
    count_is = seen_at z v sv one (length (tree_records z W)) (2 * length (contents_of (log_of v.order)) + 5) (λ g b trees order.
        records_count z W g b trees bare
        ∙ ap (λ (o : List (LoggedStep Change Placed)). 2 * length (contents_of (log_of o)) + 5) order);
    once = λ i j x y at_i at_j e. seen_at z v sv one i j (λ g b trees order. records_once z W g b trees i j x y at_i at_j e);
    each = λ n i. let low : 0 < n = state_less z v sv one 0 n (λ g b trees known.
        let some = (records_on z W g b trees n i).0.0 in omega arith) in
        (omega arith, below_reached z W numbered both (z.records + 1) 1 n (λ e. omega arith) root_reached i);
    all = λ n some r. ⊎_elim (λ (i : IsIn n (tree_records z W)). i) (λ (no : IsIn n (tree_records z W) → ⊥).
        absurd (bad (seen_at z v sv one 1 0 (λ g b trees order. let number = numbered n (λ e. omega arith) r in
        absurd (no (records_all z W g b trees n number (reached_attached 2 z W g b n number r))))))) (in_or_not n (tree_records z W));
  }
