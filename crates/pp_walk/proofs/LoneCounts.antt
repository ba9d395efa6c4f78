-- Where a pass is alone on its pool, as many records are attached as there are pairs exactly where none that can be reached is removed.
use Rattle.std.proofs.Common.{◌≡◌, ◌≢◌, ℕ, zero, suc, ◌+◌, ◌<◌, ◌≤◌, ⊎_elim, Bool, true, false, cond, nat_eq, List, [], ◌∷◌}
use Rattle.std.proofs.Common.{length, refl, sym, ap, ◌∙◌, subst, arith}
use Rattle.std.proofs.Math.Decide.{ℕ_discrete}
use mathlib.Core.Logic.{dite}
use Rattle.pp_link.specs.declared.layout.Sizes.{Sizes}
use Rattle.pp_link.specs.Links.{target, flag_bit}
use Rattle.pp_link.specs.Places.{IsNumber}
use Rattle.pp_link.specs.Words.{head_word, cell_word}
use Rattle.pp_model.specs.declared.Pair.{Pair}
use Rattle.pp_model.specs.History.{contents_of}
use Rattle.pp_rule.specs.Lists.{IsIn}
use Rattle.pp_rule.specs.Orders.{log_of}
use Rattle.pp_rule.specs.Rule.{Base}
use Rattle.pp_rule.specs.Reached.{Reached}
use Rattle.pp_rule.specs.Reached.Reached.{by_head, by_link}
use Rattle.pp_rule.specs.Causes.{CountsAttached}
use Rattle.pp_rule.proofs.Lone.{led_number}
use Rattle.pp_rule.proofs.Put.{in_nil, in_first, in_later, in_cases, in_either}
use Rattle.pp_rule.proofs.Freeing.{is_in}
use Rattle.pp_rule.proofs.Occurrences.{once_counted}
use Rattle.pp_rule.proofs.Reaching.{reached_attached}
use Rattle.pp_rule.proofs.Undisturbed.{by_state, stable_less}
use Rattle.pp_lists.specs.Contents.{along, unmarked, live_of, live_at, list_alive, next_of}
use Rattle.pp_lists.specs.Clean.{IsBare}
use Rattle.pp_lists.specs.Lists.{ListState, ListStep, Lists}
use Rattle.pp_lists.specs.Turns.{ListView}
use Rattle.pp_lists.proofs.Cleaning.{clean_bare}
use Rattle.pp_lists.proofs.Closing.{live_in, live_once, live_all, low_bucket, told_gathered, contents_are}
use Rattle.pp_walk.specs.Lone.{list_opens, words_of, Sees}

module _ (z : Sizes) (words : List ℕ) where
  in_unmarked : (m : ℕ) (ns : List ℕ) → IsIn m (unmarked z words ns) → IsIn m ns
  unfolding unmarked
  in_unmarked m [] i = i
  in_unmarked m (n ∷ ns) i = by (nat_eq (flag_bit (cell_word words z n 2)) 0) i (in_unmarked m ns)
    where
      by : (b : Bool) → IsIn m (cond b (n ∷ unmarked z words ns) (unmarked z words ns)) → (IsIn m (unmarked z words ns) → IsIn m ns)
          → IsIn m (n ∷ ns)
      by true j rest = ⊎_elim (λ (e : m ≡ n). subst (λ (k : ℕ). IsIn k (n ∷ ns)) (sym e) (in_first n ns))
          (λ (k : IsIn m (unmarked z words ns)). in_later m n ns (rest k)) (in_cases m n (unmarked z words ns) j)
      by false j rest = in_later m n ns (rest j)

  -- what stands along links can be reached, where each number that can be reached is a record's
  module _ (numbered : (n : ℕ) → n ≢ 0 → Reached 1 z words n → IsNumber z n) where
    along_reached : (most n m : ℕ) → Reached 1 z words n → IsIn m (along z words most n) → Reached 1 z words m
    unfolding along
    along_reached zero n m r i = absurd (in_nil m i)
    along_reached (suc most) n m r i = dite (ℕ_discrete n 0) (λ e. absurd (in_nil m (subst (λ (b : Bool).
        IsIn m (cond b [] (n ∷ along z words most (next_of z words n)))) (Rattle.std.proofs.Common.eq-eqb n 0 e) i)))
        (λ ne. ⊎_elim (λ (e : m ≡ n). subst (Reached 1 z words) (sym e) r)
        (λ (later : IsIn m (along z words most (next_of z words n))). along_reached most (next_of z words n) m
        (by_link n 0 (numbered n ne r) (omega arith) refl r) later)
        (in_cases m n (along z words most (next_of z words n)) (subst (λ (b : Bool).
        IsIn m (cond b [] (n ∷ along z words most (next_of z words n)))) (Rattle.std.proofs.Common.ne_eqb n 0 ne) i)))

    live_reached : (h m : ℕ) → h ≤ z.heads → IsIn m (live_of z words h) → Reached 1 z words m
    unfolding live_of
    live_reached zero m le i = absurd (in_nil m i)
    live_reached (suc h) m le i = ⊎_elim (λ (j : IsIn m (live_of z words h)). live_reached h m (omega arith) j)
        (λ (j : IsIn m (live_at z words h)). along_reached z.records (target (head_word words z h)) m (by_head h (omega arith) refl)
        (in_unmarked m (along z words z.records (target (head_word words z h))) j))
        (in_either m (live_of z words h) (live_at z words h) i)

module _ (z : Sizes) (v : ListView) (sv : Sees z v) (one : z.passes ≡ 1) where
  abbrev W : List ℕ
  W = words_of z v

  seen_at : (a b : ℕ) → ((g : ListState) → Base 1 z W g → Lists z W g → g.order ≡ v.order → a ≡ b) → a ≡ b
  seen_at a b says = by_state 1 list_opens Lists v (sv.seen.whole (ap (λ (y : Sizes). y.passes) sv.sizes ∙ one)) a b
      (λ st. says st.pool (subst (λ (y : Sizes). Base 1 y (words_of y v) st.pool) sv.sizes st.base)
      (subst (λ (y : Sizes). Lists y (words_of y v) st.pool) sv.sizes st.added) st.order)

  seen_less : (a b : ℕ) → ((g : ListState) → Base 1 z W g → Lists z W g → a < b) → a < b
  seen_less a b says = stable_less a b (λ no. sv.seen.whole (ap (λ (y : Sizes). y.passes) sv.sizes ∙ one)
      (λ st. no (says st.pool (subst (λ (y : Sizes). Base 1 y (words_of y v) st.pool) sv.sizes st.base)
      (subst (λ (y : Sizes). Lists y (words_of y v) st.pool) sv.sizes st.added))))

  -- what can be reached is a record
  numbered : (n : ℕ) → n ≢ 0 → Reached 1 z W n → IsNumber z n
  numbered n some r = (
    omega arith,
    (let below : n < z.records + 1 = seen_less n (z.records + 1) (λ g b lists. let is = (led_number 1 z W g b n some r).1 in omega arith) in
        omega arith),
  )

  pub clean_bare_now : CountsAttached (Reached 1 z W) (length (contents_of (log_of v.order))) → IsBare z W
  clean_bare_now c n number r = seen_at (flag_bit (cell_word W z n 2)) 0 (λ g b lists order. clean_bare z W g b lists
      (subst (λ (o : List ListStep). CountsAttached (Reached 1 z W) (length (contents_of (log_of o)))) (sym order) c) n number r)

  pub bare_clean_now : IsBare z W → CountsAttached (Reached 1 z W) (length (contents_of (log_of v.order)))
  bare_clean_now bare = record {
    numbers = list_alive z W;
    count_is = seen_at (length (list_alive z W)) (length (contents_of (log_of v.order))) (λ g b lists order.
        (told_gathered z W g b lists).1 ∙ (ap (λ (l : List Pair). length l) (contents_are z W g b lists)
        ∙ ap (λ (o : List ListStep). length (contents_of (log_of o))) order));
    once = λ i j x y at_i at_j e. seen_at i j (λ g b lists order.
        once_counted (list_alive z W) (λ n. live_once z W g b lists z.heads n (omega arith)) i j x y at_i at_j e);
    each = λ n i. let low : 0 < n = seen_less 0 n (λ g b lists.
        let some = (live_in z W g b lists z.heads n (omega arith) i).0.number.0 in omega arith) in
        (omega arith, live_reached z W numbered z.heads n (omega arith) i);
    all = λ n some r. ⊎_elim (λ (i : IsIn n (list_alive z W)). i) (λ (no : IsIn n (list_alive z W) → ⊥).
        absurd (bad (seen_at 1 0 (λ g b lists order. let number = numbered n (λ e. omega arith) r in
        absurd (no (live_all z W g b lists z.heads n (omega arith)
        record { number = number; state = reached_attached 1 z W g b n number r; plain = bare n number r } (low_bucket z W g b lists n))))))
        ) (is_in n (list_alive z W));
  }
    where
      bad : ◌≡◌ {A = ℕ} 1 0 → ⊥
      bad e = omega arith
