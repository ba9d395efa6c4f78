-- Counts of answers that grow by one more answer or one more list.
use Rattle.std.proofs.Common.{◌≡◌, ℕ, ◌+◌, ◌^◌, ◌<◌, ◌≤◌, Bool, List, [], ◌∷◌, ◌++◌, length, map, take, get_or, refl, sym, ap, ◌∙◌, arith}
use Rattle.std.specs.Prelude.{count_by, sum_by}
use Rattle.std.proofs.lemmas.List.{take_more, map-append}
use Rattle.std.proofs.lemmas.List.Sums.{count_by-le-length, sum_by-cons, sum_by_push, sum_by_more, sum_by-take-le}
use Rattle.pp_model.specs.declared.Answer.{Answer}
use Rattle.pp_trace.specs.declared.Counts.{Counts}
use Rattle.pp_trace.specs.Text.{count_all, counts_of}
use Rattle.pp_trace.specs.Counting.{HasRoom, CountsAlso}

-- room that is left after some answers
pub HasRoom-after : {a b : Counts} {xs : List Answer} (room more : ℕ) → HasRoom a room → CountsAlso a b xs → length xs + more ≤ room
    → HasRoom b more
HasRoom-after {a} {b} {xs} room more h p fits = record {
  added = one _ a.added b.added h.added p.added;
  held = one _ a.held b.held h.held p.held;
  value = one _ a.value b.value h.value p.value;
  absent = one _ a.absent b.absent h.absent p.absent;
  took = one _ a.took b.took h.took p.took;
  full = one _ a.full b.full h.full p.full;
  lost = one _ a.lost b.lost h.lost p.lost;
}
  where
    one : (test : Answer → Bool) (l m : ℕ) → l + room < 2 ^ 32 → m ≡ l + count_by test xs → m + more < 2 ^ 32
    one test l m below grew = omega (arith, below, grew, count_by-le-length test xs)

count_all-le : (test : Answer → Bool) (lists : List (List Answer)) → count_all test lists ≤ sum_by length lists
count_all-le test [] = omega arith
count_all-le test (l ∷ lists) =
    let ones = count_by-le-length test l in
    omega (arith, count_all-le test lists, ones, sum_by-cons (count_by test) l lists, sum_by-cons length l lists)

abbrev with_counts : ℕ → ℕ → ℕ → ℕ → ℕ → ℕ → ℕ → Counts
with_counts added held value absent took full lost =
    record { added = added; held = held; value = value; absent = absent; took = took; full = full; lost = lost }

-- counts that agree on each kind are the same
same_counts : (a b : Counts) → a.added ≡ b.added → a.held ≡ b.held → a.value ≡ b.value → a.absent ≡ b.absent → a.took ≡ b.took
    → a.full ≡ b.full → a.lost ≡ b.lost → a ≡ b
same_counts a b added held value absent took full lost =
    ap (λ n. with_counts n a.held a.value a.absent a.took a.full a.lost) added
    ∙ ap (λ n. with_counts b.added n a.value a.absent a.took a.full a.lost) held
    ∙ ap (λ n. with_counts b.added b.held n a.absent a.took a.full a.lost) value
    ∙ ap (λ n. with_counts b.added b.held b.value n a.took a.full a.lost) absent
    ∙ ap (λ n. with_counts b.added b.held b.value b.absent n a.full a.lost) took
    ∙ ap (λ n. with_counts b.added b.held b.value b.absent b.took n a.lost) full
    ∙ ap (λ n. with_counts b.added b.held b.value b.absent b.took b.full n) lost

-- the counts of one list more
pub counts_of-push : (lists : List (List Answer)) (answers : List Answer) (old new : Counts) → old ≡ counts_of lists
    → CountsAlso old new answers
    → new ≡ counts_of (lists ++ answers ∷ [])
counts_of-push lists answers old new is p =
    same_counts new (counts_of (lists ++ answers ∷ []))
    (one _ _ _ (ap (λ c. c.added) is) p.added) (one _ _ _ (ap (λ c. c.held) is) p.held) (one _ _ _ (ap (λ c. c.value) is) p.value)
    (one _ _ _ (ap (λ c. c.absent) is) p.absent) (one _ _ _ (ap (λ c. c.took) is) p.took) (one _ _ _ (ap (λ c. c.full) is) p.full)
    (one _ _ _ (ap (λ c. c.lost) is) p.lost)
  where
    one : (test : Answer → Bool) (m n : ℕ) → m ≡ count_all test lists → n ≡ m + count_by test answers
        → n ≡ count_all test (lists ++ answers ∷ [])
    one test m n first second = omega (arith, first, second, sum_by_push (count_by test) lists answers)

-- there is room for as many answers as make no more than this
pub HasRoom-counts_of : (lists : List (List Answer)) (counts : Counts) (more : ℕ) → counts ≡ counts_of lists
    → sum_by length lists + more < 2 ^ 32
    → HasRoom counts more
HasRoom-counts_of lists counts more is fits = record {
  added = one _ _ (ap (λ c. c.added) is);
  held = one _ _ (ap (λ c. c.held) is);
  value = one _ _ (ap (λ c. c.value) is);
  absent = one _ _ (ap (λ c. c.absent) is);
  took = one _ _ (ap (λ c. c.took) is);
  full = one _ _ (ap (λ c. c.full) is);
  lost = one _ _ (ap (λ c. c.lost) is);
}
  where
    one : (test : Answer → Bool) (n : ℕ) → n ≡ count_all test lists → n + more < 2 ^ 32
    one test n same = omega (arith, same, count_all-le test lists, fits)

sum_by-map : {V A : Type 0} (n : A → ℕ) (f : V → A) (xs : List V) → sum_by n (map f xs) ≡ sum_by (λ x. n (f x)) xs
sum_by-map n f [] = refl
sum_by-map n f (x ∷ xs) =
    sum_by-cons n (f x) (map f xs) ∙ ap (λ m. n (f x) + m) (sum_by-map n f xs) ∙ sym (sum_by-cons (λ x. n (f x)) x xs)

-- each list in its turn: there is room for its answers
pub HasRoom-next : {V : Type 0} (f : V → List Answer) (lists : List V) (i : ℕ) (x : V) (answers : List Answer) (counts : Counts)
    → i < length lists → x ≡ get_or lists i x → answers ≡ f x
    → counts ≡ counts_of (map f (take i lists)) → sum_by length (map f lists) < 2 ^ 32 → HasRoom counts (length answers)
HasRoom-next f lists i x answers counts lt at same is fits =
    let many : length answers ≡ length (f (get_or lists i x)) = ap length (same ∙ ap f at) in
    HasRoom-counts_of (map f (take i lists)) counts (length answers) is
    (omega (
      arith,
      fits,
      many,
      sum_by-map length f (take i lists),
      sum_by-map length f lists,
      sum_by_more (λ x. length (f x)) lists i x lt,
      sum_by-take-le (λ x. length (f x)) lists (i + 1),
    ))

-- and the counts are then those of one list more
pub counts_of-next : {V : Type 0} (f : V → List Answer) (lists : List V) (i : ℕ) (x : V) (answers : List Answer) (old new : Counts)
    → i < length lists → x ≡ get_or lists i x → answers ≡ f x
    → old ≡ counts_of (map f (take i lists)) → CountsAlso old new answers → new ≡ counts_of (map f (take (i + 1) lists))
counts_of-next f lists i x answers old new lt at same is p =
    counts_of-push (map f (take i lists)) answers old new is p
    ∙ ap (λ l. counts_of (map f (take i lists) ++ l ∷ [])) (same ∙ ap f at)
    ∙ ap counts_of (sym (map-append f (take i lists) (get_or lists i x ∷ [])) ∙ ap (map f) (sym (take_more lists i x lt)))
