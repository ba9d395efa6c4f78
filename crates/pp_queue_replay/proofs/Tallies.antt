-- Counts of answers that grow by one more answer or one more list.
use Rattle.std.proofs.Common.{◌≡◌, ℕ, ◌+◌, ◌^◌, ◌<◌, ◌≤◌, Bool, List, [], ◌∷◌, length, map, take, get_or, cond, refl, sym, ap, ◌∙◌, arith}
use Rattle.std.specs.Prelude.{count_by, sum_by}
use Rattle.std.proofs.lemmas.List.Sums.{count_by-le-length, sum_by-cons, sum_by_more, sum_by-take-le}
use Rattle.pp_queues.specs.declared.calls.QueueAnswer.{QueueAnswer}
use Rattle.pp_trace.specs.Text.{count_all}

-- one more answer
pub count_more : (test : QueueAnswer → Bool) (answers : List QueueAnswer) (i : ℕ) (d : QueueAnswer) → i < length answers
    → count_by test (take (i + 1) answers) ≡ count_by test (take i answers) + cond (test (get_or answers i d)) 1 0
count_more test answers i d low = sum_by_more (λ a. cond (test a) 1 0) answers i d low

pub count_short : (test : QueueAnswer → Bool) (answers : List QueueAnswer) (i : ℕ)
    → count_by test (take i answers) ≤ length answers
count_short test answers i = omega (arith, sum_by-take-le (λ a. cond (test a) 1 0) answers i, count_by-le-length test answers)

sum_by-map : {V A : Type 0} (n : A → ℕ) (f : V → A) (xs : List V) → sum_by n (map f xs) ≡ sum_by (λ x. n (f x)) xs
sum_by-map n f [] = refl
sum_by-map n f (x ∷ xs) =
    sum_by-cons n (f x) (map f xs) ∙ ap (λ m. n (f x) + m) (sum_by-map n f xs) ∙ sym (sum_by-cons (λ x. n (f x)) x xs)

-- one more list
pub all_more : {V : Type 0} (test : QueueAnswer → Bool) (f : V → List QueueAnswer) (lists : List V) (i : ℕ) (x : V)
    (answers : List QueueAnswer) (old new : ℕ) → i < length lists → x ≡ get_or lists i x → answers ≡ f x
    → old ≡ count_all test (map f (take i lists)) → new ≡ old + count_by test answers
    → new ≡ count_all test (map f (take (i + 1) lists))
all_more test f lists i x answers old new low at same is grew =
    let one : count_by test answers ≡ count_by test (f (get_or lists i x)) = ap (count_by test) (same ∙ ap f at) in
    omega (
      arith,
      is,
      grew,
      one,
      sum_by-map (count_by test) f (take i lists),
      sum_by-map (count_by test) f (take (i + 1) lists),
      sum_by_more (λ y. count_by test (f y)) lists i x low,
    )

count_all-le : (test : QueueAnswer → Bool) (lists : List (List QueueAnswer)) → count_all test lists ≤ sum_by length lists
count_all-le test [] = omega arith
count_all-le test (l ∷ lists) =
    let ones = count_by-le-length test l in
    omega (arith, count_all-le test lists, ones, sum_by-cons (count_by test) l lists, sum_by-cons length l lists)

-- there is room for the next list
pub all_fit : {V : Type 0} (test : QueueAnswer → Bool) (f : V → List QueueAnswer) (lists : List V) (i : ℕ) (x : V)
    (answers : List QueueAnswer) (old : ℕ) → i < length lists → x ≡ get_or lists i x → answers ≡ f x
    → old ≡ count_all test (map f (take i lists)) → sum_by length (map f lists) < 2 ^ 32 → old + length answers < 2 ^ 32
all_fit test f lists i x answers old low at same is fits =
    let many : length answers ≡ length (f (get_or lists i x)) = ap length (same ∙ ap f at) in
    omega (
      arith,
      is,
      fits,
      many,
      count_all-le test (map f (take i lists)),
      sum_by-map length f (take i lists),
      sum_by-map length f lists,
      sum_by_more (λ y. length (f y)) lists i x low,
      sum_by-take-le (λ y. length (f y)) lists (i + 1),
    )
