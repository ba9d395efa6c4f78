-- What a closed queue tells.
use Rattle.std.proofs.Common.{◌≡◌, ◌≢◌, ⊎_elim, ℕ, zero, suc, ◌+◌, ◌<◌, ◌≤◌, Bool, cond, List, []}
use Rattle.std.proofs.Common.{◌∷◌, map, length}
use Rattle.std.proofs.Common.{get_or, refl, sym, ap, ap₂, ◌∙◌, subst, arith, eq-eqb, ne_eqb}
use Rattle.pp_link.specs.declared.layout.Sizes.{Sizes}
use Rattle.pp_link.specs.Links.{target}
use Rattle.pp_link.specs.Places.{IsNumber}
use Rattle.pp_link.specs.Words.{head_word, cell_word}
use Rattle.pp_model.specs.declared.Pair.{Pair}
use Rattle.pp_rule.specs.Lists.{IsIn, Once, rest_of}
use Rattle.pp_rule.specs.Orders.{log_of}
use Rattle.pp_rule.specs.Rule.{Base}
use Rattle.pp_rule.specs.Laws.{Closes}
use Rattle.pp_rule.specs.Closing.{Gathers}
use Rattle.pp_rule.proofs.Put.{in_nil, in_cases}
use Rattle.pp_rule.proofs.Without.{once_cons}
use Rattle.pp_rule.proofs.Occurrences.{not_counted, once_times}
use Rattle.pp_base.proofs.Numbered.{bounded}
use Rattle.pp_queues.specs.Queue.{items_of}
use Rattle.pp_queues.specs.Queues.{QueueState, Queues}
use Rattle.pp_queues.specs.Contents.{next_of, along, queue_alive, value_at, numbered, queue_count}
use Rattle.pp_queues.specs.Contents.{QueueGathered, QueueTells, QueueTellsPass}
use Rattle.pp_queues.proofs.Lining.{leads_to}

module _ (z : Sizes) (words : List ℕ) where
  pub along_nil : (most n : ℕ) → n ≡ 0 → along z words most n ≡ []
  unfolding along
  along_nil zero n e = refl
  along_nil (suc most) n e = ap (λ (b : Bool). cond b [] (n ∷ along z words most (next_of z words n))) (eq-eqb n 0 e)

  pub along_none : (n : ℕ) → along z words 0 n ≡ []
  unfolding along
  along_none n = refl

  pub along_more : (most n : ℕ) → n ≢ 0 → along z words (suc most) n ≡ n ∷ along z words most (next_of z words n)
  unfolding along
  along_more most n ne = ap (λ (b : Bool). cond b [] (n ∷ along z words most (next_of z words n))) (ne_eqb n 0 ne)

-- so many values of a function, from i on
abbrev pub line : (ℕ → ℕ) → ℕ → ℕ → List ℕ
line at i zero = []
line at i (suc k) = at i ∷ line at (i + 1) k

pub line_long : (at : ℕ → ℕ) (i k : ℕ) → length (line at i k) ≡ k
line_long at i zero = refl
line_long at i (suc k) = ap suc (line_long at (i + 1) k)

-- each stands at its position
pub line_in : (at : ℕ → ℕ) (i k n : ℕ) → IsIn n (line at i k) → (j : ℕ) × ((i ≤ j) × (j < i + k) × (at j ≡ n))
line_in at i zero n x = absurd (in_nil n x)
line_in at i (suc k) n x = ⊎_elim (λ (e : n ≡ at i). (i, (omega arith, omega arith, sym e)))
    (λ (later : IsIn n (line at (i + 1) k)). let y = line_in at (i + 1) k n later in let lo = y.1.0 in let hi = y.1.1 in
    (y.0, (omega arith, omega arith, y.1.2)))
    (in_cases n (at i) (line at (i + 1) k) x)

-- where no two are the same, each stands there once
pub line_once : (at : ℕ → ℕ) (i k : ℕ) → ((j m : ℕ) → i ≤ j → j < i + k → i ≤ m → m < i + k → at j ≡ at m → j ≡ m)
    → Once (line at i k)
line_once at i zero once = λ a b x y at_a at_b same. absurd (in_nil x (a, at_a))
line_once at i (suc k) once = once_cons (λ n. n) (at i) (line at (i + 1) k)
    (λ y x same. let w = line_in at (i + 1) k y x in let lo = w.1.0 in let hi = w.1.1 in
    let bad : i ≡ w.0 = once i w.0 (omega arith) (omega arith) (omega arith) (omega arith) (sym same ∙ sym w.1.2) in
    absurd (omega arith))
    (line_once at (i + 1) k (λ j m a b c d same. once j m (omega arith) (omega arith) (omega arith) (omega arith) same))

-- a list whose entries are these values
pub values_are : (at value : ℕ → ℕ) (i : ℕ) (xs : List ℕ) → ((k : ℕ) → k < length xs → get_or xs k 0 ≡ value (at (i + k)))
    → map value (line at i (length xs)) ≡ xs
values_are at value i [] each = refl
values_are at value i (x ∷ xs) each = let here : x ≡ value (at i) = each 0 (omega arith)
    ∙ ap (λ (k : ℕ). value (at k)) (omega arith) in
    ap₂ (λ (y : ℕ) (ys : List ℕ). y ∷ ys) (sym here) (values_are at value (i + 1) xs
    (λ k lt. each (suc k) (omega arith) ∙ ap (λ (k : ℕ). value (at k)) (omega arith)))

pub numbered_long : (k : ℕ) (vs : List ℕ) → length (numbered k vs) ≡ length vs
numbered_long k [] = refl
numbered_long k (v ∷ vs) = ap suc (numbered_long (k + 1) vs)

module _ (z : Sizes) (words : List ℕ) (g : QueueState) (b : Base 1 z words g) (q : Queues z words g) where
  abbrev items : List ℕ
  items = items_of (log_of g.order)

  -- from a position on, the links lead along the line
  pub along_line : (most k i : ℕ) → k ≤ most → i + k ≡ length items + 1 → 0 < k → along z words most (q.at i) ≡ line q.at i k
  along_line zero k i few sum real_k = absurd (omega arith)
  along_line (suc most) zero i few sum real_k = absurd (omega arith)
  along_line (suc most) (suc zero) i few sum real_k = let last : i ≡ length items = omega arith in
      let real = (q.lined.each i (omega arith)).0.0 in
      along_more z words most (q.at i) (λ e. let r = real in omega arith)
      ∙ ap (λ (l : List ℕ). q.at i ∷ l) (along_nil z words most (next_of z words (q.at i))
      (ap target (ap (λ (k : ℕ). cell_word words z (q.at k) 2) last ∙ q.lined.last)))
  along_line (suc most) (suc (suc k)) i few sum real_k = let lt : i < length items = omega arith in
      let real = (q.lined.each i (omega arith)).0.0 in
      along_more z words most (q.at i) (λ e. let r = real in omega arith)
      ∙ ap (λ (l : List ℕ). q.at i ∷ l) (ap (along z words most) (leads_to (cell_word words z (q.at i) 2) (q.at (i + 1))
      (q.lined.next i lt))
      ∙ along_line most (suc k) (i + 1) (omega arith) (omega arith) (omega arith))

  line_numbers : Once (line q.at 0 (length items + 1))
  line_numbers = line_once q.at 0 (length items + 1) (λ j m a b c d same. q.lined.once j m (omega arith) (omega arith) same)

  pub few_items : length items + 1 ≤ z.records
  few_items = let long = line_long q.at 0 (length items + 1) in
      let most = bounded z.records (line q.at 0 (length items + 1)) line_numbers
      (λ m i. let y = line_in q.at 0 (length items + 1) m i in let hi = y.1.1 in
      subst (λ (k : ℕ). (1 ≤ k) × (k ≤ z.records)) y.1.2 (q.lined.each y.0 (omega arith)).0) in omega arith

  pub alive_is : queue_alive z words ≡ line q.at 0 (length items + 1)
  alive_is = ap (along z words z.records) (leads_to (head_word words z 0) (q.at 0) q.lined.front)
      ∙ along_line z.records (length items + 1) 0 few_items (omega arith) (omega arith)

  pub alive_long : length (queue_alive z words) ≡ length items + 1
  alive_long = ap (λ (l : List ℕ). length l) alive_is ∙ line_long q.at 0 (length items + 1)

  pub rest_is : rest_of (queue_alive z words) ≡ line q.at 1 (length items)
  rest_is = let up : length items + 1 ≡ suc (length items) = omega arith in
      ap (λ (l : List ℕ). rest_of l) (alive_is ∙ ap (line q.at 0) up)

  pub values_of : map (value_at z words) (rest_of (queue_alive z words)) ≡ items
  values_of = ap (map (value_at z words)) rest_is
      ∙ values_are q.at (value_at z words) 1 items (λ k lt. q.lined.values k lt
      ∙ ap (λ (k : ℕ). value_at z words (q.at k)) (omega arith))

pub queue_gathers : Closes 1 Queues QueueGathered queue_count QueueTells QueueTellsPass
queue_gathers z words g contents live_are b q gathered = let is = gathered.1 ∙ alive_is z words g b q in
    let items : List ℕ = items_of (log_of g.order) in
    let live : List ℕ = line q.at 0 (length items + 1) in
    let each = λ (m : ℕ) (i : IsIn m live). let y = line_in q.at 0 (length items + 1) m i in let hi = y.1.1 in
    subst (IsNumber z) y.1.2 (q.lined.each y.0 (omega arith)).0 in (
      subst (Gathers z) (sym is) record {
        once = λ n. once_times n live (line_numbers z words g b q);
        low = not_counted 0 live (λ i. let one = (each 0 i).0 in omega arith);
        high = λ n past. not_counted n live (λ i. let most = (each n i).1 in omega arith);
      },
      (let all = ap (λ (l : List ℕ). length l) gathered.1 in let some = ap (λ (ps : List Pair). length ps) gathered.0 in
          let long = alive_long z words g b q in let same = ap (λ (vs : List ℕ). length vs) (values_of z words g b q) in
          let pairs = numbered_long 0 (map (value_at z words) (rest_of (queue_alive z words))) in omega arith),
      record { sound = q.sound; contents = gathered.0 ∙ ap (numbered 0) (values_of z words g b q) },
      λ p lt. (q.each p lt).stands,
    )
