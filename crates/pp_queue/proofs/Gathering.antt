-- The walk along the line of a closed table.
use Rattle.std.proofs.Common.{◌≡◌, ◌≢◌, ⊎_elim, ℕ, suc, ◌+◌, ◌*◌, ◌<◌, ◌≤◌, List, [], ◌∷◌, ◌++◌, map, length}
use Rattle.std.proofs.Common.{get_or, refl, sym, ap, ap₂, ◌∙◌}
use Rattle.std.proofs.Common.{subst, arith, append_assoc, append-nil, length-append}
use Rattle.std.proofs.lemmas.List.{length-map}
use Rattle.pp_link.specs.declared.layout.Sizes.{Sizes}
use Rattle.pp_link.specs.Links.{target}
use Rattle.pp_link.specs.Places.{IsNumber, head_place, cell_place}
use Rattle.pp_link.specs.Words.{head_word, cell_word}
use Rattle.pp_model.specs.declared.Pair.{Pair}
use Rattle.pp_rule.specs.Lists.{rest_of}
use Rattle.pp_rule.specs.Rule.{Base}
use Rattle.pp_rule.specs.States.{attached}
use Rattle.pp_queues.specs.Queues.{QueueState, Queues}
use Rattle.pp_queues.specs.Contents.{along, queue_alive, value_at, numbered}
use Rattle.pp_queues.proofs.Lining.{leads_to}
use Rattle.pp_queues.proofs.Closing.{along_more, along_nil, along_none, few_items, alive_long, numbered_long}

-- the words meet the rule
abbrev pub IsClosed : Sizes → List ℕ → Type 0
IsClosed z words = (g : QueueState) × Base 1 z words g × Queues z words g

-- the number is nil, or that of an attached record
abbrev pub IsAlong : Sizes → List ℕ → ℕ → Type 0
IsAlong z words n = (g : QueueState) → Base 1 z words g → Queues z words g → n ≢ 0 → IsNumber z n × (g.status n ≡ attached)

-- what is live, of which so many records are left from n on
abbrev pub IsHalfway : Sizes → List ℕ → List ℕ → ℕ → ℕ → Type 0
IsHalfway z words live left n = live ++ along z words left n ≡ queue_alive z words

-- the values of these records but the first
abbrev pub pairs_of : Sizes → List ℕ → List ℕ → List Pair
pairs_of z words live = numbered 0 (map (value_at z words) (rest_of live))

numbered_more : (k : ℕ) (vs : List ℕ) (v : ℕ)
    → numbered k (vs ++ v ∷ []) ≡ numbered k vs ++ record { key = k + length vs; value = v } ∷ []
numbered_more k [] v = ap (λ (n : ℕ). record { key = n; value = v } ∷ []) (let e : k ≡ k + 0 = omega arith in e)
numbered_more k (w ∷ vs) v = ap (λ (l : List Pair). record { key = k; value = w } ∷ l) (numbered_more (k + 1) vs v
    ∙ ap (λ (n : ℕ). numbered (k + 1) vs ++ record { key = n; value = v } ∷ [])
    (let e : k + 1 + length vs ≡ k + suc (length vs) = omega arith in e))

map_more : (f : ℕ → ℕ) (xs : List ℕ) (x : ℕ) → map f (xs ++ x ∷ []) ≡ map f xs ++ f x ∷ []
map_more f [] x = refl
map_more f (y ∷ xs) x = ap (λ (l : List ℕ). f y ∷ l) (map_more f xs x)

rest_more : (xs : List ℕ) (x : ℕ) → 1 ≤ length xs → rest_of (xs ++ x ∷ []) ≡ rest_of xs ++ x ∷ []
rest_more [] x some = absurd (omega arith)
rest_more (y ∷ xs) x some = refl

rest_long : (xs : List ℕ) → 1 ≤ length xs → length xs ≡ length (rest_of xs) + 1
rest_long [] some = absurd (omega arith)
rest_long (y ∷ xs) some = omega arith

module _ (z : Sizes) (words : List ℕ) (rule : IsClosed z words) where
  pub head_in : head_place z 0 < length words
  head_in = let wide = rule.1.wide in let one = rule.1.within.some_heads in omega arith

  pub head_small : get_or words (head_place z 0) 0 < 68719476736
  unfolding head_word
  head_small = let one = rule.1.within.some_heads in (rule.1.links.heads 0 (omega arith)).small

  pub starts : (n : ℕ) → n ≡ target (get_or words (head_place z 0) 0) → IsNumber z n × (rule.0.status n ≡ attached)
  unfolding head_word
  starts n e = subst (λ (k : ℕ). IsNumber z k × (rule.0.status k ≡ attached))
      (sym (e ∙ leads_to (head_word words z 0) (rule.2.at 0) rule.2.lined.front)) (rule.2.lined.each 0 (omega arith))

  -- after the dummy
  pub starts_halfway : (n m : ℕ) → n ≡ target (get_or words (head_place z 0) 0) → m ≡ target (get_or words (cell_place z n 2) 0)
      → (left : ℕ) → z.records ≡ suc left → IsHalfway z words (n ∷ []) left m
  unfolding head_word cell_word
  starts_halfway n m e f left long = let one = (starts n e).0.0 in ap (λ (k : ℕ). n ∷ along z words left k) f
      ∙ (sym (along_more z words left n (λ nil. omega arith)) ∙ (ap (λ (k : ℕ). along z words k n) (sym long)
      ∙ ap (along z words z.records) e))

  pub in_range : (n : ℕ) → IsAlong z words n → n ≢ 0 → IsNumber z n
  in_range n on ne = (on rule.0 rule.1 rule.2 ne).0

  pub cell_in : (n f : ℕ) → IsNumber z n → f < 5 → cell_place z n f < length words
  cell_in n f r lt = let wide = rule.1.wide in let lo = r.0 in let hi = r.1 in omega arith

  pub link_small : (n : ℕ) → IsNumber z n × (rule.0.status n ≡ attached) → get_or words (cell_place z n 2) 0 < 68719476736
  unfolding cell_word
  link_small n on = (rule.1.links.linked n 0 on.0 (omega arith) on.1).small

  pub next_small : (n : ℕ) → IsAlong z words n → n ≢ 0 → get_or words (cell_place z n 2) 0 < 68719476736
  next_small n on ne = link_small n (on rule.0 rule.1 rule.2 ne)

  pub room : (live : List ℕ) (left n : ℕ) → n ≢ 0 → IsHalfway z words live (suc left) n → length live < z.records
  room live left n ne half = let few = few_items z words rule.0 rule.1 rule.2 in
      let all = alive_long z words rule.0 rule.1 rule.2 in
      let long = ap (λ (l : List ℕ). length l) half in let sum = length-append live (along z words (suc left) n) in
      let more = ap (λ (l : List ℕ). length l) (along_more z words left n ne) in omega arith

-- the link of an attached record leads on
pub goes_on : (z : Sizes) (words : List ℕ) (n m : ℕ) → ((g : QueueState) → Base 1 z words g → Queues z words g
    → IsNumber z n × (g.status n ≡ attached))
    → m ≡ target (get_or words (cell_place z n 2) 0) → IsAlong z words m
unfolding cell_word
goes_on z words n m on e g b q ne = let y = on g b q in
    subst (λ (k : ℕ). IsNumber z k × (g.status k ≡ attached)) (sym e)
    (⊎_elim (λ (nil : target (cell_word words z n 2) ≡ 0). absurd (ne (e ∙ nil)))
    (λ (t : IsNumber z (target (cell_word words z n 2)) × (g.status (target (cell_word words z n 2)) ≡ attached)). t)
    (b.links.linked n 0 y.0 (omega arith) y.1).to)

-- the record to which head 0 leads, whatever is known beside the words
pub first_on : (z : Sizes) (words : List ℕ) (n : ℕ) → n ≡ target (get_or words (head_place z 0) 0) → (g : QueueState)
    → Base 1 z words g
    → Queues z words g → IsNumber z n × (g.status n ≡ attached)
first_on z words n e g b q = starts z words (g, b, q) n e

pub one_more : (z : Sizes) (words live : List ℕ) (left n m : ℕ) → n ≢ 0 → m ≡ target (get_or words (cell_place z n 2) 0)
    → IsHalfway z words live (suc left) n → IsHalfway z words (live ++ n ∷ []) left m
unfolding cell_word
one_more z words live left n m ne e half = append_assoc live (n ∷ []) (along z words left m)
    ∙ (ap (λ (k : ℕ). live ++ n ∷ along z words left k) e
    ∙ (ap (λ (l : List ℕ). live ++ l) (sym (along_more z words left n ne)) ∙ half))

pub ends_left : (z : Sizes) (words live : List ℕ) (left n : ℕ) → left ≡ 0 → IsHalfway z words live left n
    → live ≡ queue_alive z words
ends_left z words live left n none half = sym (append-nil live) ∙ (ap (λ (l : List ℕ). live ++ l)
    (sym (ap (λ (k : ℕ). along z words k n) none ∙ along_none z words n)) ∙ half)

pub ends_nil : (z : Sizes) (words live : List ℕ) (left n : ℕ) → n ≡ 0 → IsHalfway z words live left n → live ≡ queue_alive z words
ends_nil z words live left n nil half = sym (append-nil live)
    ∙ (ap (λ (l : List ℕ). live ++ l) (sym (along_nil z words left n nil)) ∙ half)

pub pairs_long : (z : Sizes) (words live : List ℕ) → 1 ≤ length live → length live ≡ length (pairs_of z words live) + 1
pairs_long z words live some = let a = rest_long live some in let b = numbered_long 0 (map (value_at z words) (rest_of live)) in
    let c = length-map (rest_of live) (value_at z words) in omega arith

-- the pair of one more record
pub pairs_more : (z : Sizes) (words live : List ℕ) (n : ℕ) (pairs : List Pair) (low_at high_at value : ℕ) → 1 ≤ length live
    → pairs ≡ pairs_of z words live → low_at ≡ cell_place z n 1 → high_at ≡ cell_place z n 4
    → value ≡ get_or words low_at 0 + 18446744073709551616 * get_or words high_at 0
    → pairs ++ record { key = length pairs; value = value } ∷ [] ≡ pairs_of z words (live ++ n ∷ [])
unfolding cell_word
pairs_more z words live n pairs low_at high_at value some is low high v =
    let vs : List ℕ = map (value_at z words) (rest_of live) in
    let value_is : value ≡ value_at z words n = v
    ∙ ap₂ (λ (a b : ℕ). a + 18446744073709551616 * b) (ap (λ (k : ℕ). get_or words k 0) low) (ap
    (λ (k : ℕ). get_or words k 0) high) in
    let zero_more : length vs ≡ 0 + length vs = omega arith in
    let long : length pairs ≡ 0 + length vs = ap (λ (l : List Pair). length l) is ∙ (numbered_long 0 vs ∙ zero_more) in
    ap (λ (l : List Pair). l ++ record { key = length pairs; value = value } ∷ []) is
    ∙ (ap₂ (λ (k w : ℕ). numbered 0 vs ++ record { key = k; value = w } ∷ []) long value_is
    ∙ (sym (numbered_more 0 vs (value_at z words n)) ∙ ap (numbered 0) (sym (ap (map (value_at z words)) (rest_more live n some)
    ∙ map_more (value_at z words) (rest_of live) n))))
