-- Where a queue has one pass, its words between two steps of it stand still, and the pass finds what it left.
use Rattle.std.proofs.Common.{◌≡◌, ◌≢◌, ℕ, ◌+◌, ◌*◌, ◌<◌, true, false, List, [], ◌∷◌, ◌++◌, length, get_or, set, refl, sym, ap}
use Rattle.std.proofs.Common.{◌∙◌, subst, arith}
use Rattle.std.proofs.lemmas.List.{set-get_or, get_or-set_other}
use Rattle.std.proofs.Math.Decide.{ℕ_discrete}
use mathlib.Core.Logic.{dite}
use Rattle.atomic_table.specs.declared.shared.Seat.{Seat}
use Rattle.pp_link.specs.declared.layout.Sizes.{Sizes}
use Rattle.pp_link.specs.Links.{target, invalid_bit}
use Rattle.pp_link.specs.Places.{head_place, cell_place}
use Rattle.pp_link.specs.Words.{head_word, cell_word}
use Rattle.pp_rule.specs.Lists.{IsIn}
use Rattle.pp_rule.specs.Orders.{stores, replayed, entries_of}
use Rattle.pp_rule.specs.Opening.{opening_words}
use Rattle.pp_rule.specs.Steps.{entry, IsAlone, MadeStep}
use Rattle.pp_rule.specs.States.{attached}
use Rattle.pp_rule.specs.Alone.{IsRun, HasSeen, SeenState}
use Rattle.pp_rule.proofs.Alone.{none_further, finds_standing}
use Rattle.pp_rule.proofs.Histories.{replayed_more}
use Rattle.pp_rule.proofs.Made.{known_after}
use Rattle.pp_rule.proofs.Put.{in_left}
use Rattle.pp_rule.proofs.Undisturbed.{by_state}
use Rattle.pp_base.specs.Made.{HasRun}
use Rattle.pp_base.specs.Passes.{view}
use Rattle.pp_queues.specs.declared.calls.QueueChange.{QueueChange}
use Rattle.pp_queues.specs.declared.calls.QueuePlaced.{QueuePlaced}
use Rattle.pp_queues.specs.Queue.{items_of}
use Rattle.pp_queues.specs.Contents.{queue_caller}
use Rattle.pp_queues.specs.Queues.{QueuePass, QueueStep, QueueView, Calls, Queues, queue_head, queue_field}
use Rattle.pp_queues.specs.Lines.{heap}
use Rattle.pp_queues.specs.Turns.{stand}
use Rattle.pp_queues.proofs.Lining.{leads_to}
use Rattle.pp_queues.proofs.Loading.{calls_of, held_of, head_at, link_at}
use Rattle.pp_rule.specs.Orders.{log_of, placed_by}
use Rattle.pp_rule.specs.Views.{slot}
use Rattle.pp_queue.specs.Standing.{words_of, word_in}

-- the words of a new queue
abbrev pub opens : Sizes → List ℕ
opens = opening_words 1 queue_head queue_field

-- what the pass of a seat has seen
abbrev pub HasSeenQueue : QueueView → Type 0
HasSeenQueue v = HasSeen 1 opens Queues queue_caller v

pub seen_of : (s : Seat Unit QueueView) → IsAlone s.me → HasRun 1 1 queue_head queue_field Queues queue_caller (view s)
    → HasSeenQueue (view s)
seen_of s lone run = run (ap (λ (v : QueueView). v.standing) lone.1)

-- A step of the one pass.
module _ (v w : QueueView) {kind place word left : ℕ} {cs : List QueueChange} {ps : List QueuePlaced} {q : QueuePass}
    (made : MadeStep kind place word left cs ps q v w) (sizes : q.sizes ≡ v.known.sizes) (one : v.known.sizes.passes ≡ 1)
    (low : v.known.number < v.known.sizes.passes) (seen : HasSeenQueue w) where
  sizes_now : w.known.sizes ≡ v.known.sizes
  sizes_now = ap (λ (q : QueuePass). q.sizes) (known_after _ _ _ _ _ _ _ v w made) ∙ sizes

  run : IsRun 1 queue_caller (opens v.known.sizes) v.known.sizes w.order
  run = subst (λ (y : Sizes). IsRun 1 queue_caller (opens y) y w.order) sizes_now seen.run

  -- it found the word that the order before it left
  pub found_here : stores kind ≡ false → word ≡ word_in v place
  found_here loads = finds_standing 1 opens Queues v.known.sizes q v w one low made run loads

  pub words_after : words_of w ≡ set (words_of v) place left
  words_after = let e : QueueStep = entry kind place word left cs ps made.so_far q in
      let is : w.order ≡ made.so_far ++ e ∷ [] = ap (λ (u : QueueView). u.order) made.is in
      let same : made.so_far ≡ v.order =
      none_further v.known.sizes.passes v.known.number made.so_far v.order one low made.begins (sym made.own_steps)
      (λ s i. run.made s (subst (λ (l : List QueueStep). IsIn s l) (sym is) (in_left s made.so_far (e ∷ []) i))) in
      ap (λ (y : Sizes). replayed (opens y) (entries_of w.order)) sizes_now
      ∙ (ap (λ (o : List QueueStep). replayed (opens v.known.sizes) (entries_of o)) (is
      ∙ ap (λ (o : List QueueStep). o ++ e ∷ []) same)
      ∙ replayed_more (opens v.known.sizes) v.order e)

  -- a load leaves each word
  pub words_stay : stores kind ≡ false → left ≡ word → words_of w ≡ words_of v
  words_stay loads same = words_after ∙ (ap (λ (x : ℕ). set (words_of v) place x) (same ∙ found_here loads)
      ∙ set-get_or (words_of v) place 0)

  -- and a step leaves the words of other places
  pub others_stay : (p : ℕ) → p ≢ place → word_in w p ≡ word_in v p
  others_stay p ne = ap (λ (ws : List ℕ). get_or ws p 0) words_after
      ∙ get_or-set_other (words_of v) place p left 0 ne

-- What the rule says of the present words.
module _ (v : QueueView) (one : v.known.sizes.passes ≡ 1) (two : v.known.sizes.heads ≡ 2)
    (low : v.known.number < v.known.sizes.passes) (seen : HasSeenQueue v) where
  abbrev z : Sizes
  z = v.known.sizes

  calls : (st : SeenState 1 opens Queues v) → Calls z (heap z (words_of v) st.pool.status) (log_of st.pool.order) v.known.number
      (slot v.known) v.known.own (placed_by v.known.number st.pool.order)
  calls st = calls_of z (words_of v) st.pool v.known st.base st.added low st.known_is

  by_words : (a b : ℕ) → (SeenState 1 opens Queues v → a ≡ b) → a ≡ b
  by_words a b says = by_state 1 opens Queues v (seen.whole one) a b says

  -- The record to which head 1 leads is the last one.
  last_here : v.known.own.behind ≡ false → (n : ℕ) → word_in v (head_place z 1) ≡ 16 * n
      → target (word_in v (cell_place z n 2)) ≡ 0
  last_here up n e = by_words (target (word_in v (cell_place z n 2))) 0 (λ st.
      let words : List ℕ = words_of v in
      let led : target (head_word words z 1) ≡ n = leads_to (head_word words z 1) n (sym (head_at z words 1 (head_place z 1) refl) ∙ e) in
      ap target (link_at z words n (cell_place z n 2) refl) ∙ (ap (λ (k : ℕ). target (cell_word words z k 2)) (sym led)
      ∙ ((calls st).sole one two).last up))

  -- A going take that stands at the dummy.
  module _ (at : v.known.own.at < 5) (front : v.known.own.front ≡ true) (going : v.known.own.going ≡ true) where
    -- head 0 leads there still
    dummy_here : word_in v (head_place z 0) ≡ 16 * stand v.known
    dummy_here = by_words (word_in v (head_place z 0)) (16 * stand v.known) (λ st.
        let o = calls st in head_at z (words_of v) 0 (head_place z 0) refl
        ∙ (o.stood two).front at front ((o.sole one two).front at front going))

    -- and its link is valid
    valid_here : invalid_bit (word_in v (cell_place z (stand v.known) 2)) ≡ 0
    valid_here = by_words (invalid_bit (word_in v (cell_place z (stand v.known) 2))) 0 (λ st.
        let o = calls st in let words : List ℕ = words_of v in let l = st.added.lined in
        let items : List ℕ = items_of (log_of st.pool.order) in
        let on : st.pool.status (stand v.known) ≡ attached = (o.sole one two).front at front going in
        let h = held_of z words st.pool v.known st.base st.added low st.known_is v.known.own.at at ((o.stood two).held at) in
        let y = l.all (stand v.known) h.number on in let i : ℕ = y.0 in let le = y.1.0 in
        ap invalid_bit (link_at z words (stand v.known) (cell_place z (stand v.known) 2) refl)
        ∙ dite (ℕ_discrete i (length items))
        (λ e. ap invalid_bit (ap (λ (k : ℕ). cell_word words z k 2) (sym y.1.1 ∙ ap st.added.at e) ∙ l.last))
        (λ ne. let led : cell_word words z (stand v.known) 2 ≡ 16 * st.added.at (i + 1) =
        ap (λ (k : ℕ). cell_word words z k 2) (sym y.1.1) ∙ l.next i (omega arith) in omega arith))

-- The same by the sizes of the pool.
pub last_nil : (z : Sizes) (v : QueueView) → v.known.sizes ≡ z → z.passes ≡ 1 → z.heads ≡ 2 → v.known.number < z.passes
    → HasSeenQueue v → v.known.own.behind ≡ false → (n : ℕ) → word_in v (head_place z 1) ≡ 16 * n
    → target (word_in v (cell_place z n 2)) ≡ 0
last_nil z v is = subst (λ (z : Sizes). z.passes ≡ 1 → z.heads ≡ 2 → v.known.number < z.passes
    → HasSeenQueue v → v.known.own.behind ≡ false → (n : ℕ) → word_in v (head_place z 1) ≡ 16 * n
    → target (word_in v (cell_place z n 2)) ≡ 0) is (λ one two low seen. last_here v one two low seen)

pub dummy_stays : (z : Sizes) (v : QueueView) → v.known.sizes ≡ z → z.passes ≡ 1 → z.heads ≡ 2 → v.known.number < z.passes
    → HasSeenQueue v → v.known.own.at < 5 → v.known.own.front ≡ true → v.known.own.going ≡ true
    → word_in v (head_place z 0) ≡ 16 * stand v.known
dummy_stays z v is = subst (λ (z : Sizes). z.passes ≡ 1 → z.heads ≡ 2 → v.known.number < z.passes
    → HasSeenQueue v → v.known.own.at < 5 → v.known.own.front ≡ true → v.known.own.going ≡ true
    → word_in v (head_place z 0) ≡ 16 * stand v.known) is (λ one two low seen. dummy_here v one two low seen)

pub link_valid : (z : Sizes) (v : QueueView) → v.known.sizes ≡ z → z.passes ≡ 1 → z.heads ≡ 2 → v.known.number < z.passes
    → HasSeenQueue v → v.known.own.at < 5 → v.known.own.front ≡ true → v.known.own.going ≡ true
    → invalid_bit (word_in v (cell_place z (stand v.known) 2)) ≡ 0
link_valid z v is = subst (λ (z : Sizes). z.passes ≡ 1 → z.heads ≡ 2 → v.known.number < z.passes
    → HasSeenQueue v → v.known.own.at < 5 → v.known.own.front ≡ true → v.known.own.going ≡ true
    → invalid_bit (word_in v (cell_place z (stand v.known) 2)) ≡ 0) is (λ one two low seen. valid_here v one two low seen)
