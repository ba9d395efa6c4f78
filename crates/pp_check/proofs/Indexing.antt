-- A sorted index of a log's changes, and what it tells of a key.
use Rattle.std.proofs.Common.{◌≡◌, ℕ, zero, suc, ◌+◌, ◌-◌, ◌<◌, ◌≤◌, inl, inr, true, false, List, length, get_or}
use Rattle.std.proofs.Common.{Option, Some, None, refl, sym, ap, ◌∙◌, ⊎_elim, arith, subst}
use Rattle.std.specs.Prelude.{slice_get}
use Rattle.std.specs.List.{Contains}
use Rattle.std.specs.Ordering.{nat_cmp, ordering_then, is_lt}
use Rattle.std.proofs.lemmas.Bool.{cases_lt, cases_eq, lt-ltb, le-ltb, eq-eqb, true≢false}
use Rattle.std.proofs.lemmas.List.{get_or_default}
use Rattle.std.proofs.lemmas.Option.{slice_get-get_or, slice_get_within, get_or_from_slice_get}
use Rattle.pp_model.specs.declared.Change.{Change}
use Rattle.pp_model.specs.Calls.{key_of}
use Rattle.pp_model.specs.FiniteMap.{find}
use Rattle.pp_model.specs.History.{after}
use Rattle.pp_check.specs.declared.index.Touch.{Touch}
use Rattle.pp_check.specs.Histories.{SoundTo}
use Rattle.pp_check.specs.Indexes.{touch, IsTouch, Precedes, Rises, IsBefore, IsIndex, IsSplit, left_by}
use Rattle.pp_check.proofs.Values.{value_left, value_none}

precedes_refl : (s t : Touch) → s ≡ t → Precedes s t
precedes_refl s t same = subst (λ (x : Touch). Precedes s x) same (inr (refl, omega arith))

precedes_trans : (s t u : Touch) → Precedes s t → Precedes t u → Precedes s u
precedes_trans s t u (inl below) (inl more) = inl (omega arith)
precedes_trans s t u (inl below) (inr same) = inl (omega arith)
precedes_trans s t u (inr same) (inl more) = inl (omega arith)
precedes_trans s t u (inr same) (inr also) = inr (same.0 ∙ also.0, omega arith)

precedes_by : (index : List Touch) → Rises index → (n i j : ℕ) (d : Touch) → j ≡ i + n → j < length index
    → Precedes (get_or index i d) (get_or index j d)
precedes_by index rises zero i j d is within =
    let same : i ≡ j = omega arith in
    precedes_refl (get_or index i d) (get_or index j d) (ap (λ k. get_or index k d) same)
precedes_by index rises (suc n) i j d is within =
    let last : i + n + 1 ≡ j = omega arith in
    precedes_trans (get_or index i d) (get_or index (i + n) d) (get_or index j d)
    (precedes_by index rises n i (i + n) d refl (omega arith))
    (subst (λ k. Precedes (get_or index (i + n) d) (get_or index k d)) last (rises (i + n) d (omega arith)))

precedes_far : (index : List Touch) → Rises index → (i j : ℕ) (d : Touch) → i ≤ j → j < length index
    → Precedes (get_or index i d) (get_or index j d)
precedes_far index rises i j d le within = precedes_by index rises (j - i) i j d (omega arith) within

before_from : (s t : Touch) (key at : ℕ) → Precedes s t → IsBefore t key at → IsBefore s key at
before_from s t key at (inl below) (inl less) = inl (omega arith)
before_from s t key at (inl below) (inr here) = inl (omega arith)
before_from s t key at (inr same) (inl less) = inl (omega arith)
before_from s t key at (inr same) (inr here) = inr (same.0 ∙ here.0, omega arith)

-- what stands below a touch that comes before does so too
pub before_far : (index : List Touch) → Rises index → (i j : ℕ) (d : Touch) (key at : ℕ) → i ≤ j → j < length index
    → IsBefore (get_or index j d) key at → IsBefore (get_or index i d) key at
before_far index rises i j d key at le within before =
    before_from (get_or index i d) (get_or index j d) key at (precedes_far index rises i j d le within) before

-- ---- what a key's value is

-- where the changes of a key before a position stand in the index
stands_below : (log : List Change) (index : List Touch) (key p count : ℕ) → IsIndex log index → IsSplit index key p count
    → (r : ℕ) (c : Change) → r < p → slice_get log r ≡ Some c → key_of c.call ≡ key
    → (j : ℕ) × (j < count) × (get_or index j (touch key r) ≡ touch key r)
stands_below log index key p count is split r c before at its =
    let mine : Contains index (touch key r) = subst (λ k. Contains index (touch k r)) its (is.each r c at) in
    ⊎_elim
    (λ low. (mine.0, low, mine.2))
    (λ high. absurd (split.above mine.0 (touch key r) high mine.1 (subst (λ (t : Touch). IsBefore t key p) (sym mine.2)
    (inr (refl, before)))))
    (cases_lt mine.0 count)

-- with no touch of the key before, it has none
pub none_found : (log : List Change) (index : List Touch) (key p count : ℕ) → IsIndex log index → p ≤ length log
    → IsSplit index key p count → ((j : ℕ) (d : Touch) → j < count → count ≡ j + 1 → (get_or index j d).key ≡ key → ⊥)
    → find (after log p) key ≡ None
none_found log index key p count is within split other =
    value_none log key p within
    (λ r c before at its.
    let mine = stands_below log index key p count is split r c before at its in
    let j = mine.0 in
    let d = touch key r in
    let last = count - 1 in
    let top : (get_or index last d).key ≡ key → ⊥ = other last d (omega arith) (omega arith) in
    let under = split.below last d (omega arith) in
    let up : Precedes d (get_or index last d) =
    subst (λ (t : Touch). Precedes t (get_or index last d)) mine.2
    (precedes_far index is.rise j last d (omega arith) (omega (arith, split.within))) in
    top (between_keys d (get_or index last d) key p refl up under))
  where
    between_keys : (s t : Touch) (key p : ℕ) → s.key ≡ key → Precedes s t → IsBefore t key p → t.key ≡ key
    between_keys s t key p its (inl below) (inl less) = absurd (omega arith)
    between_keys s t key p its (inl below) (inr here) = here.0
    between_keys s t key p its (inr same) (inl less) = absurd (omega arith)
    between_keys s t key p its (inr same) (inr here) = here.0

-- the last touch of the key before
pub last_found : (log : List Change) (index : List Touch) (key p count j : ℕ) (t : Touch) (c : Change) → IsIndex log index → SoundTo log p
    → p ≤ length log → IsSplit index key p count → count ≡ j + 1 → get_or index j t ≡ t → t.key ≡ key → slice_get log t.at ≡ Some c
    → find (after log p) key ≡ left_by c.call
last_found log index key p count j t c is sound within split one here its at =
    let under : IsBefore t key p = subst (λ (x : Touch). IsBefore x key p) here (split.below j t (omega arith)) in
    let before : t.at < p = position_below t key p its under in
    let known : IsTouch log t = subst (IsTouch log) here (is.touches j t (omega (arith, split.within))) in
    let same : known.change ≡ c = let a = known.logged in cc in
    value_left log key t.at p c before within sound at (ap (λ (x : Change). key_of x.call) (sym same) ∙ sym known.key ∙ its)
    (λ r d above below logged mine.
    let stands = stands_below log index key p count is split r d below logged mine in
    let up : Precedes (get_or index stands.0 (touch key r)) (get_or index j (touch key r)) =
    precedes_far index is.rise stands.0 j (touch key r) (omega arith) (omega (arith, split.within)) in
    let top : get_or index j (touch key r) ≡ t = get_or_from_slice_get index j t (touch key r)
    (slice_get-get_or index j t (omega (arith, split.within)) ∙ ap (λ (x : Touch). Some x) here) in
    no_later (touch key r) t key r its refl above (subst (λ (x : Touch). Precedes (touch key r) x) top
    (subst (λ (x : Touch). Precedes x (get_or index j (touch key r))) stands.2 up)))
  where
    position_below : (t : Touch) (key p : ℕ) → t.key ≡ key → IsBefore t key p → t.at < p
    position_below t key p its (inl less) = absurd (omega arith)
    position_below t key p its (inr here) = here.1

    no_later : (s t : Touch) (key r : ℕ) → t.key ≡ key → s ≡ touch key r → t.at < r → Precedes s t → ⊥
    no_later s t key r its is above (inl below) = absurd (omega (arith, ap (λ (x : Touch). x.key) is))
    no_later s t key r its is above (inr same) = absurd (omega (arith, ap (λ (x : Touch). x.at) is))

-- the same, whatever stands for what isn't there
pub before_read : (index : List Touch) (j : ℕ) (e d : Touch) (key at : ℕ) → j < length index → IsBefore (get_or index j e) key at
    → IsBefore (get_or index j d) key at
before_read index j e d key at within before = subst (λ (t : Touch). IsBefore t key at) (get_or_default index j e d within) before

-- a key that was read at the last place before
pub key_read : (index : List Touch) (j k : ℕ) (d e : Touch) (key : ℕ) → j ≡ k → j < length index → (get_or index j d).key ≡ key
    → (get_or index k e).key ≡ key
key_read index j k d e key same within is =
    ap (λ (i : ℕ). (get_or index i e).key) (sym same) ∙ sym (ap (λ (t : Touch). t.key) (get_or_default index j d e within)) ∙ is

-- what was read of the last touch of the key before
pub found_at : (log : List Change) (index : List Touch) (key p count : ℕ) (e : Touch) (x : Change) (v : Option ℕ) → IsIndex log index
    → SoundTo log p → p ≤ length log → IsSplit index key p count → (count ≡ 0 → ⊥) → (get_or index (count - 1) e).key ≡ key
    → v ≡ left_by (get_or log (get_or index (count - 1) e).at x).call → v ≡ find (after log p) key
found_at log index key p count e x v is sound within split some its left =
    let j = count - 1 in
    let t = get_or index j e in
    let one : count ≡ j + 1 = omega arith in
    let in_index : j < length index = omega (arith, split.within) in
    let known : IsTouch log t = is.touches j e in_index in
    let in_log = slice_get_within log t.at known.change known.logged in
    left ∙ sym (last_found log index key p count j t (get_or log t.at x) is sound within split one (get_or_default index j t e in_index) its
    (slice_get-get_or log t.at x in_log))

-- ---- sorting

ordered : (x y : ℕ) → is_lt (nat_cmp x y) ≡ false → y ≤ x
ordered x y none =
    ⊎_elim
    (λ less. let test = lt-ltb x y less in let lt : is_lt (nat_cmp x y) ≡ true = rw test refl in absurd (true≢false (sym lt ∙ none)))
    (λ more. more)
    (cases_lt x y)

-- what a sort by key and position says of neighbours
pub precedes_from : (s t : Touch) → is_lt (ordering_then (nat_cmp t.key s.key) (nat_cmp t.at s.at)) ≡ false → Precedes s t
precedes_from s t none =
    ⊎_elim
    (λ (less : t.key < s.key).
    let test = lt-ltb t.key s.key less in
    let lt : is_lt (ordering_then (nat_cmp t.key s.key) (nat_cmp t.at s.at)) ≡ true = rw test refl in
    absurd (true≢false (sym lt ∙ none)))
    (λ (more : s.key ≤ t.key).
    ⊎_elim
    (λ (same : t.key ≡ s.key).
    let no = le-ltb t.key s.key more in
    let test = eq-eqb t.key s.key same in
    let then : ordering_then (nat_cmp t.key s.key) (nat_cmp t.at s.at) ≡ nat_cmp t.at s.at = rw (no, test) refl in
    inr (sym same, ordered t.at s.at (ap is_lt (sym then) ∙ none)))
    (λ other. inl (omega arith))
    (cases_eq t.key s.key))
    (cases_lt t.key s.key)
