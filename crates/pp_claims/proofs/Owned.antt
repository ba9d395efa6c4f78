-- The pieces that callers own, and those that nobody does.
use Rattle.std.proofs.Common.{◌≡◌, ℕ, zero, suc, ◌+◌, ◌<◌, Bool, false, cond, List, [], ◌∷◌, ◌++◌, length, replicate, get_or}
use Rattle.std.proofs.Common.{refl, sym, ap, ◌∙◌}
use Rattle.std.proofs.Common.{arith, append_assoc, append-nil, take}
use Rattle.std.proofs.Math.Seq.{take-append_seam}
use Rattle.std.specs.Prelude.{◌||◌}
use Rattle.pp_pieces.specs.Counts.{owned, HaveRoom}
use Rattle.pp_pieces.specs.Left.{has, Marked, left}
use Rattle.pp_claims.specs.Rest.{owned_of, left_over}
use Rattle.pp_claims.specs.declared.shares.Share.{Share}

-- one more caller
pub owned_of-more : (ss : List Share) (s : Share) → owned_of (ss ++ s ∷ []) ≡ owned_of ss ++ owned s.calls.items s.answers.now
owned_of-more [] s = append-nil (owned s.calls.items s.answers.now)
owned_of-more (x ∷ ss) s = ap (λ (l : List ℕ). owned x.calls.items x.answers.now ++ l) (owned_of-more ss s)
    ∙ sym (append_assoc (owned x.calls.items x.answers.now) (owned_of ss) (owned s.calls.items s.answers.now))

same_choice : (a b : Bool) (low : ℕ) (xs ys : List ℕ) → a ≡ b → xs ≡ ys → cond a xs (low ∷ xs) ≡ cond b ys (low ∷ ys)
same_choice a b low xs ys x y = ap (λ (c : Bool). cond c xs (low ∷ xs)) x ∙ ap (λ (l : List ℕ). cond b l (low ∷ l)) y

-- those that aren't marked are those that nobody owns
left_by : (low : ℕ) (bs : List Bool) (ns : List ℕ) → ((n : ℕ) → n < length bs → get_or bs n false ≡ has (low + n) ns)
    → left low bs ≡ left_over low (length bs) ns
left_by low [] ns each = refl
left_by low (b ∷ bs) ns each = let zero_is : low + 0 ≡ low = omega arith in
    same_choice b (has low ns) low (left (low + 1) bs) (left_over (low + 1) (length bs) ns)
    (each 0 (omega arith) ∙ ap (λ (n : ℕ). has n ns) zero_is)
    (left_by (low + 1) bs ns (λ n lt. let next : low + suc n ≡ low + 1 + n = omega arith in
    each (suc n) (omega arith) ∙ ap (λ (m : ℕ). has m ns) next))

none_marked : (count n : ℕ) → get_or (replicate count false) n false ≡ false
none_marked zero n = refl
none_marked (suc count) zero = refl
none_marked (suc count) (suc n) = none_marked count n

long_replicate : {A : Type 0} (count : ℕ) (x : A) → length (replicate count x) ≡ count
long_replicate zero x = refl
long_replicate (suc count) x = let rest = long_replicate count x in omega arith

pub marked_left : (count : ℕ) (old taken : List Bool) (ns : List ℕ) → old ≡ replicate count false → Marked old taken ns
    → left 0 taken ≡ left_over 0 count ns
marked_left count old taken ns is m = let long : length taken ≡ count = m.long ∙
    (ap (λ (l : List Bool). length l) is ∙ long_replicate count false) in
    let old_long = m.long in
    left_by 0 taken ns (λ n lt. let zero_is : n ≡ 0 + n = omega arith in m.each n (omega (arith, old_long, lt))
    ∙ (ap (λ (l : List Bool). get_or l n false || has n ns) is ∙ (ap (λ (b : Bool). b || has n ns) (none_marked count n)
    ∙ ap (λ (k : ℕ). has k ns) zero_is)))
    ∙ ap (λ (n : ℕ). left_over 0 n ns) long

pub long_marked : (count : ℕ) (old taken : List Bool) (ns : List ℕ) → old ≡ replicate count false → Marked old taken ns
    → length taken ≡ count
long_marked count old taken ns is m = m.long ∙ (ap (λ (l : List Bool). length l) is ∙ long_replicate count false)

-- so many zeros
abbrev pub zeros : ℕ → List ℕ
zeros count = replicate count 0

pub none_counted : (count n : ℕ) → get_or (zeros count) n 0 ≡ 0
none_counted zero n = refl
none_counted (suc count) zero = refl
none_counted (suc count) (suc n) = none_counted count n

long_zeros : (count : ℕ) → length (zeros count) ≡ count
long_zeros zero = refl
long_zeros (suc count) = let rest = long_zeros count in omega arith

-- an empty table has room for a whole input
pub empty_room : (counts : List ℕ) → counts ≡ zeros 256 → HaveRoom counts 16777216
empty_room counts is = λ b low. let none = ap (λ (l : List ℕ). get_or l b 0) is ∙ none_counted 256 b in omega arith

pub empty_long : (counts : List ℕ) → counts ≡ zeros 256 → length counts ≡ 256
empty_long counts is = ap (λ (l : List ℕ). length l) is ∙ long_zeros 256

-- what was written to a whole list is the list
pub written_back : {A : Type 0} (count : ℕ) (new old : List A) → length new ≡ count → take count (new ++ old) ≡ new
written_back count new old long = ap (λ (n : ℕ). take n (new ++ old)) (sym long) ∙ take-append_seam new old

pub long_false : (count : ℕ) (old : List Bool) → old ≡ replicate count false → length old ≡ count
long_false count old is = ap (λ (l : List Bool). length l) is ∙ long_replicate count false
