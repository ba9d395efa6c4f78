-- Lemmas on finite maps with rising keys.
use Rattle.std.proofs.Common.{◌≡◌, ℕ, zero, suc, ◌+◌, ◌<◌, ◌≤◌, List, [], ◌∷◌, length, get_or, Some, None, Result, Ok, Err}
use Rattle.std.proofs.Common.{Bool, cond}
use Rattle.std.proofs.Common.{IfOk, IfErr, false, true, eqb, ltb, ⊎_elim, refl, sym, ap, ◌∙◌, arith, ne_eqb, eq-eqb, lt-ltb, le-ltb}
use Rattle.std.specs.Prelude.{slice_get, insert, remove}
use Rattle.std.specs.List.Sorted.{IsSearchInRange, IsBinarySearchResult, IsNonDecreasingBy}
use Rattle.std.specs.Ordering.{nat_cmp, ordering_index}
use Rattle.std.proofs.lemmas.Cmp.{ranked}
use Rattle.std.proofs.lemmas.List.Sorted.{IsNonDecreasingBy-from_default}
use Rattle.std.proofs.lemmas.Option.{slice_get-get_or, slice_get_within, get_or_from_slice_get}
use Rattle.std.proofs.lemmas.Bool.{cases_eq, cases_lt, eqb-false}
use Rattle.std.proofs.lemmas.Bool.Decides.{nat_tests}
use Rattle.pp_model.specs.declared.Call.{Call}
use Rattle.pp_model.specs.declared.Call.TheVariants.{Cut}
use Rattle.pp_model.specs.declared.Reply.TheVariants.{Took, Other}
use Rattle.pp_model.specs.declared.Pair.{Pair}
use Rattle.pp_model.specs.Lists.{RisesFrom}
use Rattle.pp_model.specs.FiniteMap.{pair, find, put, drop_key, keys_of, KeysRise, HasKeyAt, LacksKeyAt}
use Rattle.pp_model.specs.Calls.{reply, reply_at, map_after, map_after_at, Takes, removes, cuts}

-- a list that rises from b on rises from any number below it on
pub RisesFrom-lower : (a b : ℕ) (ns : List ℕ) → a ≤ b → RisesFrom b ns → RisesFrom a ns
RisesFrom-lower a b [] le r = tt
RisesFrom-lower a b (n ∷ ns) le r = (omega (arith, r.0), r.1)

-- a key below all keys is absent
pub find_below : (m : List Pair) (low k : ℕ) → RisesFrom low (keys_of m) → k < low → find m k ≡ None
find_below [] low k r l = refl
find_below (p ∷ m) low k r l =
    let apart : eqb p.key k ≡ false = ne_eqb p.key k (λ e. omega (arith, r.0)) in
    rw apart (find_below m (p.key + 1) k r.1 (omega (arith, r.0)))

-- a key that is absent isn't the first one
ne_from_absent : (p : Pair) (m : List Pair) (k : ℕ) → find (p ∷ m) k ≡ None → eqb p.key k ≡ false
ne_from_absent p m k absent = grind (arith, nat_tests)

pub RisesFrom-put : (m : List Pair) (low k v : ℕ) → RisesFrom low (keys_of m) → low ≤ k → find m k ≡ None
    → RisesFrom low (keys_of (put m k v))
RisesFrom-put [] low k v r le absent = (le, tt)
RisesFrom-put (p ∷ m) low k v r le absent =
    ⊎_elim
    (λ below. let test : ltb k p.key ≡ true = lt-ltb k p.key below in rw test (le, (omega arith, r.1)))
    (λ above.
    let test : ltb k p.key ≡ false = le-ltb k p.key above in
    let apart : eqb p.key k ≡ false = ne_from_absent p m k absent in
    let other : p.key ≡ k → ⊥ = eqb-false p.key k apart in
    rw test (r.0, RisesFrom-put m (p.key + 1) k v r.1 (omega arith) (rw apart at absent)))
    (cases_lt k p.key)

pub RisesFrom-drop_key : (m : List Pair) (low k : ℕ) → RisesFrom low (keys_of m) → RisesFrom low (keys_of (drop_key m k))
RisesFrom-drop_key [] low k r = tt
RisesFrom-drop_key (p ∷ m) low k r =
    ⊎_elim
    (λ same. let test : eqb p.key k ≡ true = eq-eqb p.key k same in
    rw test (RisesFrom-lower low (p.key + 1) (keys_of m) (omega (arith, r.0)) r.1))
    (λ other. let test : eqb p.key k ≡ false = ne_eqb p.key k other in
    rw test (r.0, RisesFrom-drop_key m (p.key + 1) k r.1))
    (cases_eq p.key k)

pub length-put : (m : List Pair) (k v : ℕ) → length (put m k v) ≡ length m + 1
length-put [] k v = refl
length-put (p ∷ m) k v = let ih = length-put m k v in grind (arith, nat_tests)

pub length-drop_key : (m : List Pair) (k w : ℕ) → find m k ≡ Some w → length (drop_key m k) + 1 ≡ length m
length-drop_key [] k w e = absurd cc
length-drop_key (p ∷ m) k w e = let ih = length-drop_key m k w in grind (arith, nat_tests)

-- A key that stands at a position of rising pairs is found there, and dropping it removes that position.
pub has_key : (m : List Pair) (low k i : ℕ) (p : Pair) → RisesFrom low (keys_of m) → slice_get m i ≡ Some p → p.key ≡ k
    → (low ≤ k) × (find m k ≡ Some p.value) × (remove m i ≡ drop_key m k)
has_key [] low k i p r at same = absurd cc
has_key (q ∷ m) low k zero p r at same =
    let is : q ≡ p = cc in
    let test : eqb q.key k ≡ true = eq-eqb q.key k (ap (λ x. x.key) is ∙ same) in
    (omega (arith, r.0, ap (λ (x : Pair). x.key) is), rw test (ap (λ (x : Pair). Some x.value) is), rw test refl)
has_key (q ∷ m) low k (suc i) p r at same =
    let ih = has_key m (q.key + 1) k i p r.1 at same in
    let test : eqb q.key k ≡ false = ne_eqb q.key k (λ e. omega (arith, ih.0)) in
    (omega (arith, r.0, ih.0), rw test ih.1, rw test (ap (λ xs. q ∷ xs) ih.2))

-- A key between two neighbours of rising pairs is absent, and its pair is put between them.
pub lacks_key : (m : List Pair) (low k i : ℕ) → RisesFrom low (keys_of m) → i ≤ length m
    → ((j : ℕ) (p : Pair) → j < i → slice_get m j ≡ Some p → p.key < k) → ((p : Pair) → slice_get m i ≡ Some p → k < p.key)
    → (find m k ≡ None) × ((v : ℕ) → insert m i (pair k v) ≡ put m k v)
lacks_key [] low k zero r within below above = (refl, λ v. refl)
lacks_key [] low k (suc i) r within below above = absurd (omega arith)
lacks_key (q ∷ m) low k zero r within below above =
    let lt : k < q.key = above q refl in
    let test : ltb k q.key ≡ true = lt-ltb k q.key lt in
    (find_below (q ∷ m) q.key k (omega arith, r.1) lt, λ v. rw test refl)
lacks_key (q ∷ m) low k (suc i) r within below above =
    let lt : q.key < k = below 0 q (omega arith) refl in
    let test : ltb k q.key ≡ false = le-ltb k q.key (omega arith) in
    let apart : eqb q.key k ≡ false = ne_eqb q.key k (λ e. omega arith) in
    let ih = lacks_key m (q.key + 1) k i r.1 (omega arith) (λ j p l e. below (suc j) p (omega arith) e) above in
    (rw apart ih.0, λ v. rw test (ap (λ xs. q ∷ xs) (ih.1 v)))

low_key : (m : List Pair) (low i : ℕ) (d : Pair) → RisesFrom low (keys_of m) → i < length m → low ≤ (get_or m i d).key
low_key [] low i d r l = absurd (omega arith)
low_key (p ∷ m) low zero d r l = r.0
low_key (p ∷ m) low (suc i) d r l = omega (arith, r.0, low_key m (p.key + 1) i d r.1 (omega arith))

-- a later key is greater
pub keys_rise : (m : List Pair) (low i j : ℕ) (d : Pair) → RisesFrom low (keys_of m) → i < j → j < length m
    → (get_or m i d).key < (get_or m j d).key
keys_rise [] low i j d r lt l = absurd (omega arith)
keys_rise (p ∷ m) low i zero d r lt l = absurd (omega arith)
keys_rise (p ∷ m) low zero (suc j) d r lt l = omega (arith, low_key m (p.key + 1) j d r.1 (omega arith))
keys_rise (p ∷ m) low (suc i) (suc j) d r lt l = keys_rise m (p.key + 1) i j d r.1 (omega arith) (omega arith)

-- A binary search by key ends at the key, or at the place where it would stand.
pub searched : (m : List Pair) (k : ℕ) (r : Result ℕ ℕ) → KeysRise m → IsSearchInRange r (length m)
    → IsBinarySearchResult (λ p. nat_cmp p.key k) m r
    → record { found : IfOk r (HasKeyAt m k); absent : IfErr r (LacksKeyAt m k) }
searched m k (Ok at) rises in_range equal =
    let d = pair 0 0 in
    let same : (get_or m at d).key ≡ k = ranked _ k _ (sym (equal d)) in
    let one : slice_get m at ≡ Some (get_or m at d) = slice_get-get_or m at d in_range in
    let is = has_key m 0 k at (get_or m at d) rises one same in
    record {
      found = record {
        within = in_range;
        found = λ p e. is.1 ∙ ap (λ (x : Pair). Some x.value) (get_or_from_slice_get m at p d e);
        rest = is.2;
      };
      absent = tt;
    }
searched m k (Err at) rises in_range parted =
    let d = pair 0 0 in
    let up : IsNonDecreasingBy (λ p. ordering_index (nat_cmp p.key k)) m =
    IsNonDecreasingBy-from_default (λ p. ordering_index (nat_cmp p.key k)) m d (λ i j le l. compared m k i j rises le l) in
    let is = lacks_key m 0 k at rises in_range
    (λ j p below e. rw (← get_or_from_slice_get m j p d e) (ranked _ k _ (sym ((parted up).0 j d (omega arith) below))))
    (λ p e. rw (← get_or_from_slice_get m at p d e)
    (ranked _ k _ (sym ((parted up).1 at d (omega arith) (slice_get_within m at p e))))) in
    record { found = tt; absent = record { within = in_range; absent = is.0; with_key = is.1 } }
  where
    compared : (m : List Pair) (k i j : ℕ) → KeysRise m → i ≤ j → j < length m
        → ordering_index (nat_cmp (get_or m i (pair 0 0)).key k) ≤ ordering_index (nat_cmp (get_or m j (pair 0 0)).key k)
    compared m k i j rises le l =
        let le' : (get_or m i (pair 0 0)).key ≤ (get_or m j (pair 0 0)).key =
        ⊎_elim
        (λ lt. omega (arith, keys_rise m 0 i j (pair 0 0) rises lt l))
        (λ (ge : j ≤ i). let same : i ≡ j = omega arith in rw same (omega arith))
        (cases_lt i j) in
        grind (arith, nat_tests)

-- the pair that was read where the key stands has the key's value
pub read_at : (m : List Pair) (k i : ℕ) (p : Pair) → HasKeyAt m k i → p ≡ get_or m i p → find m k ≡ Some p.value
read_at m k i p has is = has.found p (slice_get-get_or m i p has.within ∙ ap (λ (q : Pair). Some q) (sym is))

-- a cut takes the value that it asks for
pub cut_value : (k v j w : ℕ) → Takes (Cut k v) j w → w ≡ v
cut_value k v j w (cuts _ _) = refl

-- a cut of another value leaves it
pub cut_other : (m : List Pair) (k v w : ℕ) → find m k ≡ Some w → (w ≡ v → ⊥) → reply m (Cut k v) ≡ Other w
cut_other m k v w found differ = ap (reply_at (Cut k v)) found ∙ ap (λ (b : Bool). cond b (Took w) (Other w)) (ne_eqb w v differ)

-- a call that takes the pair of its key replies so
pub takes_reply : (m : List Pair) (call : Call) (k w : ℕ) → Takes call k w → find m k ≡ Some w → reply m call ≡ Took w
takes_reply m call k w (removes _ _) found = ap (reply_at call) found
takes_reply m call k w (cuts _ _) found = ap (reply_at call) found ∙ ap (λ (b : Bool). cond b (Took w) (Other w)) (eq-eqb w w refl)

-- and leaves the others
pub takes_after : (m : List Pair) (call : Call) (k w : ℕ) → Takes call k w → find m k ≡ Some w → map_after m call ≡ drop_key m k
takes_after m call k w (removes _ _) found = ap (map_after_at m call) found
takes_after m call k w (cuts _ _) found = ap (map_after_at m call) found ∙ ap (λ (b : Bool). cond b (drop_key m k) m) (eq-eqb w w refl)
