-- Pairs in the order of their keys.
use Rattle.std.proofs.Common.{◌≡◌, ◌≢◌, ⊎_elim, ℕ, zero, suc, ◌+◌, ◌<◌, ◌≤◌, Bool, cond, nat_eq}
use Rattle.std.proofs.Common.{List, [], ◌∷◌, length, get_or, Option, Some, None, sym, refl, ap, ◌∙◌, subst, arith, eq-eqb, ne_eqb}
use Rattle.std.specs.List.{sum_by}
use Rattle.std.specs.List.Sorted.{IsNonDecreasingBy, IsPermutation}
use Rattle.std.proofs.lemmas.List.Sorted.{sum_by-IsPermutation}
use Rattle.std.proofs.lemmas.List.Sums.{sum_by-cons}
use Rattle.std.proofs.Math.Decide.{ℕ_discrete}
use mathlib.Core.Logic.{dite}
use Rattle.pp_model.specs.declared.Pair.{Pair}
use Rattle.pp_model.specs.Lists.{RisesFrom}
use Rattle.pp_model.specs.FiniteMap.{pair, find, put, keys_of}
use Rattle.pp_model.proofs.Maps.{find_below, RisesFrom-put}
use Rattle.pp_lists.specs.Contents.{in_order}
use Rattle.pp_lists.proofs.Answering.{less_or}
use Rattle.pp_model.proofs.Finding.{find_put, find_put_else}

-- two maps with rising keys that give the same are the same
pub same_map : (low : ℕ) (m n : List Pair) → RisesFrom low (keys_of m) → RisesFrom low (keys_of n)
    → ((k : ℕ) → find m k ≡ find n k) → m ≡ n
same_map low [] [] r s same = refl
same_map low [] (q ∷ n) r s same = let bad : None ≡ Some q.value = same q.key
    ∙ ap (λ (b : Bool). cond b (Some q.value) (find n q.key)) (eq-eqb q.key q.key refl) in cc
same_map low (p ∷ m) [] r s same = let bad : None ≡ Some p.value = sym (same p.key)
    ∙ ap (λ (b : Bool). cond b (Some p.value) (find m p.key)) (eq-eqb p.key p.key refl) in cc
same_map low (p ∷ m) (q ∷ n) r s same = dite (ℕ_discrete p.key q.key)
    (λ e. ap (λ (x : Pair). x ∷ m) (pair_same e) ∙ ap (λ (ps : List Pair). q ∷ ps) (same_map (q.key + 1) m n
    (subst (λ (k : ℕ). RisesFrom (k + 1) (keys_of m)) e r.1) s.1 (rest e)))
    (λ ne. ⊎_elim
    (λ (lt : p.key < q.key). let none : find (q ∷ n) p.key ≡ None = find_below (q ∷ n) (p.key + 1) p.key (omega arith, s.1)
    (omega arith) in
    let bad : None ≡ Some p.value = sym none ∙ (sym (same p.key) ∙ here p m) in cc)
    (λ (le : q.key ≤ p.key). let none : find (p ∷ m) q.key ≡ None = find_below (p ∷ m) (q.key + 1) q.key (omega arith, r.1)
    (omega arith) in
    let bad : None ≡ Some q.value = sym none ∙ (same q.key ∙ here q n) in cc)
    (less_or p.key q.key))
  where
    here : (x : Pair) (xs : List Pair) → find (x ∷ xs) x.key ≡ Some x.value
    here x xs = ap (λ (b : Bool). cond b (Some x.value) (find xs x.key)) (eq-eqb x.key x.key refl)

    there : (x : Pair) (xs : List Pair) (k : ℕ) → x.key ≢ k → find (x ∷ xs) k ≡ find xs k
    there x xs k ne = ap (λ (b : Bool). cond b (Some x.value) (find xs k)) (ne_eqb x.key k ne)

    some_is : (v w : ℕ) → Some v ≡ Some w → v ≡ w
    some_is v w e = cc

    pair_same : p.key ≡ q.key → p ≡ q
    pair_same e = let value : p.value ≡ q.value = some_is p.value q.value (sym (here p m) ∙ (same p.key
        ∙ (ap (find (q ∷ n)) e ∙ here q n))) in ap (λ (k : ℕ). pair k p.value) e ∙ ap (pair q.key) value

    rest : p.key ≡ q.key → (k : ℕ) → find m k ≡ find n k
    rest e k = dite (ℕ_discrete p.key k)
        (λ at. find_below m (p.key + 1) k r.1 (omega arith) ∙ sym (find_below n (q.key + 1) k s.1 (omega arith)))
        (λ ne. sym (there p m k ne) ∙ (same k ∙ there q n k (λ at. ne (e ∙ at))))

-- how many of the pairs have this key, and the value of it plus 1
abbrev pub has_key : ℕ → Pair → ℕ
has_key k p = cond (nat_eq p.key k) 1 0

abbrev value_at : ℕ → Pair → ℕ
value_at k p = cond (nat_eq p.key k) (suc p.value) 0

-- no two of the pairs have one key
abbrev pub KeysOnce : List Pair → Type 0
KeysOnce ps = (k : ℕ) → sum_by (has_key k) ps ≤ 1

found : Option ℕ → ℕ
found None = 0
found (Some v) = suc v

found_once : (a b : Option ℕ) → found a ≡ found b → a ≡ b
unfolding found
found_once None None e = refl
found_once None (Some w) e = absurd (omega arith)
found_once (Some v) None e = absurd (omega arith)
found_once (Some v) (Some w) e = ap Some (omega arith)

rest_once : (p : Pair) (ps : List Pair) → KeysOnce (p ∷ ps) → KeysOnce ps
rest_once p ps once k = let all = once k in let sum = sum_by-cons (has_key k) p ps in omega arith

not_again : (p : Pair) (ps : List Pair) → KeysOnce (p ∷ ps) → sum_by (has_key p.key) ps ≡ 0
not_again p ps once = let all = once p.key in let sum = sum_by-cons (has_key p.key) p ps in
    let one : has_key p.key p ≡ 1 = ap (λ (b : Bool). cond b 1 0) (eq-eqb p.key p.key refl) in omega arith

no_value : (k : ℕ) (ps : List Pair) → sum_by (has_key k) ps ≡ 0 → (sum_by (value_at k) ps ≡ 0) × (find ps k ≡ None)
no_value k [] none = (refl, refl)
no_value k (p ∷ ps) none = let sum = sum_by-cons (has_key k) p ps in let values = sum_by-cons (value_at k) p ps in
    dite (ℕ_discrete p.key k)
    (λ hit. let one : has_key k p ≡ 1 = ap (λ (b : Bool). cond b 1 0) (eq-eqb p.key k hit) in absurd (omega arith))
    (λ ne. let zero_here : has_key k p ≡ 0 = ap (λ (b : Bool). cond b 1 0) (ne_eqb p.key k ne) in
    let zero_value : value_at k p ≡ 0 = ap (λ (b : Bool). cond b (suc p.value) 0) (ne_eqb p.key k ne) in
    let y = no_value k ps (omega arith) in let v = y.0 in
    (omega arith, ap (λ (b : Bool). cond b (Some p.value) (find ps k)) (ne_eqb p.key k ne) ∙ y.1))

found_is : (k : ℕ) (ps : List Pair) → KeysOnce ps → sum_by (value_at k) ps ≡ found (find ps k)
unfolding found
found_is k [] once = refl
found_is k (p ∷ ps) once = let values = sum_by-cons (value_at k) p ps in dite (ℕ_discrete p.key k)
    (λ hit. let none : sum_by (has_key k) ps ≡ 0 = subst (λ (k : ℕ). sum_by (has_key k) ps ≡ 0) hit (not_again p ps once) in
    let y = no_value k ps none in let v = y.0 in
    let here : value_at k p ≡ suc p.value = ap (λ (b : Bool). cond b (suc p.value) 0) (eq-eqb p.key k hit) in
    let sum : sum_by (value_at k) (p ∷ ps) ≡ suc p.value = omega arith in
    sum ∙ ap found (sym (ap (λ (b : Bool). cond b (Some p.value) (find ps k)) (eq-eqb p.key k hit))))
    (λ ne. let here : value_at k p ≡ 0 = ap (λ (b : Bool). cond b (suc p.value) 0) (ne_eqb p.key k ne) in
    let rest = found_is k ps (rest_once p ps once) in
    let sum : sum_by (value_at k) (p ∷ ps) ≡ sum_by (value_at k) ps = omega arith in
    sum ∙ (rest ∙ ap found (sym (ap (λ (b : Bool). cond b (Some p.value) (find ps k)) (ne_eqb p.key k ne)))))

-- the same pairs in another order give the same
find_permuted : (xs ys : List Pair) → IsPermutation xs ys → KeysOnce xs → (k : ℕ) → find ys k ≡ find xs k
find_permuted xs ys perm once k = found_once (find ys k) (find xs k)
    (sym (found_is k ys (once_permuted)) ∙ (sum_by-IsPermutation (value_at k) xs ys perm ∙ found_is k xs once))
  where
    once_permuted : KeysOnce ys
    once_permuted j = let all = once j in let same = sum_by-IsPermutation (has_key j) xs ys perm in omega arith

-- pairs by keys that don't fall, of which no two have one key
rises_from : (low : ℕ) (ys : List Pair) → ((i : ℕ) (d : Pair) → i < length ys → low ≤ (get_or ys i d).key)
    → IsNonDecreasingBy (λ (p : Pair). p.key) ys → KeysOnce ys → RisesFrom low (keys_of ys)
rises_from low [] high up once = tt
rises_from low (p ∷ ys) high up once = (
  high 0 p (omega arith),
  rises_from (p.key + 1) ys
      (λ i d lt. let le = up 0 (suc i) d (omega arith) (omega arith) in let none = not_again p ys once in
      dite (ℕ_discrete (get_or ys i d).key p.key)
      (λ same. let one = counted i ys d lt in absurd (let one' : 1 ≤ sum_by (has_key p.key) ys = subst
      (λ (k : ℕ). 1 ≤ sum_by (has_key k) ys) same one in omega arith))
      (λ ne. omega arith))
      (λ i j d le lt. up (suc i) (suc j) d (omega arith) (omega arith)) (rest_once p ys once),
)
  where
    counted : (i : ℕ) (ys : List Pair) (d : Pair) → i < length ys → 1 ≤ sum_by (has_key (get_or ys i d).key) ys
    counted i [] d lt = absurd (omega arith)
    counted zero (q ∷ ys) d lt = let sum = sum_by-cons (has_key q.key) q ys in
        let one : has_key q.key q ≡ 1 = ap (λ (b : Bool). cond b 1 0) (eq-eqb q.key q.key refl) in omega arith
    counted (suc i) (q ∷ ys) d lt = let sum = sum_by-cons (has_key (get_or ys i d).key) q ys in
        let rest = counted i ys d (omega arith) in omega arith

order_facts : (ps : List Pair) → KeysOnce ps → RisesFrom 0 (keys_of (in_order ps)) × ((k : ℕ) → find (in_order ps) k ≡ find ps k)
unfolding in_order
order_facts [] once = (tt, (λ k. refl))
order_facts (p ∷ ps) once = let y = order_facts ps (rest_once p ps once) in
    let none : find (in_order ps) p.key ≡ None = y.1 p.key ∙ (no_value p.key ps (not_again p ps once)).1 in (
      RisesFrom-put (in_order ps) 0 p.key p.value y.0 (omega arith) none,
      (λ k. dite (ℕ_discrete p.key k)
          (λ hit. ap (find (put (in_order ps) p.key p.value)) (sym hit) ∙ (find_put (in_order ps) p.key p.value none
          ∙ sym (ap (λ (b : Bool). cond b (Some p.value) (find ps k)) (eq-eqb p.key k hit))))
          (λ ne. find_put_else (in_order ps) p.key p.value k (λ e. ne (sym e)) ∙ (y.1 k
          ∙ sym (ap (λ (b : Bool). cond b (Some p.value) (find ps k)) (ne_eqb p.key k ne))))),
    )

-- the pairs sorted by their keys
pub sorted_is : (xs ys : List Pair) → IsPermutation xs ys → IsNonDecreasingBy (λ (p : Pair). p.key) ys → KeysOnce xs
    → ys ≡ in_order xs
sorted_is xs ys perm up once = let y = order_facts xs once in
    same_map 0 ys (in_order xs) (rises_from 0 ys (λ i d lt. omega arith) up once_ys) y.0
    (λ k. find_permuted xs ys perm once k ∙ sym (y.1 k))
  where
    once_ys : KeysOnce ys
    once_ys j = let all = once j in let same = sum_by-IsPermutation (has_key j) xs ys perm in omega arith

-- a map that gives what the pairs give is the pairs in order
pub map_is : (m ps : List Pair) → RisesFrom 0 (keys_of m) → KeysOnce ps → ((k : ℕ) → find m k ≡ find ps k) → m ≡ in_order ps
map_is m ps rises once same = let y = order_facts ps once in same_map 0 m (in_order ps) rises y.0 (λ k. same k ∙ sym (y.1 k))
