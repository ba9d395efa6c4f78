-- Lists of pairs by rising keys, one pair more at the end.
use Rattle.std.proofs.Common.{◌≡◌, ◌≢◌, ◌⊎◌, inl, inr, ⊎_elim, ℕ, ◌+◌, ◌<◌, ◌≤◌, Bool, cond, List, [], ◌∷◌, ◌++◌}
use Rattle.std.proofs.Common.{Some, None, refl, sym, ap, ◌∙◌, arith, eq-eqb, ne_eqb}
use Rattle.std.proofs.lemmas.Bool.{cases_lt, cases_eq}
use Rattle.pp_model.specs.declared.Pair.{Pair}
use Rattle.pp_model.specs.Lists.{RisesFrom}
use Rattle.pp_model.specs.FiniteMap.{pair, find, keys_of}
use Rattle.pp_model.proofs.Maps.{find_below}

-- the keys rise strictly, from low on, and end below high
abbrev pub RisesTo : ℕ → ℕ → List Pair → Type 0
RisesTo low high [] = low ≤ high
RisesTo low high (p ∷ m) = (low ≤ p.key) × RisesTo (p.key + 1) high m

pub rises_from : (m : List Pair) (low high : ℕ) → RisesTo low high m → RisesFrom low (keys_of m)
rises_from [] low high r = tt
rises_from (p ∷ m) low high r = (r.0, rises_from m (p.key + 1) high r.1)

pub rises_wider : (m : List Pair) (low high high' : ℕ) → high ≤ high' → RisesTo low high m → RisesTo low high' m
rises_wider [] low high high' le r = omega arith
rises_wider (p ∷ m) low high high' le r = (r.0, rises_wider m (p.key + 1) high high' le r.1)

pub rises_more : (m : List Pair) (low high : ℕ) (p : Pair) → high ≤ p.key → RisesTo low high m
    → RisesTo low (p.key + 1) (m ++ p ∷ [])
rises_more [] low high p le r = (omega arith, omega arith)
rises_more (q ∷ m) low high p le r = (r.0, rises_more m (q.key + 1) high p le r.1)

pub find_here : (p : Pair) (m : List Pair) (k : ℕ) → p.key ≡ k → find (p ∷ m) k ≡ Some p.value
find_here p m k e = ap (λ (b : Bool). cond b (Some p.value) (find m k)) (eq-eqb p.key k e)

pub find_else : (p : Pair) (m : List Pair) (k : ℕ) → p.key ≢ k → find (p ∷ m) k ≡ find m k
find_else p m k ne = ap (λ (b : Bool). cond b (Some p.value) (find m k)) (ne_eqb p.key k ne)

none_some : (v : ℕ) → None ≡ Some v → ⊥
none_some v e = absurd cc

pub some_same : (v w : ℕ) → Some v ≡ Some w → v ≡ w
some_same v w e = cc

pub find_within : (m : List Pair) (low high k v : ℕ) → RisesTo low high m → find m k ≡ Some v → (low ≤ k) × (k < high)
find_within [] low high k v r e = absurd (none_some v e)
find_within (p ∷ m) low high k v r e = ⊎_elim
    (λ (same : p.key ≡ k). let top = to_high m (p.key + 1) high r.1 in let low_is = r.0 in (omega arith, omega arith))
    (λ (ne : p.key ≢ k). let rest = find_within m (p.key + 1) high k v r.1 (sym (find_else p m k ne)
    ∙ e) in let low_is = r.0 in let a = rest.0 in (omega arith, rest.1))
    (cases_eq p.key k)
  where
    to_high : (m : List Pair) (low high : ℕ) → RisesTo low high m → low ≤ high
    to_high [] low high r = r
    to_high (q ∷ m) low high r = let rest = to_high m (q.key + 1) high r.1 in let a = r.0 in omega arith

pub find_kept : (m more : List Pair) (k v : ℕ) → find m k ≡ Some v → find (m ++ more) k ≡ Some v
find_kept [] more k v e = absurd (none_some v e)
find_kept (p ∷ m) more k v e = ⊎_elim
    (λ (same : p.key ≡ k). find_here p (m ++ more) k same ∙ (sym (find_here p m k same) ∙ e))
    (λ (ne : p.key ≢ k). find_else p (m ++ more) k ne ∙ find_kept m more k v (sym (find_else p m k ne) ∙ e))
    (cases_eq p.key k)

pub find_last : (m : List Pair) (low high : ℕ) (p : Pair) → RisesTo low high m → high ≤ p.key
    → find (m ++ p ∷ []) p.key ≡ Some p.value
find_last [] low high p r le = find_here p [] p.key refl
find_last (q ∷ m) low high p r le = let below = rises_from m (q.key + 1) high r.1 in
    find_else q (m ++ p ∷ []) p.key (λ e. let top = to_high m (q.key + 1) high r.1 in omega arith)
    ∙ find_last m (q.key + 1) high p r.1 le
  where
    to_high : (m : List Pair) (low high : ℕ) → RisesTo low high m → low ≤ high
    to_high [] low high r = r
    to_high (q ∷ m) low high r = let rest = to_high m (q.key + 1) high r.1 in let a = r.0 in omega arith

pub find_either : (m : List Pair) (p : Pair) (k v : ℕ) → find (m ++ p ∷ []) k ≡ Some v → (find m k ≡ Some v) ⊎ ((p.key ≡ k)
    × (p.value ≡ v))
find_either [] p k v e = ⊎_elim
    (λ (same : p.key ≡ k). inr (same, some_same p.value v (sym (find_here p [] k same) ∙ e)))
    (λ (ne : p.key ≢ k). absurd (none_some v (sym (find_else p [] k ne) ∙ e))) (cases_eq p.key k)
find_either (q ∷ m) p k v e = ⊎_elim
    (λ (same : q.key ≡ k). inl (find_here q m k same ∙ (sym (find_here q (m ++ p ∷ []) k same) ∙ e)))
    (λ (ne : q.key ≢ k). ⊎_elim (λ (was : find m k ≡ Some v). inl (find_else q m k ne ∙ was)) (λ (now : (p.key ≡ k)
    × (p.value ≡ v)). inr now)
    (find_either m p k v (sym (find_else q (m ++ p ∷ []) k ne) ∙ e))) (cases_eq q.key k)

-- two lists by rising keys in which each key has the same value are one list
pub same_finds : (a b : List Pair) (la lb : ℕ) → RisesFrom la (keys_of a) → RisesFrom lb (keys_of b)
    → ((k v : ℕ) → find a k ≡ Some v → find b k ≡ Some v) → ((k v : ℕ) → find b k ≡ Some v → find a k ≡ Some v) → a ≡ b
same_finds [] [] la lb ra rb to back = refl
same_finds [] (q ∷ b) la lb ra rb to back = absurd (none_some q.value (back q.key q.value (find_here q b q.key refl)))
same_finds (p ∷ a) [] la lb ra rb to back = absurd (none_some p.value (to p.key p.value (find_here p a p.key refl)))
same_finds (p ∷ a) (q ∷ b) la lb ra rb to back = joined (same_finds a b (p.key + 1) (q.key + 1) ra.1 rb.1)
  where
    first : find (q ∷ b) p.key ≡ Some p.value
    first = to p.key p.value (find_here p a p.key refl)

    second : find (p ∷ a) q.key ≡ Some q.value
    second = back q.key q.value (find_here q b q.key refl)

    key : p.key ≡ q.key
    key = ⊎_elim
        (λ (lt : p.key < q.key). absurd (none_some p.value (sym (find_below (q ∷ b) q.key p.key (omega arith, rb.1) lt) ∙ first)))
        (λ (le : q.key ≤ p.key). ⊎_elim
        (λ (lt : q.key < p.key). absurd (none_some q.value (sym (find_below (p ∷ a) p.key q.key (omega arith, ra.1) lt)
        ∙ second)))
        (λ (ge : p.key ≤ q.key). omega arith) (cases_lt q.key p.key))
        (cases_lt p.key q.key)

    value : p.value ≡ q.value
    value = some_same p.value q.value (sym (find_here p a q.key key) ∙ second)

    one : p ≡ q
    one = ap (λ (k : ℕ). pair k p.value) key ∙ ap (λ (v : ℕ). pair q.key v) value

    past : (m : List Pair) (x k v : ℕ) → RisesFrom (x + 1) (keys_of m) → find m k ≡ Some v → x ≢ k
    past m x k v r e same = none_some v (sym (find_below m (x + 1) k r (omega arith)) ∙ e)

    joined : (((k v : ℕ) → find a k ≡ Some v → find b k ≡ Some v) → ((k v : ℕ) → find b k ≡ Some v → find a k ≡ Some v)
        → a ≡ b) → p ∷ a ≡ q ∷ b
    joined rest = ap (λ (x : Pair). x ∷ a) one ∙ ap (λ (m : List Pair). q ∷ m) (rest
        (λ k v e. let ne = past a p.key k v ra.1 e in sym (find_else q b k (λ (s : q.key ≡ k). ne (key ∙ s)))
        ∙ to k v (find_else p a k ne ∙ e))
        (λ k v e. let ne = past b q.key k v rb.1 e in sym (find_else p a k (λ (s : p.key ≡ k). ne (sym key ∙ s)))
        ∙ back k v (find_else q b k ne ∙ e)))
