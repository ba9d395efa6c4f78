-- What a finite map gives after a pair was put into it or taken away.
use Rattle.std.proofs.Common.{◌≡◌, ◌≢◌, ℕ, ◌+◌, ◌≤◌, ◌<◌, ◌⊎◌, true, false, cond, nat_eq, nat_lt, List, [], ◌∷◌}
use Rattle.std.proofs.Common.{Option, Some, None, refl, sym, ◌∙◌, ap, inl, inr, arith}
use Rattle.std.proofs.lemmas.Bool.{eq-eqb, ne_eqb}
use Rattle.std.proofs.lemmas.Grind.{common_steps}
use Rattle.pp_model.specs.declared.Pair.{Pair}
use Rattle.pp_model.specs.Lists.{RisesFrom}
use Rattle.pp_model.specs.FiniteMap.{pair, find, put, drop_key, keys_of}
use Rattle.pp_model.proofs.Maps.{find_below}

not_less : (a b : ℕ) → b ≤ a → nat_lt a b ≡ false
not_less a b h = grind (arith, common_steps)

less : (a b : ℕ) → a < b → nat_lt a b ≡ true
less a b h = grind (arith, common_steps)

order : (a b : ℕ) → (a < b) ⊎ ((a ≡ b) ⊎ (b < a))
order a b = grind (arith, common_steps)

pub find_put : (m : List Pair) (k v : ℕ) → find m k ≡ None → find (put m k v) k ≡ Some v
find_put [] k v e = rw (eq-eqb k k refl) refl
find_put (q ∷ m) k v e = elim (order k q.key) [
  | inl lt ↦ rw (less k q.key lt, eq-eqb k k refl) refl
  | inr ge ↦ elim ge [
    | inl same ↦ absurd (let x : cond (nat_eq q.key k) (Some q.value) (find m k) ≡ Some q.value = rw (eq-eqb q.key k (sym same)) refl in cc)
    | inr gt ↦ (let rest : find m k ≡ None = rw (ne_eqb q.key k (λ e. omega arith)) at e in
        rw (not_less k q.key (omega arith)) (rw (ne_eqb q.key k (λ e. omega arith)) (find_put m k v rest)))
  ]
]

pub find_put_else : (m : List Pair) (k v j : ℕ) → j ≢ k → find (put m k v) j ≡ find m j
find_put_else [] k v j ne = rw (ne_eqb k j (λ e. ne (sym e))) refl
find_put_else (q ∷ m) k v j ne = elim (nat_lt k q.key)
    as (λ b. find (cond b (pair k v ∷ q ∷ m) (q ∷ put m k v)) j ≡ find (q ∷ m) j) [
      | true ↦ rw (ne_eqb k j (λ e. ne (sym e))) refl
      | false ↦ elim (nat_eq q.key j) as (λ b. cond b (Some q.value) (find (put m k v) j) ≡ cond b (Some q.value) (find m j))
          [ true ↦ refl | false ↦ find_put_else m k v j ne ]
    ]

pub find_drop : (low : ℕ) (m : List Pair) (k : ℕ) → RisesFrom low (keys_of m) → find (drop_key m k) k ≡ None
find_drop low [] k r = refl
find_drop low (q ∷ m) k r = elim (order k q.key) [
  | inl lt ↦ rw (ne_eqb q.key k (λ e. omega arith)) (rw (ne_eqb q.key k (λ e. omega arith)) (find_drop (q.key + 1) m k r.1))
  | inr ge ↦ elim ge [
    | inl same ↦ rw (eq-eqb q.key k (sym same)) (find_below m (q.key + 1) k r.1 (omega arith))
    | inr gt ↦ rw (ne_eqb q.key k (λ e. omega arith)) (rw (ne_eqb q.key k (λ e. omega arith)) (find_drop (q.key + 1) m k r.1))
  ]
]

pub find_drop_else : (m : List Pair) (k j : ℕ) → j ≢ k → find (drop_key m k) j ≡ find m j
find_drop_else [] k j ne = refl
find_drop_else (q ∷ m) k j ne = let rest : find (drop_key m k) j ≡ find m j = find_drop_else m k j ne in
    let again : find (q ∷ drop_key m k) j ≡ find (q ∷ m) j = ap (λ (o : Option ℕ). cond (nat_eq q.key j) (Some q.value) o) rest in
    elim (order k q.key) [
      | inl lt ↦ rw (ne_eqb q.key k (λ e. omega arith)) again
      | inr ge ↦ elim ge [
        | inl same ↦ rw (eq-eqb q.key k (sym same), ne_eqb q.key j (λ e. ne (sym e ∙ sym same))) refl
        | inr gt ↦ rw (ne_eqb q.key k (λ e. omega arith)) again
      ]
    ]
