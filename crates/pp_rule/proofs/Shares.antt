-- The records that each pass is given at the opening: their numbers follow one another, and the shares make up all records.
use Rattle.std.proofs.Common.{◌≡◌, ℕ, zero, suc, ◌+◌, ◌-◌, ◌*◌, ◌/◌, ◌%◌, ◌<◌, ◌≤◌, Bool, cond, ltb, ◌∷◌}
use Rattle.std.proofs.Common.{refl, sym, ap, ◌∙◌, subst}
use Rattle.std.proofs.Common.{⊎_elim, arith, ltb-true, ltb-false, lt-ltb, le-ltb}
use Rattle.std.proofs.Math.Nat.{div-add-mod, mod-lt, suc-mul}
use Rattle.pp_link.specs.declared.layout.Sizes.{Sizes}
use Rattle.pp_link.specs.Places.{IsWithin}
use Rattle.pp_rule.specs.Lists.{IsIn, OnceBy}
use Rattle.pp_rule.specs.Views.{PrivateRecord, PassState}
use Rattle.pp_rule.specs.Rule.{number_of}
use Rattle.pp_rule.specs.Ties.{pass_number}
use Rattle.pp_rule.specs.Opening.{share_of, start_of, records_from, dealt, dealt_from}
use Rattle.pp_rule.proofs.Put.{in_nil, in_first, in_later, in_cases}
use Rattle.pp_rule.proofs.Without.{once_cons}
use Rattle.pp_rule.proofs.Seats.{either_way}

-- a free record as it opens
abbrev pub empty : ℕ → PrivateRecord
empty n = record { number = n; key = 0; value = 0; left = 0; right = 0; high = 0 }

pub in_records : (low n : ℕ) (d : PrivateRecord) → IsIn d (records_from low n) → (low ≤ d.number) × (d.number < low + n) ×
    (d ≡ empty d.number)
unfolding records_from
in_records low zero d i = absurd (in_nil d i)
in_records low (suc n) d i = ⊎_elim
    (λ (here : d ≡ empty low). let number : d.number ≡ low = ap number_of here in (
      omega arith,
      omega arith,
      here ∙ ap empty
          (sym number),
    ))
    (λ (later : IsIn d (records_from (low + 1) n)). let was = in_records (low + 1) n d later in
    let least : low + 1 ≤ d.number = was.0 in
    let most : d.number < low + 1 + n = was.1 in (omega arith, omega arith, was.2))
    (in_cases d (empty low) (records_from (low + 1) n) i)

pub records_in : (low n m : ℕ) → low ≤ m → m < low + n → IsIn (empty m) (records_from low n)
unfolding records_from
records_in low zero m least most = absurd (omega arith)
records_in low (suc n) m least most = either_way (ltb low m)
    (λ above. let over : low < m = ltb-true low m above in
    in_later (empty m) (empty low) (records_from (low + 1) n) (records_in (low + 1) n m (omega arith) (omega arith)))
    (λ at. let under : m ≤ low = ltb-false low m at in let same : low ≡ m = omega arith in
    subst (λ (k : ℕ). IsIn (empty k) (empty low ∷ records_from (low + 1) n)) same (in_first (empty low) (records_from (low + 1) n)))

pub once_records : (low n : ℕ) → OnceBy number_of (records_from low n)
unfolding records_from
once_records low zero = λ k l x y at_k at_l e. absurd (in_nil x (k, at_k))
once_records low (suc n) = once_cons number_of (empty low) (records_from (low + 1) n)
    (λ d i same. let least : low + 1 ≤ d.number = (in_records (low + 1) n d i).0 in absurd (omega arith)) (once_records (low + 1) n)

module _ {W : Type 0} (sentinels : ℕ) (own : W) (z : Sizes) where
  -- the first of the passes that are still to be dealt, and the others
  pub dealt_next : (low n : ℕ) → 1 ≤ n
      → dealt_from sentinels own z low n ≡ dealt sentinels own z low ∷ dealt_from sentinels own z (low + 1) (n - 1)
  unfolding dealt_from
  dealt_next low zero some = absurd (omega arith)
  dealt_next low (suc n) some = ap (λ k. dealt sentinels own z low ∷ dealt_from sentinels own z (low + 1) k)
      (let same : n ≡ suc n - 1 = omega arith in same)

  pub in_dealt : (low n : ℕ) (q : PassState W) → IsIn q (dealt_from sentinels own z low n)
      → (c : ℕ) × ((low ≤ c) × (c < low + n) × (q ≡ dealt sentinels own z c))
  unfolding dealt_from
  in_dealt low zero q i = absurd (in_nil q i)
  in_dealt low (suc n) q i = ⊎_elim (λ (here : q ≡ dealt sentinels own z low). (low, (omega arith, omega arith, here)))
      (λ (later : IsIn q (dealt_from sentinels own z (low + 1) n)). let was = in_dealt (low + 1) n q later in
      let least : low + 1 ≤ was.0 = was.1.0 in
      let most : was.0 < low + 1 + n = was.1.1 in (was.0, (omega arith, omega arith, was.1.2)))
      (in_cases q (dealt sentinels own z low) (dealt_from sentinels own z (low + 1) n) i)

  pub in_all_dealt : (n : ℕ) (q : PassState W) → 1 ≤ n → IsIn q (dealt sentinels own z 0 ∷ dealt_from sentinels own z 1 (n - 1))
      → (c : ℕ) × ((c < n) × (q ≡ dealt sentinels own z c))
  in_all_dealt n q some i = ⊎_elim (λ (here : q ≡ dealt sentinels own z 0). (0, (omega arith, here)))
      (λ (later : IsIn q (dealt_from sentinels own z 1 (n - 1))). let was = in_dealt 1 (n - 1) q later in
      let most : was.0 < 1 + (n - 1) = was.1.1 in (was.0, (omega arith, was.1.2)))
      (in_cases q (dealt sentinels own z 0) (dealt_from sentinels own z 1 (n - 1)) i)

  number_dealt : (c : ℕ) → (dealt sentinels own z c).number ≡ c
  unfolding dealt
  number_dealt c = refl

  once_dealt : (low n : ℕ) → OnceBy pass_number (dealt_from sentinels own z low n)
  unfolding dealt_from
  once_dealt low zero = λ k l x y at_k at_l e. absurd (in_nil x (k, at_k))
  once_dealt low (suc n) = once_cons pass_number (dealt sentinels own z low) (dealt_from sentinels own z (low + 1) n)
      (λ q i same. let was = in_dealt (low + 1) n q i in
      let least : low + 1 ≤ was.0 = was.1.0 in
      let number : was.0 ≡ low = sym (ap (λ (v : PassState W). v.number) was.1.2 ∙ number_dealt was.0) ∙ (same
      ∙ number_dealt low) in absurd (omega arith))
      (once_dealt (low + 1) n)

  pub once_all_dealt : (n : ℕ) → OnceBy pass_number (dealt sentinels own z 0 ∷ dealt_from sentinels own z 1 n)
  once_all_dealt n = once_cons pass_number (dealt sentinels own z 0) (dealt_from sentinels own z 1 n)
      (λ q i same. let was = in_dealt 1 n q i in
      let least : 1 ≤ was.0 = was.1.0 in
      let number : was.0 ≡ 0 = sym (ap (λ (v : PassState W). v.number) was.1.2 ∙ number_dealt was.0) ∙ (same
      ∙ number_dealt 0) in absurd (omega arith))
      (once_dealt 1 n)

module _ (sentinels : ℕ) (z : Sizes) where
  pub start_next : (c : ℕ) → start_of sentinels z (suc c) ≡ start_of sentinels z c + share_of sentinels z c
  unfolding start_of
  start_next c = refl

  pub start_zero : start_of sentinels z 0 ≡ sentinels + 1
  unfolding start_of
  start_zero = refl

  start_one_more : (q r c : ℕ) → share_of sentinels z c ≡ q + cond (ltb c r) 1 0 → c < r → start_of sentinels z
      (suc c) ≡ start_of sentinels z c + (q + 1)
  start_one_more q r c share lt = start_next c
      ∙ ap (λ k. start_of sentinels z c + k) (share ∙ ap (λ (b : Bool). q + cond b 1 0) (lt-ltb c r lt))

  start_no_more : (q r c : ℕ) → share_of sentinels z c ≡ q + cond (ltb c r) 1 0 → r ≤ c → start_of sentinels z
      (suc c) ≡ start_of sentinels z c + (q + 0)
  start_no_more q r c share le = start_next c
      ∙ ap (λ k. start_of sentinels z c + k) (share ∙ ap (λ (b : Bool). q + cond b 1 0) (le-ltb c r le))

  -- The first passes have one record more than the others: r of them, where q is what each has.
  start_low : (q r : ℕ) → ((c : ℕ) → share_of sentinels z c ≡ q + cond (ltb c r) 1 0) → (c : ℕ) → c ≤ r
      → start_of sentinels z c ≡ sentinels + 1 + c * q + c
  start_low q r each zero le = let first = start_zero in omega arith
  start_low q r each (suc c) le = let was = start_low q r each c (omega arith) in
      let next = start_one_more q r c (each c) (omega arith) in
      let product : suc c * q ≡ c * q + q = suc-mul c q in omega arith

  start_high : (q r : ℕ) → ((c : ℕ) → share_of sentinels z c ≡ q + cond (ltb c r) 1 0) → (c : ℕ) → r ≤ c
      → start_of sentinels z c ≡ sentinels + 1 + c * q + r
  start_high q r each zero le = let first = start_zero in omega arith
  start_high q r each (suc c) le = either_way (ltb c r)
      (λ at. let lt : c < r = ltb-true c r at in let was = start_low q r each (suc c) (omega arith) in omega arith)
      (λ above. let over : r ≤ c = ltb-false c r above in let was = start_high q r each c over in
      let next = start_no_more q r c (each c) over in
      let product : suc c * q ≡ c * q + q = suc-mul c q in omega arith)

  -- the shares make up all records
  pub start_total : IsWithin z → sentinels ≤ z.records → start_of sentinels z z.passes ≡ z.records + 1
  start_total within most = total_of ((z.records - sentinels) / z.passes) ((z.records - sentinels) % z.passes) (λ c. refl)
      (div-add-mod (z.records - sentinels) z.passes)
      (let some : 1 ≤ z.passes = within.some_passes in mod-lt (z.records - sentinels) (let real : 0 < z.passes = omega arith in real))
    where
      total_of : (q r : ℕ) → ((c : ℕ) → share_of sentinels z c ≡ q + cond (ltb c r) 1 0) → z.passes * q + r ≡ z.records - sentinels
          → r < z.passes
          → start_of sentinels z z.passes ≡ z.records + 1
      total_of q r each sum lt = let high = start_high q r each z.passes (omega arith) in
          let below : sentinels ≤ z.records = most in omega arith

  pub start_rises : (c d : ℕ) → c ≤ d → start_of sentinels z c ≤ start_of sentinels z d
  start_rises c zero le = let same : c ≡ 0 = omega arith in
      subst (λ (k : ℕ). start_of sentinels z k ≤ start_of sentinels z 0) (sym same) (omega arith)
  start_rises c (suc d) le = either_way (ltb d c)
      (λ at. let over : d < c = ltb-true d c at in let same : c ≡ suc d = omega arith in
      subst (λ (k : ℕ). start_of sentinels z k ≤ start_of sentinels z (suc d)) (sym same) (omega arith))
      (λ below. let under : c ≤ d = ltb-false d c below in let was = start_rises c d under in let next = start_next d in omega arith)

  -- the pass below c whose share has the number
  unfoldable pub owner : ℕ → ℕ → ℕ
  owner zero n = 0
  owner (suc p) n = cond (ltb n (start_of sentinels z p)) (owner p n) p

  owner_below : (p n : ℕ) → n < start_of sentinels z p → owner (suc p) n ≡ owner p n
  unfolding owner
  owner_below p n lt = ap (λ (b : Bool). cond b (owner p n) p) (lt-ltb n (start_of sentinels z p) lt)

  owner_here : (p n : ℕ) → start_of sentinels z p ≤ n → owner (suc p) n ≡ p
  unfolding owner
  owner_here p n le = ap (λ (b : Bool). cond b (owner p n) p) (le-ltb n (start_of sentinels z p) le)

  pub owner_is : (c p n : ℕ) → p < c → start_of sentinels z p ≤ n → n < start_of sentinels z (suc p) → owner c n ≡ p
  owner_is zero p n lt least most = absurd (omega arith)
  owner_is (suc c) p n lt least most = either_way (ltb p c)
      (λ under. let below : p < c = ltb-true p c under in
      let rises : start_of sentinels z (suc p) ≤ start_of sentinels z c = start_rises (suc p) c (omega arith) in
      owner_below c n (omega arith) ∙ owner_is c p n below least most)
      (λ at. let over : c ≤ p = ltb-false p c at in let same : p ≡ c = omega arith in
      owner_here c n (subst (λ (k : ℕ). start_of sentinels z k ≤ n) same least) ∙ sym same)

  pub owner_in : (c n : ℕ) → start_of sentinels z 0 ≤ n → n < start_of sentinels z c
      → (owner c n < c) × (start_of sentinels z (owner c n) ≤ n) × (n < start_of sentinels z (suc (owner c n)))
  owner_in zero n least most = absurd (omega arith)
  owner_in (suc c) n least most = either_way (ltb n (start_of sentinels z c))
      (λ under. let below : n < start_of sentinels z c = ltb-true n (start_of sentinels z c) under in
      let was = owner_in c n least below in
      let low : owner c n < c = was.0 in
      subst (λ (p : ℕ). (p < suc c) × (start_of sentinels z p ≤ n) × (n < start_of sentinels z (suc p))) (sym (owner_below c n below))
      (omega arith, was.1, was.2))
      (λ at. let over : start_of sentinels z c ≤ n = ltb-false n (start_of sentinels z c) at in
      subst (λ (p : ℕ). (p < suc c) × (start_of sentinels z p ≤ n) × (n < start_of sentinels z (suc p))) (sym (owner_here c n over))
      (omega arith, over, most))
