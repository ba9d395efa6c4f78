-- What a walk answers at one record, and what stands under it.
use Rattle.std.proofs.Common.{◌≡◌, ◌≢◌, ◌⊎◌, ℕ, ◌<◌, ◌≤◌, Bool, true, false, cond, nat_eq, Option, Some, None}
use Rattle.std.proofs.Common.{refl, ap, ◌∙◌, arith, eq-eqb, ne_eqb}
use Rattle.std.proofs.lemmas.Grind.{common_steps}
use Rattle.pp_link.specs.Links.{flag_bit}
use Rattle.pp_lists.specs.Walks.{Heap, answer, Finds}
use Rattle.pp_lists.specs.Walks.Finds.{ends, here, on}

pub less_or : (a b : ℕ) → (a < b) ⊎ (b ≤ a)
less_or a b = grind (arith, common_steps)

abbrev nothing : Option ℕ
nothing = None

pub answer_other : (t : Heap) (k n : ℕ) → t.key n ≢ k → answer t k n ≡ None
answer_other t k n ne = ap (λ (b : Bool). cond b (cond (nat_eq (flag_bit (t.link n)) 0) (Some (t.value n)) None) None)
    (ne_eqb (t.key n) k ne)

pub answer_flagged : (t : Heap) (k n : ℕ) → flag_bit (t.link n) ≡ 1 → answer t k n ≡ None
answer_flagged t k n f = ap (λ (b : Bool). cond (nat_eq (t.key n) k) (cond b (Some (t.value n)) None) None)
    (ne_eqb (flag_bit (t.link n)) 0 (λ e. omega arith)) ∙ idle (nat_eq (t.key n) k)
  where
    idle : (b : Bool) → cond b nothing nothing ≡ nothing
    idle true = refl
    idle false = refl

pub answer_here : (t : Heap) (k n : ℕ) → t.key n ≡ k → flag_bit (t.link n) ≡ 0 → answer t k n ≡ Some (t.value n)
answer_here t k n same f = ap (λ (b : Bool). cond b (cond (nat_eq (flag_bit (t.link n)) 0) (Some (t.value n)) None) None)
    (eq-eqb (t.key n) k same)
    ∙ ap (λ (b : Bool). cond b (Some (t.value n)) None) (eq-eqb (flag_bit (t.link n)) 0 f)

pub answer_same : (t t' : Heap) (k n : ℕ) → t'.key n ≡ t.key n → t'.value n ≡ t.value n
    → flag_bit (t'.link n) ≡ flag_bit (t.link n) → answer t' k n ≡ answer t k n
answer_same t t' k n key value flag = ap (λ (x : ℕ). cond (nat_eq x k)
    (cond (nat_eq (flag_bit (t'.link n)) 0) (Some (t'.value n)) None) None) key
    ∙ ap (λ (x : ℕ). cond (nat_eq (t.key n) k) (cond (nat_eq (flag_bit (t'.link n)) 0) (Some x) None) None) value
    ∙ ap (λ (x : ℕ). cond (nat_eq (t.key n) k) (cond (nat_eq x 0) (Some (t.value n)) None) None) flag

-- a walk that comes to a greater key finds none
pub past_none : (t : Heap) (k n : ℕ) (a : Option ℕ) → (n ≢ 0 → k < t.key n) → Finds t k a n → a ≡ None
past_none t k n a past (ends e none) = none
past_none t k n a past (here ne valid le is) = is ∙ answer_other t k n (λ same. let lt = past ne in omega arith)
past_none t k n a past (on ne valid lt rest) = absurd (let gt = past ne in omega arith)
