-- The live numbers of a closed pool and the numbers that are spare make up all records, each once.
use Rattle.std.proofs.Common.{◌≡◌, ◌≢◌, ◌⊎◌, ℕ, zero, suc, ◌+◌, ◌<◌, ◌≤◌, Bool, cond, List, [], ◌∷◌, refl, ap, ◌∙◌, inl, inr}
use Rattle.std.proofs.Common.{⊎_elim, arith, eq-eqb, ne_eqb}
use Rattle.std.proofs.Math.Decide.{ℕ_discrete}
use mathlib.Core.Logic.{dite}
use Rattle.pp_link.specs.declared.layout.Sizes.{Sizes}
use Rattle.pp_rule.specs.Lists.{times}
use Rattle.pp_rule.specs.Closing.{spare, Gathers}

pub times_here : (m x : ℕ) (xs : List ℕ) → x ≡ m → times m (x ∷ xs) ≡ suc (times m xs)
unfolding times
times_here m x xs e = ap (λ (b : Bool). cond b (suc (times m xs)) (times m xs)) (eq-eqb x m e)

pub times_else : (m x : ℕ) (xs : List ℕ) → x ≢ m → times m (x ∷ xs) ≡ times m xs
unfolding times
times_else m x xs ne = ap (λ (b : Bool). cond b (suc (times m xs)) (times m xs)) (ne_eqb x m ne)

pub times_nil : (m : ℕ) → times m [] ≡ 0
unfolding times
times_nil m = refl

-- what is out of a range is out of a smaller one
outside : (low n m : ℕ) → (m < low) ⊎ (low + suc n ≤ m) → (m < low + 1) ⊎ (low + 1 + n ≤ m)
outside low n m out = ⊎_elim (λ (under : m < low). inl (omega arith)) (λ (over : low + suc n ≤ m). inr (omega arith)) out

after : (low n m : ℕ) → low ≡ m → (m < low + 1) ⊎ (low + 1 + n ≤ m)
after low n m same = inl (omega arith)

before : (n r : ℕ) → n ≡ 0 → (n < 1) ⊎ (1 + r ≤ n)
before n r nil = inl (omega arith)

beyond : (n r : ℕ) → r < n → (n < 1) ⊎ (1 + r ≤ n)
beyond n r high = inr (omega arith)

module _ (live : List ℕ) where
  pub spare_none : (low : ℕ) → spare live low 0 ≡ []
  unfolding spare
  spare_none low = refl

  pub spare_free : (low n : ℕ) → times low live ≡ 0 → spare live low (suc n) ≡ low ∷ spare live (low + 1) n
  unfolding spare
  spare_free low n e = ap (λ (b : Bool). cond b (low ∷ spare live (low + 1) n) (spare live (low + 1) n)) (eq-eqb (times low live) 0 e)

  pub spare_live : (low n : ℕ) → times low live ≢ 0 → spare live low (suc n) ≡ spare live (low + 1) n
  unfolding spare
  spare_live low n ne = ap (λ (b : Bool). cond b (low ∷ spare live (low + 1) n) (spare live (low + 1) n)) (ne_eqb (times low live) 0 ne)

  -- no number out of the range is spare
  times_outside : (low n m : ℕ) → (m < low) ⊎ (low + n ≤ m) → times m (spare live low n) ≡ 0
  times_outside low zero m out = ap (times m) (spare_none low) ∙ times_nil m
  times_outside low (suc n) m out =
      let other : low ≢ m = λ same. ⊎_elim (λ (under : m < low). absurd (omega arith)) (λ (over : low + suc n ≤ m). absurd
      (omega arith)) out in
      let rest : times m (spare live (low + 1) n) ≡ 0 = times_outside (low + 1) n m (outside low n m out) in
      dite (ℕ_discrete (times low live) 0)
      (λ free. ap (times m) (spare_free low n free) ∙ (times_else m low (spare live (low + 1) n) other ∙ rest))
      (λ used. ap (times m) (spare_live low n used) ∙ rest)

  -- a number that isn't live is spare once, and a live one never
  pub times_inside : (low n m : ℕ) → low ≤ m → m < low + n → times m live ≡ 0 → times m (spare live low n) ≡ 1
  times_inside low zero m least most none = absurd (omega arith)
  times_inside low (suc n) m least most none = dite (ℕ_discrete low m)
      (λ same. ap (times m) (spare_free low n (ap (λ (k : ℕ). times k live) same ∙ none))
      ∙ (times_here m low (spare live (low + 1) n) same ∙ ap suc (times_outside (low + 1) n m (after low n m same))))
      (λ other. let rest : times m (spare live (low + 1) n) ≡ 1 = times_inside (low + 1) n m (omega arith) (omega arith) none in
      dite (ℕ_discrete (times low live) 0)
      (λ free. ap (times m) (spare_free low n free) ∙ (times_else m low (spare live (low + 1) n) other ∙ rest))
      (λ used. ap (times m) (spare_live low n used) ∙ rest))

  times_live : (low n m : ℕ) → times m live ≢ 0 → times m (spare live low n) ≡ 0
  times_live low zero m some = ap (times m) (spare_none low) ∙ times_nil m
  times_live low (suc n) m some =
      let rest : times m (spare live (low + 1) n) ≡ 0 = times_live (low + 1) n m some in
      dite (ℕ_discrete (times low live) 0)
      (λ free. ap (times m) (spare_free low n free) ∙ (times_else m low (spare live (low + 1) n)
      (λ same. some (ap (λ (k : ℕ). times k live) (let back : m ≡ low = omega arith in back) ∙ free)) ∙ rest))
      (λ used. ap (times m) (spare_live low n used) ∙ rest)

  -- each record is live or spare, once
  pub each_once : (z : Sizes) → Gathers z live → (n : ℕ) → 1 ≤ n → n ≤ z.records → times n live + times n (spare live 1 z.records) ≡ 1
  each_once z g n one most = dite (ℕ_discrete (times n live) 0)
      (λ none. let free = times_inside 1 z.records n one (omega arith) none in omega arith)
      (λ some. let none = times_live 1 z.records n some in let once = g.once n in omega arith)

  pub none_else : (z : Sizes) → Gathers z live → (n : ℕ) → (n ≡ 0) ⊎ (z.records < n) → times n live + times n (spare live 1 z.records) ≡ 0
  none_else z g n out = ⊎_elim
      (λ (nil : n ≡ 0). let spares = times_outside 1 z.records n (before n z.records nil) in
      let lives : times n live ≡ 0 = ap (λ (k : ℕ). times k live) nil ∙ g.low in omega arith)
      (λ (high : z.records < n). let spares = times_outside 1 z.records n (beyond n z.records high) in
      let lives : times n live ≡ 0 = g.high n high in omega arith) out
