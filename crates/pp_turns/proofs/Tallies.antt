-- What a tally of a call's steps tells is what its reader counts.
use Rattle.std.proofs.Common.{◌≡◌, ℕ, ◌+◌, Bool, true, false, cond, List, [], ◌∷◌, ◌++◌, refl, sym, ap, ◌∙◌, append_assoc, append-nil}
use Rattle.std.proofs.Common.{arith}
use Rattle.pp_model.specs.declared.steps.Step.{Step}
use Rattle.pp_model.specs.Pass.{MapSizes}
use Rattle.pp_rule.specs.Causes.{Reader, memory_after, lost_from, early_from, after_effect}
use Rattle.pp_turns.specs.Tallies.{Tally, losing, effected, lost_of, early_of, later_of, lost_at, counting, tally, StrikesNone}

module _ {C : Type 0} (r : Reader C) (z : MapSizes) (call : C) where
  pub tally_append : (t : Tally r.Memory) (xs ys : List Step) → tally r z call t (xs ++ ys) ≡ tally r z call (tally r z call t xs) ys
  unfolding tally
  tally_append t [] ys = refl
  tally_append t (x ∷ xs) ys = tally_append (counting r z call t x) xs ys

  pub tally_none : (t : Tally r.Memory) → tally r z call t [] ≡ t
  unfolding tally
  tally_none t = refl

  pub tally_one : (t : Tally r.Memory) (s : Step) → tally r z call t (s ∷ []) ≡ counting r z call t s
  unfolding tally
  tally_one t s = refl

  -- steps at which the call doesn't take effect
  pub tally_quiet : (m : r.Memory) (n : ℕ) (steps : List Step) → StrikesNone r z call m steps → tally r z call (losing m n) steps
      ≡ losing (memory_after r z call m steps) (n + lost_from r z call m steps)
  unfolding tally memory_after lost_from
  tally_quiet m n [] none = let e : n ≡ n + 0 = omega arith in ap (losing m) e
  tally_quiet m n (s ∷ steps) none = let m' : r.Memory = r.next z call m s in let n' : ℕ = lost_at r z call m s n in
      let sum : n' + lost_from r z call m' steps ≡ n + (cond (r.loses z call m s) 1 0 + lost_from r z call m' steps) = omega arith in
      ap (λ (b : Bool). tally r z call (cond b (effected m' n' n []) (losing m' n')) steps) none.0
      ∙ (tally_quiet m' n' steps none.1 ∙ ap (losing (memory_after r z call m' steps)) sum)

  -- steps after it took effect
  pub tally_later : (m : r.Memory) (n early : ℕ) (later steps : List Step) → tally r z call (effected m n early later) steps
      ≡ effected (memory_after r z call m steps) (n + lost_from r z call m steps) early (later ++ steps)
  unfolding tally memory_after lost_from
  tally_later m n early later [] = let e : n ≡ n + 0 = omega arith in ap (λ (k : ℕ). effected m k early later) e
      ∙ ap (effected m (n + 0) early) (sym (append-nil later))
  tally_later m n early later (s ∷ steps) = let m' : r.Memory = r.next z call m s in let n' : ℕ = lost_at r z call m s n in
      let sum : n' + lost_from r z call m' steps ≡ n + (cond (r.loses z call m s) 1 0 + lost_from r z call m' steps) = omega arith in
      tally_later m' n' early (later ++ s ∷ []) steps
      ∙ (ap (λ (k : ℕ). effected (memory_after r z call m' steps) k early ((later ++ s ∷ []) ++ steps)) sum
      ∙ ap (effected (memory_after r z call m' steps) (n + (cond (r.loses z call m s) 1 0 + lost_from r z call m' steps)) early)
      (append_assoc later (s ∷ []) steps))

  -- the lost turns of these steps
  pub lost_told : (m : r.Memory) (n : ℕ) (steps : List Step) → lost_of (tally r z call (losing m n) steps) ≡ n + lost_from r z call m steps
  unfolding tally lost_from
  lost_told m n [] = omega arith
  lost_told m n (s ∷ steps) = by (r.strikes z call m s) (lost_told m' n' steps)
    where
      m' : r.Memory
      m' = r.next z call m s

      n' : ℕ
      n' = lost_at r z call m s n

      rest : ℕ
      rest = lost_from r z call m' steps

      by : (b : Bool) → lost_of (tally r z call (losing m' n') steps) ≡ n' + rest
          → lost_of (tally r z call (cond b (effected m' n' n []) (losing m' n')) steps) ≡ n + (cond (r.loses z call m s) 1 0 + rest)
      by true ih = let e = ap lost_of (tally_later m' n' n [] steps) in omega arith
      by false ih = omega arith

  -- those before the call took effect
  pub early_told : (m : r.Memory) (n : ℕ) (steps : List Step)
      → early_of (tally r z call (losing m n) steps) ≡ n + early_from r z call m steps
  unfolding tally early_from
  early_told m n [] = omega arith
  early_told m n (s ∷ steps) = by (r.strikes z call m s) (early_told m' n' steps)
    where
      m' : r.Memory
      m' = r.next z call m s

      n' : ℕ
      n' = lost_at r z call m s n

      rest : ℕ
      rest = early_from r z call m' steps

      by : (b : Bool) → early_of (tally r z call (losing m' n') steps) ≡ n' + rest
          → early_of (tally r z call (cond b (effected m' n' n []) (losing m' n')) steps)
          ≡ n + cond b 0 (cond (r.loses z call m s) 1 0 + rest)
      by true ih = let e = ap early_of (tally_later m' n' n [] steps) in omega arith
      by false ih = omega arith

  -- the steps since it took effect
  pub later_told : (m : r.Memory) (n : ℕ) (steps : List Step) → later_of (tally r z call (losing m n) steps) ≡ after_effect r z call m steps
  unfolding tally after_effect
  later_told m n [] = refl
  later_told m n (s ∷ steps) = by (r.strikes z call m s) (later_told m' n' steps)
    where
      m' : r.Memory
      m' = r.next z call m s

      n' : ℕ
      n' = lost_at r z call m s n

      rest : List Step
      rest = after_effect r z call m' steps

      by : (b : Bool) → later_of (tally r z call (losing m' n') steps) ≡ rest
          → later_of (tally r z call (cond b (effected m' n' n []) (losing m' n')) steps) ≡ cond b steps rest
      by true ih = ap later_of (tally_later m' n' n [] steps)
      by false ih = ih
