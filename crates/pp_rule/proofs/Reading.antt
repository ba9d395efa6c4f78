-- Lost turns are counted step by step.
use Rattle.std.proofs.Common.{◌≡◌, ◌+◌, ◌≤◌, Bool, true, false, cond, List, [], ◌∷◌, ◌++◌, arith}
use Rattle.pp_model.specs.declared.steps.Step.{Step}
use Rattle.pp_model.specs.Pass.{MapSizes}
use Rattle.pp_rule.specs.Causes.{Reader, memory_after, lost_from, early_from}

module _ {C : Type 0} (r : Reader C) (z : MapSizes) (call : C) where
  -- the lost turns of further steps come on top
  pub lost_more : (m : r.Memory) (xs ys : List Step)
      → lost_from r z call m (xs ++ ys) ≡ lost_from r z call m xs + lost_from r z call (memory_after r z call m xs) ys
  unfolding lost_from memory_after
  lost_more m [] ys = omega arith
  lost_more m (s ∷ xs) ys = let ih = lost_more (r.next z call m s) xs ys in omega (arith, ih)

  -- no more were lost early than in all
  pub early_most : (m : r.Memory) (steps : List Step) → early_from r z call m steps ≤ lost_from r z call m steps
  unfolding lost_from early_from
  early_most m [] = omega arith
  early_most m (s ∷ steps) = by (r.strikes z call m s) (early_most (r.next z call m s) steps)
    where
      by : (b : Bool) → early_from r z call (r.next z call m s) steps ≤ lost_from r z call (r.next z call m s) steps
          → cond b 0 (cond (r.loses z call m s) 1 0 + early_from r z call (r.next z call m s) steps)
          ≤ cond (r.loses z call m s) 1 0 + lost_from r z call (r.next z call m s) steps
      by true ih = omega arith
      by false ih = omega (arith, ih)
