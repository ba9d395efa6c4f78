-- The record of an insert that was taken.
use Rattle.std.proofs.Common.{◌≡◌, ℕ, ◌≤◌, List, [], ◌∷◌, length, Option, Some, None, IfSome}
use Rattle.std.proofs.Common.{IfNone, refl, sym, ap, subst, arith}
use Rattle.std.proofs.Common.{length-append}
use Rattle.pp_link.specs.declared.layout.Sizes.{Sizes}
use Rattle.pp_pool.specs.declared.fresh.Fresh.{Fresh}
use Rattle.pp_pool.specs.Taken.{IsPrivate, Took}
use Rattle.pp_base.specs.declared.purse.Purse.{Purse}
use Rattle.pp_lists.specs.Turns.{ListView}
use Rattle.pp_purse.specs.Purses.{FindsFree}
use Rattle.pp_purse.specs.Steps.{PurseSteps}
use Rattle.pp_purse.proofs.Stretches.{none_made}
use Rattle.pp_list.specs.Purses.{HasOut, TakesOne, TakesNone}

-- it was out already
pub took_already : (z : Sizes) (f : Fresh) (v : ListView) (p : Purse) → HasOut v.known p (Some f) → TakesOne z (Some f) f v v p p
took_already z f v p out = record { names = []; steps = none_made z v v refl; out = out; kept = omega arith }

-- it was found and taken
pub took_found : (z : Sizes) (f : Fresh) (v w u : ListView) (p r p' : Purse) → FindsFree z 1 v w p r → u ≡ w → p.taken ≡ 0
    → Took f.number r p' → IsPrivate u.known p' f.number → TakesOne z None f v u p p'
took_found z f v w u p r p' finds same none took private = record {
  names = finds.names;
  steps = subst (λ (x : ListView). PurseSteps z finds.names v x) (sym same) finds.steps;
  out = (private, let t = took.taken in let s = finds.lists.taken in omega arith);
  kept = let b = ap (λ (l : List ℕ). length l) finds.begins.1 in let s = length-append p.free.items finds.begins.0 in
      let t = ap (λ (l : List ℕ). length l) took.free in let x = length-append p'.free.items (f.number ∷ []) in omega arith;
}

-- what comes of a take from a free list that isn't empty
module _ (z : Sizes) (had : Option Fresh) (v w u : ListView) (p r p' : Purse) (had_none : had ≡ None) (finds : FindsFree z 1 v w p r)
    (same : u ≡ w) (none : p.taken ≡ 0) (some_free : 1 ≤ length r.free.items) where
  pub take_some : (result : Option Fresh) → IfSome result (λ f. Took f.number r p') → IfSome result (λ f. IsPrivate u.known p' f.number)
      → IfSome result (λ f. TakesOne z had f v u p p')
  take_some None took private = tt
  take_some (Some f) took private = subst (λ (h : Option Fresh). TakesOne z h f v u p p') (sym had_none)
      (took_found z f v w u p r p' finds same none took private)

  pub take_none : (result : Option Fresh) → IfNone result ((r.free.items ≡ []) × (p' ≡ r)) → IfNone result (TakesNone z had v u p p')
  take_none None is = let long = ap (λ (l : List ℕ). length l) is.0 in absurd (omega arith)
  take_none (Some f) is = tt

  pub take_spent : (result : Option Fresh) → IfSome result (λ f. Took f.number r p') → IfNone result ((r.free.items ≡ []) × (p' ≡ r))
      → p'.spent ≡ r.spent
  take_spent None took is = ap (λ (x : Purse). x.spent) is.1
  take_spent (Some f) took is = took.spent
