-- The two records of an insert that were taken.
use Rattle.std.proofs.Common.{◌≡◌, ◌≢◌, ℕ, ◌≤◌, List, [], ◌∷◌, ◌++◌, length, Some, None, refl}
use Rattle.std.proofs.Common.{sym, ap, ◌∙◌}
use Rattle.std.proofs.Common.{subst, arith, length-append}
use Rattle.pp_link.specs.declared.layout.Sizes.{Sizes}
use Rattle.pp_pool.specs.declared.fresh.Fresh.{Fresh}
use Rattle.pp_pool.specs.Taken.{IsPrivate, Took}
use Rattle.pp_pool.proofs.Taking.{times_last, times_fewer}
use Rattle.pp_rule.specs.Lists.{OnceBy, times}
use Rattle.pp_rule.specs.Rule.{number_of}
use Rattle.pp_rule.proofs.Times.{times_once}
use Rattle.pp_base.specs.declared.purse.Purse.{Purse}
use Rattle.pp_trees.specs.Searches.{TreePass}
use Rattle.pp_trees.specs.Edges.{TreeView}
use Rattle.pp_purse.specs.Purses.{FindsFree, RanOut}
use Rattle.pp_purse.specs.Steps.{PurseSteps}
use Rattle.pp_purse.proofs.Stretches.{none_made}
use Rattle.pp_tree_calls.specs.Purses.{TwoRecords, HasOut, TakesTwo, TakesNone}

-- they were out already
pub took_already : (z : Sizes) (f : Fresh × Fresh) (v : TreeView) (p : Purse) → HasOut v.known p (Some f) → TakesTwo z (Some f) f v v p p
took_already z f v p out = record { names = []; steps = none_made z v v refl; out = out; kept = omega arith }

-- Two numbers that were taken, one after the other, are private and not the same.
module _ (q : TreePass) (r r1 p : Purse) (leaf inner : Fresh) (once : OnceBy number_of q.owned) (a : Took leaf.number r r1)
    (b : Took inner.number r1 p) (first : IsPrivate q r1 leaf.number) (second : IsPrivate q p inner.number) where
  first_still : IsPrivate q p leaf.number
  first_still = let more = times_fewer leaf.number inner.number p.free.items in
      let is = ap (times leaf.number) b.free in omega (arith, more, is, first)

  apart : leaf.number ≢ inner.number
  apart same = let one = times_once leaf.number q.owned once in let more = times_last leaf.number p.free.items in
      let is = ap (times leaf.number) (b.free ∙ ap (λ (n : ℕ). p.free.items ++ n ∷ []) (sym same)) in omega (arith, one, more, is, first)

  pub both_out : r.taken ≡ 0 → HasOut q p (Some (leaf, inner))
  both_out none = (first_still, second, apart, let x = a.taken in let y = b.taken in omega arith)

-- Enough were found, and two taken.
pub took_found : (z : Sizes) (had : TwoRecords) (v w u : TreeView) (p r r1 p' : Purse) (leaf inner : Fresh) → had ≡ None
    → FindsFree z 2 v w p r → u ≡ w → p.taken ≡ 0 → OnceBy number_of u.known.owned → Took leaf.number r r1 → Took inner.number r1 p'
    → IsPrivate u.known r1 leaf.number → IsPrivate u.known p' inner.number → TakesTwo z had (leaf, inner) v u p p'
took_found z had v w u p r r1 p' leaf inner had_none finds same none once a b first second =
    subst (λ (h : TwoRecords). TakesTwo z h (leaf, inner) v u p p') (sym had_none) record {
      names = finds.names;
      steps = subst (λ (x : TreeView). PurseSteps z finds.names v x) (sym same) finds.steps;
      out = both_out u.known r r1 p' leaf inner once a b first second (finds.lists.taken ∙ none);
      kept = let e = ap (λ (l : List ℕ). length l) finds.begins.1 in let s = length-append p.free.items finds.begins.0 in
          let t = ap (λ (l : List ℕ). length l) a.free in let x = length-append r1.free.items (leaf.number ∷ []) in
          let c = ap (λ (l : List ℕ). length l) b.free in let y = length-append p'.free.items (inner.number ∷ []) in omega arith;
    }

-- too few were found
pub found_few : (z : Sizes) (had : TwoRecords) (v w : TreeView) (p r : Purse) → had ≡ None → FindsFree z 2 v w p r → p.taken ≡ 0
    → RanOut z 2 v w p r → TakesNone z had v w p r
found_few z had v w p r had_none finds none ran_out = record {
  none = had_none;
  names = finds.names;
  steps = finds.steps;
  ran_out = ran_out;
  begins = finds.begins;
  taken = finds.lists.taken ∙ none;
}

-- a list with so many numbers isn't empty
pub not_empty : (xs : List ℕ) → 1 ≤ length xs → xs ≡ [] → ⊥
not_empty xs some none = let e = ap (λ (l : List ℕ). length l) none in omega arith

-- nor is it after one of two was taken
pub one_left : (r r1 : Purse) (n : ℕ) → 2 ≤ length r.free.items → Took n r r1 → 1 ≤ length r1.free.items
one_left r r1 n two a = let e = ap (λ (l : List ℕ). length l) a.free in let s = length-append r1.free.items (n ∷ []) in omega arith
