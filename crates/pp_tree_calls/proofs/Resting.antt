-- A pass on which no call is going any more.
use Rattle.std.proofs.Common.{◌≡◌, ℕ, zero, ◌+◌, ◌≤◌, Bool, true, false, List, [], ◌∷◌, length, map, refl}
use Rattle.std.proofs.Common.{sym, ap, ◌∙◌, subst, arith}
use Rattle.std.proofs.Common.{Some, ◌++◌, ◌⊎◌, min}
use Rattle.std.specs.Prelude.{replicate, nat_eq, ◌||◌}
use Rattle.pp_link.specs.declared.layout.Sizes.{Sizes}
use Rattle.pp_pool.specs.declared.fresh.Fresh.{Fresh}
use Rattle.pp_pool.specs.Taken.{IsPrivate, GaveBack}
use Rattle.pp_pool.proofs.Taking.{private_gave}
use Rattle.pp_rule.specs.declared.views.Chain.{Chain}
use Rattle.pp_rule.specs.Orders.{clear_step, write_step}
use Rattle.pp_base.specs.declared.purse.Purse.{Purse}
use Rattle.pp_base.specs.Passes.{named_of, IsAtRest}
use Rattle.pp_purse.specs.Steps.{is_purse_step}
use Rattle.pp_seek.specs.Trails.{SameRest, Clears}
use Rattle.pp_seek.specs.Seeking.{AllEmpty}
use Rattle.pp_trees.specs.Searches.{TreePass}
use Rattle.pp_trees.specs.Edges.{TreeView}
use Rattle.pp_calls.specs.Steps.{SamePurse}
use Rattle.pp_purse.proofs.Stretches.{shelves_purse}
use Rattle.pp_rule.specs.Causes.{FoundTaken}
use Rattle.pp_rule.specs.Lists.{BeginsWith}
use Rattle.pp_shelf.specs.Runs.{map_sizes, steps_made, MadeAtShelves}
use Rattle.pp_shelf.specs.Shelves.{MovesFree}
use Rattle.pp_turns.specs.Causes.{Aside}
use Rattle.pp_turns.proofs.Aside.{aside_made}
use Rattle.pp_turns.proofs.Resting.{rest_by, names_none}
use Rattle.pp_turns.specs.Purses.{GaveBackOut}
use Rattle.pp_tree_calls.specs.Purses.{HasOut, PutsAway, out_of}

pub rest_kept : (q q' : TreePass) (p p' : Purse) → SameRest q q' → p'.spent ≡ p.spent → IsAtRest q p → IsAtRest q' p'
rest_kept q q' p p' same spent r = rest_by q q' p p' same.scan same.frontier same.chains spent r

pub walk_zero : (q : TreePass) (walk : List ℕ) → length q.walk ≡ 5 → map named_of q.walk ≡ walk → AllEmpty q → walk ≡ replicate 5 zero
walk_zero q walk five is empty = names_none q walk five is (λ j lt. (empty j lt).named)

plus_one : (xs : List ℕ) (n : ℕ) → length (xs ++ n ∷ []) ≡ length xs + 1
plus_one [] n = refl
plus_one (x ∷ xs) n = let ih = plus_one xs n in omega arith

pub gave_both : (f : Fresh × Fresh) (p q p' : Purse) → p.taken ≡ 2 → GaveBack f.0.number p q → GaveBack f.1.number q p'
    → GaveBackOut (out_of (Some f)) p p'
gave_both f p q p' two a b = record {
  taken = let t = a.taken in let u = b.taken in omega arith;
  long = let x = ap (λ (l : List ℕ). length l) a.free ∙ plus_one p.free.items f.0.number in
      let y = ap (λ (l : List ℕ). length l) b.free ∙ plus_one q.free.items f.1.number in omega arith;
  going = b.going ∙ a.going;
  spent = b.spent ∙ a.spent;
}

-- the second record is private still as the first one is back
pub second_private : (q q' : TreePass) (f : Fresh × Fresh) (p p' : Purse) → q' ≡ q → GaveBack f.0.number p p' → HasOut q p (Some f)
    → IsPrivate q' p' f.1.number
second_private q q' f p p' same gave out = subst (λ (x : TreePass). IsPrivate x p' f.1.number) (sym same)
    (private_gave q f.0.number p p' f.1.number out.2 gave out.1)

-- clears of walk words
pub or_clear : (b : Bool) (k : ℕ) → k ≡ clear_step → b || (nat_eq k clear_step || nat_eq k write_step) ≡ true
or_clear true k is = refl
or_clear false k is = ap (λ (n : ℕ). nat_eq n clear_step || nat_eq n write_step) is

pub aside_clears : (z : Sizes) (v w : TreeView) → Clears v w → Aside z v w
aside_clears z v w c = aside_made z c.trail.steps v w c.trail.did (λ s i. or_clear (is_purse_step z s) s.kind (c.each s i))

pub same_purse : (v w : TreeView) → SameRest v.known w.known → SamePurse v w
same_purse v w s = record { sizes = s.sizes; retired = s.retired_are; chains = ap (λ (l : List Chain). length l) s.chains }

-- Walk words were cleared, and free numbers put on shelves.
pub puts_away : (z : Sizes) (share : ℕ) (v u w : TreeView) (p q r p' : Purse) → Clears v u → q ≡ p → MadeAtShelves z u w
    → MovesFree u.known w.known q r → (length r.free.items ≤ share) ⊎ FoundTaken (map_sizes z) (steps_made u w)
    → BeginsWith q.free.items r.free.items → min share (length q.free.items) ≤ length r.free.items → p'.free ≡ r.free
    → PutsAway z share v w p p'
puts_away z share v u w p q r p' clears same made only shared begins kept free =
    subst (λ (x : Purse). PutsAway z share v w x p') same record {
      between = u;
      clears = clears;
      names = made.steps;
      steps = shelves_purse z u w q r made only;
      retired_are = ap (λ (x : TreePass). x.retired) only.known ∙ clears.trail.rest.retired_are;
      shared = subst (λ (f : List ℕ). (length f ≤ share) ⊎ FoundTaken (map_sizes z) (steps_made u w)) (sym items) shared;
      begins = subst (BeginsWith q.free.items) (sym items) begins;
      kept = subst (λ (f : List ℕ). min share (length q.free.items) ≤ length f) (sym items) kept;
    }
  where
    items : p'.free.items ≡ r.free.items
    items = ap (λ f. f.items) free
