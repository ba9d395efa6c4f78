-- A pass on which no call is going any more.
use Rattle.std.proofs.Common.{◌≡◌, ℕ, zero, ◌+◌, List, [], ◌∷◌, ◌++◌, length, map, Some, refl, ap, ◌∙◌, arith}
use Rattle.std.specs.Prelude.{replicate}
use Rattle.pp_pool.specs.declared.fresh.Fresh.{Fresh}
use Rattle.pp_pool.specs.Taken.{GaveBack}
use Rattle.pp_base.specs.declared.purse.Purse.{Purse}
use Rattle.pp_base.specs.Passes.{named_of, IsAtRest}
use Rattle.pp_lists.specs.Lists.{ListPass}
use Rattle.pp_turns.specs.Purses.{GaveBackOut}
use Rattle.pp_turns.proofs.Resting.{rest_by, names_none}
use Rattle.pp_walk.specs.Words.{AllEmpty, SameRest}
use Rattle.pp_list.specs.Purses.{out_of}

pub rest_kept : (q q' : ListPass) (p p' : Purse) → SameRest q q' → p'.spent ≡ p.spent → IsAtRest q p → IsAtRest q' p'
rest_kept q q' p p' same spent r = rest_by q q' p p' same.scan same.frontier same.chains spent r

pub walk_zero : (q : ListPass) (walk : List ℕ) → length q.walk ≡ 5 → map named_of q.walk ≡ walk → AllEmpty q → walk ≡ replicate 5 zero
walk_zero q walk five is empty = names_none q walk five is (λ j lt. (empty j lt).named)

pub gave_back : (f : Fresh) (p p' : Purse) → p.taken ≡ 1 → GaveBack f.number p p' → GaveBackOut (out_of (Some f)) p p'
gave_back f p p' one g = record {
  taken = let t = g.taken in omega arith;
  long = ap (λ (l : List ℕ). length l) g.free ∙ plus_one p.free.items;
  going = g.going;
  spent = g.spent;
}
  where
    plus_one : (xs : List ℕ) → length (xs ++ f.number ∷ []) ≡ length xs + 1
    plus_one [] = refl
    plus_one (x ∷ xs) = let ih = plus_one xs in omega arith
