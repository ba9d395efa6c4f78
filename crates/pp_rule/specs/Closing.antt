-- The end of a pool: what is known of it where one seat stands for all passes, and its numbers.
use Rattle.std.specs.Prelude.{◌≡◌, ℕ, zero, suc, ◌+◌, ◌<◌, ◌≤◌, cond, nat_eq, List, [], ◌∷◌}
use Rattle.pp_link.specs.declared.layout.Sizes.{Sizes}
use Rattle.pp_rule.specs.Lists.{IsIn, BeginsWith, times}
use Rattle.pp_rule.specs.Orders.{LoggedStep, made_by}
use Rattle.pp_rule.specs.Views.{PassState, JoinedOrder, SeatView, all_of}
use Rattle.pp_rule.specs.States.{PoolState}
use Rattle.pp_rule.specs.Rule.{Base}
use Rattle.pp_rule.specs.Ties.{Runs}

-- the first n numbers from low on, but for those that the list has
unfoldable pub spare : List ℕ → ℕ → ℕ → List ℕ
spare live low zero = []
spare live low (suc n) = cond (nat_eq (times low live) 0) (low ∷ spare live (low + 1) n) (spare live (low + 1) n)

-- the live numbers are record numbers, each once
pub record Gathers (z : Sizes) (live : List ℕ) : Type 0 where
  pub once : (n : ℕ) → times n live ≤ 1
  pub low : times 0 live ≡ 0
  pub high : (n : ℕ) → z.records < n → times n live ≡ 0

-- The words of a table, and the view of a seat that stands for all passes. Its order is that of all steps, which leaves these
-- words, and each order that was kept at a join begins it and has all steps of its pass.
pub record IsEnd {E A W : Type 0} (sides : ℕ) (opens : Sizes → List ℕ) (addition : Sizes → List ℕ → PoolState E A W → Type 0) (z : Sizes)
    (v : SeatView E A W) (words : List ℕ) : Type 0 where
  pub pool : PoolState E A W
  pub base : Base sides z words pool
  pub added : addition z words pool
  pub order : pool.order ≡ v.order
  pub of : (q : PassState W) → IsIn q (all_of v) → pool.of q.number ≡ q
  pub run : Runs (opens z) words v.order
  pub made : (s : LoggedStep E A) → IsIn s v.order → s.entry.pass < z.passes
  pub kept : (o : JoinedOrder E A) → IsIn o v.kept → BeginsWith v.order o.order × (made_by o.pass o.order ≡ made_by o.pass v.order)
