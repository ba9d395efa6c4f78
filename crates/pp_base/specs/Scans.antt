-- The loads of a reclaim pass, said of its seat before and after them.
use Rattle.std.specs.Prelude.{◌≡◌, ℕ, ◌-◌, ◌≤◌, Bool, cond, nat_eq, List, [], ◌∷◌, ◌++◌, vec_capacity}
use Rattle.std.specs.List.{list_any}
use Rattle.atomic_table.specs.declared.shared.Seat.{Seat}
use Rattle.pp_link.specs.declared.layout.Sizes.{Sizes}
use Rattle.pp_link.specs.Places.{walk_place, frontier_place}
use Rattle.pp_rule.specs.declared.views.SeatView.{SeatView}
use Rattle.pp_rule.specs.Orders.{scan_frontier_step, scan_walk_step}
use Rattle.pp_rule.specs.Steps.{MadeQuietStep, Reclaimed, scanned}
use Rattle.pp_base.specs.declared.purse.Purse.{Purse}
use Rattle.pp_base.specs.Passes.{known, view}

module _ {E A W : Type 0} where
  -- the frontier word i of the pass p is loaded, and what it names is no longer left
  abbrev pub ScannedFrontier : Sizes → ℕ → ℕ → ℕ → Seat Unit (SeatView E A W) → Seat Unit (SeatView E A W) → Type 0
  ScannedFrontier z p i found s s' = MadeQuietStep scan_frontier_step (frontier_place z p i) found found (scanned found (known s))
      (view s) (view s')

  -- the walk word i of the pass p is loaded, and what it names is no longer left
  abbrev pub ScannedWalk : Sizes → ℕ → ℕ → ℕ → Seat Unit (SeatView E A W) → Seat Unit (SeatView E A W) → Type 0
  ScannedWalk z p i found s s' = MadeQuietStep scan_walk_step (walk_place z p i) found found (scanned found (known s)) (view s) (view s')

  -- the last walk word is loaded: what no hazard word named is free
  abbrev pub ScannedLast : Sizes → ℕ → Seat Unit (SeatView E A W) → Seat Unit (SeatView E A W) → Type 0
  ScannedLast z found s s' = Reclaimed found (walk_place z (z.passes - 1) 4) (view s) (view s')

-- these numbers came behind the free ones, and those stay retired; no memory is let go
pub record GotBack (freed stay : List ℕ) (p p' : Purse) : Type 0 where
  pub free : p'.free.items ≡ p.free.items ++ freed
  pub free_room : vec_capacity p.free ≤ vec_capacity p'.free
  pub retired : p'.retired.items ≡ stay
  pub retired_room : vec_capacity p'.retired ≡ vec_capacity p.retired
  pub spent : p'.spent ≡ p.spent
  pub chains : p'.chains ≡ p.chains
  pub frontier : p'.frontier ≡ p.frontier
  pub taken : p'.taken ≡ p.taken
  pub going : p'.going ≡ p.going

-- whether one of the words is the number
abbrev pub is_named : List ℕ → ℕ → Bool
is_named words n = list_any (λ w. nat_eq w n) words

-- the numbers of the list for which the test holds
unfoldable pub chosen : (ℕ → Bool) → List ℕ → List ℕ
chosen test [] = []
chosen test (n ∷ ns) = cond (test n) (n ∷ chosen test ns) (chosen test ns)

-- the others
unfoldable pub rejected : (ℕ → Bool) → List ℕ → List ℕ
rejected test [] = []
rejected test (n ∷ ns) = cond (test n) (rejected test ns) (n ∷ rejected test ns)
