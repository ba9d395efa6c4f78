-- The loads of a reclaim pass: that the rule allows them, with what they tell, and that the pass agrees with its seat after them.
use Rattle.std.proofs.Common.{◌≡◌, ℕ, ◌+◌, ◌-◌, ◌*◌, ◌<◌, List, [], map, ap, ◌∙◌}
use Rattle.atomic_table.specs.Table.{Me, Allows}
use Rattle.atomic_table.specs.declared.shared.Seat.{Seat}
use Rattle.pp_link.specs.declared.layout.Sizes.{Sizes}
use Rattle.pp_link.specs.Places.{walk_place, frontier_place}
use Rattle.pp_rule.specs.declared.views.SeatView.{SeatView}
use Rattle.pp_rule.specs.Orders.{scan_frontier_step, scan_walk_step}
use Rattle.pp_rule.specs.States.{PoolState}
use Rattle.pp_rule.specs.Rule.{number_of}
use Rattle.pp_rule.specs.Ties.{Holds}
use Rattle.pp_rule.specs.Steps.{IsAlone, MadeQuietStep, scanned, Reclaimed}
use Rattle.pp_rule.specs.Laws.{KeptAlike}
use Rattle.pp_rule.proofs.Scanning.{scans_frontier, scans_walk}
use Rattle.pp_rule.proofs.Freeing.{frees_retired}
use Rattle.pp_base.specs.declared.purse.Purse.{Purse}
use Rattle.pp_base.specs.Passes.{known, named_of, IsPassOf, Keeping}
use Rattle.pp_base.proofs.Telling.{telling, made_alone}
use Rattle.pp_base.proofs.Steady.{keeping_steady}

module _ {E A W : Type 0} (sides : ℕ) (opens : Sizes → List ℕ) (addition : Sizes → List ℕ → PoolState E A W
    → Type 0) (z : Sizes) (slots id place : ℕ) (me : Me Unit (SeatView E A W)) where
  pub scans_frontier_on : KeptAlike sides addition → (p i : ℕ) → IsAlone me → p < z.passes → i < 4
      → me.0.known.scan.read ≡ 4 * p + i → place ≡ frontier_place z p i
      → Allows (Holds sides opens addition z) slots id me place (λ n. n)
      (λ n m'. ((m'.1 ≡ []) × MadeQuietStep scan_frontier_step place n n (scanned n me.0.known) me.0 m'.0) × IsPassOf z m'.0.known)
  scans_frontier_on alike p i lone low four next at = telling sides opens addition z slots id me place (λ n. n)
      (λ n m'. (m'.1 ≡ []) × MadeQuietStep scan_frontier_step place n n (scanned n me.0.known) me.0 m'.0)
      (scans_frontier sides opens addition alike z slots id place p i me lone low four next at) (λ _ m t. made_alone m t.0 t.1)

  pub scans_walk_on : KeptAlike sides addition → (p i : ℕ) → IsAlone me → p < z.passes → i < 5
      → me.0.known.scan.read ≡ 4 * z.passes + 5 * p + i → place ≡ walk_place z p i
      → Allows (Holds sides opens addition z) slots id me place (λ n. n)
      (λ n m'. ((m'.1 ≡ []) × MadeQuietStep scan_walk_step place n n (scanned n me.0.known) me.0 m'.0) × IsPassOf z m'.0.known)
  scans_walk_on alike p i lone low five next at = telling sides opens addition z slots id me place (λ n. n)
      (λ n m'. (m'.1 ≡ []) × MadeQuietStep scan_walk_step place n n (scanned n me.0.known) me.0 m'.0)
      (scans_walk sides opens addition alike z slots id place p i me lone low five next at) (λ _ m t. made_alone m t.0 t.1)

  pub frees_on : KeptAlike sides addition → IsAlone me → me.0.known.scan.read + 1 ≡ 9 * z.passes → place ≡ walk_place z (z.passes - 1) 4
      → Allows (Holds sides opens addition z) slots id me place (λ n. n) (λ n m'. ((m'.1 ≡ []) × Reclaimed n place me.0 m'.0)
      × IsPassOf z m'.0.known)
  frees_on alike lone full at = telling sides opens addition z slots id me place (λ n. n)
      (λ n m'. (m'.1 ≡ []) × Reclaimed n place me.0 m'.0)
      (frees_retired sides opens addition alike z slots id place me lone full at) (λ _ m t. made_alone m t.0 t.1.made)

module _ {E A W : Type 0} where
  -- its reclaim pass has read one more word
  pub keeping_scanned : (sentinels sides : ℕ) (s s' : Seat Unit (SeatView E A W)) (z : Sizes) (number share : ℕ) (walk : List ℕ) (p : Purse)
      (found : ℕ)
      → Keeping sentinels sides s number share walk p → IsAlone s'.me → IsPassOf z (known s') → known s' ≡ scanned found (known s)
      → Keeping sentinels sides s' number share walk p
  keeping_scanned sentinels sides s s' z number share walk p found k lone pass is =
      keeping_steady sentinels sides s s' z number share walk walk p k lone pass
      record {
        number = ap (λ q. q.number) is;
        sizes = ap (λ q. q.sizes) is;
        owned = ap (λ q. map number_of q.owned) is;
        retired_are = ap (λ q. q.retired) is;
        frontier = ap (λ q. q.frontier) is;
        chains = ap (λ q. q.chains) is;
      }
      (ap (λ q. map named_of q.walk) is ∙ k.walk_is)
