-- What can be reached is attached.
use Rattle.std.proofs.Common.{◌≡◌, ℕ, ◌+◌, ◌≤◌, List, ⊎_elim, subst, arith}
use Rattle.pp_link.specs.declared.layout.Sizes.{Sizes}
use Rattle.pp_link.specs.Links.{target}
use Rattle.pp_link.specs.Places.{IsNumber}
use Rattle.pp_link.specs.Words.{head_word, cell_word}
use Rattle.pp_rule.specs.States.{RecordState, attached, PoolState, Leads}
use Rattle.pp_rule.specs.Rule.{Base}
use Rattle.pp_rule.specs.Reached.{Reached}
use Rattle.pp_rule.specs.Reached.Reached.{by_head, by_link}

-- where a link leads that leads to a record
led : (z : Sizes) (status : ℕ → RecordState) (w n : ℕ) → Leads z status w → target w ≡ n → IsNumber z n → status n ≡ attached
led z status w n l to number = ⊎_elim
    (λ (nil : target w ≡ 0). let some_is : 1 ≤ n = number.0 in absurd (omega arith))
    (λ (t : IsNumber z (target w) × (status (target w) ≡ attached)). subst (λ (k : ℕ). status k ≡ attached) to t.1) l.to

module _ {E A W : Type 0} (sides : ℕ) (z : Sizes) (words : List ℕ) (g : PoolState E A W) (b : Base sides z words g) where
  pub reached_attached : (n : ℕ) → IsNumber z n → Reached sides z words n → g.status n ≡ attached
  reached_attached n number (by_head h low to) = led z g.status (head_word words z h) n (b.links.heads h low) to number
  reached_attached n number (by_link m side is low to r) = led z g.status (cell_word words z m (2 + side)) n
      (b.links.linked m side is low (reached_attached m is r)) to number
