-- How chains in hand come to be retired.
use Rattle.std.specs.Prelude.{◌≡◌, ℕ, zero, suc, ◌+◌, ◌<◌, cond, nat_eq, ◌||◌, List, [], ◌∷◌, ◌++◌, map, length}
use Rattle.atomic_table.specs.declared.shared.Seat.{Seat}
use Rattle.pp_link.specs.declared.layout.Sizes.{Sizes}
use Rattle.pp_link.specs.Links.{target}
use Rattle.pp_link.specs.Places.{cell_place, frontier_place}
use Rattle.pp_rule.specs.Paths.{links_of}
use Rattle.pp_rule.specs.declared.views.ChainLink.{ChainLink}
use Rattle.pp_rule.specs.declared.views.PassState.{PassState}
use Rattle.pp_rule.specs.declared.views.SeatView.{SeatView}
use Rattle.pp_rule.specs.Steps.{retiring, with_chain}
use Rattle.pp_base.specs.declared.purse.InHand.{InHand}
use Rattle.pp_base.specs.declared.purse.Purse.{Purse}
use Rattle.pp_base.specs.Passes.{known, view, in_hand_of}
use Rattle.pp_base.specs.Chains.{chain_at, spent_numbers}
use Rattle.pp_base.specs.Named.{NamedStep, invalidates, retires, Made}

-- where the link of a chain led when it was detached
abbrev pub led_of : ChainLink → ℕ
led_of l = target l.word

-- the record to which a word leads, but for nil and the record x
abbrev pub leads_on : ℕ → ℕ → List ℕ
leads_on x n = cond (nat_eq n 0 || nat_eq n x) [] (n ∷ [])

-- the or-steps at these links, each by its record and its side, that found these words
unfoldable pub invalidations : Sizes → List (ℕ × ℕ) → List ℕ → List NamedStep
invalidations z [] words = []
invalidations z (l ∷ ls) [] = []
invalidations z (l ∷ ls) (w ∷ words) = invalidates (cell_place z l.0 (2 + l.1)) w ∷ invalidations z ls words

-- the free records of the purse and those that were taken are as they were
pub record SameFree (p p' : Purse) : Type 0 where
  pub free : p'.free ≡ p.free
  pub taken : p'.taken ≡ p.taken
  pub going : p'.going ≡ p.going

-- these numbers stand behind the retired ones
pub record SetsAside (ns : List ℕ) (p p' : Purse) : Type 0 where
  pub aside : p'.retired.items ≡ p.retired.items ++ ns
  pub free : SameFree p p'

-- what is kept of the oldest chain in hand
abbrev pub IsOldest : {W : Type 0} → PassState W → InHand → Type 0
IsOldest q h = (0 < length q.chains) × (h ≡ in_hand_of (chain_at q 0))

module _ {E A W : Type 0} where
  -- INVALID was set in each link of the oldest chain, in the order of its records, and each word found leads where the link led.
  -- Then the chain's frontier word was cleared, and its records are retired.
  pub record Invalidated (sides : ℕ) (z : Sizes) (before after : SeatView E A W) : Type 0 where
    pub words : List ℕ
    pub lead : map target words ≡ map led_of (chain_at before.known 0).links
    pub steps : Made (invalidations z (links_of sides (chain_at before.known 0).records) words
        ++ retires (frontier_place z before.known.number (chain_at before.known 0).guard) ∷ []) before after
    pub known : after.known ≡ retiring (chain_at before.known 0) before.known

  -- so many chains, the oldest first
  abbrev pub Flushed : ℕ → Sizes → ℕ → SeatView E A W → SeatView E A W → Type 0
  Flushed sides z zero before after = after ≡ before
  Flushed sides z (suc n) before after = (next : SeatView E A W) × (Invalidated sides z before next × Flushed sides z n next after)

  -- INVALID was set in each link of the oldest chain, whose records stand behind the retired ones.
  pub record LooksThrough (sides : ℕ) (z : Sizes) (s : Seat Unit (SeatView E A W)) (p : Purse) (s' : Seat Unit (SeatView E A W))
      (p' : Purse)
      : Type 0 where
    pub words : List ℕ
    pub lead : map target words ≡ map led_of (chain_at (known s) 0).links
    pub steps : Made (invalidations z (links_of sides (chain_at (known s) 0).records) words) (view s) (view s')
    pub table_is : s'.table_id ≡ s.table_id
    pub known_is : known s' ≡ with_chain 0 (record (chain_at (known s) 0) { valid = [] }) (known s)
    pub spent : spent_numbers (known s') p' ≡ (chain_at (known s) 0).records
    pub free : SameFree p p'
