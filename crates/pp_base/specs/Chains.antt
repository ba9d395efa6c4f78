-- The steps of a pass at its frontier words and at the chains that it detached, said of its seat and of its purse.
use Rattle.std.specs.Prelude.{◌≡◌, ℕ, ◌+◌, ◌≤◌, Bool, List, [], ◌∷◌, ◌++◌, length, drop, slice_set, slice_index_or, vec_capacity}
use Rattle.atomic_table.specs.declared.shared.Seat.{Seat}
use Rattle.pp_link.specs.declared.layout.Sizes.{Sizes}
use Rattle.pp_link.specs.Links.{target}
use Rattle.pp_link.specs.Places.{frontier_place, cell_place}
use Rattle.pp_rule.specs.Lists.{rest_of}
use Rattle.pp_rule.specs.declared.views.WalkSlot.{WalkSlot}
use Rattle.pp_rule.specs.declared.views.Chain.{Chain}
use Rattle.pp_rule.specs.declared.views.PassState.{PassState}
use Rattle.pp_rule.specs.declared.views.SeatView.{SeatView}
use Rattle.pp_rule.specs.Orders.{guard_step, unguard_step, retire_step}
use Rattle.pp_rule.specs.Steps.{MadeQuietStep, with_frontier, Invalidated, retiring}
use Rattle.pp_base.specs.declared.purse.Purse.{Purse}
use Rattle.pp_rule.specs.Detach.{Exchanged}
use Rattle.pp_rule.specs.Paths.{IsChainTo}
use Rattle.pp_base.specs.declared.purse.InHand.{InHand}
use Rattle.pp_base.specs.declared.source.Side.{Side}
use Rattle.pp_base.specs.declared.source.Place.{Place}
use Rattle.pp_base.specs.Sources.{side_number, source_place, learning_at}
use Rattle.pp_base.specs.Passes.{known, view}

-- the frontier word j of the pass has the number n
abbrev pub with_guard : ℕ → ℕ → Purse → Purse
with_guard j n p = record p { frontier = slice_set p.frontier j n }

module _ {E A W : Type 0} where
  -- the number n is stored in the frontier word j
  abbrev pub GuardedBy : Sizes → ℕ → ℕ → Seat Unit (SeatView E A W) → Seat Unit (SeatView E A W) → Type 0
  GuardedBy z j n s s' = MadeQuietStep guard_step (frontier_place z (known s).number j) n n (with_frontier j n (known s)) (view s) (view s')

  -- the frontier word j is cleared
  abbrev pub Unguarded : Sizes → ℕ → Seat Unit (SeatView E A W) → Seat Unit (SeatView E A W) → Type 0
  Unguarded z j s s' = MadeQuietStep unguard_step (frontier_place z (known s).number j) 0 0 (with_frontier j 0 (known s)) (view s) (view s')

-- no records in hand
abbrev pub no_chain : Chain
no_chain = record { records = []; guard = 0; frontier = 0; links = []; valid = [] }

-- the chain in hand of the pass with this index, the oldest one the first
abbrev pub chain_at : {W : Type 0} → PassState W → ℕ → Chain
chain_at q k = slice_index_or q.chains k no_chain

-- the numbers that stand behind the retired ones
abbrev pub spent_numbers : {W : Type 0} → PassState W → Purse → List ℕ
spent_numbers q p = drop (length q.retired) p.retired.items

-- one more number stands behind the retired ones
pub record SetAside (n : ℕ) (p p' : Purse) : Type 0 where
  pub free : p'.free ≡ p.free
  pub retired_are : p'.retired.items ≡ p.retired.items ++ n ∷ []
  pub room : vec_capacity p.retired ≤ vec_capacity p'.retired
  pub spent : p'.spent ≡ p.spent + 1
  pub chains : p'.chains ≡ p.chains
  pub frontier : p'.frontier ≡ p.frontier
  pub taken : p'.taken ≡ p.taken
  pub going : p'.going ≡ p.going

-- the oldest chain, which this frontier word guarded, is no longer in hand, and no number stands behind the retired ones
pub record LetGo (guard : ℕ) (p p' : Purse) : Type 0 where
  pub free : p'.free ≡ p.free
  pub retired_are : p'.retired ≡ p.retired
  pub spent : p'.spent ≡ 0
  pub chains : p'.chains.items ≡ rest_of p.chains.items
  pub room : vec_capacity p'.chains ≡ vec_capacity p.chains
  pub frontier : p'.frontier ≡ slice_set p.frontier guard 0
  pub taken : p'.taken ≡ p.taken
  pub going : p'.going ≡ p.going

-- one more chain is in hand, the newest
pub record TookInHand (h : InHand) (p p' : Purse) : Type 0 where
  pub free : p'.free ≡ p.free
  pub retired_are : p'.retired ≡ p.retired
  pub spent : p'.spent ≡ p.spent
  pub chains : p'.chains.items ≡ p.chains.items ++ h ∷ []
  pub room : vec_capacity p.chains ≤ vec_capacity p'.chains
  pub frontier : p'.frontier ≡ p.frontier
  pub taken : p'.taken ≡ p.taken
  pub going : p'.going ≡ p.going

-- it is where that holds, and else the purse is as it was
pub record MayTake (hit : Type 0) (h : InHand) (p p' : Purse) : Type 0 where
  pub taken : hit → TookInHand h p p'
  pub kept : (hit → ⊥) → p' ≡ p

module _ {E A W : Type 0} where
  -- the chain that the shape says is detached at a source, where its link was as it is expected
  abbrev pub DetachedAt : Sizes → (ℕ → Bool) → (List WalkSlot → W → ℕ → ℕ → ℕ → Chain) → Place → Side → ℕ → ℕ → ℕ → ℕ
      → Seat Unit (SeatView E A W) → Seat Unit (SeatView E A W) → Type 0
  DetachedAt z frozen chain at side guard first new found s s' =
      Exchanged (chain (known s).walk (known s).own guard first new) first new found
      (source_place z (known s) at side) (learning_at frozen at side found (known s)) (view s) (view s')

  -- A chain that was detached so stands in the order in which its links lead.
  abbrev pub OrderedAt : ℕ → (List WalkSlot → W → ℕ → ℕ → ℕ → Chain) → ℕ → ℕ → ℕ → ℕ → Seat Unit (SeatView E A W) → Type 0
  OrderedAt sides chain guard first new found s = found ≡ first
      → IsChainTo sides guard (target first) (target new) (chain (known s).walk (known s).own guard first new)

  -- INVALID is set in a link of the record n of the chain with the index k
  abbrev pub InvalidatedAt : Sizes → ℕ → ℕ → Side → ℕ → Seat Unit (SeatView E A W) → Seat Unit (SeatView E A W) → Type 0
  InvalidatedAt z k n side found s s' = Invalidated k (chain_at (known s) k) n (side_number side) found
      (cell_place z n (2 + side_number side)) (view s) (view s')

  -- the oldest chain is retired
  abbrev pub RetiredOldest : Sizes → Seat Unit (SeatView E A W) → Seat Unit (SeatView E A W) → Type 0
  RetiredOldest z s s' = MadeQuietStep retire_step (frontier_place z (known s).number (chain_at (known s) 0).guard) 0 0
      (retiring (chain_at (known s) 0) (known s)) (view s) (view s')
