-- What a pass keeps of itself beside its seat.
use Rattle.std.specs.Prelude.{◌≡◌, ℕ, ◌+◌, ◌<◌, ◌≤◌, true, false, List, [], ◌∷◌, ◌++◌, map, length, take}
use Rattle.std.specs.Prelude.{replicate, vec_capacity}
use Rattle.atomic_table.specs.Seated.{TableId}
use Rattle.atomic_table.specs.declared.shared.Seat.{Seat}
use Rattle.pp_link.specs.declared.layout.Sizes.{Sizes}
use Rattle.pp_link.specs.Places.{IsWithin, IsNumber}
use Rattle.pp_rule.specs.Lists.{IsIn, OnceBy, Once, first_of, times}
use Rattle.pp_rule.specs.declared.views.WalkSlot.{WalkSlot}
use Rattle.pp_rule.specs.declared.views.PrivateRecord.{PrivateRecord}
use Rattle.pp_rule.specs.declared.views.Chain.{Chain}
use Rattle.pp_rule.specs.declared.views.PassState.{PassState}
use Rattle.pp_rule.specs.declared.views.SeatView.{SeatView}
use Rattle.pp_rule.specs.Views.{slot, guarding}
use Rattle.pp_rule.specs.Rule.{number_of}
use Rattle.pp_rule.specs.Steps.{IsAlone, IsUnused}
use Rattle.pp_rule.specs.Paths.{IsChained}
use Rattle.pp_rule.specs.Opening.{share_of}
use Rattle.pp_base.specs.declared.purse.InHand.{InHand}
use Rattle.pp_base.specs.declared.purse.Purse.{Purse}

module _ {E A W : Type 0} where
  -- what the seat of a pass knows of it, and of the order of all steps
  abbrev pub known : Seat Unit (SeatView E A W) → PassState W
  known s = s.me.0.known

  abbrev pub view : Seat Unit (SeatView E A W) → SeatView E A W
  view s = s.me.0

  -- the pass is one of the pool with this table and these sizes
  pub record Fits (table : TableId) (z : Sizes) (s : Seat Unit (SeatView E A W)) : Type 0 where
    pub table_is : s.table_id ≡ table
    pub sizes : (known s).sizes ≡ z

  -- it is the same pass of the same pool
  pub record IsSame (s s' : Seat Unit (SeatView E A W)) : Type 0 where
    pub table_is : s'.table_id ≡ s.table_id
    pub number : (known s').number ≡ (known s).number
    pub sizes : (known s').sizes ≡ (known s).sizes

-- the number in a walk word
abbrev pub named_of : WalkSlot → ℕ
named_of w = w.named

-- what a pass keeps of a chain in hand
abbrev pub in_hand_of : Chain → InHand
in_hand_of c = record { first = first_of 0 c.records; guard = c.guard; frontier = c.frontier }

-- the records of these chains
unfoldable pub members_of : List Chain → List ℕ
members_of [] = []
members_of (c ∷ cs) = c.records ++ members_of cs

module _ {W : Type 0} where
  -- the numbers of the records that are free with the pass, or private to it
  abbrev pub owned_numbers : PassState W → List ℕ
  owned_numbers q = map number_of q.owned

  -- the numbers of all records that are its own: free, private, retired and in hand
  abbrev pub numbers_of : PassState W → List ℕ
  numbers_of q = owned_numbers q ++ (q.retired ++ members_of q.chains)

  -- it has five walk words and four frontier words, and each number that it knows of is that of a record
  pub record IsPassOf (z : Sizes) (q : PassState W) : Type 0 where
    pub pass : q.number < z.passes
    pub sizes : q.sizes ≡ z
    pub within : IsWithin z
    pub five : length q.walk ≡ 5
    pub four : length q.frontier ≡ 4
    pub held : (i : ℕ) → i < 5 → (slot q i).held ≡ true → IsNumber z (slot q i).named
    pub owned : (d : PrivateRecord) → IsIn d q.owned → IsNumber z d.number
    pub owned_once : OnceBy number_of q.owned
    pub retired_are : (n : ℕ) → IsIn n q.retired → IsNumber z n
    pub retired_once : Once q.retired
    pub left : (n : ℕ) → IsIn n q.scan.left → IsNumber z n
    pub guard : (c : Chain) → IsIn c q.chains → c.guard < 4
    pub members : (c : Chain) (n : ℕ) → IsIn c q.chains → IsIn n c.records → IsNumber z n
    -- there are no more of its own than the pool has
    pub fit : length (numbers_of q) ≤ z.records

-- the lists of a pass have room for all that they may ever have
pub record HasRoom (z : Sizes) (p : Purse) : Type 0 where
  pub free : z.records ≤ vec_capacity p.free
  pub retired_are : z.records ≤ vec_capacity p.retired
  pub chains : 4 ≤ vec_capacity p.chains

-- What a pass has beside its seat agrees with what the seat knows. The free list has numbers that the pass owns, each at most as
-- often as it owns them: the others are those of records that were taken.
pub record Keeping {E A W : Type 0} (sentinels sides : ℕ) (s : Seat Unit (SeatView E A W)) (number share : ℕ) (walk : List ℕ)
    (p : Purse) : Type 0 where
  pub lone : IsAlone s.me
  pub pass : IsPassOf (known s).sizes (known s)
  pub number_is : (known s).number ≡ number
  pub share_is : share ≡ share_of sentinels (known s).sizes number
  pub walk_is : map named_of (known s).walk ≡ walk
  pub frontier : (known s).frontier ≡ p.frontier
  pub free : (n : ℕ) → times n p.free.items ≤ times n (owned_numbers (known s))
  pub retired_are : take (length (known s).retired) p.retired.items ≡ (known s).retired
  pub retired_count : length p.retired.items ≡ length (known s).retired + p.spent
  pub chains : map in_hand_of (known s).chains ≡ p.chains.items
  pub few : length p.chains.items ≤ 4
  -- as many records were taken as are owned and not free, or more: of some it isn't told yet that they were published
  pub counted : length (known s).owned ≤ length p.free.items + p.taken
  pub chained : (c : Chain) → IsIn c (known s).chains → IsChained sides (first_of 0 c.records) c
  pub room : HasRoom (known s).sizes p

-- no walk word names a record, no call is going on, and no record that was taken is out
abbrev pub IsIdle : List ℕ → Purse → Type 0
IsIdle walk p = (walk ≡ replicate 5 0) × (p.going ≡ false) × (p.taken ≡ 0)

-- No call is under way on the pass: no scan, no number of a chain set aside, and each frontier word that isn't 0 guards a chain.
pub record IsAtRest {W : Type 0} (q : PassState W) (p : Purse) : Type 0 where
  pub scan : q.scan.read ≡ 0
  pub spent : p.spent ≡ 0
  pub frontier : (j : ℕ) → j < 4 → IsUnused j q → guarding q j ≡ 0
