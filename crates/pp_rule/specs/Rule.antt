-- What is true of the table of every pool between any two steps, whatever its shape.
use Rattle.std.specs.Prelude.{◌≡◌, ◌≢◌, ◌⊎◌, ℕ, ◌+◌, ◌*◌, ◌<◌, ◌≤◌, true, List, length}
use Rattle.pp_link.specs.declared.layout.Sizes.{Sizes}
use Rattle.pp_link.specs.Links.{target, invalid_bit}
use Rattle.pp_link.specs.Places.{IsWithin, IsNumber, total}
use Rattle.pp_link.specs.Words.{walk_word, frontier_word, shelf_word, head_word, cell_word}
use Rattle.pp_rule.specs.Lists.{IsIn, OnceBy, Once}
use Rattle.pp_rule.specs.Views.{PassState, PrivateRecord, Chain, ChainLink, slot, guarding}
use Rattle.pp_rule.specs.States.{RecordState, attached, in_hand, retired, owned, shelved, IsStateIn, PoolState, IsSmall}
use Rattle.pp_rule.specs.States.{SameTarget, Leads, Leaves, Held}

-- these words stand in the record
pub record Reads (z : Sizes) (words : List ℕ) (d : PrivateRecord) : Type 0 where
  pub key : cell_word words z d.number 0 ≡ d.key
  pub value : cell_word words z d.number 1 ≡ d.value
  pub left : cell_word words z d.number 2 ≡ d.left
  pub right : cell_word words z d.number 3 ≡ d.right
  pub high : cell_word words z d.number 4 ≡ d.high

abbrev pub number_of : PrivateRecord → ℕ
number_of d = d.number

abbrev pub guard_of : Chain → ℕ
guard_of c = c.guard

module _ {W : Type 0} where
  -- the lists of the passes, and the one state of each number
  pub record Numbers (z : Sizes) (of : ℕ → PassState W) (status : ℕ → RecordState) : Type 0 where
    pub scope : (n : ℕ) → IsNumber z n → IsStateIn z (status n)
    pub owned_to : (p : ℕ) (d : PrivateRecord) → p < z.passes → IsIn d (of p).owned → IsNumber z d.number × (status d.number ≡ owned p)
    pub owned_from : (p n : ℕ) → p < z.passes → IsNumber z n → status n ≡ owned p
        → (d : PrivateRecord) × (IsIn d (of p).owned × (d.number ≡ n))
    pub owned_once : (p : ℕ) → p < z.passes → OnceBy number_of (of p).owned
    pub retired_to : (p n : ℕ) → p < z.passes → IsIn n (of p).retired → IsNumber z n × (status n ≡ retired p)
    pub retired_from : (p n : ℕ) → p < z.passes → IsNumber z n → status n ≡ retired p → IsIn n (of p).retired
    pub retired_once : (p : ℕ) → p < z.passes → Once (of p).retired

  -- what stands in the free and private records of a pass
  pub record PrivateWords (z : Sizes) (words : List ℕ) (of : ℕ → PassState W) : Type 0 where
    pub reads : (p : ℕ) (d : PrivateRecord) → p < z.passes → IsIn d (of p).owned → Reads z words d

  -- the hazard words read as announced, and what is held is no free and no private record
  pub record Hazards (z : Sizes) (words : List ℕ) (of : ℕ → PassState W) (status : ℕ → RecordState) : Type 0 where
    pub five : (p : ℕ) → p < z.passes → length (of p).walk ≡ 5
    pub four : (p : ℕ) → p < z.passes → length (of p).frontier ≡ 4
    pub walks : (p i : ℕ) → p < z.passes → i < 5 → walk_word words z p i ≡ (slot (of p) i).named
    pub frontiers : (p j : ℕ) → p < z.passes → j < 4 → frontier_word words z p j ≡ guarding (of p) j
    pub held : (p i : ℕ) → p < z.passes → i < 5 → (slot (of p) i).held ≡ true → Held z words status (slot (of p) i)

-- where the links lead
pub record Links (sides : ℕ) (z : Sizes) (words : List ℕ) (status : ℕ → RecordState) : Type 0 where
  pub heads : (h : ℕ) → h < z.heads → Leads z status (head_word words z h)
  pub linked : (n side : ℕ) → IsNumber z n → side < sides → status n ≡ attached → Leads z status (cell_word words z n (2 + side))
  pub hand : (n side p j : ℕ) → IsNumber z n → side < sides → status n ≡ in_hand p j
      → Leaves z words status p j (cell_word words z n (2 + side))
  -- each link of a retired record has INVALID
  pub spent : (n side p : ℕ) → IsNumber z n → side < sides → status n ≡ retired p
      → IsSmall (cell_word words z n (2 + side)) × (invalid_bit (cell_word words z n (2 + side)) ≡ 1)

-- the shelf words, each 0 or the free number that stands on it
pub record Shelves (z : Sizes) (words : List ℕ) (status : ℕ → RecordState) : Type 0 where
  pub named : (j : ℕ) → j < 8 * z.passes → (shelf_word words z j ≡ 0)
      ⊎ (IsNumber z (shelf_word words z j) × (status (shelf_word words z j) ≡ shelved j))
  pub home : (n j : ℕ) → IsNumber z n → status n ≡ shelved j → shelf_word words z j ≡ n

module _ {W : Type 0} where
  -- the chains in hand of the passes
  pub record Chains (sides : ℕ) (z : Sizes) (words : List ℕ) (of : ℕ → PassState W) (status : ℕ → RecordState) : Type 0 where
    pub guard : (p : ℕ) (c : Chain) → p < z.passes → IsIn c (of p).chains → c.guard < 4
    pub once : (p : ℕ) → p < z.passes → OnceBy guard_of (of p).chains
    pub members : (p n : ℕ) (c : Chain) → p < z.passes → IsIn c (of p).chains → IsIn n c.records
        → IsNumber z n × (status n ≡ in_hand p c.guard)
    pub members_once : (p : ℕ) (c : Chain) → p < z.passes → IsIn c (of p).chains → Once c.records
    pub home : (p j n : ℕ) → p < z.passes → IsNumber z n → status n ≡ in_hand p j
        → (c : Chain) × (IsIn c (of p).chains × (c.guard ≡ j) × IsIn n c.records)
    pub valid : (p n side : ℕ) (c : Chain) → p < z.passes → IsIn c (of p).chains → IsIn n c.records → side < sides
        → (invalid_bit (cell_word words z n (2 + side)) ≡ 1) ⊎ IsIn (n, side) c.valid
    -- its links lead where they led when it was detached
    pub links : (p : ℕ) (c : Chain) (l : ChainLink) → p < z.passes → IsIn c (of p).chains → IsIn l c.links
        → IsIn l.number c.records × (l.side < sides) × SameTarget l.word (cell_word words z l.number (2 + l.side))

  -- what a reclaim pass under way has found: of each number that is left
  pub record Scans (sides : ℕ) (z : Sizes) (words : List ℕ) (of : ℕ → PassState W) (status : ℕ → RecordState) : Type 0 where
    pub left : (p n : ℕ) → p < z.passes → IsIn n (of p).scan.left → IsNumber z n × (status n ≡ retired p)
    pub left_once : (p : ℕ) → p < z.passes → Once (of p).scan.left
    -- no chain whose frontier word was read leads to it
    pub fronts : (p n q j m side : ℕ) → p < z.passes → IsIn n (of p).scan.left → 4 * q + j < (of p).scan.read
        → IsNumber z m → side < sides → status m ≡ in_hand q j
        → invalid_bit (cell_word words z m (2 + side)) ≡ 0 → target (cell_word words z m (2 + side)) ≢ n
    -- no walk word that was read holds it
    pub walks : (p n q i : ℕ) → p < z.passes → IsIn n (of p).scan.left → q < z.passes → i < 5
        → 4 * z.passes + 5 * q + i < (of p).scan.read → (slot (of q) i).held ≡ true → (slot (of q) i).named ≢ n

module _ {E A W : Type 0} where
  -- what is true of each pool, whatever its shape
  pub record Base (sides : ℕ) (z : Sizes) (words : List ℕ) (g : PoolState E A W) : Type 0 where
    pub within : IsWithin z
    pub two : sides ≤ 2
    pub wide : length words ≡ total z
    pub numbers : Numbers z g.of g.status
    pub privates : PrivateWords z words g.of
    pub hazards : Hazards z words g.of g.status
    pub links : Links sides z words g.status
    pub shelves : Shelves z words g.status
    pub chains : Chains sides z words g.of g.status
    pub scans : Scans sides z words g.of g.status
