-- What a call on a tree has of its purse, and what its parts make of it.
use Rattle.std.specs.Prelude.{◌≡◌, ◌≢◌, ◌⊎◌, ℕ, ◌≤◌, min, Bool, List, length, Option, Some, None}
use Rattle.pp_link.specs.declared.layout.Sizes.{Sizes}
use Rattle.pp_pool.specs.declared.fresh.Fresh.{Fresh}
use Rattle.pp_pool.specs.Taken.{IsPrivate}
use Rattle.pp_rule.specs.Causes.{FoundTaken}
use Rattle.pp_rule.specs.Lists.{BeginsWith}
use Rattle.pp_base.specs.declared.purse.Purse.{Purse}
use Rattle.pp_base.specs.Named.{NamedStep}
use Rattle.pp_shelf.specs.Runs.{map_sizes, steps_made}
use Rattle.pp_purse.specs.Steps.{PurseSteps}
use Rattle.pp_seek.specs.Trails.{Clears}
use Rattle.pp_trees.specs.Searches.{TreePass}
use Rattle.pp_trees.specs.Edges.{TreeView}
use Rattle.pp_turns.specs.Purses as purses

-- the two records of an insert
abbrev pub TwoRecords : Type 0
TwoRecords = Option (Fresh × Fresh)

-- how many records are out
abbrev pub out_of : TwoRecords → ℕ
out_of records = purses.out_of 2 records

-- no record is out, or these two, which are private
abbrev pub HasOut : TreePass → Purse → TwoRecords → Type 0
HasOut q p None = p.taken ≡ 0
HasOut q p (Some f) = IsPrivate q p f.0.number × IsPrivate q p f.1.number × (f.0.number ≢ f.1.number) × (p.taken ≡ 2)

-- A call that only looked cleared its walk words.
abbrev pub LooksAway : TreeView → TreeView → Purse → Purse → Type 0
LooksAway v w p p' = purses.LooksAway Clears v w p p'

-- A call cleared its walk words, gave its records back and tidied.
abbrev pub TidiesUp : Sizes → ℕ → TwoRecords → TreeView → TreeView → Purse → Purse → Type 0
TidiesUp z share records v w p p' = purses.TidiesUp Clears z share (out_of records) v w p p'

-- what ends a call, by whether it only looked
abbrev pub Leaves : Bool → Sizes → ℕ → TwoRecords → TreeView → TreeView → Purse → Purse → Type 0
Leaves looks z share records v w p p' = purses.Leaves Clears looks z share (out_of records) v w p p'

-- A call that had its two records out already, or none, has these two out. Of the free ones but for them none is gone.
abbrev pub TakesTwo : Sizes → TwoRecords → Fresh × Fresh → TreeView → TreeView → Purse → Purse → Type 0
TakesTwo z had f v w p p' = purses.Takes HasOut 2 z had f v w p p'

-- It had none out, and found too few. None that was free is gone.
abbrev pub TakesNone : Sizes → TwoRecords → TreeView → TreeView → Purse → Purse → Type 0
TakesNone z had v w p p' = purses.TakesNone 2 z had v w p p'

-- A call cleared its walk words, and put on shelves what is free beyond its share, or found each shelf word taken. The free numbers of
-- its share are still there.
pub record PutsAway (z : Sizes) (share : ℕ) (v w : TreeView) (p p' : Purse) : Type 0 where
  pub between : TreeView
  pub clears : Clears v between
  pub names : List NamedStep
  pub steps : PurseSteps z names between w
  pub retired_are : w.known.retired ≡ v.known.retired
  pub shared : (length p'.free.items ≤ share) ⊎ FoundTaken (map_sizes z) (steps_made between w)
  pub begins : BeginsWith p.free.items p'.free.items
  pub kept : min share (length p.free.items) ≤ length p'.free.items
