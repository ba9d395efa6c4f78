-- The steps of a turn of a seek.
use Rattle.std.specs.Prelude.{◌≡◌, ◌⊎◌, ℕ, ◌<◌, ◌≤◌, false, List, ◌++◌}
use Rattle.pp_rule.specs.declared.views.WalkSlot.{WalkSlot}
use Rattle.pp_rule.specs.Lists.{IsIn}
use Rattle.pp_rule.specs.Orders.{read_step, clear_step}
use Rattle.pp_base.specs.Named.{NamedStep, Made}
use Rattle.pp_trees.specs.declared.own.TreeOwn.{TreeOwn}
use Rattle.pp_trees.specs.Searches.{TreePass}
use Rattle.pp_trees.specs.Edges.{TreeView, end_step}

-- a load of a key
abbrev pub reads : ℕ → ℕ → NamedStep
reads place word = record { kind = read_step; place = place; word = word }

-- a step that stores, exchanges or sets bits of no link
abbrev pub IsSilent : ℕ → Type 0
IsSilent kind = ((4 ≤ kind) × (kind < 9)) ⊎ (kind ≡ end_step)

-- but for its walk words, and for what the tree knows of it, the pass is as it was
pub record SameRest (q q' : TreePass) : Type 0 where
  pub number : q'.number ≡ q.number
  pub sizes : q'.sizes ≡ q.sizes
  pub owned : q'.owned ≡ q.owned
  pub retired_are : q'.retired ≡ q.retired
  pub frontier : q'.frontier ≡ q.frontier
  pub chains : q'.chains ≡ q.chains
  pub scan : q'.scan ≡ q.scan

-- The pass made these steps, none of which writes a link.
pub record Trail (before now : TreeView) : Type 0 where
  pub steps : List NamedStep
  pub did : Made steps before now
  pub silent : (s : NamedStep) → IsIn s steps → IsSilent s.kind
  pub rest : SameRest before.known now.known

-- the steps begin with these, and those that follow clear walk words
pub record IsFront (front steps : List NamedStep) : Type 0 where
  pub clears : List NamedStep
  pub is : steps ≡ front ++ clears
  pub each : (s : NamedStep) → IsIn s clears → s.kind ≡ clear_step

-- The pass cleared walk words.
pub record Clears (before now : TreeView) : Type 0 where
  pub trail : Trail before now
  pub each : (s : NamedStep) → IsIn s trail.steps → s.kind ≡ clear_step

-- a walk word with nothing in it
pub record IsEmpty (w : WalkSlot) : Type 0 where
  pub named : w.named ≡ 0
  pub free : w.held ≡ false

-- it is the same call, with the same start, and what the pass removed is as it was
pub record SameCall (own own' : TreeOwn) : Type 0 where
  pub call : own'.call ≡ own.call
  pub start : own'.start ≡ own.start
  pub going : own'.going ≡ own.going
  pub left : own'.left ≡ own.left
