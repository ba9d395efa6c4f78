-- What a part of a turn makes of a call that is going on a tree.
use Rattle.std.specs.Prelude.{◌≡◌, ◌⊎◌, ℕ, ◌+◌, ◌^◌, ◌<◌, ◌≤◌, true, false, List, ◌∷◌, ◌++◌, None, Option}
use Rattle.pp_link.specs.declared.layout.Sizes.{Sizes}
use Rattle.pp_link.specs.Links.{word_of}
use Rattle.pp_model.specs.declared.Call.{Call}
use Rattle.pp_model.specs.declared.Turned.{Turned}
use Rattle.pp_model.specs.declared.steps.Step.{Step}
use Rattle.pp_model.specs.Calls.{key_of, changes, reply_at}
use Rattle.pp_model.specs.MapCalls.{Answered, IfOn, IfDone, took_effect}
use Rattle.pp_rule.specs.Lists.{IsIn}
use Rattle.pp_rule.specs.Orders.{is_calm, log_of, read_step}
use Rattle.pp_rule.specs.Views.{slot}
use Rattle.pp_base.specs.declared.purse.Purse.{Purse}
use Rattle.pp_base.specs.Passes.{IsAtRest}
use Rattle.pp_calls.specs.PoolViews.{pool_view}
use Rattle.pp_calls.specs.Steps.{Stepped, HasOwn, StandsThen, WriteNone}
use Rattle.pp_shelf.specs.Runs.{map_sizes, steps_made}
use Rattle.pp_seek.specs.declared.seek.Seek.{Seek}
use Rattle.pp_seek.specs.declared.seek.Sought.{Sought}
use Rattle.pp_seek.specs.Seeking.{IsSought}
use Rattle.pp_trees.specs.Trees.{IsRight, inf0}
use Rattle.pp_trees.specs.Searches.{TreePass}
use Rattle.pp_trees.specs.Edges.{TreeView, end_step}
use Rattle.pp_trees.specs.Seeks.{found_at}
use Rattle.pp_turns.specs.Tallies.{memory_of, later_of}
use Rattle.pp_turns.specs.Turned.{HasTurned}
use Rattle.pp_turns.specs.Turns.{Unplaced, Replied, SawLast}
use Rattle.pp_tree_turns.specs.Turning.{Minds, Walks}
use Rattle.pp_tree_turns.specs.Walked.{TreeTally}
use Rattle.pp_tree_turns.specs.Causes.{tree_meaning}
use Rattle.pp_tree_calls.specs.declared.going.TreeGoing.{TreeGoing}
use Rattle.pp_turns.specs.Answers.{is_look}
use Rattle.pp_tree_calls.specs.Going.{kind_of, spot_of, going_of, upper_at, Counts, IsLosing, HasTaken, Tries}
use Rattle.pp_tree_calls.specs.Going.{Carries, IsUnder}
use Rattle.pp_tree_calls.specs.Purses.{HasOut}

-- it is the same call, with the same budget
pub record SameGoing (g g' : TreeGoing) : Type 0 where
  pub call : g'.call ≡ g.call
  pub races : g'.races ≡ g.races
  pub struck : g'.struck ≡ g.struck

-- a part of a turn that goes on was lost, or came to a later kind of turn
abbrev pub Advances : TreeGoing → TreeGoing → Type 0
Advances g g' = ((g'.lost ≡ g.lost + 1) × (g'.lost < g'.races)) ⊎ ((g'.lost ≡ g.lost) × (kind_of g.next < kind_of g'.next))

-- The last part of a turn, at which the call doesn't take effect. So much was known before it, of the view at which the call was
-- begun and of the free numbers then.
pub record Part (z : Sizes) (share : ℕ) (Known : TreeView → List ℕ → Type 0) (g g' : TreeGoing) (v w : TreeView) (p' : Purse)
    (result : Turned) : Type 0 where
  pub stepped : Stepped v w
  pub stands : HasOwn w.order → StandsThen v → StandsThen w
  pub same : SameGoing g g'
  pub struck : IfDone result (λ answer. g'.struck ≡ took_effect answer)
  pub advances : IfOn result (Advances g g')
  pub high : upper_at (spot_of g'.next) ≤ 2 ^ 64
  pub goes_on : IfOn result ((from : TreeView) (free : List ℕ) → Known from free → IsUnder z share g' w p' from free)
  pub answered : IfDone result (λ answer. (from : TreeView) (free : List ℕ) → Known from free → StandsThen w
      → Answered tree_meaning (map_sizes z) g.call g.races (pool_view from free share) (pool_view w p'.free.items share) answer
      g'.lost)

-- The pass made steps that count for nothing in any call and write no link, and the same is known of it.
pub record Idles (z : Sizes) (v w : TreeView) : Type 0 where
  pub stepped : Stepped v w
  pub stands : HasOwn w.order → StandsThen v → StandsThen w
  pub unplaced : Unplaced v w
  pub known : w.known ≡ v.known
  pub none : WriteNone (steps_made v w)
  pub calm : (s : Step) → IsIn s (steps_made v w) → is_calm s.kind ≡ true
  pub walks : (call : Call) (t : TreeTally) → (memory_of t).coming ≡ false → Walks (map_sizes z) call t 0 v w

-- A turn of it was lost just now, and its seek goes on so.
pub record HasLost (z : Sizes) (share : ℕ) (g : TreeGoing) (s : Seek) (v : TreeView) (p : Purse) (from : TreeView) (free : List ℕ)
    : Type 0 where
  pub tries : Tries (map_sizes z) g (g.lost + 1) from v
  pub minds : Minds (memory_of tries.counts.tally) s.spot
  pub last : SawLast from v
  pub carries : Carries share g.call g.records from v free p

-- A turn of it was lost just now.
pub record HasMissed (z : Sizes) (share : ℕ) (g : TreeGoing) (v : TreeView) (p : Purse) (from : TreeView) (free : List ℕ)
    : Type 0 where
  pub tries : Tries (map_sizes z) g (g.lost + 1) from v
  pub last : SawLast from v
  pub carries : Carries share g.call g.records from v free p

-- Among the steps is the load at which a seek ended, which found this word, and then a load of this key.
pub record EndedAt (word key : ℕ) (steps : List Step) : Type 0 where
  pub earlier : List Step
  pub ends : Step
  pub reads : Step
  pub after : List Step
  pub is : steps ≡ earlier ++ ends ∷ reads ∷ after
  pub ends_kind : ends.kind ≡ end_step
  pub ends_word : ends.word ≡ word
  pub reads_kind : reads.kind ≡ read_step
  pub reads_word : reads.word ≡ key

-- what a seek found
abbrev pub found_by : TreeGoing → Sought → TreePass → Option ℕ
found_by g s q = found_at (key_of g.call) (slot q s.word).key (slot q s.word).value (word_of s.edge)

-- Its seek ended just now at a leaf. A reply that changes nothing was placed.
pub record HasArrived (z : Sizes) (share : ℕ) (g : TreeGoing) (s : Sought) (v : TreeView) (p : Purse) (from : TreeView)
    (free : List ℕ) : Type 0 where
  pub counts : Counts (map_sizes z) g.call g.lost g.struck from v
  pub last : SawLast from v
  pub losing_still : g.struck ≡ false → IsLosing counts.tally
  pub settled : g.struck ≡ false → changes (reply_at g.call (found_by g s v.known)) ≡ false
      → Replied g.call (reply_at g.call (found_by g s v.known)) v.known.own.start from v
  pub opened : g.struck ≡ false → changes (reply_at g.call (found_by g s v.known)) ≡ true
      → Unplaced from v × IsRight (log_of v.order) v.known.own.start (key_of g.call) (found_by g s v.known)
  pub taken : g.struck ≡ true → HasTaken (map_sizes z) g.call g.races g.taken counts.tally from v
  pub ended : g.struck ≡ true → EndedAt (word_of s.edge) (slot v.known s.word).key (later_of counts.tally)
  pub carries : Carries share g.call g.records from v free p

-- The seek of a call ended, and the pass is ready for what comes next.
pub record HasEnded (z : Sizes) (g : TreeGoing) (q : TreePass) (p : Purse) (s : Sought) : Type 0 where
  pub sought : IsSought q (key_of g.call) s
  pub call : q.own.call ≡ g.call
  pub goes : g.struck ≡ false → changes (reply_at g.call (found_by g s q)) ≡ true → q.own.going ≡ true
  pub gone : g.struck ≡ true → q.own.going ≡ false
  pub pair : key_of g.call < inf0
  pub below : g.lost < g.races
  pub seeks : kind_of g.next ≡ 0
  pub rest : IsAtRest q p
  pub out : HasOut q p g.records
  pub looks : is_look g.call ≡ true → (g.records ≡ None) × (g.struck ≡ false)

-- it is the same call after a turn, with the same budget and bounds below the end of the keys
pub record StaysSame (g g' : TreeGoing) : Type 0 where
  pub call : g'.call ≡ g.call
  pub races : g'.races ≡ g.races
  pub high : upper_at (spot_of g'.next) ≤ 2 ^ 64

-- What a turn makes of it.
abbrev pub TreeTurned : Sizes → ℕ → TreeGoing → TreeGoing → TreeView → TreeView → Purse → Purse → Turned → Type 0
TreeTurned z share g g' v w p p' result = HasTurned tree_meaning z share (StaysSame g g') (IsUnder z share g v p) (IsUnder z share g' w p')
    (going_of v.known g) (going_of w.known g') v w p'.free.items result
