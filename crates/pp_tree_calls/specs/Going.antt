-- A call on a tree that is going on, by the views of its pass.
use Rattle.std.specs.Prelude.{◌≡◌, ◌≢◌, ◌⊎◌, ℕ, ◌^◌, ◌<◌, ◌≤◌, Bool, true, false, not, List, Option, Some, None}
use Rattle.pp_link.specs.declared.layout.Sizes.{Sizes}
use Rattle.pp_model.specs.declared.Call.{Call}
use Rattle.pp_model.specs.declared.Call.TheVariants.{Insert}
use Rattle.pp_model.specs.declared.Reply.TheVariants.{Took}
use Rattle.pp_model.specs.declared.steps.Step.{Step}
use Rattle.pp_model.specs.Calls.{key_of}
use Rattle.pp_model.specs.Pass.{GoingView, MapSizes}
use Rattle.pp_rule.specs.Orders.{log_of}
use Rattle.pp_base.specs.declared.purse.Purse.{Purse}
use Rattle.pp_base.specs.declared.source.Side.{Side}
use Rattle.pp_base.specs.Passes.{IsAtRest}
use Rattle.pp_base.specs.Sources.{side_number}
use Rattle.pp_shelf.specs.Runs.{map_sizes, steps_made}
use Rattle.pp_seek.specs.declared.seek.Spot.{Spot}
use Rattle.pp_seek.specs.Seeking.{Seeks as IsSeek}
use Rattle.pp_trees.specs.Trees.{across, inf0}
use Rattle.pp_trees.specs.Searches.{TreePass}
use Rattle.pp_trees.specs.Edges.{TreeView}
use Rattle.pp_turns.specs.Answers.{is_look}
use Rattle.pp_turns.specs.Purses as purses
use Rattle.pp_turns.specs.Tallies.{losing, effected, lost_of, memory_of, later_of}
use Rattle.pp_turns.specs.Turns.{Since, Waits, Unplaced, Struck, WasAbsent}
use Rattle.pp_tree_turns.specs.Walked.{Walked, tree_reader, TreeTally}
use Rattle.pp_tree_turns.specs.Causes.{flagged_leaf, ReadsValueOf, EndedElsewhere}
use Rattle.pp_tree_turns.specs.Turning.{Minds}
use Rattle.pp_tree_turns.specs.Exchanging.{FlagsNext, TagsNext, SplicesNext}
use Rattle.pp_tree_turns.specs.Filling.{PublishesNext}
use Rattle.pp_tree_calls.specs.declared.going.TreeGoing.{TreeGoing}
use Rattle.pp_tree_calls.specs.declared.going.Next.{Next}
use Rattle.pp_tree_calls.specs.declared.going.Next.TheVariants.{Seeks, Publishes, Flags, Tags, Splices, Over}
use Rattle.pp_tree_calls.specs.Purses.{TwoRecords, HasOut}

-- The kind of the next turn: a turn of the seek, and those behind it, in their order.
abbrev pub kind_of : Next → ℕ
kind_of (Seeks s) = 0
kind_of (Publishes s) = 1
kind_of (Flags s) = 1
kind_of (Tags s side) = 2
kind_of (Splices s side sibling) = 3
kind_of Over = 3

-- the bounds of the keys that are left, by where a seek stands
abbrev pub lower_at : Option Spot → ℕ
lower_at None = 0
lower_at (Some s) = s.low

abbrev pub upper_at : Option Spot → ℕ
upper_at None = 2 ^ 64
upper_at (Some s) = s.high

abbrev pub spot_of : Next → Option Spot
spot_of (Seeks s) = s.spot
spot_of (Publishes s) = None
spot_of (Flags s) = None
spot_of (Tags s side) = None
spot_of (Splices s side sibling) = None
spot_of Over = None

-- What callers see of it: its start and the keys that are left are those of its pass.
abbrev pub going_of : TreePass → TreeGoing → GoingView
going_of q g = record {
  call = g.call;
  budget = g.races;
  lost = g.lost;
  start = q.own.start;
  struck = g.struck;
  kind = kind_of g.next;
  lower = lower_at (spot_of g.next);
  upper = upper_at (spot_of g.next);
}

-- It has taken the pair of its key. These steps were made since.
pub record HasTaken (z : MapSizes) (call : Call) (races value : ℕ) (t : TreeTally) (from now : TreeView) : Type 0 where
  pub memory : Walked
  pub lost : ℕ
  pub early : ℕ
  pub later : List Step
  pub is : t ≡ effected memory lost early later
  pub few : early < races
  pub struck : Struck call (Took value) from now
  pub some : flagged_leaf (steps_made from now) ≢ 0
  pub reads : ReadsValueOf z (flagged_leaf (steps_made from now)) later

-- it hasn't taken effect
pub record IsLosing (t : TreeTally) : Type 0 where
  pub memory : Walked
  pub lost : ℕ
  pub is : t ≡ losing memory lost

-- The steps of a call since its begin, of which so many lost a turn.
pub record Counts (z : MapSizes) (call : Call) (lost : ℕ) (struck : Bool) (from now : TreeView) : Type 0 where
  pub tally : TreeTally
  pub since : Since tree_reader z call now.known.own.start tally from now
  pub lost_is : lost_of tally ≡ lost
  pub calm : (memory_of tally).coming ≡ false
  pub struck_is : (memory_of tally).struck ≡ struck

-- The call made these turns since it was begun.
pub record Tries (z : MapSizes) (g : TreeGoing) (lost : ℕ) (from now : TreeView) : Type 0 where
  pub counts : Counts z g.call lost g.struck from now
  pub untaken : g.struck ≡ false → IsLosing counts.tally × Unplaced from now
  pub taken : g.struck ≡ true → HasTaken z g.call g.races g.taken counts.tally from now

-- the pass goes on with this call
pub record Goes (g : TreeGoing) (q : TreePass) : Type 0 where
  pub call : q.own.call ≡ g.call
  pub going : q.own.going ≡ not g.struck

-- Of a call that has taken effect the leaf that it took goes with the path of its splice, or its seek ended elsewhere.
abbrev pub TakesWith : MapSizes → TreeGoing → Side → TreeTally → TreeView → TreeView → Type 0
TakesWith z g side t from now = g.struck ≡ true
    → ((now.known.own.flag ≡ across (side_number side)) × (now.known.own.beside ≡ flagged_leaf (steps_made from now)))
    ⊎ EndedElsewhere z g.call (later_of t)

-- It stands in its seek: it made no step yet, or these turns.
abbrev pub Begun : Bool → Sizes → TreeGoing → Option Spot → TreeView → TreeView → Type 0
Begun true z g spot from now = Waits from now × (Unplaced from now × ((g.lost ≡ 0) × ((g.struck ≡ false) × (spot ≡ None))))
Begun false z g spot from now = (t : Tries (map_sizes z) g g.lost from now) × (Goes g now.known × Minds (memory_of t.counts.tally) spot)

-- what is true before each kind of turn
abbrev pub Stands : Sizes → TreeGoing → Next → TreeView → TreeView → Type 0
Stands z g (Seeks s) from now = (s.call ≡ g.call) × (IsSeek now.known s × (upper_at s.spot ≤ 2 ^ 64) × Begun s.fresh z g s.spot from now)
Stands z g (Publishes s) from now = Tries (map_sizes z) g g.lost from now × (Goes g now.known × ((g.struck ≡ false)
    × ((k : ℕ) × ((v : ℕ) × ((g.call ≡ Insert k v) × (PublishesNext now.known s k v
    × WasAbsent now.known.own.start k (log_of now.order)))))))
Stands z g (Flags s) from now = Tries (map_sizes z) g g.lost from now × (Goes g now.known × ((g.struck ≡ false)
    × ((is_look g.call ≡ false) × FlagsNext now.known s)))
Stands z g (Tags s side) from now = (t : Tries (map_sizes z) g g.lost from now) × (Goes g now.known
    × ((is_look g.call ≡ false) × (TagsNext now.known s side × TakesWith (map_sizes z) g side t.counts.tally from now)))
Stands z g (Splices s side sibling) from now = (t : Tries (map_sizes z) g g.lost from now) × (Goes g now.known
    × ((is_look g.call ≡ false) × (SplicesNext z now.known s side sibling × TakesWith (map_sizes z) g side t.counts.tally from now)))
Stands z g Over from now = ⊥

-- What the call has of the purse of its pass, whose free numbers at its begin were these.
abbrev pub Carries : ℕ → Call → TwoRecords → TreeView → TreeView → List ℕ → Purse → Type 0
Carries share call records from now free p = purses.Carries HasOut 2 share call records from now free p

-- The call is under way on a pass with this share: it was begun at this view, with these free numbers.
pub record IsUnder (z : Sizes) (share : ℕ) (g : TreeGoing) (now : TreeView) (p : Purse) (from : TreeView) (free : List ℕ)
    : Type 0 where
  pub pair : key_of g.call < inf0
  pub below : g.lost < g.races
  pub rest : IsAtRest now.known p
  pub looks : is_look g.call ≡ true → g.struck ≡ false
  pub carries : Carries share g.call g.records from now free p
  pub stands : Stands z g g.next from now
