-- What stands of a seek of a pass that is alone on its pool, where no record that can be reached is removed.
use Rattle.std.specs.Prelude.{◌≡◌, ℕ, ◌+◌, ◌-◌, ◌<◌, ◌≤◌, List, [], Option, Some, None}
use Rattle.pp_link.specs.declared.layout.Sizes.{Sizes}
use Rattle.pp_link.specs.Links.{word_of, target}
use Rattle.pp_link.specs.Places.{cell_place}
use Rattle.pp_model.specs.Calls.{key_of}
use Rattle.pp_rule.specs.Views.{slot}
use Rattle.pp_base.specs.Sources.{side_number, source_place}
use Rattle.pp_trees.specs.Trees.{side, Meets}
use Rattle.pp_trees.specs.Gathering.{closed}
use Rattle.pp_trees.specs.Edges.{TreeView}
use Rattle.pp_trees.specs.Lone.{words_of as seen_words, IsLone, IsStanding}
use Rattle.pp_seek.specs.declared.seek.Above.{Above}
use Rattle.pp_seek.specs.declared.seek.Spot.{Spot}
use Rattle.pp_seek.specs.declared.seek.Sought.{Sought}
use Rattle.pp_seek.specs.declared.seek.SeekTurn.{SeekTurn}
use Rattle.pp_seek.specs.declared.seek.SeekTurn.TheVariants as turns
use Rattle.pp_seek.specs.declared.turn.Next.{Next}
use Rattle.pp_seek.specs.declared.turn.Down.{Down}
use Rattle.pp_seek.specs.declared.turn.Down.TheVariants as downs
use Rattle.pp_seek.specs.Seeking.{edge_place}

-- No edge is tagged: the ancestor is the parent of the record in the walk word, and its edge leads there.
pub record LoneAbove (z : Sizes) (word : ℕ) (a : Above) (v : TreeView) : Type 0 where
  pub top : a.top ≡ word
  pub path : v.known.own.path ≡ []
  pub leads : target (word_of a.successor) ≡ (slot v.known word).named
  pub edge : IsStanding z (cell_place z (slot v.known a.ancestor).named (2 + side_number a.side)) (word_of a.successor) v

-- only at the root no edge lies above
abbrev pub LoneOver : Sizes → ℕ → Option Above → TreeView → Type 0
LoneOver z word None v = Unit {0}
LoneOver z word (Some a) v = LoneAbove z word a v

-- the root's walk for x comes to the record n, and x lies at this side of this key
abbrev pub GoesBy : Sizes → List ℕ → ℕ → ℕ → ℕ → ℕ → Type 0
GoesBy z words n key sd x = Meets (closed z words) x n × (side x key ≡ sd)

-- A seek stands at a record. Each internal record behind the edge by which it goes on has a key between the bounds: the root's walks
-- for that key and for the one before come to it, and so over that edge.
pub record LoneSpot (z : Sizes) (s : Spot) (v : TreeView) : Type 0 where
  pub lone : IsLone z v
  pub over : LoneOver z s.word s.above v
  pub between : (x : ℕ) → 1 ≤ x
      → GoesBy z (seen_words z v) (slot v.known s.word).named s.key (side (key_of v.known.own.call) s.key) x
      → GoesBy z (seen_words z v) (slot v.known s.word).named s.key (side (key_of v.known.own.call) s.key) (x - 1)
      → (s.low ≤ x) × (x < s.high)

-- the edge by which it goes on is as it was loaded
pub record LoneNext (z : Sizes) (s : Spot) (n : Next) (v : TreeView) : Type 0 where
  pub spot : LoneSpot z s v
  pub edge : IsStanding z (edge_place z v.known s n) (word_of n.link) v

-- A seek ended: the parent's edge is as it was loaded, and so is that of the ancestor, which leads to the parent.
pub record LoneSought (z : Sizes) (s : Sought) (v : TreeView) : Type 0 where
  pub lone : IsLone z v
  pub path : v.known.own.path ≡ []
  pub leads : target (word_of s.successor) ≡ (slot v.known v.known.own.at).named
  pub above : IsStanding z (source_place z v.known s.ancestor s.ancestor_side) (word_of s.successor) v
  pub edge : IsStanding z (source_place z v.known s.parent s.side) (word_of s.edge) v

-- the first load of an edge never finds INVALID
abbrev pub LoneNear : Sizes → Spot → TreeView → Option Next → Type 0
LoneNear z s v None = ⊥
LoneNear z s v (Some n) = LoneNext z s n v

-- each answer of a step down: it is never lost
abbrev pub LoneDown : Sizes → TreeView → Down → Type 0
LoneDown z v downs.Moved = ⊥
LoneDown z v downs.Broken = ⊥
LoneDown z v (downs.Came next) = LoneSpot z next v
LoneDown z v (downs.Ended sought) = LoneSought z sought v

-- a seek at the head, or at a record
abbrev pub LoneSeek : Sizes → Option Spot → TreeView → Type 0
LoneSeek z None v = IsLone z v
LoneSeek z (Some s) v = LoneSpot z s v

-- each answer of a turn: it is never lost
abbrev pub LoneTurned : Sizes → Option Spot → TreeView → SeekTurn → Type 0
LoneTurned z spot v turns.On = LoneSeek z spot v
LoneTurned z spot v (turns.At sought) = LoneSought z sought v
LoneTurned z spot v turns.Lost = ⊥
