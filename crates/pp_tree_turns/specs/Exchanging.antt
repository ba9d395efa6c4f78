-- What the turns of a call after its seek ask of its pass, and what they make of it.
use Rattle.std.specs.Prelude.{◌≡◌, ◌≢◌, ◌⊎◌, ℕ, ◌*◌, ◌%◌, ◌<◌, Bool, true, false, List, [], ◌∷◌, ◌++◌, Option, Some, None}
use Rattle.pp_link.specs.declared.layout.Sizes.{Sizes}
use Rattle.pp_link.specs.declared.link.Link.{Link}
use Rattle.pp_link.specs.Links.{word_of, target, flag_bit, tag_bit, invalid_bit}
use Rattle.pp_link.specs.Places.{cell_place}
use Rattle.pp_model.specs.declared.Call.{Call}
use Rattle.pp_model.specs.declared.Reply.TheVariants.{Took}
use Rattle.pp_model.specs.Calls.{key_of, Takes}
use Rattle.pp_rule.specs.Lists.{IsIn}
use Rattle.pp_rule.specs.Opening.{opening_words}
use Rattle.pp_rule.specs.Orders.{entries_of, replayed}
use Rattle.pp_rule.specs.Reached.{Reached}
use Rattle.pp_rule.specs.Views.{slot, value_of}
use Rattle.pp_base.specs.declared.source.Place.TheVariants.{Walk}
use Rattle.pp_base.specs.declared.source.Side.{Side}
use Rattle.pp_base.specs.Named.{NamedStep, guards, unguards, detaches, misses, clears}
use Rattle.pp_base.specs.Sources.{side_number}
use Rattle.pp_edges.specs.Edging.{MaySpliceAt}
use Rattle.pp_seek.specs.declared.seek.Sought.{Sought}
use Rattle.pp_seek.specs.Trails.{SameCall, SameRest, reads}
use Rattle.pp_seek.specs.Seeking.{IsSought}
use Rattle.pp_trees.specs.Trees.{across, root_head}
use Rattle.pp_trees.specs.TaggedPaths.{Joined, Taken}
use Rattle.pp_trees.specs.Searches.{TreePass}
use Rattle.pp_trees.specs.Sentinels.{sentinel_field}
use Rattle.pp_trees.specs.Edges.{TreeView, flag_step, tag_step, flagged_pass}
use Rattle.pp_turns.specs.Causes.{is_aside}
use Rattle.pp_turns.specs.Turns.{Unplaced, Struck}
use Rattle.pp_tree_turns.specs.Turning.{Names}

-- What a call still holds of the way of its seek: the last edge without TAG, from the ancestor to the successor, and from there the
-- tagged path to the parent.
pub record OnPath (q : TreePass) (s : Sought) : Type 0 where
  pub ancestor : ℕ
  pub ancestor_is : s.ancestor ≡ Walk ancestor
  pub ancestor_held : (ancestor < 5) × ((slot q ancestor).held ≡ true)
  pub plain : word_of s.successor % 16 ≡ 0
  pub some : target (word_of s.successor) ≢ 0
  pub top : q.own.top < 5
  pub leads : target (word_of s.successor) ≡ (slot q q.own.top).named
  pub last : ℕ
  pub joined : Joined (word_of s.successor) q.own.path last
  pub ends : (slot q q.own.at).named ≡ target last
  pub parent : q.own.at < 5
  pub parent_is : s.parent ≡ Walk q.own.at
  pub parent_held : (slot q q.own.at).held ≡ true
  pub word : s.word < 5

-- The seek of a removal that hasn't taken effect ended at the leaf of its key, over an edge with LEAF alone.
pub record FlagsNext (q : TreePass) (s : Sought) : Type 0 where
  pub sought : IsSought q (key_of q.own.call) s
  pub going : q.own.going ≡ true
  pub plain : (flag_bit (word_of s.edge) ≡ 0) × (tag_bit (word_of s.edge) ≡ 0)
  pub equal : s.equal ≡ true
  pub takes : Takes q.own.call (key_of q.own.call) (value_of (slot q s.word).value)

-- FLAG is known of the parent's other edge, or TAG of this one.
pub record TagsNext (q : TreePass) (s : Sought) (side : Side) : Type 0 where
  pub path : OnPath q s
  pub read : (q.own.flag ≡ across (side_number side))
      ⊎ ((w : ℕ) × ((tag_bit w ≡ 1) × IsIn {A = ℕ × ℕ} (side_number side, w) (slot q q.own.at).learnt))

-- The edge at this side was tagged, and was this link before. Where FLAG is known of the other one, the leaf there goes too.
pub record SplicesNext (z : Sizes) (q : TreePass) (s : Sought) (side : Side) (sibling : Link) : Type 0 where
  pub ancestor : ℕ
  pub ancestor_is : s.ancestor ≡ Walk ancestor
  pub word : s.word < 5
  pub may : MaySpliceAt z q ancestor (word_of s.successor) s.parent side (word_of sibling)
  pub beside : q.own.flag ≡ across (side_number side) → Taken q.own.path q.own.beside

-- an exchange of an edge found another word, and nothing changed
pub record MissesEdge (z : Sizes) (v w : TreeView) : Type 0 where
  pub place : ℕ
  pub far : 17 * z.passes < place
  pub found : ℕ
  pub names : Names (misses place found ∷ []) v w
  pub known : w.known ≡ v.known
  pub unplaced : Unplaced v w

abbrev pub flags : ℕ → ℕ → NamedStep
flags place word = record { kind = flag_step; place = place; word = word }

-- The pair of the leaf is removed, by the first of these steps. The others read its value.
pub record FlagsLeaf (z : Sizes) (call : Call) (s : Sought) (value : ℕ) (v w : TreeView) : Type 0 where
  pub place : ℕ
  pub low : ℕ
  pub high : ℕ
  pub names : Names (flags place (word_of s.edge) ∷ reads (cell_place z (target (word_of s.edge)) 1) low
      ∷ reads (cell_place z (target (word_of s.edge)) 4) high ∷ []) v w
  pub known : w.known ≡ flagged_pass (side_number s.side) (target (word_of s.edge)) v.known
  pub struck : Struck call (Took value) v w

-- each answer of a flag turn
abbrev pub FlaggedTo : Sizes → Call → Sought → Option ℕ → TreeView → TreeView → Type 0
FlaggedTo z call s None v w = MissesEdge z v w
FlaggedTo z call s (Some value) v w = FlagsLeaf z call s value v w

abbrev pub tags : ℕ → ℕ → NamedStep
tags place word = record { kind = tag_step; place = place; word = word }

-- TAG was set in an edge that had this word before.
pub record TagsEdge (found : ℕ) (v w : TreeView) : Type 0 where
  pub place : ℕ
  pub names : Names (tags place found ∷ []) v w
  pub unplaced : Unplaced v w
  pub same : SameCall v.known.own w.known.own
  pub rest : SameRest v.known w.known
  pub flag : w.known.own.flag ≡ v.known.own.flag
  pub beside : w.known.own.beside ≡ v.known.own.beside

-- each answer of a tag turn
abbrev pub TaggedTo : Sizes → Sought → Side → Option Link → TreeView → TreeView → Type 0
TaggedTo z s side None v w = (found : ℕ) × (TagsEdge found v w × (invalid_bit found ≡ 1))
TaggedTo z s side (Some sibling) v w = TagsEdge (word_of sibling) v w × (invalid_bit (word_of sibling) ≡ 0)
    × SplicesNext z w.known s side sibling

-- the steps of a flush
pub record AreAside (z : Sizes) (names : List NamedStep) : Type 0 where
  pub each : (s : NamedStep) → IsIn s names → is_aside z s ≡ true

-- The ancestor's edge had become another one. But for a flush nothing changed.
pub record MissesPath (z : Sizes) (v w : TreeView) : Type 0 where
  pub flush : List NamedStep
  pub aside : AreAside z flush
  pub place : ℕ
  pub far : 17 * z.passes < place
  pub found : ℕ
  pub guard : ℕ
  pub number : ℕ
  pub names : Names (flush ++ guards guard number ∷ misses place found ∷ unguards guard ∷ []) v w
  pub unplaced : Unplaced v w
  pub own : w.known.own ≡ v.known.own
  pub owned : w.known.owned ≡ v.known.owned

-- The path was taken out of the tree, and a walk word was cleared: the records of the path, and the leaves beside, can't be reached.
pub record TakesPath (z : Sizes) (v w : TreeView) : Type 0 where
  pub flush : List NamedStep
  pub aside : AreAside z flush
  pub place : ℕ
  pub word : ℕ
  pub guard : ℕ
  pub number : ℕ
  pub cleared : ℕ
  pub names : Names (flush ++ guards guard number ∷ detaches place word ∷ clears cleared ∷ []) v w
  pub unplaced : Unplaced v w
  pub same : SameCall v.known.own w.known.own
  pub owned : w.known.owned ≡ v.known.owned
  pub gone : (n : ℕ) → Taken v.known.own.path n
      → Reached 2 z (replayed (opening_words 5 root_head sentinel_field z) (entries_of w.order)) n → ⊥

-- each answer of a splice turn
abbrev pub SplicedTo : Sizes → Bool → TreeView → TreeView → Type 0
SplicedTo z false v w = MissesPath z v w
SplicedTo z true v w = TakesPath z v w
