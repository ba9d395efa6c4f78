-- What a call asks of its pass at the edges of a tree, and what it makes of it, by places and links.
use Rattle.std.specs.Prelude.{◌≡◌, ◌≢◌, ℕ, ◌+◌, ◌*◌, ◌%◌, ◌<◌, true, List, [], ◌∷◌, ◌++◌}
use lib.ListN.{get_elem?}
use mathlib.Core.Option.{some}
use Rattle.pp_link.specs.declared.layout.Sizes.{Sizes}
use Rattle.pp_link.specs.Links.{word_of, target, flag_bit, leaf_bit}
use Rattle.pp_model.specs.declared.Call.TheVariants.{Insert}
use Rattle.pp_model.specs.declared.Reply.TheVariants.{Added, Took}
use Rattle.pp_model.specs.Calls.{key_of}
use Rattle.pp_model.specs.History.{Stands}
use Rattle.pp_rule.specs.declared.views.Chain.{Chain}
use Rattle.pp_rule.specs.declared.views.PrivateRecord.{PrivateRecord}
use Rattle.pp_rule.specs.Lists.{IsIn, remove_at}
use Rattle.pp_rule.specs.Orders.{log_of, placed_by, missed_step}
use Rattle.pp_rule.specs.Views.{slot, value_of}
use Rattle.pp_rule.specs.Steps.{MadeStep, MadeQuietStep}
use Rattle.pp_base.specs.declared.source.Place.{Place}
use Rattle.pp_base.specs.declared.source.Place.TheVariants.{Walk}
use Rattle.pp_base.specs.declared.source.Side.{Side}
use Rattle.pp_base.specs.Sources.{side_number}
use Rattle.pp_trees.specs.Trees.{side}
use Rattle.pp_trees.specs.declared.own.Passed.{Passed}
use Rattle.pp_trees.specs.TaggedPaths.{Joined, Taken}
use Rattle.pp_trees.specs.Searches.{TreePass}
use Rattle.pp_trees.specs.Edges.{TreeView, publish_step, flag_step, change_at, placed_at}
use Rattle.pp_trees.specs.Edges.{MayPublish, published_pass, Publishes, MayFlag, flagged_pass, Flags}
use Rattle.pp_edges.specs.declared.edges.Published.{Published}
use Rattle.pp_edges.specs.declared.edges.Published.TheVariants as published
use Rattle.pp_edges.specs.declared.edges.Flagged.{Flagged}
use Rattle.pp_edges.specs.declared.edges.Flagged.TheVariants as flagged

-- the exchange at this place found another word than the one that it expected, and nothing changed
pub record Missed (place first found : ℕ) (before now : TreeView) : Type 0 where
  pub other : found ≢ first
  pub made : MadeQuietStep missed_step place found found before.known before now

-- An insert of a pair may publish the private records with the numbers m, the leaf, and c, the internal record, at this place.
pub record MayPublishAt (z : Sizes) (q : TreePass) (m c place first : ℕ) : Type 0 where
  pub key : ℕ
  pub value : ℕ
  pub may : MayPublish z q place key value first
  pub leaf_is : may.d_leaf.number ≡ m
  pub inner_is : may.d_inner.number ≡ c

-- The records with the numbers m and c that the pass owns: m stands at the index i, and c at the index j of the others.
pub record OwnsBoth (q : TreePass) (m c i j : ℕ) : Type 0 where
  pub leaf : PrivateRecord
  pub leaf_at : get_elem? q.owned i ≡ some leaf
  pub leaf_is : leaf.number ≡ m
  pub inner : PrivateRecord
  pub inner_at : get_elem? (remove_at i q.owned) j ≡ some inner
  pub inner_is : inner.number ≡ c

-- what the exchange of an insert tells
pub record PublishesAt (m c place first found : ℕ) (before now : TreeView) : Type 0 where
  pub key : ℕ
  pub value : ℕ
  pub call_is : before.known.own.call ≡ Insert key value
  pub i : ℕ
  pub j : ℕ
  pub owns : OwnsBoth before.known m c i j
  pub made : Publishes i j m c place key value first found before now

-- The pair of the insert was added: the edge at this place leads to the internal record c, over the leaf m and the old one.
pub record Adds (m c place first : ℕ) (before now : TreeView) : Type 0 where
  pub key : ℕ
  pub value : ℕ
  pub call_is : before.known.own.call ≡ Insert key value
  pub i : ℕ
  pub j : ℕ
  pub owns : OwnsBoth before.known m c i j
  pub made : MadeStep publish_step place first (16 * c) (change_at (Insert key value) now ∷ []) (placed_at
      (Insert key value) Added now ∷ [])
      (published_pass i j m c before.known) before now
  pub stands : Stands (log_of now.order) now.known.number (placed_by now.known.number now.order)

-- each answer of `publish`
abbrev pub PublishedBy : ℕ → ℕ → ℕ → ℕ → TreeView → TreeView → Published → Type 0
PublishedBy m c place first before now published.Done = Adds m c place first before now
PublishedBy m c place first before now (published.Changed leaf inner found) = (leaf.number ≡ m) × (inner.number ≡ c)
    × Missed place first (word_of found) before now

-- The call may put FLAG on the edge at this place, which leads to the leaf of its key, held in some walk word.
pub record MayFlagAt (z : Sizes) (q : TreePass) (place first : ℕ) : Type 0 where
  pub leaf : ℕ
  pub may : MayFlag z q leaf place (key_of q.own.call) first

-- the leaf to which the word leads is held in the walk word j
pub record HoldsLeaf (q : TreePass) (j first : ℕ) : Type 0 where
  pub low : j < 5
  pub held : (slot q j).held ≡ true
  pub leads : target first ≡ (slot q j).named

-- what the exchange of a remove or of a cut tells
pub record FlagsAt (place first found : ℕ) (before now : TreeView) : Type 0 where
  pub leaf : ℕ
  pub holds : HoldsLeaf before.known leaf first
  pub made : Flags leaf place (key_of before.known.own.call) first found before now

-- The pair of the held leaf was removed by the call: the edge at this place has FLAG, and all else as it was.
pub record Removes (place first : ℕ) (before now : TreeView) : Type 0 where
  pub leaf : ℕ
  pub holds : HoldsLeaf before.known leaf first
  pub made : MadeStep flag_step place first (first + 1) (change_at before.known.own.call now ∷ [])
      (placed_at before.known.own.call (Took (value_of (slot before.known leaf).value)) now ∷ [])
      (flagged_pass (side (key_of before.known.own.call) (slot before.known before.known.own.at).key)
      (target first) before.known) before now
  -- wherever else the leaf is held, it has the same value
  pub values : (j : ℕ) → HoldsLeaf before.known j first → (slot before.known j).value ≡ (slot before.known leaf).value
  pub stands : Stands (log_of now.order) now.known.number (placed_by now.known.number now.order)

-- each answer of `flag`
abbrev pub FlaggedBy : ℕ → ℕ → TreeView → TreeView → Flagged → Type 0
FlaggedBy place first before now flagged.Done = Removes place first before now
FlaggedBy place first before now (flagged.Changed found) = Missed place first (word_of found) before now

-- the word without TAG and INVALID
abbrev pub plain_word : ℕ → ℕ
plain_word w = 16 * target w + 8 * leaf_bit w + flag_bit w

-- The ancestor is held in this walk word, and its edge at this side was read as the word `first`, without a bit, which leads to
-- the
-- successor. The walk went on from there over edges that it read with TAG, or set it in, up to the edge of the parent at this
-- side,
-- the last one. The sibling's link has the target, LEAF and FLAG of that edge.
pub record MaySpliceAt (z : Sizes) (q : TreePass) (ancestor : ℕ) (first : ℕ) (parent : Place) (sibling_side : Side)
    (sibling : ℕ) : Type 0 where
  pub word_low : ancestor < 5
  pub held : (slot q ancestor).held ≡ true
  pub plain : first % 16 ≡ 0
  pub some : target first ≢ 0
  -- the successor is held
  pub top : q.own.top < 5
  pub leads : (slot q q.own.top).named ≡ target first
  -- the tagged path
  pub before : List Passed
  pub last : Passed
  pub path_is : q.own.path ≡ before ++ last ∷ []
  pub joined : Joined first q.own.path last.word
  -- its last edge is the parent's
  pub word : ℕ
  pub parent_is : parent ≡ Walk word
  pub parent_held : (word < 5) × ((slot q word).held ≡ true)
  pub parent_named : last.number ≡ (slot q word).named
  pub side_is : last.side ≡ side_number sibling_side
  pub sibling_is : (target sibling ≡ target last.word) × (leaf_bit sibling ≡ leaf_bit last.word)
      × (flag_bit sibling ≡ flag_bit last.word)

-- The newest chain in hand has the internal records of the path and the leaves beside them, and nothing else.
pub record HasPathInHand (path : List Passed) (now : TreeView) : Type 0 where
  pub others : List Chain
  pub chain : Chain
  pub newest : now.known.chains ≡ others ++ chain ∷ []
  pub all : (n : ℕ) → Taken path n → IsIn n chain.records
  pub no_more : (n : ℕ) → IsIn n chain.records → Taken path n
