-- What the exchanges and the or-step at a tree's edges owe, and what they tell.
use Rattle.std.specs.Prelude.{◌≡◌, ◌≢◌, ◌⊎◌, ℕ, ◌+◌, ◌*◌, ◌%◌, ◌<◌, true, false, [], ◌∷◌, ◌++◌, length, bit_or}
use lib.ListN.{get_elem?}
use mathlib.Core.Option.{some}
use Rattle.pp_link.specs.declared.layout.Sizes.{Sizes}
use Rattle.pp_link.specs.Links.{target, tag_bit}
use Rattle.pp_link.specs.Places.{cell_place}
use Rattle.pp_model.specs.declared.Call.{Call}
use Rattle.pp_model.specs.declared.Call.TheVariants.{Insert}
use Rattle.pp_model.specs.declared.Reply.{Reply}
use Rattle.pp_model.specs.declared.Reply.TheVariants.{Added, Took}
use Rattle.pp_model.specs.declared.Change.{Change}
use Rattle.pp_model.specs.declared.Placed.{Placed}
use Rattle.pp_model.specs.Calls.{Takes}
use Rattle.pp_model.specs.History.{change_of, Stands}
use Rattle.pp_model.specs.MapCalls.{placed}
use Rattle.pp_rule.specs.declared.views.PrivateRecord.{PrivateRecord}
use Rattle.pp_rule.specs.declared.views.SeatView.{SeatView}
use Rattle.pp_rule.specs.Lists.{IsIn, remove_at, without}
use Rattle.pp_rule.specs.Orders.{log_of, placed_by, missed_step}
use Rattle.pp_rule.specs.Views.{slot, halves, value_of}
use Rattle.pp_rule.specs.States.{IsSmall}
use Rattle.pp_rule.specs.Steps.{MadeStep, MadeQuietStep}
use Rattle.pp_trees.specs.declared.own.TreeOwn.{TreeOwn}
use Rattle.pp_trees.specs.Trees.{side, across}
use Rattle.pp_trees.specs.TaggedPaths.{Passed, Joined}
use Rattle.pp_trees.specs.Searches.{TreePass}

-- The kinds of step that a tree has beside those of every pool.
-- an exchange that publishes an internal record with a leaf
abbrev pub publish_step : ℕ
publish_step = 20

-- an exchange that puts FLAG on an edge to a leaf
abbrev pub flag_step : ℕ
flag_step = 21

-- an or-step that sets TAG in an edge
abbrev pub tag_step : ℕ
tag_step = 22

-- a confirming load of an edge to a leaf, where a seek ends
abbrev pub end_step : ℕ
end_step = 24

abbrev pub TreeView : Type 0
TreeView = SeatView Change Placed TreeOwn

-- the change by which a call took effect at the last step of this view
abbrev pub change_at : Call → TreeView → Change
change_at call v = change_of v.known.number (length (placed_by v.known.number v.order)) call

-- the call with its reply, as the change that took effect there
abbrev pub placed_at : Call → Reply → TreeView → Placed
placed_at call r v = placed call r (length (log_of v.order))

-- The call is an insert of this pair that hasn't taken effect. The edge of the record where it stands, at the side of its key,
-- was
-- found with LEAF alone, and leads to a held leaf with another key. Two private records are written: the leaf for the pair, and
-- the
-- internal record with the greater key above both leaves.
pub record MayPublish (z : Sizes) (q : TreePass) (place k v first : ℕ) : Type 0 where
  pub at : q.own.at < 5
  pub call : q.own.call ≡ Insert k v
  pub going : q.own.going ≡ true
  pub side_is : ℕ
  pub side_of : side_is ≡ side k (slot q q.own.at).key
  pub place_is : place ≡ cell_place z (slot q q.own.at).named (2 + side_is)
  pub plain : first % 16 ≡ 8
  pub leaf : ℕ
  pub leaf_low : leaf < 5
  pub leaf_held : (slot q leaf).held ≡ true
  pub leaf_is : target first ≡ (slot q leaf).named
  pub other : (slot q leaf).key ≢ k
  -- the new leaf
  pub i_leaf : ℕ
  pub d_leaf : PrivateRecord
  pub owned_leaf : get_elem? q.owned i_leaf ≡ some d_leaf
  pub leaf_fields : (d_leaf.key ≡ k) × (value_of (halves d_leaf.value d_leaf.high) ≡ v) × (d_leaf.left ≡ 0) × (d_leaf.right ≡ 0)
  -- the new internal record, among the others that are owned
  pub i_inner : ℕ
  pub d_inner : PrivateRecord
  pub owned_inner : get_elem? (remove_at i_leaf q.owned) i_inner ≡ some d_inner
  pub below : k < (slot q leaf).key → (d_inner.key ≡ (slot q leaf).key) × (d_inner.left ≡ 16 * d_leaf.number + 8)
      × (d_inner.right ≡ first)
  pub above : (slot q leaf).key < k → (d_inner.key ≡ k) × (d_inner.left ≡ first) × (d_inner.right ≡ 16 * d_leaf.number + 8)
  pub small : (16 * d_leaf.number + 8 < 68719476736) × (16 * d_inner.number < 68719476736)

-- The pass after it: the leaf m at the index i isn't its own any more, nor is the internal record c at the index j of the
-- others. The
-- reply is settled, and the two numbers are those of other records than what the pass removed before.
abbrev pub published_pass : ℕ → ℕ → ℕ → ℕ → TreePass → TreePass
published_pass i j m c q = record q {
  owned = remove_at j (remove_at i q.owned);
  own = record q.own { going = false; left = without c (without m q.own.left) };
}

-- The exchange of an insert, of the leaf m and the internal record c. Where the edge was as it was expected, the pair is added.
pub record Publishes (i j m c place k v first found : ℕ) (before now : TreeView) : Type 0 where
  pub small : IsSmall found
  pub same : found ≡ first → MadeStep publish_step place found (16 * c) (change_at (Insert k v) now ∷ [])
      (placed_at (Insert k v) Added now ∷ []) (published_pass i j m c before.known) before now
  pub other : found ≢ first → MadeQuietStep missed_step place found found before.known before now
  pub stands : found ≡ first → Stands (log_of now.order) now.known.number (placed_by now.known.number now.order)

-- The call hasn't taken effect, and takes the pair of this key with the leaf's value: it is a remove, or a cut of that value.
-- The edge
-- of the record where it stands, at the side of its key, was found with LEAF alone, and leads to the leaf that is held in this
-- walk
-- word, with this key.
pub record MayFlag (z : Sizes) (q : TreePass) (leaf place k first : ℕ) : Type 0 where
  pub at : q.own.at < 5
  pub going : q.own.going ≡ true
  pub side_is : ℕ
  pub side_of : side_is ≡ side k (slot q q.own.at).key
  pub place_is : place ≡ cell_place z (slot q q.own.at).named (2 + side_is)
  pub plain : first % 16 ≡ 8
  pub small : first < 68719476736
  pub leaf_low : leaf < 5
  pub leaf_held : (slot q leaf).held ≡ true
  pub leaf_is : target first ≡ (slot q leaf).named
  pub key : (slot q leaf).key ≡ k
  pub takes : Takes q.own.call k (value_of (slot q leaf).value)

-- The pass after it: the reply is settled, and the call may seek again. The edge at the side s has FLAG, and its leaf l is
-- removed.
abbrev pub flagged_pass : ℕ → ℕ → TreePass → TreePass
flagged_pass s l q = record q { own = record q.own { going = false; flag = s; beside = l; left = l ∷ without l q.own.left } }

-- The exchange of a remove or of a cut. Where the edge was as it was expected, the pair is removed.
pub record Flags (leaf place k first found : ℕ) (before now : TreeView) : Type 0 where
  pub small : IsSmall found
  pub same : found ≡ first → MadeStep flag_step place found (first + 1) (change_at before.known.own.call now ∷ [])
      (placed_at before.known.own.call (Took (value_of (slot before.known leaf).value)) now ∷ [])
      (flagged_pass (side k (slot before.known before.known.own.at).key) (target first) before.known) before now
  -- wherever else the leaf is held, it has the same value
  pub values : found ≡ first → (j : ℕ) → j < 5 → (slot before.known j).held ≡ true → target first ≡ (slot before.known j).named
      → (slot before.known j).value ≡ (slot before.known leaf).value
  pub other : found ≢ first → MadeQuietStep missed_step place found found before.known before now
  pub stands : found ≡ first → Stands (log_of now.order) now.known.number (placed_by now.known.number now.order)

-- The call stands at a record, and read FLAG at its other side or set it there, or read TAG at this one.
pub record MayTag (z : Sizes) (q : TreePass) (place sd : ℕ) : Type 0 where
  pub at : q.own.at < 5
  pub low : sd < 2
  pub place_is : place ≡ cell_place z (slot q q.own.at).named (2 + sd)
  pub read : (q.own.flag ≡ across sd) ⊎ ((w : ℕ) × ((tag_bit w ≡ 1) × IsIn {A = ℕ × ℕ} (sd, w) (slot q q.own.at).learnt))
  -- where the path that it walked ends there, the edge is the next of it
  pub first : ℕ
  pub last : ℕ
  pub begins : q.own.top < 5 → target first ≡ (slot q q.own.top).named
  pub joined : q.own.top < 5 → Joined first q.own.path last
  pub ends : (slot q q.own.at).named ≡ target last

abbrev pub tagged_pass : Passed → TreePass → TreePass
tagged_pass c q = record q { own = record q.own { path = q.own.path ++ c ∷ [] } }

-- The or-step that sets TAG: the path has one more edge, with the word that is left, and the leaf beside it.
pub record Tags (place sd found : ℕ) (before now : TreeView) : Type 0 where
  pub small : IsSmall found
  pub leaf : ℕ
  -- where FLAG is known of the other edge, it is the leaf to which that leads
  pub beside : before.known.own.flag ≡ across sd → leaf ≡ before.known.own.beside
  pub made : MadeQuietStep tag_step place found (bit_or found 2)
      (tagged_pass (record {
        number = (slot before.known before.known.own.at).named;
        side = sd;
        word = bit_or found 2;
        leaf =
            leaf;
      }) before.known) before now
