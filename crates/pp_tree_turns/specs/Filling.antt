-- The two records of an insert, written and published.
use Rattle.std.specs.Prelude.{◌≡◌, ◌≢◌, ◌⊎◌, ℕ, ◌+◌, ◌*◌, ◌<◌, true, List, [], ◌∷◌, ◌++◌}
use lib.ListN.{get_elem?}
use mathlib.Core.Option.{some}
use Rattle.pp_link.specs.declared.layout.Sizes.{Sizes}
use Rattle.pp_link.specs.Links.{word_of, flag_bit, tag_bit}
use Rattle.pp_model.specs.declared.Call.TheVariants.{Insert}
use Rattle.pp_model.specs.declared.Reply.TheVariants.{Added}
use Rattle.pp_rule.specs.declared.views.PrivateRecord.{PrivateRecord}
use Rattle.pp_rule.specs.Lists.{IsIn}
use Rattle.pp_rule.specs.Orders.{write_step, read_step}
use Rattle.pp_rule.specs.Views.{slot, halves, value_of}
use Rattle.pp_base.specs.Named.{NamedStep, misses}
use Rattle.pp_base.specs.Passes.{owned_numbers}
use Rattle.pp_edges.specs.declared.edges.Published.{Published}
use Rattle.pp_edges.specs.declared.edges.Published.TheVariants as published
use Rattle.pp_seek.specs.declared.seek.Sought.{Sought}
use Rattle.pp_seek.specs.Seeking.{IsSought}
use Rattle.pp_trees.specs.Searches.{TreePass}
use Rattle.pp_trees.specs.Edges.{TreeView, publish_step}
use Rattle.pp_turns.specs.Turns.{Unplaced, Struck}
use Rattle.pp_tree_turns.specs.Turning.{Names}

-- the pass owns this record, with this number
pub record Has (q : TreePass) (n : ℕ) (d : PrivateRecord) : Type 0 where
  pub index : ℕ
  pub at : get_elem? q.owned index ≡ some d
  pub number_is : d.number ≡ n

-- but for what stands in the records that it owns, the pass is as it was
pub record OwnsAlike (q q' : TreePass) : Type 0 where
  pub is : q' ≡ record q { owned = q'.owned }
  pub numbers : owned_numbers q' ≡ owned_numbers q

-- The pass stored words in private records.
pub record Wrote (v w : TreeView) : Type 0 where
  pub names : List NamedStep
  pub did : Names names v w
  pub unplaced : Unplaced v w
  pub each : (s : NamedStep) → IsIn s names → s.kind ≡ write_step
  pub same : OwnsAlike v.known w.known

-- The record with the number n has these fields.
pub record Filled (n key value left right : ℕ) (v w : TreeView) : Type 0 where
  pub wrote : Wrote v w
  pub is : PrivateRecord
  pub has : Has w.known n is
  pub key_is : is.key ≡ key
  pub value_is : value_of (halves is.value is.high) ≡ value
  pub left_is : is.left ≡ left
  pub right_is : is.right ≡ right
  pub others : (m : ℕ) (d : PrivateRecord) → m ≢ n → Has v.known m d → Has w.known m d

-- The record c is filled as the internal record over the leaf m, which has the key k, and the leaf of the word `first`, whose key
-- is `here`: it has the greater of the two keys, and the leaf with the smaller one on its left.
pub record FilledOver (c m k here first : ℕ) (v w : TreeView) : Type 0 where
  pub wrote : Wrote v w
  pub is : PrivateRecord
  pub has : Has w.known c is
  pub below : k < here → (is.key ≡ here) × (is.left ≡ 16 * m + 8) × (is.right ≡ first)
  pub above : here < k → (is.key ≡ k) × (is.left ≡ first) × (is.right ≡ 16 * m + 8)
  pub others : (n : ℕ) (d : PrivateRecord) → n ≢ c → Has v.known n d → Has w.known n d

-- The seek of an insert that hasn't taken effect ended at a leaf with another key, over an edge with LEAF alone.
pub record PublishesNext (q : TreePass) (s : Sought) (k v : ℕ) : Type 0 where
  pub call : q.own.call ≡ Insert k v
  pub sought : IsSought q k s
  pub going : q.own.going ≡ true
  pub plain : (flag_bit (word_of s.edge) ≡ 0) × (tag_bit (word_of s.edge) ≡ 0)
  pub other : (slot q s.word).key ≢ k

-- stores in private records, and a load of a key
abbrev pub AreBefore : List NamedStep → Type 0
AreBefore names = (s : NamedStep) → IsIn s names → (s.kind ≡ write_step) ⊎ (s.kind ≡ read_step)

-- The pair was added by the last of these steps.
pub record Publishes (k value : ℕ) (v w : TreeView) : Type 0 where
  pub before : List NamedStep
  pub aside : AreBefore before
  pub place : ℕ
  pub word : ℕ
  pub names : Names (before ++ record { kind = publish_step; place = place; word = word } ∷ []) v w
  pub struck : Struck (Insert k value) Added v w

-- The edge had become another one, and the pair was not added.
pub record NotPublished (z : Sizes) (v w : TreeView) : Type 0 where
  pub before : List NamedStep
  pub aside : AreBefore before
  pub place : ℕ
  pub far : 17 * z.passes < place
  pub found : ℕ
  pub names : Names (before ++ misses place found ∷ []) v w
  pub unplaced : Unplaced v w
  pub same : OwnsAlike v.known w.known

-- each answer of a publish turn
abbrev pub PublishedTo : Sizes → ℕ → ℕ → ℕ → ℕ → Published → TreeView → TreeView → Type 0
PublishedTo z m c k value published.Done v w = Publishes k value v w
PublishedTo z m c k value (published.Changed leaf inner found) v w = NotPublished z v w × (leaf.number ≡ m) × (inner.number ≡ c)
