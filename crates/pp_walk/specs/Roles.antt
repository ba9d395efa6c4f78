-- The roles of a walk's words: where the call stands, its anchor, and the first record of what it gathered.
use Rattle.std.specs.Prelude.{◌≡◌, ◌≢◌, ℕ, ◌+◌, ◌%◌, ◌<◌, ◌≤◌, Bool, true, false, cond, nat_eq, min, [], length}
use Rattle.std.specs.Prelude.{Option, Some, None}
use Rattle.pp_link.specs.declared.layout.Sizes.{Sizes}
use Rattle.pp_link.specs.declared.link.Link.{Link}
use Rattle.pp_link.specs.Links.{target, flag_bit, word_of}
use Rattle.pp_model.specs.declared.Call.{Call}
use Rattle.pp_model.specs.declared.Call.TheVariants.{Get, Insert, Remove, Cut}
use Rattle.pp_model.specs.Calls.{key_of}
use Rattle.pp_rule.specs.Lists.{IsIn}
use Rattle.pp_rule.specs.States.{IsSmall}
use Rattle.pp_rule.specs.Views.{slot, value_of}
use Rattle.pp_base.specs.declared.source.Place.{Place}
use Rattle.pp_base.specs.declared.source.Place.TheVariants.{Head, Walk as Word}
use Rattle.pp_lists.specs.Walks.{bucket, Joined}
use Rattle.pp_lists.specs.Lists.{ListPass}
use Rattle.pp_walk.specs.declared.walk.Walk.{Walk}
use Rattle.pp_walk.specs.declared.walk.Found.{Found}
use Rattle.pp_walk.specs.Words.{IsEmpty, AllEmpty}

-- the call only looks: its walk gathers nothing
abbrev pub is_look : Call → Bool
is_look (Get k) = true
is_look (Insert k v) = false
is_look (Remove k) = false
is_look (Cut k v) = false

-- the greatest number of a count
abbrev pub most : ℕ
most = 4294967295

-- The anchor is the head of the list to which the key belongs, or a record that the pass holds, whose key is below.
abbrev pub IsAnchor : Sizes → ListPass → ℕ → Place → Type 0
IsAnchor z q k (Head h) = (h < z.heads) × (h ≡ bucket z.heads k)
IsAnchor z q k (Word a) = (a < 5) × ((slot q a).held ≡ true) × ((slot q a).key < k) × (bucket z.heads (slot q a).key ≡ bucket z.heads k)

-- Nothing is gathered and the call stands at its anchor, or it stands at the last record of what was gathered, whose frozen link
-- was learnt.
pub data HasGathered (q : ListPass) (at anchor : Place) : Type 0 where
  nothing : q.own.first ≡ 5 → q.own.chain ≡ [] → anchor ≡ at → HasGathered q at anchor
  chained : (i link : ℕ) → at ≡ Word i → q.own.first < 5 → (slot q q.own.first).held ≡ true → anchor ≢ at
      → anchor ≢ Word q.own.first → q.own.chain ≢ [] → IsIn (0, link) (slot q i).learnt → flag_bit link ≡ 1
      → Joined (slot q q.own.first).named q.own.chain (target link) → HasGathered q at anchor

-- the call stands at its head, or at a record of its list that the pass holds
abbrev pub StandsOn : Sizes → ListPass → ℕ → Place → Type 0
StandsOn z q k (Head h) = Unit {0}
StandsOn z q k (Word i) = (i < 5) × ((slot q i).held ≡ true) × (q.own.at ≡ i) × (bucket z.heads (slot q i).key ≡ bucket z.heads k)

-- A call walks along its list. At most three walk words are in use: where it stands, the anchor's, and that of the first record of
-- what it gathered.
pub record Walking (z : Sizes) (q : ListPass) (call : Call) (at anchor : Place) : Type 0 where
  pub going : q.own.going ≡ true
  pub call_is : q.own.call ≡ call
  pub anchored : IsAnchor z q (key_of call) anchor
  pub gathered : HasGathered q at anchor
  pub stands : StandsOn z q (key_of call) at
  -- a call that only looks gathers nothing
  pub looks : is_look call ≡ true → q.own.first ≡ 5
  pub empty : (j : ℕ) → j < 5 → Word j ≢ at → Word j ≢ anchor → j ≢ q.own.first → IsEmpty (slot q j)

-- so many records were gathered, as far as they are counted
abbrev pub Counts : ListPass → ℕ → Type 0
Counts q n = n ≡ min (length q.own.chain) most

-- A walk that made no step stands at its head, and all walk words are empty. Another one is on its way.
abbrev pub IsUnder : Bool → Sizes → ListPass → Walk → Type 0
IsUnder true z q w = AllEmpty q × (w.at ≡ Head w.head) × (w.anchor ≡ Head w.head) × (w.first ≡ 5) × (w.chain ≡ 0)
IsUnder false z q w = Walking z q w.call w.at w.anchor × (w.first ≡ q.own.first) × Counts q w.chain

-- a walk on this pass, of a call on this list
pub record IsWalk (z : Sizes) (q : ListPass) (w : Walk) : Type 0 where
  pub low : w.head < z.heads
  pub home : w.head ≡ bucket z.heads (key_of w.call)
  pub under : IsUnder w.fresh z q w

-- the least key that the walk has left
abbrev pub lower_of : ListPass → Place → ℕ
lower_of q (Head h) = 0
lower_of q (Word w) = (slot q w).key + 1

-- a link without bits
abbrev pub IsPlain : Link → Type 0
IsPlain l = word_of l % 16 ≡ 0

-- The walk ended at nil, or at a record that the pass holds, whose key isn't below the call's.
pub data IsEnd (z : Sizes) (q : ListPass) (k : ℕ) (f : Found) : Type 0 where
  at_nil : target (word_of f.end) ≡ 0 → f.word ≡ 0 → f.equal ≡ false → f.marked ≡ false → IsEnd z q k f
  at_record : target (word_of f.end) ≢ 0 → f.word < 5 → (slot q f.word).held ≡ true → (slot q f.word).named ≡ target (word_of f.end)
      → k ≤ (slot q f.word).key → f.equal ≡ nat_eq (slot q f.word).key k → f.anchor ≢ Word f.word → f.word ≢ q.own.first
      → q.own.at ≡ f.word → IsEnd z q k f

-- Nothing is gathered and the anchor leads to the end, or what was gathered leads there from its first record.
pub data HasChain (q : ListPass) (f : Found) : Type 0 where
  no_chain : q.own.first ≡ 5 → q.own.chain ≡ [] → f.chain ≡ 0 → f.first ≡ f.end → HasChain q f
  a_chain : q.own.first < 5 → (slot q q.own.first).held ≡ true → f.anchor ≢ Word q.own.first → q.own.chain ≢ []
      → target (word_of f.first) ≡ (slot q q.own.first).named → Joined (slot q q.own.first).named q.own.chain (target (word_of f.end))
      → f.chain ≢ 0 → HasChain q f

-- What a walk found for this call: its anchor, what was gathered behind it, and the end. At most three walk words are in use.
pub record IsFound (z : Sizes) (q : ListPass) (call : Call) (f : Found) : Type 0 where
  pub call_is : q.own.call ≡ call
  pub anchored : IsAnchor z q (key_of call) f.anchor
  pub plain_first : IsPlain f.first
  pub plain_end : IsPlain f.end
  pub small_end : IsSmall (word_of f.end)
  pub end : IsEnd z q (key_of call) f
  pub chain : HasChain q f
  pub count : Counts q f.chain
  pub looks : is_look call ≡ true → q.own.first ≡ 5
  -- a call that changes the list ends at no removed record
  pub unmarked : is_look call ≡ false → f.marked ≡ false
  -- where it ended at nil, the word in which the call stands may be in use
  pub empty : (j : ℕ) → j < 5 → Word j ≢ f.anchor → j ≢ q.own.first → j ≢ q.own.at → IsEmpty (slot q j)

-- what it found: the value of a record with the call's key that isn't removed, or nothing
abbrev pub found_in : ListPass → Found → Option ℕ
found_in q f = cond f.equal (cond f.marked None (Some (value_of (slot q f.word).value))) None
