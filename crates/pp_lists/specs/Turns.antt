-- What the steps of a list's own kinds owe and tell.
use Rattle.std.specs.Prelude.{◌≡◌, ◌≢◌, ◌⊎◌, ℕ, ◌%◌, ◌<◌, ◌≤◌, true, false, cond, nat_eq, nat_lt, List, [], ◌∷◌, ◌++◌, length}
use Rattle.std.specs.Prelude.{Option, Some, None, slice_set, bit_or}
use lib.ListN.{get_elem?}
use mathlib.Core.Option.{some}
use Rattle.pp_link.specs.declared.layout.Sizes.{Sizes}
use Rattle.pp_link.specs.Links.{target, invalid_bit, flag_bit}
use Rattle.pp_link.specs.Places.{IsNumber, head_place, cell_place}
use Rattle.pp_model.specs.declared.Call.{Call}
use Rattle.pp_model.specs.declared.Call.TheVariants.{Insert}
use Rattle.pp_model.specs.declared.Reply.{Reply}
use Rattle.pp_model.specs.declared.Reply.TheVariants.{Added, Took}
use Rattle.pp_model.specs.declared.Change.{Change}
use Rattle.pp_model.specs.declared.Placed.{Placed}
use Rattle.pp_model.specs.Calls.{key_of, reply_at, reply, changes, Takes}
use Rattle.pp_model.specs.History.{after, change_of, Stands}
use Rattle.pp_model.specs.MapCalls.{placed}
use Rattle.pp_rule.specs.declared.views.PrivateRecord.{PrivateRecord}
use Rattle.pp_rule.specs.declared.views.SeatView.{SeatView}
use Rattle.pp_rule.specs.Lists.{IsIn, remove_at}
use Rattle.pp_rule.specs.Orders.{log_of, placed_by, load_step, confirm_step, missed_step}
use Rattle.pp_rule.specs.declared.views.Halves.{Halves}
use Rattle.pp_rule.specs.Views.{slot, halves, value_of}
use Rattle.pp_rule.specs.States.{IsSmall}
use Rattle.pp_rule.specs.Steps.{MadeStep, MadeQuietStep, holding}
use Rattle.pp_lists.specs.declared.own.Gathered.{Gathered}
use Rattle.pp_lists.specs.declared.own.ListOwn.{ListOwn}
use Rattle.pp_lists.specs.Walks.{Source, at_head, at_record, source_place, bucket, Joined, IsRight}
use Rattle.pp_lists.specs.Lists.{ListPass}

-- The kinds of step that a list has beside those of every pool.
-- an exchange that publishes a record
abbrev pub publish_step : ℕ
publish_step = 17

-- an or-step that marks a record as removed
abbrev pub mark_step : ℕ
mark_step = 18

-- a load of the left link of the record where a walk ends
abbrev pub end_step : ℕ
end_step = 19

abbrev pub ListView : Type 0
ListView = SeatView Change Placed ListOwn

-- the pass with this part of the list's
abbrev pub with_own : ListOwn → ListPass → ListPass
with_own own q = record q { own = own }

-- the change by which a call took effect at the last step of this view
abbrev pub change_at : Call → ListView → Change
change_at call v = change_of v.known.number (length (placed_by v.known.number v.order)) call

-- the call with its reply, as the change that took effect there
abbrev pub placed_at : Call → Reply → ListView → Placed
placed_at call r v = placed call r (length (log_of v.order))

-- The pass holds the record in the word j, and what it gathered leads there. The call takes the pair of its key and its value: it
-- is
-- a remove, or a cut of that value.
pub record MayMark (z : Sizes) (q : ListPass) (j place : ℕ) (call : Call) : Type 0 where
  pub word : j < 5
  pub held : (slot q j).held ≡ true
  pub takes : Takes call (slot q j).key (value_of (slot q j).value)
  pub at : place ≡ cell_place z (slot q j).named 2
  pub leads : q.own.first < 5 → Joined (slot q q.own.first).named q.own.chain (slot q j).named

-- the record in the word j is the last of what was gathered
abbrev pub and_gathered : ℕ → Gathered → ListOwn → ListOwn
and_gathered j c own = record own {
  first = cond (nat_lt own.first 5) own.first j;
  chain = cond (nat_lt own.first 5) (own.chain ++ c ∷ []) (c ∷ []);
}

-- the call walks no more
abbrev pub resting : ListOwn → ListOwn
resting own = record own { going = false }

-- the pass marked this record
abbrev pub and_left : ℕ → ListOwn → ListOwn
and_left n own = record own { left = own.left ++ n ∷ [] }

-- the pass after its remove or cut took effect at the record in the word j, whose link is this one now
abbrev pub marked : ℕ → ℕ → ListPass → ListPass
marked j link q = with_own (and_left (slot q j).named (and_gathered j (record { number = (slot q j).named; link = link })
    (resting q.own))) q

-- The or-step of a remove or of a cut. An old word without FLAG is the removal.
pub record Marks (j place : ℕ) (call : Call) (found : ℕ) (before now : ListView) : Type 0 where
  pub small : IsSmall found
  pub lost : flag_bit found ≡ 1 → MadeQuietStep mark_step place found (bit_or found 1) before.known before now
  pub done : flag_bit found ≡ 0 → (invalid_bit found ≡ 0)
      × MadeStep mark_step place found (bit_or found 1) (change_at call now ∷ [])
      (placed_at call (Took (value_of (slot before.known j).value)) now ∷ []) (marked j (bit_or found 1) before.known) before now
  pub stands : flag_bit found ≡ 0 → Stands (log_of now.order) now.known.number (placed_by now.known.number now.order)

-- the source stands before the key k, in its list
abbrev pub IsBefore : Sizes → ListPass → ℕ → Source → Type 0
IsBefore z q k (at_head h) = (h < z.heads) × (h ≡ bucket z.heads k)
IsBefore z q k (at_record n) = (j : ℕ) × (j < 5) × ((slot q j).held ≡ true) × ((slot q j).named ≡ n) × ((slot q j).key < k)
    × (bucket z.heads (slot q j).key ≡ bucket z.heads k)

-- this word without bits leads to nil, or to a greater key that the pass holds
abbrev pub EndsPast : ListPass → ℕ → ℕ → Type 0
EndsPast q k first = (target first ≡ 0)
    ⊎ ((j : ℕ) × (j < 5) × ((slot q j).held ≡ true) × ((slot q j).named ≡ target first) × (k < (slot q j).key))

-- What an insert has to know before it publishes its record d, the one at the index i of those that it owns.
pub record MayPublish (z : Sizes) (q : ListPass) (i : ℕ) (d : PrivateRecord) (place k v first new : ℕ) : Type 0 where
  pub source : Source
  pub before : IsBefore z q k source
  pub at : place ≡ source_place z source
  pub plain : first % 16 ≡ 0
  pub new_plain : new % 16 ≡ 0
  pub new_to : target new ≡ d.number
  pub new_small : IsSmall new
  pub owned_at : get_elem? q.owned i ≡ some d
  pub key : d.key ≡ k
  pub value : value_of (halves d.value d.high) ≡ v
  pub left : d.left ≡ first
  pub end : EndsPast q k first

-- the numbers but for n
unfoldable pub without : ℕ → List ℕ → List ℕ
without n [] = []
without n (m ∷ ms) = cond (nat_eq m n) (without n ms) (m ∷ without n ms)

-- The pass after its insert took effect, which published the record n, the one at the index i of those that it owned. It isn't
-- removed any more.
abbrev pub published : ℕ → ℕ → ListPass → ListPass
published i n q = with_own (record q.own { going = false; left = without n q.own.left })
    (record q { owned = remove_at i q.owned })

-- The exchange of an insert. Where the word was the expected one, the record is published.
pub record Published (i n place k v first new found : ℕ) (before now : ListView) : Type 0 where
  pub same : found ≡ first → MadeStep publish_step place found new (change_at (Insert k v) now ∷ [])
      (placed_at (Insert k v) Added now ∷ []) (published i n before.known) before now
  pub other : found ≢ first → MadeQuietStep missed_step place found found before.known before now
  pub stands : found ≡ first → Stands (log_of now.order) now.known.number (placed_by now.known.number now.order)

-- The word at this place is the link where a call stands that looks for k. A record where it stands has a smaller key, or a link
-- that the pass knows to have FLAG.
pub data StandsAt (z : Sizes) (q : ListPass) (k place : ℕ) : Type 0 where
  on_head : (h : ℕ) → h < z.heads → h ≡ bucket z.heads k → place ≡ head_place z h → StandsAt z q k place
  on_record : q.own.at < 5 → place ≡ cell_place z (slot q q.own.at).named 2
      → bucket z.heads (slot q q.own.at).key ≡ bucket z.heads k
      → ((slot q q.own.at).key < k) ⊎ ((w : ℕ) × (IsIn (0, w) (slot q q.own.at).learnt × (flag_bit w ≡ 1))) → StandsAt z q k place

-- The step settled the reply to a find of a, which changes nothing. Its place is the least one since the call's start at which it
-- is right. Before it the list's part of the pass was this one.
pub record Settled (own : ListOwn) (kind place found : ℕ) (a : Option ℕ) (before now : ListView) : Type 0 where
  pub at : ℕ
  pub since : own.start ≤ at
  pub within : at ≤ length (log_of now.order)
  pub right : reply (after (log_of now.order) at) own.call ≡ reply_at own.call a
  pub least : (p : ℕ) → own.start ≤ p → p < at → reply (after (log_of now.order) p) own.call ≡ reply_at own.call a → ⊥
  pub made : MadeStep kind place found found [] (placed own.call (reply_at own.call a) at ∷ [])
      (with_own (resting own) before.known)
      before now
  -- the pass's placed calls stand in the log
  pub stands : Stands (log_of now.order) now.known.number (placed_by now.known.number now.order)

-- what a walk for k finds that ends at a record with this key, this value and this link
abbrev pub found_at : ℕ → ℕ → Halves → ℕ → Option ℕ
found_at k key value link = cond (nat_eq key k) (cond (nat_eq (flag_bit link) 0) (Some (value_of value)) None) None

abbrev pub found_of : ListPass → ℕ → Option ℕ
found_of q link = found_at (key_of q.own.call) (slot q q.own.at).key (slot q q.own.at).value link

-- a walk of this call ended and found a: a reply that changes nothing is settled, and else it is known that a was right
abbrev pub EndsWith : ListOwn → ℕ → ℕ → ℕ → Option ℕ → ListView → ListView → Type 0
EndsWith own kind place found a before now = (changes (reply_at own.call a) ≡ false → Settled own kind place found a before now)
    × (changes (reply_at own.call a) ≡ true → MadeQuietStep kind place found found (with_own own before.known) before now
    × IsRight (log_of now.order) own.start (key_of own.call) a)

-- what a loaded link is
pub record IsLoaded (z : Sizes) (found : ℕ) : Type 0 where
  pub small : IsSmall found
  -- where it is valid, it leads to nil or to a record of this pool
  pub to : invalid_bit found ≡ 0 → (target found ≡ 0) ⊎ IsNumber z (target found)

-- a link without INVALID that leads to nil
abbrev pub IsNil : ℕ → Type 0
IsNil found = (invalid_bit found ≡ 0) × (target found ≡ 0)

-- the load of the left link of a held record finds where each of its frozen links led that the pass learnt
abbrev pub FindsLearnt : ListPass → ℕ → ℕ → Type 0
FindsLearnt q place found = (j w : ℕ) → j < 5 → (slot q j).held ≡ true → place ≡ cell_place q.sizes (slot q j).named 2
    → IsIn (0, w) (slot q j).learnt → target found ≡ target w

-- The first load of the link where the call stands, whose part of the pass is this one from then on. Nil ends the walk.
pub record Reached (own : ListOwn) (place found : ℕ) (before now : ListView) : Type 0 where
  pub loaded : IsLoaded before.known.sizes found
  pub learnt : FindsLearnt before.known place found
  pub ended : IsNil found → EndsWith own load_step place found None before now
  pub goes_on : (IsNil found → ⊥) → MadeQuietStep load_step place found found (with_own own before.known) before now

-- a call that begins at its head when so many changes have taken effect
abbrev pub beginning : Call → ℕ → List ℕ → ListOwn
beginning call start left = record { going = true; call = call; start = start; at = 5; first = 5; chain = []; left = left }

-- The first load of a call, at its head: it begins.
abbrev pub Begins : ℕ → ℕ → Call → ListView → ListView → Type 0
Begins place found call before now = Reached (beginning call
    (length (log_of now.order)) before.known.own.left) place found before now

-- the call stands at the record that the pass holds from now on in the word i
abbrev pub standing : ℕ → ℕ → ℕ → Halves → ListPass → ListPass
standing i n key value q = record q { walk = slice_set q.walk i (holding n key value); own = record q.own { at = i } }

-- The confirming load of a walk.
pub record Came (i first found place : ℕ) (before now : ListView) : Type 0 where
  pub small : IsSmall found
  pub number : found ≡ first → IsNumber before.known.sizes (target first)
  -- the record is of the call's list
  pub same : found ≡ first → (key : ℕ) × ((value : Halves)
      × (bucket before.known.sizes.heads key ≡ bucket before.known.sizes.heads (key_of before.known.own.call))
      × MadeQuietStep confirm_step place found found (standing i (target first) key value before.known) before now)
  pub other : found ≢ first → MadeQuietStep confirm_step place found found before.known before now
  -- where the call stood at a record, this one has a greater key
  pub rises : found ≡ first → before.known.own.at < 5 → place ≡ cell_place before.known.sizes
      (slot before.known before.known.own.at).named 2
      → (slot before.known before.known.own.at).key < (slot now.known i).key

-- The load of the left link of the record where a get stands, whose key isn't below its own. Without INVALID the walk ends there.
pub record Ended (place found : ℕ) (before now : ListView) : Type 0 where
  pub loaded : IsLoaded before.known.sizes found
  pub invalid : invalid_bit found ≡ 1 → MadeQuietStep load_step place found found before.known before now
  pub ended : invalid_bit found ≡ 0 → EndsWith before.known.own end_step place found (found_of before.known found) before now

-- the removed record that is held in the word j is gathered, with its frozen link
abbrev pub gathering : ℕ → ℕ → ListPass → ListPass
gathering j link q = record q {
  walk = slice_set q.walk j (record (slot q j) { learnt = (0, link) ∷ (slot q j).learnt });
  own = and_gathered j (record { number = (slot q j).named; link = link }) q.own;
}

-- nothing is gathered any more: the record where the call stands is the anchor
abbrev pub anchored : ListOwn → ListOwn
anchored own = record own { first = 5; chain = [] }

-- The load of the left link of the record where a changing call stands, in the word j. A removed record is gathered.
pub record Gathers (j place found : ℕ) (before now : ListView) : Type 0 where
  pub loaded : IsLoaded before.known.sizes found
  pub invalid : invalid_bit found ≡ 1 → MadeQuietStep load_step place found found before.known before now
  pub joins : invalid_bit found ≡ 0 → flag_bit found ≡ 1 → MadeQuietStep load_step place found found
      (gathering j found before.known)
      before now

-- It has a smaller key: where it isn't removed, it is the anchor.
pub record PassesBy (j place found : ℕ) (before now : ListView) : Type 0 where
  pub gathers : Gathers j place found before now
  pub anchors : invalid_bit found ≡ 0 → flag_bit found ≡ 0 → MadeQuietStep load_step place found found
      (with_own (anchored before.known.own) before.known) before now

-- It has no smaller key: where it isn't removed, the walk ends there.
pub record StopsAt (j place found : ℕ) (before now : ListView) : Type 0 where
  pub gathers : Gathers j place found before now
  pub ended : invalid_bit found ≡ 0 → flag_bit found ≡ 0
      → EndsWith before.known.own end_step place found (found_of before.known found) before now
